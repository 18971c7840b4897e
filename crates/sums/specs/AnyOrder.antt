-- Document 02, Paper 9: a sample of a tick or block is the sum of its contributions, in the order of the list. Where they qualify it is their exact sum, and any order of the list gives the same bits. Assumes nothing.
use Rattle.std.specs.Prelude.{Float}
use Rattle.std.proofs.Math.Option.{Option, none, some}
use Rattle.floats.specs.Arithmetic.{◌+ˢ◌}

-- ---- the sample of a block at place k

-- x, and what is contributed to it
abbrev pub plus : (x : Float) → Option Float → Float
plus x none = x
plus x (some y) = x +ˢ y

-- No start and no clock is a NaN: an f64 sum of times that are none, one of them finite, is none, and what compares as ≤ is none. Assumes nothing.
use Rattle.std.specs.Prelude.{Float}
use Rattle.floats.specs.Arithmetic.{whole}

-- the limit of clock and times
abbrev pub billion : Float
billion = whole 1_000_000_000

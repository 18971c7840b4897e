-- What the data of a WAV is: by place, how long, and from the samples channel after channel, as crate render writes them and the plain ledger gives them. Assumes nothing.
use Rattle.std.specs.Prelude.{ℕ, false, pos, Float}
use Rattle.std.specs.Float.{fin}

-- ---- computed: two channels of three places, of which two are heard
abbrev pub small : ℕ → Float
small k = fin false k (pos 0)

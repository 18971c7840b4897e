-- A run as what comes behind a record.
use Rattle.std.specs.Prelude.{ℕ, Bool, List, Float, replicate}
use Rattle.floats.specs.Arithmetic.{zeroᶠ}
use Rattle.record_output.specs.declared.Form.{Form}
use Rattle.player.specs.Records.{Rest, ran}

-- the output of silence that a run's engine is lent first
abbrev pub silence : List Float
silence = replicate 512 zeroᶠ

-- a run as what comes behind a record
abbrev pub again : Form → (pool : List Float) → (tape : List ℕ) → (whole : Bool) → Rest
again form pool tape whole s c samples room = ran form pool tape whole s c room

-- What a record's call on the lent engine leaves to be put.
use Rattle.std.specs.Prelude.{true, cond, ℕ, eqb}
use Rattle.apply.specs.declared.Applied.{Applied}
use Rattle.record_output.specs.declared.Left.{Left}

-- a record without samples, with its refusal or 0
abbrev pub answered_left : (kind refusal : ℕ) → Left
answered_left kind n = record { any = true; kind = kind; refusal = n; channels = 0; each = 0 }

-- a tick or block: where it is not refused, this many channels of this many samples
abbrev pub sound_left : (kind refusal channels each : ℕ) → Left
sound_left kind n c e = cond (eqb n 0) (record { any = true; kind = kind; refusal = 0; channels = c; each = e }) (answered_left kind n)

-- what the call a leaves to be put
abbrev pub left_of : (kind : ℕ) → Applied → Left
left_of kind a = record { any = true; kind = kind; refusal = a.refusal; channels = a.channels; each = a.each }

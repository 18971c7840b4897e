-- Document 01's numbers for the cases of the enums, as they stand on a tape.
use Rattle.std.specs.Prelude.{ℕ, to_bits}
use Rattle.std.specs.Float.{binary32}
use Rattle.event.specs.declared.Fade.{Fade}
use Rattle.event.specs.declared.Fade.TheVariants.{Power, Smooth}
use Rattle.event.specs.declared.ReplayMode.{ReplayMode}
use Rattle.event.specs.declared.ReplayMode.TheVariants.{All, None}
use Rattle.event.specs.declared.Source.{Source}
use Rattle.event.specs.declared.Source.TheVariants.{Held, Ramp, Clip}

-- mode: 0 All, 1 None
abbrev pub mode_number : ReplayMode → ℕ
mode_number All = 0
mode_number None = 1

-- curve: 0 power, 1 smooth
abbrev pub curve_number : Fade → ℕ
curve_number Power = 0
curve_number Smooth = 1

-- source: 0 held, 1 ramp, 2 clip
abbrev pub source_number : Source → ℕ
source_number (Held level) = 0
source_number (Ramp value step) = 1
source_number (Clip offset length) = 2

-- the two 4-byte words: held: level, unused; ramp: value, step; clip: offset, length
abbrev pub first_word : Source → ℕ
first_word (Held level) = to_bits binary32 level
first_word (Ramp value step) = to_bits binary32 value
first_word (Clip offset length) = offset

abbrev pub second_word : Source → ℕ
second_word (Held level) = 0
second_word (Ramp value step) = to_bits binary32 step
second_word (Clip offset length) = length

-- A record's arguments as 120 bytes: "its kind, its call's arguments", one field behind the other. Assumes nothing.
use Rattle.std.specs.Prelude.{ℕ, ◌≡◌, refl, List, [], ◌∷◌, Float}
use Rattle.std.specs.Float.{binary32, binary64}
use Rattle.std.specs.Float.Ieee.{of_bits, to_bits}
use Rattle.tape.specs.Fields.{field}
use Rattle.tape_writer.specs.declared.Arguments.{Arguments}
use Rattle.little_endian.specs.LowBytes.{little_endian}
use Rattle.little_endian.specs.Fields.{Part, word, long, single, double, joined}

unfoldable pub arguments_of : List ℕ → Arguments
arguments_of b = record {
  kind = field b 0 8;
  channels = field b 8 8;
  mode = field b 16 8;
  number = field b 24 8;
  start_time = of_bits binary64 (field b 32 8);
  end_time = of_bits binary64 (field b 40 8);
  fade_in = of_bits binary64 (field b 48 8);
  fade_out = of_bits binary64 (field b 56 8);
  curve = field b 64 8;
  source = field b 72 8;
  value = of_bits binary32 (field b 80 4);
  step = of_bits binary32 (field b 84 4);
  offset = field b 88 4;
  length = field b 92 4;
  gain = of_bits binary32 (field b 96 4);
  size = field b 104 8;
  sample_rate = of_bits binary64 (field b 112 8);
}

unfoldable pub record_parts : Arguments → List Part
record_parts a =
    long a.kind ∷ long a.channels ∷ long a.mode ∷ long a.number
    ∷ double a.start_time ∷ double a.end_time ∷ double a.fade_in ∷ double a.fade_out
    ∷ long a.curve ∷ long a.source
    ∷ single a.value ∷ single a.step ∷ word a.offset ∷ word a.length ∷ single a.gain ∷ word 0
    ∷ long a.size ∷ double a.sample_rate ∷ []

unfoldable pub record_bytes : Arguments → List ℕ
unfolding record_parts joined
record_bytes a = joined (record_parts a)

-- ---- as the code holds them

unfoldable pub record_widths : List ℕ
record_widths = 8 ∷ 8 ∷ 8 ∷ 8 ∷ 8 ∷ 8 ∷ 8 ∷ 8 ∷ 8 ∷ 8 ∷ 4 ∷ 4 ∷ 4 ∷ 4 ∷ 4 ∷ 4 ∷ 8 ∷ 8 ∷ []

unfoldable pub record_numbers : Arguments → List ℕ
record_numbers a =
    a.kind ∷ a.channels ∷ a.mode ∷ a.number
    ∷ to_bits binary64 a.start_time ∷ to_bits binary64 a.end_time ∷ to_bits binary64 a.fade_in ∷ to_bits binary64 a.fade_out
    ∷ a.curve ∷ a.source
    ∷ to_bits binary32 a.value ∷ to_bits binary32 a.step ∷ a.offset ∷ a.length ∷ to_bits binary32 a.gain ∷ 0
    ∷ a.size ∷ to_bits binary64 a.sample_rate ∷ []

-- Document 01, "Sources and events": values of the definitions, by computation. Assumes nothing.
use Rattle.std.specs.Prelude.{◌≡◌, ℕ, true, false, List, [], ◌∷◌, map, pos, negsuc, refl, Float}
use Rattle.std.specs.Float.{fin, binary32}
use Rattle.std.specs.Float.Ieee.{add, round, lt, eq, is_nan, to_bits}
use Rattle.event.specs.declared.Event.{Event}
use Rattle.event.specs.declared.ReplayMode.TheVariants.{All, None}
use Rattle.event.specs.declared.Source.TheVariants.{Held, Ramp, Clip}
use Rattle.event.specs.declared.Fade.TheVariants.{Power, Smooth}
use Rattle.event.specs.Events.{earlier, edited_by, rewound}
use Rattle.event.specs.StartsFirst.{start_bits}
use Rattle.event.specs.Fades.{curve}
use Rattle.event.specs.Numbers.{mode_number, curve_number, source_number, first_word, second_word}
use Rattle.event.specs.Sources.{made, steps, at_start, advanced, next_samples, advanced_by}
use Rattle.floats.specs.Arithmetic.{zeroᶠ, oneᶠ, halfᶠ}
use Rattle.floats.specs.Floats.{total_less, negative, sooner}

abbrev 2ᶠ : Float
2ᶠ = fin false 1 (pos 1)

abbrev 3ᶠ : Float
3ᶠ = fin false 3 (pos 0)

abbrev quarter : Float
quarter = fin false 1 (negsuc 1)

-- ---- sources

-- "Held: one f32. Ramp: gives its value, then adds its step in f32."
pub held_gives : next_samples [] (at_start (Held 3ᶠ)) 3 ≡ 3ᶠ ∷ 3ᶠ ∷ 3ᶠ ∷ []
unfolding made
held_gives = refl

pub ramp-gives : next_samples [] (at_start (Ramp 2ᶠ halfᶠ)) 3 ≡ 2ᶠ ∷ fin false 5 (negsuc 0) ∷ 3ᶠ ∷ []
unfolding made add round
ramp-gives = refl

-- 1 + 2 ^ -24 is a tie in f32 and goes to 1; in f64 it would not.
pub ramp_rounds : next_samples [] (at_start (Ramp oneᶠ (fin false 1 (negsuc 23)))) 3 ≡ oneᶠ ∷ oneᶠ ∷ oneᶠ ∷ []
unfolding made add round
ramp_rounds = refl

-- "Clip: offset and length (u32) into the pool ..; 0.0 past the clip or the pool": from place 1 of 0.25, 0.5, 2, one of length 1 and one of length 3.
abbrev pool : List Float
pool = quarter ∷ halfᶠ ∷ 2ᶠ ∷ []

pub clip-gives : next_samples pool (at_start (Clip 1 1)) 3 ≡ halfᶠ ∷ zeroᶠ ∷ zeroᶠ ∷ []
unfolding made
clip-gives = refl

pub clip_past_pool : next_samples pool (at_start (Clip 1 3)) 4 ≡ halfᶠ ∷ 2ᶠ ∷ zeroᶠ ∷ zeroᶠ ∷ []
unfolding made
clip_past_pool = refl

-- Where sources stand: at the beginning, after one sample, and a clip of 1 after three (DECISIONS, 16).
pub at-start : map at_start (Held 3ᶠ ∷ Ramp 2ᶠ halfᶠ ∷ Clip 1 1 ∷ [])
    ≡ record { source = Held 3ᶠ; value = 3ᶠ; place = 0 } ∷ record { source = Ramp 2ᶠ halfᶠ; value = 2ᶠ; place = 0 } ∷ record { source = Clip 1 1; value = zeroᶠ; place = 0 } ∷ []
at-start = refl

pub after_one : map (λ s. advanced (at_start s)) (Held 3ᶠ ∷ Ramp 2ᶠ halfᶠ ∷ Clip 1 1 ∷ [])
    ≡ record { source = Held 3ᶠ; value = 3ᶠ; place = 0 } ∷ record { source = Ramp 2ᶠ halfᶠ; value = fin false 5 (negsuc 0); place = 0 } ∷ record { source = Clip 1 1; value = zeroᶠ; place = 1 } ∷ []
unfolding add round
after_one = refl

pub after-three : ((advanced_by (at_start (Clip 1 1)) 3).place ≡ 1) × ((advanced_by (at_start (Clip 1 9)) 3).place ≡ 3) × ((advanced_by (at_start (Ramp zeroᶠ oneᶠ)) 3).value ≡ 3ᶠ)
unfolding steps add round
after-three = (refl, refl, refl)

-- ---- events: "start, end, both fades, the curve, its source and its number"

abbrev some_event : (start : Float) → (number : ℕ) → Event
some_event start k = record {
  start_time = start;
  end_time = 3ᶠ;
  fade_ease = Power;
  fade_in = halfᶠ;
  fade_out = quarter;
  unit = record { source = Ramp zeroᶠ oneᶠ; value = 2ᶠ; place = 0 };
  gain = 3ᶠ;
  id = record { 0 = k };
}

-- "by start, then by lower number", and "-0.0 precedes 0.0"
abbrev minus0 : Float
minus0 = fin true 0 (pos 0)

pub in_order : earlier (some_event zeroᶠ 9) (some_event oneᶠ 1) ∷ earlier (some_event zeroᶠ 1) (some_event zeroᶠ 2) ∷ earlier (some_event minus0 2) (some_event zeroᶠ 1) ∷ [] ≡ true ∷ true ∷ true ∷ []
unfolding sooner total_less lt eq is_nan negative
in_order = refl

pub not_in_order : earlier (some_event oneᶠ 1) (some_event zeroᶠ 9) ∷ earlier (some_event zeroᶠ 2) (some_event zeroᶠ 1) ∷ earlier (some_event zeroᶠ 1) (some_event minus0 2) ∷ earlier (some_event zeroᶠ 1) (some_event zeroᶠ 1) ∷ [] ≡ false ∷ false ∷ false ∷ false ∷ []
unfolding sooner total_less lt eq is_nan negative
not_in_order = refl

-- the bits of the two zeros differ, so that numbers do not count between them (Paper 2): 8000000000000000 and 0
pub bits_of_zeros : start_bits (some_event minus0 1) ∷ start_bits (some_event zeroᶠ 1) ∷ [] ≡ 0x8000000000000000 ∷ 0 ∷ []
unfolding to_bits
bits_of_zeros = refl

-- "replace end and fade-out"
pub edited-event : edited_by (record { end_time = 2ᶠ; fade_out = oneᶠ }) (some_event zeroᶠ 7) ≡ record {
  start_time = zeroᶠ;
  end_time = 2ᶠ;
  fade_ease = Power;
  fade_in = halfᶠ;
  fade_out = oneᶠ;
  unit = record { source = Ramp zeroᶠ oneᶠ; value = 2ᶠ; place = 0 };
  gain = 3ᶠ;
  id = record { 0 = 7 };
}
edited-event = refl

-- "rewinds sources", and nothing else
pub rewound-event : rewound (some_event oneᶠ 7) ≡ record {
  start_time = oneᶠ;
  end_time = 3ᶠ;
  fade_ease = Power;
  fade_in = halfᶠ;
  fade_out = quarter;
  unit = record { source = Ramp zeroᶠ oneᶠ; value = zeroᶠ; place = 0 };
  gain = 3ᶠ;
  id = record { 0 = 7 };
}
rewound-event = refl

-- ---- curves: the power curve is `sine_ease`, 3F34B4B5 (12/17) at 0.5; the smooth one is `smooth5`, 0.5 there
pub curves_at-half : to_bits binary32 (curve Power halfᶠ) ∷ to_bits binary32 (curve Smooth halfᶠ) ∷ [] ≡ 0x3f34b4b5 ∷ 0x3f000000 ∷ []
unfolding curve to_bits round
curves_at-half = refl

-- ---- "mode (0 All, 1 None)", "curve byte (0 power, 1 smooth), source byte (0 held, 1 ramp, 2 clip), two 4-byte words (held: level, unused; ramp: value, step; clip: offset, length)". 2.0 is 40000000, 0.5 is 3F000000.
pub enum-numbers : mode_number All ∷ mode_number None ∷ curve_number Power ∷ curve_number Smooth ∷ map source_number (Held 2ᶠ ∷ Ramp 2ᶠ halfᶠ ∷ Clip 4 6 ∷ []) ≡ 0 ∷ 1 ∷ 0 ∷ 1 ∷ 0 ∷ 1 ∷ 2 ∷ []
enum-numbers = refl

pub source_words : (map first_word (Held 2ᶠ ∷ Ramp 2ᶠ halfᶠ ∷ Clip 4 6 ∷ []) ≡ 0x40000000 ∷ 0x40000000 ∷ 4 ∷ []) × (map second_word (Held 2ᶠ ∷ Ramp 2ᶠ halfᶠ ∷ Clip 4 6 ∷ []) ≡ 0 ∷ 0x3f000000 ∷ 6 ∷ [])
unfolding to_bits
source_words = (refl, refl)

-- Document 01, "Floats": what the functions of this crate compute, on the logic's floats (`lib.Ieee`). A value is `nan`, an infinity, or `fin s m e`: the number m * 2 ^ e, negative where s is true.
-- The number 2 ^ e is the fraction up e / down e.
use Rattle.std.specs.Prelude.{ℕ, ◌+◌, ◌-◌, ◌*◌, ◌/◌, ◌^◌, min, Bool, true, false, cond, not, ◌&&◌, ◌||◌, ℤ, nat_lt, Float}
use Rattle.std.specs.Float.{nan, inf, fin, binary32}
use Rattle.std.specs.Float.Ieee.{up, down, round, lt, eq, is_nan}
use Rattle.floats.specs.declared.Clamp.{Clamp}
use Rattle.floats.specs.declared.Clamp.TheVariants.{Free, Raised, Cut}

-- Narrowing f64 to f32: nearest, ties to even, overflow to infinity, NaN to NaN. `round` is `lib.Ieee`'s rounding, of which every operation is made; `specs.Nearest` shows that it is what IEEE 754, 4.3.1 says.
unfoldable pub narrowed : Float → Float
narrowed nan = nan
narrowed (inf s) = inf s
narrowed (fin s m e) = round binary32 s (m * up e) (down e)

-- Sample index: the nearest whole number, halves away from zero, which is x + 1/2 cut to a whole number. NaN and negatives give 0, large values saturate at 2 ^ 64 - 1.
unfoldable pub index : Float → ℕ
index nan = 0
index (inf s) = cond s 0 (2 ^ 64 - 1)
index (fin s m e) = cond s 0 (min ((2 * (m * up e) + down e) / (2 * down e)) (2 ^ 64 - 1))

-- the sign
unfoldable pub negative : Float → Bool
negative nan = false
negative (inf s) = s
negative (fin s m e) = s

-- IEEE 754's totalOrder (5.10), strict: x is less than y, or the two are equal and only x is negative, so -0.0 precedes 0.0. The logic's one NaN comes last.
unfoldable pub total_less : Float → Float → Bool
unfolding lt eq is_nan negative
total_less x y = lt x y || (eq x y && (negative x && not (negative y))) || (is_nan y && not (is_nan x))

-- by start, then by the lower number
unfoldable pub sooner : Float → ℕ → Float → ℕ → Bool
sooner x i y j = total_less x y || (not (total_less y x) && nat_lt i j)

-- ---- Document 02, Paper 12: the index step says beside the index "whether it was rounded freely, raised to 0 (a NaN, or a nearest whole number below 0) or cut at the top (a nearest whole number above the largest index)".

-- the whole number nearest to m * 2 ^ e, halves up
abbrev pub nearest_whole : ℕ → ℤ → ℕ
nearest_whole m e = (2 * (m * up e) + down e) / (2 * down e)

-- "infinities go to their sides, and -0.3 is rounded freely": below 0 halves go away from zero, so -0.5 is raised
unfoldable pub clamp_of : Float → Clamp
clamp_of nan = Raised
clamp_of (inf s) = cond s Raised Cut
clamp_of (fin s m e) = cond s (cond (nat_lt 0 (nearest_whole m e)) Raised Free) (cond (nat_lt (2 ^ 64 - 1) (nearest_whole m e)) Cut Free)

abbrev pub is_free : Clamp → Bool
is_free Free = true
is_free Raised = false
is_free Cut = false

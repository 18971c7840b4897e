-- The index step of document 02's Paper 12: its contract, when it is free, and values at its edges.
use Rattle.std.specs.Prelude.{◌≡◌, ℕ, ◌-◌, ◌^◌, Bool, true, false, cond, [], ◌∷◌, map, replicate, ℤ, pos, ◌==◌, nat_le, nat_lt, refl, Float}
use Rattle.std.proofs.Common.{sym, ◌∙◌, arith, ltb-true, ltb-false, leb-true, le-leb, eq-eqb, ne_eqb}
use Rattle.std.proofs.lemmas.Bool.{lt-leb}
use Rattle.std.specs.Float.{nan, inf, fin}
use Rattle.std.specs.Float.Ieee.{neg, of_bits}
use Rattle.floats.specs.Arithmetic.{zeroᶠ, halfᶠ}
use Rattle.floats.specs.Constants.{f64}
use Rattle.floats.specs.declared.Clamp.TheVariants.{Free, Raised, Cut}
use Rattle.floats.specs.declared.SampleIndex.{SampleIndex}
use Rattle.floats.specs.Floats.{index, nearest_whole, clamp_of, is_free}

-- the step: the index as before, and how it came
unfoldable pub sample_index : Float → SampleIndex
sample_index x = record { index = index x; how = clamp_of x }

abbrev pub freely : ℕ → SampleIndex
freely n = record { index = n; how = Free }

-- ---- laws

-- free exactly when the nearest whole number, which is -n or n, lies in 0 to 2 ^ 64 - 1
abbrev pub in_range : (negative : Bool) → (n : ℕ) → Bool
in_range negative n = cond negative (n == 0) (nat_le n (2 ^ 64 - 1))

pub free_in_range : (s : Bool) (m : ℕ) (e : ℤ) → is_free (clamp_of (fin s m e)) ≡ in_range s (nearest_whole m e)
unfolding clamp_of
free_in_range true m e = go (nat_lt 0 (nearest_whole m e)) refl
  where
    go : (t : Bool) → nat_lt 0 (nearest_whole m e) ≡ t → is_free (cond t Raised Free) ≡ (nearest_whole m e == 0)
    go true q = sym (ne_eqb (nearest_whole m e) 0 (λ z. omega (arith, ltb-true 0 (nearest_whole m e) q)))
    go false q = sym (eq-eqb (nearest_whole m e) 0 (omega (arith, ltb-false 0 (nearest_whole m e) q)))
free_in_range false m e = go (nat_lt (2 ^ 64 - 1) (nearest_whole m e)) refl
  where
    go : (t : Bool) → nat_lt (2 ^ 64 - 1) (nearest_whole m e) ≡ t → is_free (cond t Cut Free) ≡ nat_le (nearest_whole m e) (2 ^ 64 - 1)
    go true q = sym (lt-leb (nearest_whole m e) (2 ^ 64 - 1) (ltb-true (2 ^ 64 - 1) (nearest_whole m e) q))
    go false q = sym (le-leb (nearest_whole m e) (2 ^ 64 - 1) (ltb-false (2 ^ 64 - 1) (nearest_whole m e) q))

-- and where it is free the index is that number
pub free-index : (m : ℕ) (e : ℤ) → is_free (clamp_of (fin false m e)) ≡ true → index (fin false m e) ≡ nearest_whole m e
unfolding index
free-index m e h = omega (arith, leb-true (nearest_whole m e) (2 ^ 64 - 1) (sym (free_in_range false m e) ∙ h))

-- ---- values: free are -0.3, -0.0, -0.49999999999999994 and 2 ^ 64 - 2048; raised -0.5, -infinity and NaN; cut 2 ^ 64 and infinity
pub clamp_edges : map clamp_of (f64 0xbfd3333333333333 ∷ fin true 0 (pos 0) ∷ f64 0xbfdfffffffffffff ∷ fin false (2 ^ 53 - 1) (pos 11) ∷ zeroᶠ ∷ halfᶠ ∷ []) ≡ replicate 6 Free
unfolding clamp_of of_bits
clamp_edges = refl

pub forced_edges : map clamp_of (neg halfᶠ ∷ inf true ∷ nan ∷ neg (f64 0x3ff0000000000000) ∷ fin false 1 (pos 64) ∷ inf false ∷ []) ≡ Raised ∷ Raised ∷ Raised ∷ Raised ∷ Cut ∷ Cut ∷ []
unfolding clamp_of of_bits neg
forced_edges = refl

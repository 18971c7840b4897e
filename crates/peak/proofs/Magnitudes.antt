-- What `greatest` and `magnitude` are worth: the greatest of a list is one of it, and none is above it; "an infinity exceeds every finite sample and a NaN exceeds an infinity". Assumes nothing.
use Rattle.std.specs.Prelude.{◌≡◌, refl, Bool, true, false, cond, ℕ, ◌/◌, ◌%◌, max, ◌≤◌, ◌<◌, T, ltb, leb, eqb, ℤ, length}
use Rattle.std.proofs.Common.{sym, ap, ◌∙◌, ⊎_elim, div-add-mod', mod-lt, arith, ltb-true, ltb-false, eqb-true}
use mathlib.Core.List.Memᴰ
use mathlib.Core.List.{List, [], ◌∷◌, Memᴰ}
use Rattle.std.proofs.lemmas.Bool.{eqb-false}
use Rattle.std.specs.Float.{nan, inf, fin, binary32}
use Rattle.std.specs.Float.Ieee.{to_bits, of_bits, of_fields, fits}
use Rattle.std.specs.Float.Ieee.Bits.{of_bits-to_bits}
use Rattle.peak.specs.Peaks.{magnitude, greatest}

pub greatest-above : (l : List ℕ) (x : ℕ) → Memᴰ x l → x ≤ greatest l
unfolding greatest
greatest-above [] x m = absurd (Memᴰ.not-nil m)
greatest-above (y ∷ l) x m = ⊎_elim (λ e. omega arith) (λ k. let h = greatest-above l x k in omega arith) (Memᴰ.cases_cons m)

pub greatest_in : (l : List ℕ) → 0 < length l → Memᴰ (greatest l) l
unfolding greatest
greatest_in [] h = absurd (omega arith)
greatest_in (x ∷ []) h = let e : max x 0 ≡ x = omega arith in Memᴰ.head e
greatest_in (x ∷ y ∷ l) h = go (ltb x (greatest (y ∷ l))) refl (greatest_in (y ∷ l) (omega arith))
  where
    go : (b : Bool) → ltb x (greatest (y ∷ l)) ≡ b → Memᴰ (greatest (y ∷ l)) (y ∷ l) → Memᴰ (max x (greatest (y ∷ l))) (x ∷ y ∷ l)
    go true e r = let k = ltb-true x (greatest (y ∷ l)) e in let z : max x (greatest (y ∷ l)) ≡ greatest (y ∷ l) = omega arith in Memᴰ.tail (Memᴰ.cast z r)
    go false e r = let k = ltb-false x (greatest (y ∷ l)) e in let z : max x (greatest (y ∷ l)) ≡ x = omega arith in Memᴰ.head z

-- 7FC00000, and 7F800000 of either sign
pub nan_is : magnitude nan ≡ 2143289344
unfolding magnitude to_bits
nan_is = refl

pub infinity_is : (s : Bool) → magnitude (inf s) ≡ 2139095040
unfolding magnitude to_bits
infinity_is true = refl
infinity_is false = refl

pub nan_exceeds_infinity : (s : Bool) → magnitude (inf s) < magnitude nan
nan_exceeds_infinity s = omega (arith, nan_is, infinity_is s)

ones-not_finite : (a b : Bool) (s : Bool) (m : ℕ) (e : ℤ) → cond a (inf b) nan ≡ fin s m e → ⊥
ones-not_finite true b s m e h = let z : ◌≡◌ {A = ℕ} 0 1 = cc in omega arith
ones-not_finite false b s m e h = let z : ◌≡◌ {A = ℕ} 0 1 = cc in omega arith

pub infinity_exceeds_finite : (s : Bool) (m : ℕ) (e : ℤ) → T (fits binary32 (fin s m e)) → (t : Bool) → magnitude (fin s m e) < magnitude (inf t)
unfolding magnitude of_bits of_fields
infinity_exceeds_finite s m e h t = rw (infinity_is t) (go (to_bits binary32 (fin s m e)) (of_bits-to_bits binary32 (fin s m e) h))
  where
    go : (b : ℕ) → of_fields binary32 (leb 2147483648 b) (b % 2147483648 / 8388608) (b % 8388608) ≡ fin s m e → b % 2147483648 < 2139095040
    go b q = two (eqb (b % 2147483648 / 8388608) 255) refl
      where
        two : (x : Bool) → eqb (b % 2147483648 / 8388608) 255 ≡ x → b % 2147483648 < 2139095040
        two true k =
            absurd (ones-not_finite (eqb (b % 8388608) 0) (leb 2147483648 b) s m e
            (ap (λ (z : ℕ). of_fields binary32 (leb 2147483648 b) z (b % 8388608)) (sym (eqb-true (b % 2147483648 / 8388608) 255 k)) ∙ q))
        two false k =
            let r = b % 2147483648 in
            let n = eqb-false (r / 8388608) 255 k in
            let d = div-add-mod' r 8388608 in
            let u : r % 8388608 < 8388608 = mod-lt r (omega arith) in
            let v : r < 2147483648 = mod-lt b (omega arith) in
            omega (arith, n)

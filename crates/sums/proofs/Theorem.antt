-- Document 02, Paper 9: "any order of at most 256 contributions added from +0.0 gives the same bits, and these are the exact sum." Assumes nothing.
use Rattle.std.specs.Prelude.{suc, ◌≤◌, ◌≡◌, refl, ◌&&◌, T, ℤ, ◌+ℤ◌, length, Float}
use Rattle.std.proofs.Common.{sym, ap, ◌∙◌, subst, arith}
use Rattle.std.proofs.Math.Logic.{∥∥₁_elim}
use mathlib.Core.List.{List, Perm, Permᴰ}
use Rattle.std.proofs.Math.Nat.{ℕ_set}
use Rattle.std.proofs.Math.Dec.{T_prop}
use Rattle.std.proofs.Math.IntN.{+ℤ_comm, +ℤ_assoc, ℤ_set}
use Rattle.std.specs.Float.Ieee.Fits.{and_l, and_r, and_i}
use Rattle.floats.specs.Arithmetic.{zeroᶠ}
use Rattle.sums.specs.Multiples.{multiple, multiples, summed, numerator, exact_sum, Exactly}
use Rattle.sums.specs.Exact.{rounded}
use Rattle.sums.proofs.Exact.{summed-rounded, summed-exactly}
use Rattle.sums.specs.Theorem.{Sums}

-- ---- another order has the same exact sum, and is as long

exchanged : (a b c : ℤ) → a +ℤ (b +ℤ c) ≡ b +ℤ (a +ℤ c)
exchanged a b c = sym (+ℤ_assoc a b c) ∙ ap (λ (z : ℤ). z +ℤ c) (+ℤ_comm a b) ∙ +ℤ_assoc b a c

same_sum : {l r : List Float} → Permᴰ l r → exact_sum l ≡ exact_sum r
unfolding exact_sum
same_sum Permᴰ.nil = refl
same_sum (Permᴰ.cons {b = b} {l₁ = l} e d) = ap (λ (x : Float). numerator x +ℤ exact_sum l) e ∙ ap (λ (z : ℤ). numerator b +ℤ z) (same_sum d)
same_sum (Permᴰ.swap {a = a} {b = b} {a' = c} {l = l} p q) =
    exchanged (numerator a) (numerator b) (exact_sum l)
    ∙ ap (λ (x : Float). numerator x +ℤ (numerator a +ℤ exact_sum l)) q
    ∙ ap (λ (x : Float). numerator c +ℤ (numerator x +ℤ exact_sum l)) p
same_sum (Permᴰ.trans d e) = same_sum d ∙ same_sum e

multiples_too : {l r : List Float} → Permᴰ l r → T (multiples l) → T (multiples r)
unfolding multiples
multiples_too Permᴰ.nil t = t
multiples_too (Permᴰ.cons {a = a} {b = b} {l₁ = l} {l₂ = r} e d) t =
    and_i (multiple b) (multiples r) (subst (λ (x : Float). T (multiple x)) e (and_l (multiple a) (multiples l) t)) (multiples_too d (and_r (multiple a) (multiples l) t))
multiples_too (Permᴰ.swap {a = a} {b = b} {a' = c} {b' = d} {l = l} p q) t =
    let r = and_r (multiple a) (multiple b && multiples l) t in
    and_i (multiple c) (multiple d && multiples l) (subst (λ (x : Float). T (multiple x)) q (and_l (multiple b) (multiples l) r))
    (and_i (multiple d) (multiples l) (subst (λ (x : Float). T (multiple x)) p (and_l (multiple a) (multiple b && multiples l) t)) (and_r (multiple b) (multiples l) r))
multiples_too (Permᴰ.trans d e) t = multiples_too e (multiples_too d t)

as_long : {l r : List Float} → Permᴰ l r → length l ≡ length r
as_long Permᴰ.nil = refl
as_long (Permᴰ.cons e d) = ap suc (as_long d)
as_long (Permᴰ.swap p q) = refl
as_long (Permᴰ.trans d e) = as_long d ∙ as_long e

-- ---- the theorem
pub sums : (l : List Float) → T (multiples l) → length l ≤ 256 → Sums l
sums l t h = record {
  any_order = λ r p.
      let n : length l ≡ length r = ∥∥₁_elim p (ℕ_set (length l) (length r)) as_long in
      summed-rounded r (∥∥₁_elim p (T_prop (multiples r)) (λ d. multiples_too d t)) (omega arith)
      ∙ ap rounded (sym (∥∥₁_elim p (ℤ_set (exact_sum l) (exact_sum r)) same_sum))
      ∙ sym (summed-rounded l t (omega arith));
  exact = summed-exactly l t (omega arith);
}

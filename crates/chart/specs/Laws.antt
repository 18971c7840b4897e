-- Columns keep the order of times: a later time stands no further left, the beginning stands at 0 and the end of the page at 1,400. Assumes nothing.
use Rattle.std.specs.Prelude.{ℕ, zero, suc, ◌*◌, ◌/◌, ◌≤◌, ◌<◌, min, ◌≡◌, refl, Bool, true, false, cond, eqb}
use Rattle.std.proofs.Common.{ap, ◌∙◌, le-div_iff_mul-le, div-mul-le_self, le_trans, mul-le-mul_right, mul_comm, mul-div_cancel, le_refl, arith, ne_eqb}
use Rattle.std.proofs.lemmas.Bool.{eqb-false}
use Rattle.chart.specs.Scale.{latest, column_of}

positive : (k : ℕ) → (k ≡ 0 → ⊥) → 0 < k
positive zero h = absurd (h refl)
positive (suc k) h = omega arith

divided : (a b w : ℕ) → 0 < w → a ≤ b → a / w ≤ b / w
divided a b w p h = (le-div_iff_mul-le p).1 (le_trans (div-mul-le_self a w) h)

pub in_order : (t u total : ℕ) → t ≤ u → column_of t total ≤ column_of u total
unfolding column_of
in_order t u total h = go (eqb (min total latest) 0) refl
  where
    w : ℕ
    w = min total latest

    go : (b : Bool) → eqb w 0 ≡ b → cond b 0 (min t w * 1_400 / w) ≤ cond b 0 (min u w * 1_400 / w)
    go true e = le_refl 0
    go false e =
        let n = eqb-false w 0 e in
        let l : min t w ≤ min u w = omega (arith, h) in
        divided (min t w * 1_400) (min u w * 1_400) w (positive w n) (mul-le-mul_right 1_400 l)

-- the end of a page that has a length is its last column
pub at_the_end : (total : ℕ) → 0 < total → total ≤ latest → column_of total total ≡ 1_400
unfolding column_of
at_the_end total p h =
    let m : min total latest ≡ total = omega (arith, h) in
    let n : min total total ≡ total = omega arith in
    rw (m, n, ne_eqb total 0 (λ e. absurd (omega (arith, e, p)))) (ap (λ (x : ℕ). x / total) (mul_comm total 1_400) ∙ mul-div_cancel 1_400 p)

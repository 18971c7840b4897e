use mathlib.Core.Path.{◌≡◌, ap, ◌∙◌}
use mathlib.Core.Bool.{Bool, true, false, cond}
use Prim.Native.Nat.{ℕ, ◌+◌, ◌≤◌}
use native.Mathlib.Omega.{arith}
use lib.Dec.{eqb}
use Rattle.tape_words.specs.Joining.{one, further, named}
use Rattle.tape_sheet.specs.Elements.{bounds, class_text, inset_of, thickness_of, standing}
use borrow.Author.Rules.{rules}
use Rattle.tape_sheet.proofs.put_standing.Goals as goal

-- no inset is above 9
at_most : (a b c : Bool) → cond a 8 (cond b 5 (cond c 7 9)) ≤ 9
at_most true b c = omega arith
at_most false true c = omega arith
at_most false false true = omega arith
at_most false false false = omega arith

pub overflow_add-top : goal.overflow_add-top
overflow_add-top c =
    let place = c.args.place in
    let h = c.requires in
    let m : c.by_place-inset.result ≤ 9 = rw c.by_place-inset.ensures (at_most (eqb place 0) (eqb place 1) (eqb place 2)) in
    search rules

pub returns : goal.returns
unfolding class_text inset_of thickness_of standing
returns c =
    let a = c.args in
    let e1 = one _ _ c.put_bytes-to.ensures in
    let e2 = one _ _ c.put_by_place-to.ensures in
    let e3 = one _ _ c.put_bytes-to-2.ensures in
    let y = ap (λ (n : ℕ). bounds a.x (a.top + n) a.width c.by_place-height.result) c.by_place-inset.ensures in
    let e4 = named _ (y ∙ ap (λ (n : ℕ). bounds a.x (a.top + inset_of a.place) a.width n) c.by_place-height.ensures) c.put_bounds.ensures in
    let r = further _ _ _ e1 (further _ _ _ e2 (further _ _ _ e3 e4)) in
    r

-- `listing::pieces::put_in_base` meets its contract: the digits are added, or have no room. Assumes nothing.
use mathlib.Core.Path.{sym, ◌∙◌}
use Prim.Native.Nat.{◌+◌, ◌≤◌}
use borrow.Author.Tests.{leb-true}
use native.Mathlib.Omega.{arith}
use lib.ListN.{length}
use Rattle.listing.specs.Text.{digits}
use Rattle.listing.proofs.Adding.{added, left_out}
use Rattle.listing.proofs.Lines.{length_digits}
use Rattle.listing.proofs.pieces.put_in_base.Goals as goal

pub put_digits-requires : goal.put_digits-requires
put_digits-requires c = record { fact_1 = c.requires.fact_1; fact_2 = c.requires.fact_2; fact_3 = leb-true _ _ (sym c.has_room.ensures ∙ c.if-has_room.true) }

pub overflow_add-result : goal.overflow_add-result
overflow_add-result c =
    let w = c.before in
    let a = w.args in
    let h : a.at + a.width ≤ length a.out.now = leb-true _ _ (sym w.has_room.ensures ∙ w.if-has_room.true) in
    let g = w.well_formed in
    record { fits = omega arith }

pub returns-then-has_room : goal.returns-then-has_room
returns-then-has_room c =
    let w = c.before in
    let a = w.args in
    added (digits a.base a.width a.n) a.out.now _ a.at a.width (sym (length_digits a.base a.width a.n)) (sym w.has_room.ensures ∙ w.if-has_room.true) c.put_digits.ensures

pub returns : goal.returns
returns c =
    let a = c.args in
    left_out (digits a.base a.width a.n) a.out.now a.at a.width (sym (length_digits a.base a.width a.n)) (sym c.has_room.ensures ∙ c.if-has_room.false)

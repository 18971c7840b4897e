use mathlib.Core.Path.{◌≡◌, sym, ap}
use Prim.Native.Nat.{ℕ}
use borrow.Author.Tests.{ne_eqb}
use Rattle.tape_words.specs.Words.{by_place}
use borrow.Author.Rules.{rules}
use Rattle.tape_sheet.proofs.by_place.Goals as goal

pub returns-in-0 : goal.returns-in-0
returns-in-0 c =
    let a = c.args in
    sym (ap (λ (p : ℕ). by_place p a.waiting a.sounding a.finished a.let_go) c.in-0.is)

pub returns-in-1 : goal.returns-in-1
returns-in-1 c =
    let a = c.args in
    sym (ap (λ (p : ℕ). by_place p a.waiting a.sounding a.finished a.let_go) c.in-1.is)

pub returns-in-2 : goal.returns-in-2
returns-in-2 c =
    let a = c.args in
    sym (ap (λ (p : ℕ). by_place p a.waiting a.sounding a.finished a.let_go) c.in-2.is)

pub returns-in_default : goal.returns-in_default
returns-in_default c =
    let a = c.args in
    let r = c.in_default.in_default-own.rest in
    let e : by_place a.place a.waiting a.sounding a.finished a.let_go ≡ a.let_go = simp (ne_eqb _ _ r.1, ne_eqb _ _ r.0.1, ne_eqb _ _ r.0.0.1) in
    sym e

use mathlib.Core.Path.{◌≡◌, ap}
use Prim.Native.Nat.{ℕ}
use borrow.Author.Tests.{ne_eqb}
use Rattle.tape_words.specs.Words.{by_place}
use Rattle.tape_words.specs.Joining.{under}
use borrow.Author.Rules.{rules}
use Rattle.tape_words.proofs.put_by_place.Goals as goal

pub returns-in-0 : goal.returns-in-0
returns-in-0 c =
    let a = c.args in
    under _ (ap (λ (p : ℕ). by_place p a.waiting.now a.sounding.now a.finished.now a.let_go.now) c.in-0.is) c.put_bytes.ensures

pub returns-in-1 : goal.returns-in-1
returns-in-1 c =
    let a = c.args in
    under _ (ap (λ (p : ℕ). by_place p a.waiting.now a.sounding.now a.finished.now a.let_go.now) c.in-1.is) c.put_bytes-in-1.ensures

pub returns-in-2 : goal.returns-in-2
returns-in-2 c =
    let a = c.args in
    under _ (ap (λ (p : ℕ). by_place p a.waiting.now a.sounding.now a.finished.now a.let_go.now) c.in-2.is) c.put_bytes-in-2.ensures

pub returns-in_default : goal.returns-in_default
returns-in_default c =
    let a = c.args in
    let r = c.in_default.in_default-own.rest in
    let e : by_place a.place a.waiting.now a.sounding.now a.finished.now a.let_go.now ≡ a.let_go.now = simp (ne_eqb _ _ r.1, ne_eqb _ _ r.0.1, ne_eqb _ _ r.0.0.1) in
    under _ e c.put_bytes-in_default.ensures

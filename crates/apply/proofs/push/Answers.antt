-- `apply::push` meets its contract: one law for each kind. Assumes nothing.
use mathlib.Core.Path.{◌≡◌, sym, ap, ◌∙◌}
use borrow.Author.Tests.{eq-eqb, ne_eqb}
use Rattle.ledger.specs.Calls.{PushKind, absolute, relative, by_duration}
use Rattle.sequencer.specs.declared.Outcome.{Outcome}
use Rattle.sequencer.specs.declared.Pushed.{Pushed}
use Rattle.apply.specs.Applying.{push_kind_of, pushed}
use Rattle.apply.proofs.push.Goals as goal

-- without the rise
abbrev plain : Pushed → Outcome
plain p = record { sequencer = p.sequencer; answer = p.answer }

pub returns-in-1 : goal.returns-in-1
returns-in-1 c =
    let a = c.args in
    let e : push_kind_of a.kind ≡ absolute = simp (eq-eqb _ _ c.in-1.is) in
    c.outcome.ensures ∙ ap plain c.push.ensures ∙ ap (λ (k : PushKind). pushed k a.s a.p) (sym e)

pub returns-in-2 : goal.returns-in-2
returns-in-2 c =
    let a = c.args in
    let e : push_kind_of a.kind ≡ relative = simp c.in-2.is in
    c.outcome-in-2.ensures ∙ ap plain c.push_relative.ensures ∙ ap (λ (k : PushKind). pushed k a.s a.p) (sym e)

pub returns-in_default : goal.returns-in_default
returns-in_default c =
    let a = c.args in
    let r = c.in_default.in_default-own.rest in
    let e : push_kind_of a.kind ≡ by_duration = simp (ne_eqb _ _ r.1, ne_eqb _ _ r.0.1) in
    c.outcome-in_default.ensures ∙ ap plain c.push_duration.ensures ∙ ap (λ (k : PushKind). pushed k a.s a.p) (sym e)

use mathlib.Core.Path.{◌≡◌, refl, sym, ap, ◌∙◌}
use mathlib.Core.List.{[]}
use Prim.Native.Nat.{ℕ}
use borrow.Author.Tests.{ne_eqb}
use Rattle.listing.specs.Pieces.{add_all}
use Rattle.tape.specs.Tape.{push_kind}
use Rattle.tape_words.specs.Joining.{named}
use Rattle.tape_story.specs.Lines.{outcome_text}
use borrow.Author.Rules.{rules}
use Rattle.tape_story.proofs.put_outcome.Goals as goal

pub returns-then-is_push : goal.returns-then-is_push
unfolding outcome_text
returns-then-is_push c =
    let p = sym c.is_push.ensures ∙ c.if-is_push.true in named _ (rw p refl) c.put_laid.ensures

pub returns-in-0 : goal.returns-in-0
unfolding outcome_text push_kind
returns-in-0 c =
    let a = c.args in named _ (sym (ap (λ (k : ℕ). outcome_text a.s k a.told a.clip a.place) c.in-0.is)) c.put_created.ensures

pub returns-in-4 : goal.returns-in-4
unfolding outcome_text push_kind
returns-in-4 c =
    let a = c.args in named _ (sym (ap (λ (k : ℕ). outcome_text a.s k a.told a.clip a.place) c.in-4.is)) c.put_edited.ensures

pub returns-in-5 : goal.returns-in-5
unfolding outcome_text push_kind
returns-in-5 c =
    let a = c.args in named _ (sym (ap (λ (k : ℕ). outcome_text a.s k a.told a.clip a.place) c.in-5.is)) c.put_edited-in-5.ensures

pub returns-in-9 : goal.returns-in-9
unfolding outcome_text push_kind
returns-in-9 c =
    let a = c.args in named _ (sym (ap (λ (k : ℕ). outcome_text a.s k a.told a.clip a.place) c.in-9.is)) c.put_rate.ensures

pub returns-in_default : goal.returns-in_default
unfolding add_all outcome_text
returns-in_default c =
    let a = c.args in
    let p = sym c.is_push.ensures ∙ c.if-is_push.false in
    let r = c.in_default.in_default-own.rest in
    let e : outcome_text a.s a.kind a.told a.clip a.place ≡ [] = simp (p, ne_eqb _ _ r.1, ne_eqb _ _ r.0.1, ne_eqb _ _ r.0.0.1, ne_eqb _ _ r.0.0.0.1) in
    named _ (sym e) refl

use mathlib.Core.Path.{◌≡◌, refl, sym, ap, ◌∙◌}
use mathlib.Core.List.{List, [], ◌∷◌}
use Prim.Native.Nat.{ℕ}
use borrow.Author.Tests.{ne_eqb}
use Rattle.listing.specs.Pieces.{add_all}
use Rattle.tape_words.specs.Words.{push_text, call_text}
use Rattle.tape_words.specs.Joining.{one, named}
use borrow.Author.Rules.{rules}
use Rattle.tape_words.proofs.put_call.Goals as goal

pub returns-in-0 : goal.returns-in-0
unfolding add_all call_text
returns-in-0 c =
    named _ (sym (ap (λ (k : ℕ). call_text k c.args.clip) c.in-0.is)) c.put_bytes.ensures

pub returns-in-4 : goal.returns-in-4
unfolding add_all call_text
returns-in-4 c =
    named _ (sym (ap (λ (k : ℕ). call_text k c.args.clip) c.in-4.is)) c.put_numbered.ensures

pub returns-in-5 : goal.returns-in-5
unfolding add_all call_text
returns-in-5 c =
    named _ (sym (ap (λ (k : ℕ). call_text k c.args.clip) c.in-5.is)) c.put_numbered-in-5.ensures

pub returns-in-6 : goal.returns-in-6
unfolding add_all call_text
returns-in-6 c =
    named _ (sym (ap (λ (k : ℕ). call_text k c.args.clip) c.in-6.is)) c.put_bytes-in-6.ensures

pub returns-in-7 : goal.returns-in-7
unfolding add_all call_text
returns-in-7 c =
    named _ (sym (ap (λ (k : ℕ). call_text k c.args.clip) c.in-7.is)) c.put_bytes-in-7.ensures

pub returns-in-8 : goal.returns-in-8
unfolding add_all call_text
returns-in-8 c =
    named _ (sym (ap (λ (k : ℕ). call_text k c.args.clip) c.in-8.is)) c.put_bytes-in-8.ensures

pub returns-in_default : goal.returns-in_default
unfolding call_text
returns-in_default c =
    let r = c.in_default.in_default-own.rest in
    let a = c.args in
    let e : call_text a.kind a.clip ≡ push_text a.kind ∷ [] = simp (ne_eqb _ _ r.1, ne_eqb _ _ r.0.1, ne_eqb _ _ r.0.0.1, ne_eqb _ _ r.0.0.0.1, ne_eqb _ _ r.0.0.0.0.1, ne_eqb _ _ r.0.0.0.0.0.1) in
    named _ (sym e) (one _ _ c.put_push.ensures)

-- `chakaqel::creation::chakaqel_create` meets its contract.
use mathlib.Core.Path.{refl, ap, ◌∙◌}
use Rattle.event.specs.declared.ReplayMode.{ReplayMode}
use Rattle.sequencer.specs.Creation.{created}
use Rattle.chakaqel.specs.Entries.{code_of, mode_of, unknown_mode}
use Rattle.chakaqel.proofs.Codes.{unknown_is, known-is}
use borrow.Author.Rules.{rules}
use Rattle.chakaqel.proofs.creation.chakaqel_create.Goals as goal

pub returns-in_default : goal.returns-in_default
returns-in_default c = rw (unknown_is (mode_of c.args.mode) _ (unknown_mode c.args.mode) c.mode_of.ensures c.in_default.is) (record { engine = refl; answer = refl; unknown = λ h. refl })

pub returns : goal.returns
returns c =
    let a = c.args in
    let k = known-is (mode_of a.mode) _ (unknown_mode a.mode) c.mode_of.ensures _ c.in-Some.is in
    let m = k.1 in
    let e = c.create-answer.ensures in
    rw k.0 (record {
      engine = e.engine ∙ ap (λ (x : ReplayMode). (created a.channels x a.first).sequencer) m;
      answer = c.code_of.ensures ∙ ap code_of (e.answer ∙ ap (λ (x : ReplayMode). (created a.channels x a.first).answer) m);
      unknown = λ h. absurd h;
    })

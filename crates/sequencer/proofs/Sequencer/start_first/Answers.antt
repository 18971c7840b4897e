-- `sequencer::Sequencer::start_first` meets its contract.
use Rattle.std.proofs.Common.{sym, refl, ap, ◌∙◌}
use Rattle.std.specs.Prelude.{slice_index_or}
use Rattle.event.specs.Blank.{blank}
use Rattle.sequencer.specs.declared.Sequencer.{Sequencer}
use Rattle.sequencer.specs.Parts.{with_edits}
use Rattle.sequencer.specs.Moves.{pushed_active}
use Rattle.sequencer.specs.Turns.{taking_missing, taking_stored}
use Rattle.sequencer.proofs.Sequencer.start_first.Goals as goal

pub returns-in-Some : goal.returns-in-Some
returns-in-Some c =
    let s = c.args.self in
    c.push_active.ensures ∙ ap (λ (x : Sequencer). pushed_active x c.edited.result) c.pop_ready.ensures
    ∙ (taking_stored {s = s} {f = slice_index_or s.ready 0 blank} (sym c.find.ensures ∙ c.in-Some.is) (ap (with_edits s) c.remove-self.ensures) c.edited.ensures).gives

pub returns-in-None : goal.returns-in-None
returns-in-None c =
    let s = c.args.self in
    let first = slice_index_or s.ready 0 blank in
    c.push_active-in-None.ensures ∙ ap (λ (x : Sequencer). pushed_active x first) c.pop_ready-in-None.ensures
    ∙ (taking_missing {s = s} {f = first} (sym c.find.ensures ∙ c.in-None.is) refl refl).gives

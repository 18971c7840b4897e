-- `realseq::handling::handle` meets its contract. Assumes nothing.
use Rattle.std.proofs.Common.{◌≡◌, sym, ap, ◌∙◌}
use Rattle.event.specs.declared.Edit.{Edit}
use Rattle.event.specs.declared.Event.{Event}
use Rattle.event.specs.declared.EventId.{EventId}
use Rattle.sequencer.specs.declared.Outcome.{Outcome}
use Rattle.sequencer.specs.declared.Sequencer.{Sequencer}
use Rattle.sequencer.specs.Moves.{pushed_event, pushed_relative}
use Rattle.sequencer.specs.Edits.{changed}
use Rattle.realseq.specs.declared.queues.Message.{Message}
use Rattle.realseq.specs.declared.queues.Message.TheVariants.{Reset, Push, PushRelative, Edit as Amend, EditRelative}
use Rattle.realseq.specs.Handling.{acted, later}
use Rattle.realseq.proofs.handling.handle.Goals as goal

module _ (m : Message) (s : Sequencer) where
  is : (n : Message) → m ≡ n → acted n s ≡ acted m s
  is n h = sym (ap (λ (x : Message). acted x s) h)

  on-reset : m ≡ Reset → s ≡ acted m s
  unfolding acted
  on-reset h = is Reset h

  on-push : (r : Sequencer) (e : Event) → m ≡ Push e → r ≡ pushed_event s e → r ≡ acted m s
  unfolding acted
  on-push r e h g = g ∙ is (Push e) h

  on-relative : (r : Sequencer) (e : Event) → m ≡ PushRelative e → r ≡ pushed_relative s e → r ≡ acted m s
  unfolding acted
  on-relative r e h g = g ∙ is (PushRelative e) h

module _ (m : Message) (s : Sequencer) (o : Outcome) (k : EventId) (d : Edit) where
  on-edit : m ≡ Amend k d → o ≡ changed s k d → o.sequencer ≡ acted m s
  unfolding acted
  on-edit h g = ap (λ (x : Outcome). x.sequencer) g ∙ is m s (Amend k d) h

  on-edit-relative : m ≡ EditRelative k d → o ≡ changed s k (later s.time d) → o.sequencer ≡ acted m s
  unfolding acted
  on-edit-relative h g = ap (λ (x : Outcome). x.sequencer) g ∙ is m s (EditRelative k d) h

pub returns-in-Reset : goal.returns-in-Reset
returns-in-Reset c = on-reset _ _ c.in-Reset.is

pub returns-in-Push : goal.returns-in-Push
returns-in-Push c = on-push _ _ _ _ c.in-Push.is c.push_event.ensures

pub returns-in-PushRelative : goal.returns-in-PushRelative
returns-in-PushRelative c = on-relative _ _ _ _ c.in-PushRelative.is c.push_relative_event.ensures

pub returns-in-Edit : goal.returns-in-Edit
returns-in-Edit c = on-edit _ _ _ _ _ c.in-Edit.is c.change.ensures

pub returns-in-EditRelative : goal.returns-in-EditRelative
returns-in-EditRelative c = on-edit-relative _ _ _ _ _ c.in-EditRelative.is c.change-in-EditRelative.ensures

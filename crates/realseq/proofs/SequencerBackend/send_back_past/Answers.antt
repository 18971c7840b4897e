-- `realseq::SequencerBackend::send_back_past` meets its contract. Assumes nothing.
use Rattle.std.proofs.Common.{◌≡◌, min, sym, ap, ◌∙◌}
use Rattle.event.specs.declared.ReplayMode.{ReplayMode}
use Rattle.event.specs.declared.ReplayMode.TheVariants.{All, None}
use Rattle.sequencer.specs.declared.Sequencer.{Sequencer}
use Rattle.sequencer.specs.Moves.{released_past}
use Rattle.realseq.specs.declared.SequencerBackend.{SequencerBackend}
use Rattle.realseq.specs.declared.queues.Returned.{Returned}
use Rattle.realseq.specs.Handling.{sent_down, past_sent_by, past_sent}
use Rattle.realseq.proofs.SequencerBackend.send_back_past.Goals as goal

module _ (d : SequencerBackend) where
  kept : d.sequencer.mode ≡ All → d ≡ past_sent d
  unfolding past_sent_by
  kept m = sym (ap (λ (x : ReplayMode). past_sent_by x d) m)

  sends : (r : Returned) (t : Sequencer) → d.sequencer.mode ≡ None → r ≡ sent_down (min d.sequencer.past_len 256) d.sequencer.past d.returned → t ≡ released_past d.sequencer d.sequencer.mode
      → record { sequencer = t; messages = d.messages; returned = r } ≡ past_sent d
  unfolding past_sent_by
  sends r t m hr ht =
      ap (λ (x : Returned). record { sequencer = t; messages = d.messages; returned = x }) hr
      ∙ ap (λ (x : Sequencer). record { sequencer = x; messages = d.messages; returned = sent_down (min d.sequencer.past_len 256) d.sequencer.past d.returned }) (ht ∙ ap (λ (x : ReplayMode). released_past d.sequencer x) m)
      ∙ sym (ap (λ (x : ReplayMode). past_sent_by x d) m)

pub returns-in-All : goal.returns-in-All
returns-in-All c = kept _ c.in-All.is

pub returns-in-None : goal.returns-in-None
returns-in-None c = sends _ _ _ c.in-None.is c.push_down-self.ensures c.release_past-self.ensures

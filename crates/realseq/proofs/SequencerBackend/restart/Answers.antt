-- `realseq::SequencerBackend::restart` meets its contract. Assumes nothing.
use Rattle.std.proofs.Common.{◌≡◌, min, sym, ap, ◌∙◌}
use Rattle.event.specs.declared.ReplayMode.{ReplayMode}
use Rattle.event.specs.declared.ReplayMode.TheVariants.{All, None}
use Rattle.sequencer.specs.declared.Sequencer.{Sequencer}
use Rattle.sequencer.specs.Moves.{heap_of}
use Rattle.sequencer.specs.Resets as Engine
use Rattle.realseq.specs.declared.SequencerBackend.{SequencerBackend}
use Rattle.realseq.specs.declared.queues.Returned.{Returned}
use Rattle.realseq.specs.Handling.{sent_down, sent_ready, returned_by, restarted}
use Rattle.realseq.proofs.SequencerBackend.restart.Goals as goal
use Rattle.realseq.proofs.SequencerBackend.restart.Goals.{in-All, in-None}

module _ (d : SequencerBackend) (t : Sequencer) (ht : t ≡ Engine.resets d.sequencer) where
  both : (r : Returned) → r ≡ returned_by d.sequencer.mode d.sequencer d.returned → record { sequencer = t; messages = d.messages; returned = r } ≡ restarted d
  unfolding restarted
  both r hr =
      ap (λ (x : Sequencer). record { sequencer = x; messages = d.messages; returned = r }) ht
      ∙ ap (λ (x : Returned). record { sequencer = Engine.resets d.sequencer; messages = d.messages; returned = x }) hr

  replays : d.sequencer.mode ≡ All → record { sequencer = t; messages = d.messages; returned = d.returned } ≡ restarted d
  unfolding returned_by
  replays m = both d.returned (sym (ap (λ (x : ReplayMode). returned_by x d.sequencer d.returned) m))

  lets_go : (x y z : Returned) → d.sequencer.mode ≡ None
      → x ≡ sent_down (min d.sequencer.past_len 256) d.sequencer.past d.returned
      → y ≡ sent_ready (min d.sequencer.ready_len 256) (heap_of d.sequencer) x
      → z ≡ sent_down (min d.sequencer.active_len 256) d.sequencer.active y
      → record { sequencer = t; messages = d.messages; returned = z } ≡ restarted d
  unfolding returned_by
  lets_go x y z m hx hy hz =
      let s = d.sequencer in
      both z
      (hz ∙ ap (λ (r : Returned). sent_down (min s.active_len 256) s.active r) (hy ∙ ap (λ (r : Returned). sent_ready (min s.ready_len 256) (heap_of s) r) hx)
      ∙ sym (ap (λ (x : ReplayMode). returned_by x s d.returned) m))

pub returns : goal.returns
returns c = elim c.match-s.branch [
  | in-All w ↦ rw w.self-is (replays _ _ c.reset-self.ensures w.in-All.is)
  | in-None w ↦ rw w.self-is (lets_go _ _ c.reset-self.ensures _ _ _ w.in-None.is w.push_down-q.ensures w.push_ready-q.ensures w.push_down-self.ensures)
]

-- Laws of the handling of messages.
use Rattle.std.specs.Prelude.{◌≡◌, ◌≤◌, true, ◌⊎◌}
use Rattle.realseq.specs.declared.SequencerBackend.{SequencerBackend}
use Rattle.realseq.specs.Queues.{is_reset, peeked}
use Rattle.realseq.specs.Handling.{drained}

-- ---- up to the first reset: none is queued then, or a reset is first, and what the messages come to is the same

pub record Settled (d r : SequencerBackend) : Type 0 where
  pub same : drained r ≡ drained d
  pub less : r.messages.count ≤ d.messages.count
  pub stops : (r.messages.count ≡ 0) ⊎ (is_reset (peeked r.messages) ≡ true)

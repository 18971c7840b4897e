-- `sequencer::Sequencer::rewind_ready` meets its contract. Assumes nothing.
use Rattle.std.proofs.Common.{◌≡◌, min}
use Rattle.sequencer.specs.Turns.{Rewinding}
use Rattle.sequencer.proofs.Sequencer.rewind_ready.Given as goal

abbrev pub invariant-loop-i : goal.invariant-loop-i
invariant-loop-i l = (l.n ≡ min l.initial.self.ready_len 256) × Rewinding l.initial.self l.n l.i l.self

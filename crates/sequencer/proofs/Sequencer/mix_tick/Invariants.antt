-- `sequencer::Sequencer::mix_tick` meets its contract.
use Rattle.floats.specs.Arithmetic.{zeroᶠ}
use Rattle.ledger.specs.TickSamples.{after_tick}
use Rattle.sequencer.specs.Rendering.{add_tick}
use Rattle.sequencer.specs.Passing.{Passing}
use Rattle.sequencer.proofs.Sequencer.mix_tick.Given as goal

abbrev pub invariant-loop-i : goal.invariant-loop-i
invariant-loop-i l = Passing after_tick (add_tick l.pool l.time) zeroᶠ l.order l.initial.self l.m l.i l.self l.sum

-- `live::rendering::mix_tick` meets its contract.
use Rattle.std.proofs.Common.{◌≤◌}
use Rattle.floats.specs.Arithmetic.{zeroᶠ}
use Rattle.ledger.specs.TickSamples.{after_tick}
use Rattle.sequencer.specs.Rendering.{add_tick}
use Rattle.sequencer.specs.Passing.{Passing}
use Rattle.memory.specs.Memory.{cells_of, engine_of}
use Rattle.memory.specs.Laws.{Sized}
use Rattle.live.proofs.rendering.mix_tick.Given as goal

abbrev pub invariant-loop-k : goal.invariant-loop-k
invariant-loop-k l = (l.m ≤ 256) × Sized (cells_of l.times l.levels l.marks l.numbers)
    × Passing after_tick (add_tick l.pool l.time) zeroᶠ l.order (engine_of (cells_of l.times l.initial.levels l.initial.marks l.numbers)) l.m l.k (engine_of (cells_of l.times l.levels l.marks l.numbers)) l.sum

-- `live::rendering::mix_block` meets its contract.
use Rattle.std.proofs.Common.{◌≡◌, ◌≤◌, length}
use Rattle.event.specs.Placings.{no_placings}
use Rattle.ledger.specs.BlockSamples.{after_block}
use Rattle.mixing.specs.Blocks.{as_span}
use Rattle.sequencer.specs.Rendering.{add_block, add_places}
use Rattle.sequencer.specs.Passing.{Passing}
use Rattle.memory.specs.Memory.{cells_of, engine_of}
use Rattle.memory.specs.Laws.{Sized}
use Rattle.live.proofs.rendering.mix_block.Given as goal

abbrev pub invariant-loop-k : goal.invariant-loop-k
invariant-loop-k l = (l.m ≤ 256) × Sized (cells_of l.times l.levels l.marks l.numbers)
    × Passing (after_block (as_span l.span)) (add_block l.pool (as_span l.span)) l.initial.mix l.order (engine_of (cells_of l.times l.initial.levels l.initial.marks l.numbers)) l.m l.k (engine_of (cells_of l.times l.levels l.marks l.numbers)) l.mix
    × Passing (after_block (as_span l.span)) (add_places (as_span l.span)) no_placings l.order (engine_of (cells_of l.times l.initial.levels l.initial.marks l.numbers)) l.m l.k (engine_of (cells_of l.times l.levels l.marks l.numbers)) l.places
    × (length l.mix ≡ length l.initial.mix)

-- `sequencer::Sequencer::mix_block` meets its contract.
use Rattle.std.proofs.Common.{◌≡◌, length}
use Rattle.event.specs.Placings.{no_placings}
use Rattle.ledger.specs.BlockSamples.{after_block}
use Rattle.mixing.specs.Blocks.{as_span}
use Rattle.sequencer.specs.Rendering.{add_block, add_places}
use Rattle.sequencer.specs.Passing.{Passing}
use Rattle.sequencer.proofs.Sequencer.mix_block.Given as goal

abbrev pub invariant-loop-i : goal.invariant-loop-i
invariant-loop-i l = Passing (after_block (as_span l.span)) (add_block l.pool (as_span l.span)) l.initial.mix l.order l.initial.self l.m l.i l.self l.mix
    × Passing (after_block (as_span l.span)) (add_places (as_span l.span)) no_placings l.order l.initial.self l.m l.i l.self l.places
    × (length l.mix ≡ length l.initial.mix)

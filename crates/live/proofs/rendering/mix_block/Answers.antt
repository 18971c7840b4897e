-- `live::rendering::mix_block` meets its contract.
use Rattle.std.proofs.Common.{◌<◌, refl, arith, rules}
use Rattle.mixing.specs.Placed.{source_moves}
use Rattle.sequencer.specs.Rendering.{places_pass}
use Rattle.sequencer.specs.Passing.{passing_end}
use Rattle.memory.specs.Memory.{cells_of}
use Rattle.live.proofs.Sounding.{sounds_sized, sounds-start, sounds_on}
use Rattle.live.proofs.rendering.mix_block.Goals as goal

pub loop-k-init : goal.loop-k-init
loop-k-init c = (omega (arith, c.min-m.ensures), c.sized.ensures, sounds-start _ _ _ _ _ _ c.min-m.ensures _ refl, sounds-start _ _ _ _ _ _ c.min-m.ensures _ c.new-places.ensures, refl)

pub overflow_add-slot : goal.overflow_add-slot
overflow_add-slot c = let l = c.loop-k.invariant.0 in let t = c.mix_place-slot.ensures.1 in omega (arith, l, t)

pub loop-k-preserved : goal.loop-k-preserved
loop-k-preserved c =
    let l = c.loop-k in
    let a = c.args in
    let here = cells_of a.times.now l.levels l.marks a.numbers.now in
    let most : c.mix_place-slot.result < 256 = omega (arith, l.invariant.0, c.mix_place-slot.ensures.1) in (
      l.invariant.0,
      sounds_sized here _ _ c.process_event-unit.result l.invariant.1 most c.put_unit.ensures,
      sounds_on _ _ _ a.order (source_moves _) _ _ l.k _ here l.invariant.1 l.mix _ _ _ c.loop-k-test.true c.mix_place-slot.ensures.0 most c.event_at-event.ensures
          c.process_event-unit.ensures.0 c.process_event-unit.ensures.1 l.invariant.2 _ c.put_unit.ensures,
      sounds_on _ _ _ a.order (source_moves _) _ _ l.k _ here l.invariant.1 l.places _ _ _ c.loop-k-test.true c.mix_place-slot.ensures.0 most c.event_at-event.ensures
          c.process_event-unit.ensures.0 c.count_places-places.ensures l.invariant.3 _ c.put_unit.ensures,
      search rules,
    )

pub returns : goal.returns
unfolding places_pass
returns c =
    let l = c.loop-k in
    let r = passing_end refl c.loop-k-test.false l.invariant.2 in
    record { engine = r.0; samples = r.1; places = (passing_end refl c.loop-k-test.false l.invariant.3).1 }

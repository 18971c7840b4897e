-- `live::rendering::mix_tick` meets its contract.
use Rattle.std.proofs.Common.{◌<◌, refl, ap, arith}
use lib.Ieee.{Float, of_bits}
use Rattle.floats.specs.Arithmetic.{◌+ˢ◌}
use Rattle.event.specs.declared.Event.{Event}
use Rattle.sequencer.specs.Rendering.{tick_pass}
use Rattle.sequencer.specs.Passing.{passing_end}
use Rattle.memory.specs.Memory.{cells_of}
use Rattle.live.proofs.Sounding.{tick_moves, sounds_sized, sounds-start, sounds_on}
use Rattle.live.proofs.rendering.mix_tick.Goals as goal

pub loop-k-init : goal.loop-k-init
unfolding of_bits
loop-k-init c = (omega (arith, c.min-m.ensures), c.sized.ensures, sounds-start _ _ _ _ _ _ c.min-m.ensures _ refl)

pub overflow_add-slot : goal.overflow_add-slot
overflow_add-slot c = let l = c.loop-k.invariant.0 in let t = c.mix_place-slot.ensures.1 in omega (arith, l, t)

pub loop-k-preserved : goal.loop-k-preserved
loop-k-preserved c =
    let l = c.loop-k in
    let a = c.args in
    let here = cells_of a.times.now l.levels l.marks a.numbers.now in
    let most : c.mix_place-slot.result < 256 = omega (arith, l.invariant.0, c.mix_place-slot.ensures.1) in (
      l.invariant.0,
      sounds_sized here _ _ c.after_tick-event.result.unit l.invariant.1 most c.put_unit.ensures,
      sounds_on _ _ _ a.order tick_moves _ _ l.k _ here l.invariant.1 l.sum _ _ _ c.loop-k-test.true c.mix_place-slot.ensures.0 most c.event_at-event.ensures
          (ap (λ (e : Event). e.unit) c.after_tick-event.ensures) (ap (λ (x : Float). l.sum +ˢ x) c.tick_sample-sum.ensures) l.invariant.2 _ c.put_unit.ensures,
    )

pub returns : goal.returns
unfolding tick_pass
returns c =
    let l = c.loop-k in
    let r = passing_end refl c.loop-k-test.false l.invariant.2 in
    record { engine = r.0; sample = r.1 }

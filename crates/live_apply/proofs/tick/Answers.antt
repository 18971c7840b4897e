-- `live_apply::tick` meets its contract: a tick on the front of the samples.
use Rattle.std.proofs.Common.{sym}
use Prim.Native.Nat.{ℕ}
use Rattle.event.specs.declared.MixOrder.TheVariants.{Forward}
use Rattle.sequencer.specs.Rendering.{ticks, tick_outs}
use Rattle.apply.specs.Applying.{ticking, ticking_out}
use Rattle.memory.specs.Memory.{cells_of, engine_of}
use Rattle.live_apply.proofs.Carried.{channels_of_lem, front_length, lent-engine, lent-left, lent_output}
use Rattle.live_apply.proofs.tick.Goals as goal

pub slice_bounds-tick-end-2 : goal.slice_bounds-tick-end-2
slice_bounds-tick-end-2 c = sym (front_length c.args.samples.now c.min-channels.result c.min-n.ensures)

pub returns : goal.returns
unfolding ticking ticking_out
returns c =
    let a = c.args in
    let d = cells_of a.times.now a.levels.now a.marks.now a.numbers.now in
    let s = engine_of d in
    let x = a.samples.now in
    let k = channels_of_lem d c.min-channels.ensures in
    let n = c.min-n.ensures in
    let t = c.tick-answer.ensures in
    record {
      engine = lent-engine x (λ (k : ℕ). k) k n (λ (n : ℕ). ticks Forward a.pool.now n s) 1 1 t.engine;
      answer = lent-left x (λ (k : ℕ). k) k n (λ (n : ℕ). ticks Forward a.pool.now n s) a.kind 1 1 t.answer c.sounding.ensures;
      samples = lent_output x (λ (k : ℕ). k) k n (tick_outs Forward a.pool.now s) t.samples;
    }

-- `live_apply::process` meets its contract: a block on the front of the samples.
use Rattle.std.proofs.Common.{sym}
use Prim.Native.Nat.{ℕ, ◌*◌}
use Rattle.event.specs.declared.MixOrder.TheVariants.{Forward}
use Rattle.sequencer.specs.Rendering.{blocks, block_outs}
use Rattle.apply.specs.Applying.{processing, processing_out}
use Rattle.memory.specs.Memory.{cells_of, engine_of}
use Rattle.live_apply.proofs.Carried.{channels_of_lem, front_length, lent-engine, lent-left, lent_output}
use Rattle.live_apply.proofs.process.Goals as goal

pub slice_bounds-process-end-2 : goal.slice_bounds-process-end-2
slice_bounds-process-end-2 c = sym (front_length c.args.samples.now (64 * c.min-channels.result) c.min-n.ensures)

pub returns : goal.returns
unfolding processing processing_out
returns c =
    let a = c.args in
    let d = cells_of a.times.now a.levels.now a.marks.now a.numbers.now in
    let s = engine_of d in
    let x = a.samples.now in
    let k = channels_of_lem d c.min-channels.ensures in
    let n = c.min-n.ensures in
    let t = c.process-answer.ensures in
    record {
      engine = lent-engine x (λ (k : ℕ). 64 * k) k n (λ (n : ℕ). blocks Forward a.pool.now a.size n s) a.size 64 t.engine;
      answer = lent-left x (λ (k : ℕ). 64 * k) k n (λ (n : ℕ). blocks Forward a.pool.now a.size n s) a.kind a.size 64 t.answer c.sounding.ensures;
      samples = lent_output x (λ (k : ℕ). 64 * k) k n (block_outs Forward a.pool.now a.size s) t.samples;
    }

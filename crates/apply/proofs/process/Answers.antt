-- `apply::process` meets its contract. Assumes nothing.
use mathlib.Core.Path.{sym}
use Prim.Native.Nat.{ℕ, ◌*◌}
use Rattle.event.specs.declared.MixOrder.TheVariants.{Forward}
use Rattle.sequencer.specs.Rendering.{blocks, block_outs}
use Rattle.apply.specs.Applying.{processing, processing_out}
use Rattle.apply.proofs.Lent.{front_length, lent-answer, lent_output}
use Rattle.apply.proofs.process.Goals as goal

pub slice_bounds-process-end-2 : goal.slice_bounds-process-end-2
slice_bounds-process-end-2 c = sym (front_length c.args.out.now (64 * c.min-channels.result) c.min-n.ensures)

pub returns : goal.returns
unfolding processing processing_out
returns c =
    let t = c.process-r.ensures in
    let d = c.before in
    let a = d.args in record { value = lent-answer a.out.now (λ (k : ℕ). 64 * k) d.min-channels.ensures d.min-n.ensures (λ (n : ℕ). blocks Forward a.pool.now a.size n a.s) a.size 64 t.0 c.sounding.ensures; out_after = lent_output a.out.now (λ (k : ℕ). 64 * k) d.min-channels.ensures d.min-n.ensures (block_outs Forward a.pool.now a.size a.s) t.1 }

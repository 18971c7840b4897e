-- `apply::tick` meets its contract. Assumes nothing.
use mathlib.Core.Path.{sym}
use Prim.Native.Nat.{ℕ}
use Rattle.event.specs.declared.MixOrder.TheVariants.{Forward}
use Rattle.sequencer.specs.Rendering.{ticks, tick_outs}
use Rattle.apply.specs.Applying.{ticking, ticking_out}
use Rattle.apply.proofs.Lent.{front_length, lent-answer, lent_output}
use Rattle.apply.proofs.tick.Goals as goal

pub slice_bounds-tick-end-2 : goal.slice_bounds-tick-end-2
slice_bounds-tick-end-2 c = sym (front_length c.args.out.now c.min-channels.result c.min-n.ensures)

pub returns : goal.returns
unfolding ticking ticking_out
returns c =
    let t = c.tick-r.ensures in
    let d = c.before in
    let a = d.args in record { value = lent-answer a.out.now (λ (k : ℕ). k) d.min-channels.ensures d.min-n.ensures (λ (n : ℕ). ticks Forward a.pool.now n a.s) 1 1 t.0 c.sounding.ensures; out_after = lent_output a.out.now (λ (k : ℕ). k) d.min-channels.ensures d.min-n.ensures (tick_outs Forward a.pool.now a.s) t.1 }

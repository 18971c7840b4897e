-- `live::rendering::tick` meets its contract.
use Rattle.std.proofs.Common.{refl, ap, ◌∙◌, arith, ne_eqb}
use Rattle.refusals.specs.Numbers.{refusal_number, refused_is}
use Rattle.memory.specs.Memory.{cells_of}
use Rattle.live.proofs.Begun.{tick_refused_in, tick_done_in}
use Rattle.live.proofs.rendering.tick.Goals as goal

pub returns-in-Some : goal.returns-in-Some
returns-in-Some c =
    let a = c.args in
    let k = refused_is _ _ _ c.tick_refusal.ensures c.in-Some.is in
    let r = tick_refused_in a.order (cells_of a.times.now a.levels.now a.marks.now a.numbers.now) a.pool.now a.out.now _ (c.number.ensures ∙ k.0) (ne_eqb _ 0 (λ e. absurd (omega (arith, e, c.number.ensures ∙ k.0, k.1)))) in
    record { engine = r.0; samples = r.1.0; answer = r.1.1; refused = λ h. refl }

pub returns : goal.returns
returns c =
    let a = c.args in
    let r = tick_done_in a.order (cells_of a.times.now a.levels.now a.marks.now a.numbers.now) a.pool.now a.out.now _ c.tick_refusal.ensures (ap refusal_number c.in_default.is) _ _ _ _ c.advance.ensures c.mix_tick-sum.ensures.engine c.mix_tick-sum.ensures.sample c.set_all.ensures in
    record { engine = r.0; samples = r.1.0; answer = r.1.1; refused = λ h. absurd h }

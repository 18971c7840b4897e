-- `live::resets::set_sample_rate` meets its contract.
use Rattle.std.proofs.Common.{refl, ap, ◌∙◌, arith, ne_eqb}
use lib.Ieee.{of_bits, neg, div}
use Rattle.refusals.specs.Numbers.{refusal_number, refused_is}
use Rattle.memory.specs.Memory.{cells_of}
use Rattle.live.proofs.Again.{rate-refused, rate-same, rate-other}
use Rattle.live.proofs.resets.set_sample_rate.Goals as goal

pub returns-in-Some : goal.returns-in-Some
returns-in-Some c =
    let k = refused_is _ _ _ c.rate_refusal.ensures c.in-Some.is in
    let r = rate-refused _ _ _ (c.number.ensures ∙ k.0) (ne_eqb _ 0 (λ e. absurd (omega (arith, e, c.number.ensures ∙ k.0, k.1)))) in
    record { engine = r.0; answer = r.1; refused = λ h. refl }

pub returns-then-times-rate : goal.returns-then-times-rate
returns-then-times-rate c =
    let a = c.args in
    let r = rate-same (cells_of a.times.now a.levels.now a.marks.now a.numbers.now) _ _ c.rate_refusal.ensures (ap refusal_number c.in_default.is) c.if-times-rate.true in
    record { engine = r.0; answer = r.1; refused = λ h. absurd h }

pub returns : goal.returns
unfolding of_bits neg div
returns c =
    let a = c.args in
    let r = rate-other (cells_of a.times.now a.levels.now a.marks.now a.numbers.now) _ _ c.rate_refusal.ensures (ap refusal_number c.in_default.is) c.if-times-rate.false _ c.sized.ensures c.all_to_ready.ensures _ _ refl refl in
    record { engine = r.0; answer = r.1; refused = λ h. absurd h }

-- `live::pushes::push_to` meets its contract.
use Rattle.std.proofs.Common.{refl, ap, ◌∙◌, arith, ne_eqb}
use Rattle.refusals.specs.Numbers.{refusal_number, refused_is}
use Rattle.memory.specs.Memory.{cells_of}
use Rattle.live.proofs.Entering.{refused_in, accepted_in}
use Rattle.live.proofs.pushes.push_to.Goals as goal

pub returns-in-Some : goal.returns-in-Some
returns-in-Some c =
    let a = c.args in
    let k = refused_is _ _ _ c.refusal_of.ensures c.in-Some.is in
    let r = refused_in (cells_of a.times.now a.levels.now a.marks.now a.numbers.now) _ _ _ a.stated.from a.stated.until a.voice.fade_ease _ _ _ _ _ (c.number.ensures ∙ k.0) (ne_eqb _ 0 (λ e. absurd (omega (arith, e, c.number.ensures ∙ k.0, k.1)))) in
    record { engine = r.0; answer = r.1.0; rise = r.1.1; refused = λ h. refl }

pub returns : goal.returns
returns c =
    let a = c.args in
    let r = accepted_in (cells_of a.times.now a.levels.now a.marks.now a.numbers.now) _ _ _ a.stated.from a.stated.until a.voice.fade_ease _ _ _ _ _ c.refusal_of.ensures (ap refusal_number c.in_default.is)
    _ c.sized.ensures _ _ _ c.new_event-event.ensures refl (c.push_event-rise.ensures.engine, c.push_event-rise.ensures.rise) in
    record { engine = r.0; answer = r.1.0; rise = r.1.1; refused = λ h. absurd h }

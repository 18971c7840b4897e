-- `live::rendering::process` meets its contract.
use Rattle.std.proofs.Common.{length, get_or, refl, ap, ◌∙◌, arith, ne_eqb}
use lib.Ieee.{of_bits}
use Rattle.mixing.specs.declared.Span as MixSpans
use Rattle.refusals.specs.Refusals.{process_refusal}
use Rattle.refusals.specs.Numbers.{refusal_number, refused_is}
use Rattle.memory.specs.Memory.{cells_of}
use Rattle.live.proofs.Begun.{block-refused_in, block_done_in, mix_is}
use Rattle.live.proofs.rendering.process.Goals as goal

pub returns-in-Some : goal.returns-in-Some
returns-in-Some c =
    let a = c.args in
    let told = c.process_refusal.ensures ∙ ap (λ (x : MixSpans.Span). process_refusal a.size (length a.out.now) (get_or a.numbers.now 1284 0) x.clock x.duration) c.span_of-span.ensures in
    let k = refused_is _ _ _ told c.in-Some.is in
    let r = block-refused_in a.order (cells_of a.times.now a.levels.now a.marks.now a.numbers.now) a.pool.now a.out.now a.size _ (c.number.ensures ∙ k.0) (ne_eqb _ 0 (λ e. absurd (omega (arith, e, c.number.ensures ∙ k.0, k.1)))) in
    record { engine = r.0; samples = r.1.0; answer = r.1.1; refused = λ h. refl }

pub returns : goal.returns
unfolding of_bits
returns c =
    let a = c.args in
    let told = c.process_refusal.ensures ∙ ap (λ (x : MixSpans.Span). process_refusal a.size (length a.out.now) (get_or a.numbers.now 1284 0) x.clock x.duration) c.span_of-span.ensures in
    let r = block_done_in a.order (cells_of a.times.now a.levels.now a.marks.now a.numbers.now) a.pool.now a.out.now a.size _ told (ap refusal_number c.in_default.is) _ _ _ _ _ _ c.span_of-span.ensures
    (mix_is _ _ c.cleared_places-w.ensures) c.advance.ensures c.mix_channels-places.ensures.engine c.mix_channels-places.ensures.samples c.mix_channels-places.ensures.places in
    record { engine = r.0; samples = r.1.0; answer = r.1.1; refused = λ h. absurd h }

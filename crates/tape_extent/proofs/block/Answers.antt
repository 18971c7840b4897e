-- `tape_extent::block` meets its contract. Assumes nothing.
use Rattle.std.proofs.Common.{sym, ◌∙◌}
use Rattle.floats.specs.Arithmetic.{◌+ᵈ◌, ◌×ᵈ◌}
use Rattle.floats.specs.WholeIs.{whole_is}
use Rattle.tape_extent.specs.Paces.{rendering, paced}
use Rattle.tape_extent.proofs.block.Goals as goal

pub returns : goal.returns
unfolding paced
returns c =
    let d = c.before.before.before.before in
    let a = d.args in
    c.rendered.ensures
    ∙ (λ i. rendering a.p a.size (d.process_refusal-refusal.ensures i) (a.p.time +ᵈ a.p.duration ×ᵈ (c.nearest_u64_to_f64.ensures ∙ sym (whole_is a.size)) i))

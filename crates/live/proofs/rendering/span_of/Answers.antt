-- `live::rendering::span_of` meets its contract.
use Rattle.std.proofs.Common.{get_or, sym, ap, ◌∙◌}
use lib.Ieee.{Float, nan}
use Rattle.floats.specs.Arithmetic.{◌+ᵈ◌, ◌×ᵈ◌}
use Rattle.floats.specs.WholeIs.{whole_is}
use Rattle.live.proofs.rendering.span_of.Goals as goal

pub returns : goal.returns
returns c =
    let t = c.args.times.now in
    ap (λ (x : Float). record {
      size = c.args.size;
      clock = get_or t 3072 nan;
      upto = get_or t 3072 nan +ᵈ get_or t 3075 nan ×ᵈ x;
      rate = get_or t 3074 nan;
      duration = get_or t 3075 nan;
    }) (c.nearest_u64_to_f64.ensures ∙ sym (whole_is _))

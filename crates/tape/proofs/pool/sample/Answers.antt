-- `tape::pool::sample` meets its contract. Assumes nothing.
use Rattle.std.proofs.Common.{sym, ap, ◌∙◌}
use lib.Ieee.{Float, round, of_bits}
use Rattle.floats.specs.Arithmetic.{◌÷ᵈ◌, whole}
use Rattle.floats.specs.WholeIs.{whole_is}
use Rattle.floats.specs.Floats.{narrowed}
use Rattle.tape.proofs.pool.sample.Goals as goal

pub returns : goal.returns
unfolding of_bits whole round
returns c = c.narrow.ensures ∙ ap (λ (x : Float). narrowed (x ÷ᵈ whole 4_096)) (c.nearest_u64_to_f64.ensures ∙ sym (whole_is c.args.k))

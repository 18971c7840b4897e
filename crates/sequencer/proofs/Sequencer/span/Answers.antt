-- `sequencer::Sequencer::span` meets its contract.
use Rattle.std.proofs.Common.{sym, ap, ◌∙◌}
use lib.Ieee.{Float}
use Rattle.floats.specs.Arithmetic.{◌+ᵈ◌, ◌×ᵈ◌}
use Rattle.floats.specs.WholeIs.{whole_is}
use Rattle.sequencer.proofs.Sequencer.span.Goals as goal

pub returns : goal.returns
returns c =
    let a = c.args in
    let s = a.self in
    ap (λ (x : Float). record { size = a.size; clock = s.time; upto = s.time +ᵈ s.sample_duration ×ᵈ x; rate = s.sample_rate; duration = s.sample_duration })
    (c.nearest_u64_to_f64.ensures ∙ sym (whole_is _))

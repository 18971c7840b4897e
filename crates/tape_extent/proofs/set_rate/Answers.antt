-- `tape_extent::set_rate` meets its contract. Assumes nothing.
use Rattle.std.proofs.Common.{sym, ◌∙◌}
use Rattle.tape_extent.specs.Paces.{paced}
use lib.Ieee.{of_bits}
use Rattle.tape_extent.proofs.Taken.{none-applies, one-applies}
use Rattle.tape_extent.proofs.set_rate.Goals as goal
use Rattle.tape_extent.proofs.set_rate.Goals.{then-is_some-via-then-is_some, then-is_some-via-else-is_some+then-p-rate}

pub returns-then-is_some : goal.returns-then-is_some
unfolding paced
returns-then-is_some c = elim c.then-is_some.branch [
  | then-is_some-via-then-is_some w ↦
      rw (← c.rate_refusal.ensures, one-applies _ (sym c.is_some.ensures ∙ w.if-is_some.true), c.without_samples.ensures)
  | then-is_some-via-else-is_some+then-p-rate w ↦
      rw (← c.rate_refusal.ensures, none-applies _ (sym c.is_some.ensures ∙ w.if-is_some.false), w.if-p-rate.true, c.without_samples.ensures)
]

pub returns : goal.returns
unfolding paced of_bits
returns c =
    rw (← c.rate_refusal.ensures, none-applies _ (sym c.is_some.ensures ∙ c.if-is_some.false), c.if-p-rate.false, c.without_samples-2.ensures)

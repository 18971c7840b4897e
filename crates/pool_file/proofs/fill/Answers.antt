use Rattle.pool_file.proofs.Gathering.{begins, next, goes_on, wrong}
use Rattle.pool_file.proofs.fill.Goals as goal

pub loop-init : goal.loop-init
loop-init g c = begins _ _ c.requires

pub returns-in_err-s-clause-samples : goal.returns-in_err-s-clause-samples
returns-in_err-s-clause-samples g c = wrong _ c.from_residual.ensures.0 (next c.loop.invariant c.in_err-s.ensures)

pub returns-then-s-clause-samples : goal.returns-then-s-clause-samples
returns-then-s-clause-samples g c = next c.loop.invariant c.in_ok-s.ensures

pub loop-preserved : goal.loop-preserved
loop-preserved g c = goes_on c.loop.invariant c.in_ok-s.ensures

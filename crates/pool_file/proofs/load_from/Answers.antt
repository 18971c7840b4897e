use Rattle.pool_file.proofs.Gathering.{none, loaded, failed, not_loaded}
use Rattle.pool_file.proofs.load_from.Goals as goal

pub returns-in_err-p : goal.returns-in_err-p
returns-in_err-p g c = not_loaded _ c.from_residual.ensures.0 (none _)

pub returns-in_err-all : goal.returns-in_err-all
returns-in_err-all g c = not_loaded _ c.from_residual-in_err-all.ensures.0 (failed c.in_err-all.ensures.samples)

pub returns : goal.returns
returns g c = loaded c.in_ok-all.ensures.samples

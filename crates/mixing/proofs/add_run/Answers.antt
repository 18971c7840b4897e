-- `mixing::add_run` meets its contract. Assumes nothing.
use Rattle.mixing.proofs.add_run.Goals as goal

pub returns : goal.returns
returns c = (
  rw (c.fill_run-unit.ensures.1, c.requires),
  rw (c.add_at.ensures, c.fade_out.ensures, c.fade_in.ensures, c.apply_gain.ensures, c.fill_run-unit.ensures.0, c.requires),
)

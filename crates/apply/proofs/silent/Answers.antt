-- `apply::silent` meets its contract. Assumes nothing.
use Rattle.apply.proofs.silent.Goals as goal

pub returns : goal.returns
returns c = simp c.refusal-n.ensures

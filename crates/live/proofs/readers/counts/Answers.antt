-- `live::readers::counts` meets its contract.
use Rattle.std.proofs.Common.{refl}
use Rattle.memory.specs.Memory.{engine_of}
use Rattle.live.proofs.readers.counts.Goals as goal

pub returns : goal.returns
unfolding engine_of
returns c = refl

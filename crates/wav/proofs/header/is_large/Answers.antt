-- `wav::header::is_large` meets its contract by the very test of the definition.
use Rattle.std.proofs.Common.{refl}
use Rattle.wav.proofs.header.is_large.Goals as goal

pub returns : goal.returns
returns c = refl

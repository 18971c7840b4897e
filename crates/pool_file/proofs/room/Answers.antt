use Rattle.std.proofs.Common.{refl}
use lib.Ieee.{of_bits}
use Rattle.pool_file.proofs.room.Goals as goal

pub returns-clause-zeros : goal.returns-clause-zeros
unfolding of_bits
returns-clause-zeros c = refl

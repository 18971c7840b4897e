use Rattle.std.proofs.Common.{refl}
use Rattle.recording.specs.Samples.{samples_from}
use Rattle.pool_file.proofs.put.Goals as goal

pub returns-then-buf-n-clause-lent : goal.returns-then-buf-n-clause-lent
unfolding samples_from
returns-then-buf-n-clause-lent c = refl

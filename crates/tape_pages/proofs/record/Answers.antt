use Rattle.std.proofs.Common.{refl, arith, []}
use Rattle.tape.specs.Tape.{read_at}
use Rattle.tape_pages.proofs.record.Goals as goal

pub returns-then-at-gt9223372036854775807 : goal.returns-then-at-gt9223372036854775807
unfolding read_at
returns-then-at-gt9223372036854775807 g c = record { bytes = []; few = omega arith; is = refl }

pub returns-in-Err : goal.returns-in-Err
unfolding read_at
returns-in-Err g c = record { bytes = []; few = omega arith; is = refl }

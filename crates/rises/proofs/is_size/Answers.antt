use Rattle.std.proofs.Common.{lt-ltb, le-ltb}
use Rattle.rises.specs.Answers.{is_size}
use Rattle.rises.proofs.is_size.Goals as goal

pub returns-then-n-gt0 : goal.returns-then-n-gt0
unfolding is_size
returns-then-n-gt0 c = rw (lt-ltb 0 _ c.if-n-gt0.true)

pub returns-else-n-gt0 : goal.returns-else-n-gt0
unfolding is_size
returns-else-n-gt0 c = rw (le-ltb 0 _ c.if-n-gt0.false)

-- `preview::gain` meets its contract. Assumes nothing.
use borrow.Author.Tests.{le-leb, lt-leb}
use lib.Ieee.{of_bits}
use Rattle.preview.proofs.gain.Goals as goal

pub returns-then-rising : goal.returns-then-rising
unfolding of_bits
returns-then-rising c = rw (c.if-rising.true, lt-leb c.args.j 1024 c.if-j-gt1024.true)

pub returns-then-j-gt1024 : goal.returns-then-j-gt1024
unfolding of_bits
returns-then-j-gt1024 c = rw (c.if-rising.false, lt-leb c.args.j 1024 c.if-j-gt1024.true)

pub returns-then-rising-2 : goal.returns-then-rising-2
returns-then-rising-2 c = rw (c.if-rising-2.true, le-leb c.args.j 1024 c.if-j-gt1024.false)

pub returns : goal.returns
returns c = rw (c.if-rising-2.false, le-leb c.args.j 1024 c.if-j-gt1024.false)

use mathlib.Core.Path.{◌≡◌}
use borrow.Author.Rules.{rules}
use Rattle.tape_words.proofs.put_either.Goals as goal

pub returns-then-holds : goal.returns-then-holds
returns-then-holds c =
    rw c.if-holds.true c.put_bytes.ensures

pub returns : goal.returns
returns c =
    rw c.if-holds.false c.put_bytes-2.ensures

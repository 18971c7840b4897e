-- `listing::pieces::has_room` meets its contract. Assumes nothing.
use mathlib.Core.Path.{sym, ◌∙◌}
use Prim.Native.Nat.{◌+◌}
use native.Mathlib.Omega.{arith}
use borrow.Author.Tests.{lt-leb}
use Rattle.listing.proofs.Adding.{room-behind}
use Rattle.listing.proofs.pieces.has_room.Goals as goal

pub returns-then-at-len : goal.returns-then-at-len
returns-then-at-len c = let a = c.args in room-behind a.len a.at a.n c.if-at-len.true

pub returns-else-at-len : goal.returns-else-at-len
returns-else-at-len c = let a = c.args in let h = c.if-at-len.false in lt-leb a.at a.len h ∙ sym (lt-leb (a.at + a.n) a.len (omega arith))

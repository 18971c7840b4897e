-- `listing::pieces::put_bytes` meets its contract: the bytes are copied, or have no room. Assumes nothing.
use Rattle.std.proofs.Common.{◌+◌, ◌-◌, ◌≤◌, length, sym, ap, ◌∙◌, refl}
use borrow.Rule.Slice.PartMut.{put_mid}
use borrow.Author.Tests.{leb-true}
use Rattle.listing.proofs.Adding.{added, left_out, copied}
use Rattle.listing.proofs.pieces.put_bytes.Goals as goal

pub returns-then-has_room : goal.returns-then-has_room
returns-then-has_room c =
    let a = c.args in
    let room : a.at + length a.bytes.now ≤ length a.out.now = leb-true _ _ (sym c.has_room.ensures ∙ c.if-has_room.true) in
    added a.bytes.now a.out.now _ a.at (length a.bytes.now) refl (sym c.has_room.ensures ∙ c.if-has_room.true) (ap (put_mid a.at (a.at + length a.bytes.now - a.at) a.out.now) c.copy_from_slice.ensures.after ∙ copied a.bytes.now a.out.now a.at room)

pub returns : goal.returns
returns c =
    let a = c.args in
    left_out a.bytes.now a.out.now a.at (length a.bytes.now) refl (sym c.has_room.ensures ∙ c.if-has_room.false)

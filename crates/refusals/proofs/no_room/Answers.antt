-- `refusals::no_room` meets its contract: what `roomless` is where the tests tell of its two options. Assumes nothing.
use Rattle.std.proofs.Common.{◌≡◌, ℕ, Bool, true, false, not, leb, sym, refl, ap, ◌∙◌, true≢false, le-leb}
use Rattle.std.specs.Option.{is_some}
use Rattle.std.specs.declared.option.Option.{Option}
use Rattle.std.specs.declared.option.Option.TheVariants.{Some, None}
use borrow.Author.Tests.{lt-leb}
use Rattle.event.specs.declared.Edit.{Edit}
use Rattle.refusals.specs.Refusals.{no_room, roomless}
use Rattle.refusals.proofs.no_room.Goals as goal
use Rattle.refusals.proofs.no_room.Goals.{then-is_some-via-then-is_some, then-is_some-via-else-is_some+then-end-threshold}

sounding : (o : Option ℕ) (over : Bool) (e : Option Edit) (n : ℕ) → is_some o ≡ true → false ≡ roomless o over e n
unfolding roomless
sounding (Some i) over e n h = refl
sounding None over e n h = absurd (true≢false (sym h))

past : (o : Option ℕ) (e : Option Edit) (n : ℕ) → false ≡ roomless o true e n
unfolding roomless
past (Some i) e n = refl
past None e n = refl

few : (o : Option ℕ) (e : Option Edit) (n : ℕ) → leb 256 n ≡ false → false ≡ roomless o false e n
unfolding roomless
few (Some i) e n h = refl
few None (Some d) n h = refl
few None None n h = sym h

many : (o : Option ℕ) (e : Option Edit) (n : ℕ) (r : Bool) → is_some o ≡ false → is_some e ≡ not r → leb 256 n ≡ true → r ≡ roomless o false e n
unfolding roomless
many (Some i) e n r h k q = absurd (true≢false h)
many None (Some d) n true h k q = absurd (true≢false k)
many None (Some d) n false h k q = refl
many None None n true h k q = sym q
many None None n false h k q = absurd (true≢false (sym k))

pub returns-then-is_some : goal.returns-then-is_some
unfolding no_room
returns-then-is_some c = elim c.then-is_some.branch [
  | then-is_some-via-then-is_some w ↦ sounding _ _ _ _ (sym c.is_some.ensures ∙ w.if-is_some.true)
  | then-is_some-via-else-is_some+then-end-threshold w ↦ rw w.if-end-threshold.true (past _ _ _)
]

pub returns-then-edits-ge256 : goal.returns-then-edits-ge256
unfolding no_room
returns-then-edits-ge256 c =
    rw c.if-end-threshold.false
    (many _ _ _ _ (sym c.is_some.ensures ∙ c.if-is_some.false) (ap is_some (sym c.find.ensures) ∙ c.is_none.ensures) (le-leb 256 _ c.if-edits-ge256.true))

pub returns-else-edits-ge256 : goal.returns-else-edits-ge256
unfolding no_room
returns-else-edits-ge256 c =
    let q = lt-leb 256 _ c.if-edits-ge256.false in
    rw c.if-end-threshold.false (q ∙ few _ _ _ q)

-- How much room a rendering needs: the bytes of the tape's extent (crate tape_extent) are the least room in which nothing is left out, whatever the pool. Assumes nothing.
use Prim.Native.Nat.{ℕ, zero, suc, ◌+◌, ◌-◌, ◌^◌, ◌≤◌, ◌<◌}
use Rattle.std.specs.Prelude.{Bool, ◌≡◌, ltb, eqb, Float}
use Rattle.std.proofs.Math.Bool.{true, false, cond}
use Rattle.std.proofs.Math.Path.{refl, sym, ap}
use Rattle.std.proofs.Common.{◌∙◌, le-ltb, ltb-false}
use mathlib.Core.List.{List, [], ◌++◌}
use native.Mathlib.Omega.{arith}
use Rattle.std.proofs.Math.ListN.{length, length-append}
use Rattle.event.specs.declared.ReplayMode.TheVariants.{All}
use Rattle.ledger.specs.Ledger.{Ledger, fresh}
use Rattle.tape.specs.declared.reader.Call.{Call}
use Rattle.tape.specs.declared.reader.Cursor.{Cursor}
use Rattle.tape.specs.declared.reader.Read.{Read}
use Rattle.tape.specs.declared.reader.Read.TheVariants.{Record, Refused, End}
use Rattle.tape.specs.Tape.{read_at}
use Rattle.record_output.specs.Bytes.{bytes_of}
use Rattle.tape_extent.specs.declared.Extent.{Extent}
use Rattle.tape_extent.specs.Playing.{Played, play}
use Rattle.tape_extent.specs.Extents as Extents
use Rattle.tape_extent.specs.Extents.{nothing, longer, counted, ended_by, extent_from, whole_extent, counts64, extent_of}
use Rattle.render.specs.Rendering.{Rest, after_record, after_read, rendered_from, rendered_with}
use Rattle.render.specs.Room.{Grows, Whole, Same, Within, heard_in}

module _ (X : Extents.Rest) (call : Call) (p : Played) (next : Cursor) where
  grows_record : Grows X → (x : Extent) → x.bytes ≤ (Extents.after_record X call p next x).bytes
  unfolding Extents.after_record longer
  grows_record g x = go (eqb p.refusal 1)
    where
      go : (b : Bool) → x.bytes ≤ (cond b (ended_by x p.ledger.channels 1) (X p.ledger next (counted x call p))).bytes
      go true = omega arith
      go false = let h = g p.ledger next (counted x call p) in omega arith

  -- what is left of the room after a record that is heard whole
  module _ (g : Grows X) (R : Rest) (x : Extent) where
    fits : (room : ℕ) → (X p.ledger next (counted x call p)).bytes ≤ x.bytes + room → length (bytes_of p.samples) ≤ room
    unfolding longer
    fits room h = let k = g p.ledger next (counted x call p) in omega arith

    heard-whole : (room : ℕ) → (X p.ledger next (counted x call p)).bytes ≤ x.bytes + room
        → heard_in R p next room ≡ bytes_of p.samples ++ R p.ledger next (room - length (bytes_of p.samples))
    heard-whole room h =
        let n : ℕ = length (bytes_of p.samples) in
        ap (λ (z : Bool). cond z [] (bytes_of p.samples ++ R p.ledger next (room - n))) (le-ltb room n (fits room h))

    whole_record : Whole X R → (room : ℕ) → (Extents.after_record X call p next x).bytes ≤ x.bytes + room → x.bytes + length (after_record R p next room) ≡ (Extents.after_record X call p next x).bytes
    unfolding Extents.after_record after_record longer
    whole_record w room = go (eqb p.refusal 1)
      where
        go : (b : Bool) → (let e = cond b (ended_by x p.ledger.channels 1) (X p.ledger next (counted x call p)) in e.bytes ≤ x.bytes + room → x.bytes + length (cond b [] (heard_in R p next room)) ≡ e.bytes)
        go true h = omega arith
        go false h =
            let n : ℕ = length (bytes_of p.samples) in
            let tail : List ℕ = R p.ledger next (room - n) in
            let m = fits room h in
            let k = w p.ledger next (counted x call p) (room - n) (omega arith) in
            ap (λ (z : List ℕ). x.bytes + length z) (heard-whole room h) ∙ omega (arith, length-append (bytes_of p.samples) tail)

    same_record : Same X R → (room more : ℕ) → (Extents.after_record X call p next x).bytes ≤ x.bytes + room → (Extents.after_record X call p next x).bytes ≤ x.bytes + more
        → after_record R p next room ≡ after_record R p next more
    unfolding Extents.after_record after_record longer
    same_record s room more = go (eqb p.refusal 1)
      where
        go : (b : Bool) → (let e = cond b (ended_by x p.ledger.channels 1) (X p.ledger next (counted x call p)) in e.bytes ≤ x.bytes + room → e.bytes ≤ x.bytes + more
            → cond b [] (heard_in R p next room) ≡ cond b [] (heard_in R p next more))
        go true h k = refl
        go false h k =
            let n : ℕ = length (bytes_of p.samples) in
            let a = fits room h in
            let b = fits more k in
            heard-whole room h
            ∙ ap (λ (z : List ℕ). bytes_of p.samples ++ z) (s p.ledger next (counted x call p) (room - n) (more - n) (omega arith) (omega arith)) ∙ sym (heard-whole more k)

within_record : (R : Rest) → Within R → (p : Played) (next : Cursor) (room : ℕ) → length (after_record R p next room) ≤ room
unfolding after_record
within_record R w p next room = go (eqb p.refusal 1)
  where
    n : ℕ
    n = length (bytes_of p.samples)

    held : (b : Bool) → ltb room n ≡ b → length (cond b [] (bytes_of p.samples ++ R p.ledger next (room - n))) ≤ room
    held true e = omega arith
    held false e =
        let k = ltb-false room n e in
        let m = w p.ledger next (room - n) in
        omega (arith, length-append (bytes_of p.samples) (R p.ledger next (room - n)))

    go : (b : Bool) → length (cond b [] (heard_in R p next room)) ≤ room
    go true = omega arith
    go false = held (ltb room n) refl

-- ---- from nothing on

from_nothing : (X : Extents.Rest) (R : Rest) → Whole X R → (l : Ledger) (c : Cursor) (x : Extent) → x.bytes ≡ 0 → (room : ℕ) → (X l c x).bytes ≤ room → length (R l c room) ≡ (X l c x).bytes
from_nothing X R w l c x z room h = let k = w l c x room (omega arith) in omega arith

same-nothing : (X : Extents.Rest) (R : Rest) → Same X R → (l : Ledger) (c : Cursor) (x : Extent) → x.bytes ≡ 0 → (room : ℕ) → (X l c x).bytes ≤ room → R l c room ≡ R l c (X l c x).bytes
same-nothing X R s l c x z room h = s l c x room (X l c x).bytes (omega arith) (omega arith)

-- ---- all records

module _ (pool : List Float) where
  read_grows : (X : Extents.Rest) → Grows X → (r : Read) (l : Ledger) (x : Extent) → x.bytes ≤ (Extents.after_read pool X r l x).bytes
  unfolding Extents.after_read
  read_grows X g (Record k call next) l x = grows_record X call (play pool l call) next g x
  read_grows X g (Refused k n) l x = omega arith
  read_grows X g End l x = omega arith

  read_whole : (X : Extents.Rest) → Grows X → (R : Rest) → Whole X R → (r : Read) (l : Ledger) (x : Extent) (room : ℕ) → (Extents.after_read pool X r l x).bytes ≤ x.bytes + room
      → x.bytes + length (after_read pool R r l room) ≡ (Extents.after_read pool X r l x).bytes
  unfolding Extents.after_read after_read
  read_whole X g R w (Record k call next) l x room h = whole_record X call (play pool l call) next g R x w room h
  read_whole X g R w (Refused k n) l x room h = omega arith
  read_whole X g R w End l x room h = omega arith

  read_same : (X : Extents.Rest) → Grows X → (R : Rest) → Same X R → (r : Read) (l : Ledger) (x : Extent) (room more : ℕ) → (Extents.after_read pool X r l x).bytes ≤ x.bytes + room
      → (Extents.after_read pool X r l x).bytes ≤ x.bytes + more → after_read pool R r l room ≡ after_read pool R r l more
  unfolding Extents.after_read after_read
  read_same X g R s (Record k call next) l x room more h m = same_record X call (play pool l call) next g R x s room more h m
  read_same X g R s (Refused k n) l x room more h m = refl
  read_same X g R s End l x room more h m = refl

  read-within : (R : Rest) → Within R → (r : Read) (l : Ledger) (room : ℕ) → length (after_read pool R r l room) ≤ room
  unfolding after_read
  read-within R w (Record k call next) l room = within_record R w (play pool l call) next room
  read-within R w (Refused k n) l room = omega arith
  read-within R w End l room = omega arith

module _ (pool : List Float) (t : List ℕ) where
  grows : (f : ℕ) → Grows (extent_from pool t f)
  unfolding extent_from
  grows zero l c x = omega arith
  grows (suc f) l c x = read_grows pool (extent_from pool t f) (grows f) (read_at t c) l x

  whole_from : (f : ℕ) → Whole (extent_from pool t f) (rendered_from pool t f)
  unfolding extent_from rendered_from
  whole_from zero l c x room h = omega arith
  whole_from (suc f) l c x room h = read_whole pool (extent_from pool t f) (grows f) (rendered_from pool t f) (whole_from f) (read_at t c) l x room h

  same_from : (f : ℕ) → Same (extent_from pool t f) (rendered_from pool t f)
  unfolding extent_from rendered_from
  same_from zero l c x room more h k = refl
  same_from (suc f) l c x room more h k = read_same pool (extent_from pool t f) (grows f) (rendered_from pool t f) (same_from f) (read_at t c) l x room more h k

  within-from : (f : ℕ) → Within (rendered_from pool t f)
  unfolding rendered_from
  within-from zero l c room = omega arith
  within-from (suc f) l c room = read-within pool (rendered_from pool t f) (within-from f) (read_at t c) l room

  -- ---- the whole tape

  -- with so much room, or more, nothing is left out
  pub whole_room : (room : ℕ) → (whole_extent pool t).bytes ≤ room → length (rendered_with pool t room) ≡ (whole_extent pool t).bytes
  unfolding rendered_with whole_extent nothing
  whole_room room h = from_nothing (extent_from pool t (length t)) (rendered_from pool t (length t)) (whole_from (length t)) (fresh 1 All 1) (record { at = 0; first = true }) nothing refl room h

  pub same-room : (room : ℕ) → (whole_extent pool t).bytes ≤ room → rendered_with pool t room ≡ rendered_with pool t (whole_extent pool t).bytes
  unfolding rendered_with whole_extent nothing
  same-room room h = same-nothing (extent_from pool t (length t)) (rendered_from pool t (length t)) (same_from (length t)) (fresh 1 All 1) (record { at = 0; first = true }) nothing refl room h

  -- with less, something is
  pub less-room : (room : ℕ) → room < (whole_extent pool t).bytes → length (rendered_with pool t room) < (whole_extent pool t).bytes
  unfolding rendered_with
  less-room room h = let k = within-from (length t) (fresh 1 All 1) (record { at = 0; first = true }) room in omega arith

  -- the bytes of the extent, where they are below the greatest count of 64 bits
  pub extent_room : (extent_of pool t).bytes < 2 ^ 64 - 1 → (room : ℕ) → (extent_of pool t).bytes ≤ room
      → (length (rendered_with pool t room) ≡ (extent_of pool t).bytes) × (rendered_with pool t room ≡ rendered_with pool t (extent_of pool t).bytes)
  unfolding counts64
  extent_room b room h =
      let n : ℕ = (whole_extent pool t).bytes in
      let e : n ≡ (extent_of pool t).bytes = omega arith in
      let m : n ≤ room = omega arith in
      (whole_room room m ∙ e, same-room room m ∙ ap (rendered_with pool t) e)

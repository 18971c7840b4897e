-- How much room a rendering needs: the bytes of the tape's extent (crate tape_extent) are the least room in which nothing is left out, whatever the pool. Assumes nothing.
use Prim.Native.Nat.{ℕ, ◌+◌, ◌-◌, ◌≤◌}
use Rattle.std.specs.Prelude.{◌≡◌, ltb}
use Rattle.std.proofs.Math.Bool.{cond}
use mathlib.Core.List.{List, [], ◌++◌}
use Rattle.std.proofs.Math.ListN.{length}
use Rattle.ledger.specs.Ledger.{Ledger}
use Rattle.tape.specs.declared.reader.Cursor.{Cursor}
use Rattle.record_output.specs.Bytes.{bytes_of}
use Rattle.tape_extent.specs.declared.Extent.{Extent}
use Rattle.tape_extent.specs.Playing.{Played}
use Rattle.tape_extent.specs.Extents as Extents
use Rattle.tape_extent.specs.Extents.{nothing, longer, counted, ended_by, extent_from, whole_extent, counts64, extent_of}
use Rattle.render.specs.Rendering.{Rest}

-- ---- the rest of a tape: its extent X, and its rendering R

-- the bytes never grow fewer
abbrev pub Grows : Extents.Rest → Type 0
Grows X = (l : Ledger) (c : Cursor) (x : Extent) → x.bytes ≤ (X l c x).bytes

-- where there is room for all, the bytes rendered are those counted
abbrev pub Whole : Extents.Rest → Rest → Type 0
Whole X R = (l : Ledger) (c : Cursor) (x : Extent) (room : ℕ) → (X l c x).bytes ≤ x.bytes + room → x.bytes + length (R l c room) ≡ (X l c x).bytes

-- and more room changes nothing
abbrev pub Same : Extents.Rest → Rest → Type 0
Same X R = (l : Ledger) (c : Cursor) (x : Extent) (room more : ℕ) → (X l c x).bytes ≤ x.bytes + room → (X l c x).bytes ≤ x.bytes + more → R l c room ≡ R l c more

abbrev pub Within : Rest → Type 0
Within R = (l : Ledger) (c : Cursor) (room : ℕ) → length (R l c room) ≤ room

-- ---- a record

-- a record that is not refused as 1
abbrev pub heard_in : Rest → Played → (next : Cursor) → (room : ℕ) → List ℕ
heard_in R p next room =
    let bytes = bytes_of p.samples in
    cond (ltb room (length bytes)) [] (bytes ++ R p.ledger next (room - length bytes))

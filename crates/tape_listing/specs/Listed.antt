-- A tape's records on the engine (crate player), as lines: with room enough they write the listing over the plain ledger. Assumes nothing.
use Prim.Native.Nat.{ℕ, ◌+◌, ◌≤◌}
use Rattle.std.specs.Prelude.{◌≡◌, Float}
use mathlib.Core.List.{List}
use Rattle.std.proofs.Math.ListN.{length}
use Rattle.ledger.specs.Ledger.{Ledger}
use Rattle.sequencer.specs.declared.Sequencer.{Sequencer}
use Rattle.tape.specs.declared.reader.Cursor.{Cursor}
use Rattle.player.specs.Records as Player
use Rattle.player.specs.Records.{Ran, stops, behind, left_by, ran_from, ran}
use Rattle.render.specs.Follows.{Follows}
use Rattle.tape_listing.specs.Listing.{Rest}

-- ---- one record, with room for any

-- the rest on the engine, in so much room, writes the rest of the listing
abbrev pub Writes : Player.Rest → Rest → Type 0
Writes rest rest' =
    (s : Sequencer) (l : Ledger) (c : Cursor) (samples : List Float) (room : ℕ) → length samples ≡ 512 → Follows s l → length (rest' l c) + 4716 ≤ room
    → (rest s c samples room).written ≡ rest' l c

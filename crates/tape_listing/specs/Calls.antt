-- The calls of `run` (crate player) by which `trail` lists a tape that it reads in pieces: the loop of `list` in crates/trail/src/main.rt.
-- What C's reads give stands in the place of the reads, and the engine in that of the four arrays that hold it (`engine_of`, crate memory). Assumes nothing.
use Rattle.std.specs.Prelude.{ℕ, zero, suc, Bool, true, false, List, [], ◌∷◌, ◌++◌, eqb, Float, length, drop}
use Rattle.event.specs.declared.ReplayMode.TheVariants.{All}
use Rattle.sequencer.specs.declared.Sequencer.{Sequencer}
use Rattle.sequencer.specs.Creation.{created}
use Rattle.tape.specs.declared.reader.Cursor.{Cursor}
use Rattle.record_output.specs.declared.Form.TheVariants.{Lines}
use Rattle.record_output.specs.declared.Pause.{Pause}
use Rattle.record_output.specs.declared.Pause.TheVariants.{End, Refused, Full, Short}
use Rattle.player.specs.Records.{Ran, ran}

-- the tape that reads give, one after the other: a read that gives no byte is the tape's end
abbrev pub tape_of : (reads : List (List ℕ)) → List ℕ
tape_of [] = []
tape_of ([] ∷ later) = []
tape_of ((b ∷ bs) ∷ later) = (b ∷ bs) ++ tape_of later

-- what the next read gives, and those after it
abbrev pub next_read : (reads : List (List ℕ)) → List ℕ
next_read [] = []
next_read (piece ∷ later) = piece

abbrev pub later_reads : (reads : List (List ℕ)) → List (List ℕ)
later_reads [] = []
later_reads (piece ∷ later) = later

-- between two calls: the engine, the cursor, the bytes at hand, whether they are all that is left of the tape, and what the reads to come give
pub record Lister : Type 0 where
  pub sequencer : Sequencer
  pub cursor : Cursor
  pub hand : List ℕ
  pub whole : Bool
  pub reads : List (List ℕ)

-- before the first call nothing is read
abbrev pub begins : (reads : List (List ℕ)) → Lister
begins reads = record { sequencer = (created 1 All 1).sequencer; cursor = record { at = 0; first = true }; hand = []; whole = false; reads = reads }

-- the call
abbrev pub call : (pool : List Float) → (room : ℕ) → Lister → Ran
call pool room t = ran Lines pool t.hand t.whole t.sequencer t.cursor room

-- It stopped for room: the next call goes on where it stopped.
abbrev pub resumed : Lister → Ran → Lister
resumed t r = record { sequencer = r.sequencer; cursor = r.cursor; hand = t.hand; whole = t.whole; reads = t.reads }

-- It stopped for bytes: those read are dropped, and the next read's come behind the others.
abbrev pub read_on : Lister → Ran → Lister
read_on t r =
    let piece = next_read t.reads in
    record {
      sequencer = r.sequencer;
      cursor = record { at = 0; first = r.cursor.first };
      hand = drop r.cursor.at t.hand ++ piece;
      whole = eqb (length piece) 0;
      reads = later_reads t.reads;
    }

-- what is written after a call that stopped so
abbrev pub written_after : (Lister → List ℕ) → Lister → Ran → Pause → List ℕ
written_after rest t r Full = rest (resumed t r)
written_after rest t r Short = rest (read_on t r)
written_after rest t r (Refused number) = []
written_after rest t r End = []

-- what n calls write at most, each lent so much room
unfoldable pub written : (pool : List Float) → (room n : ℕ) → Lister → List ℕ
written pool room zero t = []
written pool room (suc n) t =
    let r = call pool room t in
    r.written ++ written_after (written pool room n) t r r.pause

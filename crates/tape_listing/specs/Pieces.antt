-- A tape that arrives in pieces: whatever they are, the calls by which `trail` lists it write its listing. Assumes nothing.
use Prim.Native.Nat.{ℕ, suc, ◌+◌, ◌-◌, ◌≤◌, ◌<◌}
use Rattle.std.specs.Prelude.{Bool, true, false, ◌≡◌, List, ◌++◌, Float, length}
use Rattle.record_output.specs.declared.Form.TheVariants.{Lines}
use Rattle.player.specs.Records.{Ran, ran}
use Rattle.tape_listing.specs.Calls.{tape_of, Lister, written}

-- the tape from the bytes at hand on
abbrev pub tape_from : (whole : Bool) → (hand : List ℕ) → (reads : List (List ℕ)) → List ℕ
tape_from true hand reads = hand
tape_from false hand reads = hand ++ tape_of reads

abbrev pub rest_of : Lister → List ℕ
rest_of t = tape_from t.whole t.hand t.reads

-- how many reads are left, the one that finds the end among them
abbrev pub reads_left : (whole : Bool) → (reads : List (List ℕ)) → ℕ
reads_left true reads = 0
reads_left false reads = suc (length reads)

-- as many calls as that and the bytes left may need
abbrev pub CallsFor : Lister → ℕ → Type 0
CallsFor t n = length (rest_of t) - t.cursor.at + reads_left t.whole t.reads < n

module _ (pool : List Float) (room : ℕ) (enough : 4716 ≤ room) where
  -- what is left of the tape in one run, with all the room
  abbrev pub left : Lister → (all : ℕ) → Ran
  left t all = ran Lines pool (rest_of t) true t.sequencer t.cursor all

  -- n calls write what that run does, where it leaves room for one call more
  abbrev pub Writes : (n : ℕ) → Lister → Type 0
  Writes n t =
      (all : ℕ) → t.cursor.at ≤ length t.hand → length (left t all).written + room ≤ all → CallsFor t n → written pool room n t ≡ (left t all).written

-- A tape that arrives in pieces: whatever they are, the calls by which `trail` lists it write its listing. Assumes nothing.
use Prim.Native.Nat.{ℕ, zero, suc, ◌+◌, ◌-◌, ◌≤◌}
use Rattle.std.specs.Prelude.{Bool, true, false, cond, ◌≡◌, List, [], ◌∷◌, ◌++◌, eqb, Float, length, drop}
use Rattle.std.proofs.Math.Path.{refl}
use Rattle.std.proofs.Common.{sym, ap, ◌∙◌, subst, append-nil, append_assoc, arith, ne_eqb, length-append, length-drop}
use Rattle.std.proofs.lemmas.List.{drop-append-le}
use Rattle.sequencer.specs.declared.Sequencer.{Sequencer}
use Rattle.tape.specs.declared.reader.Cursor.{Cursor}
use Rattle.tape.specs.Fields.{Bytes}
use Rattle.record_output.specs.declared.Form.TheVariants.{Lines}
use Rattle.record_output.specs.declared.Pause.{Pause}
use Rattle.record_output.specs.declared.Pause.TheVariants.{End, Refused, Full, Short}
use Rattle.player.specs.Records.{Ran, behind, ran}
use Rattle.resuming.specs.Parts.{AtHand}
use Rattle.resuming.specs.Resumes.{waits}
use Rattle.resuming.proofs.Resuming.{resumes}
use Rattle.resuming.proofs.Moved.{moved}
use Rattle.resuming.specs.Reasons.{Possible}
use Rattle.resuming.proofs.Reasons.{possible}
use Rattle.resuming.proofs.Onward.{onward}
use Rattle.resuming.proofs.FullMoves.{full-moves}
use Rattle.tape_listing.specs.Listing.{listed_with}
use Rattle.tape_listing.proofs.Listed.{runs_listed}
use Rattle.tape_listing.specs.Calls.{tape_of, next_read, later_reads, Lister, begins, call, resumed, read_on, written_after, written}
use Rattle.tape_listing.specs.Pieces.{tape_from, rest_of, reads_left, CallsFor, left, Writes}

at_hand : (whole : Bool) (hand : List ℕ) (reads : List (List ℕ)) → AtHand hand whole (tape_from whole hand reads)
at_hand true hand reads = refl
at_hand false hand reads = (tape_of reads, refl)

hand_within : (whole : Bool) (hand : List ℕ) (reads : List (List ℕ)) → length hand ≤ length (tape_from whole hand reads)
hand_within true hand reads = omega arith
hand_within false hand reads = omega (arith, length-append hand (tape_of reads))

-- ---- a call that stopped for bytes: what was read is dropped

-- the next read is part of what is left, and one that gives no byte leaves nothing
tape_on : (hand : List ℕ) (reads : List (List ℕ))
    → tape_from (eqb (length (next_read reads)) 0) (hand ++ next_read reads) (later_reads reads) ≡ hand ++ tape_of reads
tape_on hand [] = refl
tape_on hand ([] ∷ later) = refl
tape_on hand ((b ∷ bs) ∷ later) =
    ap (λ (z : Bool). tape_from z (hand ++ (b ∷ bs)) later) (ne_eqb (length (b ∷ bs)) 0 (λ e. omega arith)) ∙ append_assoc hand (b ∷ bs) (tape_of later)

reads_on : (reads : List (List ℕ)) → reads_left (eqb (length (next_read reads)) 0) (later_reads reads) ≤ length reads
reads_on [] = omega arith
reads_on ([] ∷ later) = omega arith
reads_on ((b ∷ bs) ∷ later) = let e = ap (λ (z : Bool). reads_left z later) (ne_eqb (length (b ∷ bs)) 0 (λ e. omega arith)) in omega arith

module _ (pool : List Float) (room : ℕ) (enough : 4716 ≤ room) where
  -- a call, and the run that goes on where it stopped
  module _ (n : ℕ) (writes : (t : Lister) → Writes pool room enough n t) (all : ℕ) where
    abbrev on_from : Lister → Ran
    on_from t = let r = call pool room t in ran Lines pool (rest_of t) true r.sequencer r.cursor (all - length r.written)

    abbrev Goes : Lister → Lister → Type 0
    Goes t next =
        let r = call pool room t in
        t.cursor.at ≤ length t.hand → length (r.written ++ (on_from t).written) + room ≤ all → CallsFor t (suc n)
        → written pool room n next ≡ (on_from t).written

    on_full : (t : Lister) → (call pool room t).pause ≡ Full → Goes t (resumed t (call pool room t))
    on_full t e h m k =
        let r : Ran = call pool room t in
        let o = onward Lines pool t.hand t.whole t.sequencer t.cursor room in
        let f = full-moves pool t.hand t.whole t.sequencer t.cursor room enough e in
        let w = hand_within t.whole t.hand t.reads in
        let i : r.cursor.at ≤ length t.hand = o.1 h in
        writes (resumed t r) (all - length r.written) i (omega (arith, length-append r.written (on_from t).written)) (omega arith)

    on_short : (s : Sequencer) (c : Cursor) (hand : List ℕ) (whole : Bool) (reads : List (List ℕ))
        → (let t : Lister = record { sequencer = s; cursor = c; hand = hand; whole = whole; reads = reads } in
        (call pool room t).pause ≡ Short → Goes t (read_on t (call pool room t)))
    on_short s c hand true reads e h m k = absurd (subst (Possible true) e (possible Lines pool hand true s c room))
    on_short s c hand false reads e h m k =
        let t : Lister = record { sequencer = s; cursor = c; hand = hand; whole = false; reads = reads } in
        let r : Ran = call pool room t in
        let at : ℕ = r.cursor.at in
        let start : Cursor = record { at = 0; first = r.cursor.first } in
        let rest : ℕ = all - length r.written in
        let o = onward Lines pool hand false s c room in
        let i : at ≤ length hand = o.1 h in
        let tape : rest_of (read_on t r) ≡ drop at (rest_of t) = tape_on (drop at hand) reads ∙ sym (drop-append-le at hand (tape_of reads) i) in
        let zero-at : 0 ≡ at - at = omega arith in
        let same : (left pool room enough (read_on t r) rest).written ≡ (on_from t).written =
        (λ j. (ran Lines pool (tape j) true r.sequencer (record { at = zero-at j; first = r.cursor.first }) rest).written)
        ∙ ap (λ (x : Ran). x.written) (moved Lines pool at (rest_of t) true r.sequencer r.cursor rest (omega arith)) in
        let size : length (rest_of (read_on t r)) ≡ length (rest_of t) - at = ap length tape ∙ length-drop at (rest_of t) in
        let fewer = reads_on reads in
        writes (read_on t r) rest (omega arith) (omega (arith, length-append r.written (on_from t).written, ap length same)) (omega arith) ∙ same

  law : (n : ℕ) (t : Lister) → Writes pool room enough n t
  unfolding written
  law zero t all h m k = absurd (omega arith)
  law (suc n) t all h m k = go (law n) r.pause refl (ap (λ (x : Ran). x.written) q)
    where
      r : Ran
      r = call pool room t

      on : Ran
      on = ran Lines pool (rest_of t) true r.sequencer r.cursor (all - length r.written)

      q : left pool room enough t all ≡ cond (waits r.pause) (behind r.written on) r
      q = resumes Lines pool t.hand t.whole (rest_of t) (at_hand t.whole t.hand t.reads) t.sequencer t.cursor room all (omega arith)

      -- what is written before
      ahead : List ℕ → List ℕ
      ahead x = r.written ++ x

      go : ((t : Lister) → Writes pool room enough n t) → (p : Pause) → r.pause ≡ p → (left pool room enough t all).written ≡ (cond (waits p) (behind r.written on) r).written
          → r.written ++ written_after (written pool room n) t r p ≡ (left pool room enough t all).written
      go writes Full e q =
          let m' = subst (λ (x : List ℕ). length x + room ≤ all) q m in
          ap ahead (on_full n writes all t e h m' k) ∙ sym q
      go writes Short e q =
          let m' = subst (λ (x : List ℕ). length x + room ≤ all) q m in
          ap ahead (on_short n writes all t.sequencer t.cursor t.hand t.whole t.reads e h m' k) ∙ sym q
      go writes (Refused number) e q = append-nil r.written ∙ sym q
      go writes End e q = append-nil r.written ∙ sym q

-- ---- the law: the tape in any pieces, with room for any record at each call, and as many calls as the tape has bytes and pieces, and two more
pub lists-pieces : (pool : List Float) (reads : List (List ℕ)) (room n : ℕ) → Bytes (tape_of reads) → 4716 ≤ room
    → length (tape_of reads) + length reads + 2 ≤ n → written pool room n (begins reads) ≡ listed_with pool (tape_of reads)
lists-pieces pool reads room n bytes enough calls =
    let tape : List ℕ = tape_of reads in
    let all : ℕ = length (listed_with pool tape) + room in
    let run : (left pool room enough (begins reads) all).written ≡ listed_with pool tape = runs_listed pool tape all bytes (omega arith) in
    law pool room enough n (begins reads) all (omega arith) (omega (arith, ap length run)) (omega arith) ∙ run

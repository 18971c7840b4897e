-- A run of records that paused, for room or for bytes, and is gone on with where it stopped is the run of the whole tape; one that stopped for good is that run already. Assumes nothing.
use Rattle.std.specs.Prelude.{◌≡◌, true, false, ltb, eqb, Float, length}
use Rattle.std.proofs.Math.Path.{refl}
use Rattle.std.proofs.Common.{sym, ap, ◌∙◌, arith, ltb-false, le-ltb, length-append}
use Rattle.std.proofs.Math.Bool.{Bool, cond}
use mathlib.Core.List.{List, [], ◌++◌, append_assoc}
use Prim.Native.Nat.{ℕ, zero, suc, ◌+◌, ◌-◌, ◌≤◌}
use Rattle.sequencer.specs.declared.Sequencer.{Sequencer}
use Rattle.sequencer.specs.Readers.{counts_of}
use Rattle.tape.specs.declared.reader.Cursor.{Cursor}
use Rattle.tape.specs.declared.reader.Read.{Read}
use Rattle.tape.specs.Tape.{read_at}
use Rattle.apply.specs.declared.Applied.{Applied}
use Rattle.apply.specs.Applying.{applied_to, applied_out}
use Rattle.record_output.specs.declared.Form.{Form}
use Rattle.record_output.specs.declared.Pause.TheVariants.{Refused, Full, Short}
use Rattle.record_output.specs.Lines.{room_for}
use Rattle.record_output.specs.Endings.{Ending, refused_line, ending, is_short}
use Rattle.player.specs.Records.{Ran, stops, behind, left_by, after_call, after_read, ran}
use Rattle.tape.specs.Cursors.{moves}
use Rattle.resuming.specs.Parts.{AtHand, same_read}
use Rattle.resuming.specs.Again.{silence, again}
use Rattle.resuming.proofs.Unrolls.{unrolls}
use Rattle.resuming.specs.Resumes.{waits, room_after, resumed, Resumes}
use Rattle.resuming.specs.Resuming.{Behind}

-- ---- its steps

module _ (form : Form) (pool : List Float) (tape : List ℕ) where
  -- nothing is written yet
  from_here : (s : Sequencer) (c : Cursor) (all : ℕ) → ran form pool tape true s c all ≡ resumed form pool tape all (stops s c [] Full)
  from_here s c all = ap (ran form pool tape true s c) (let z : all ≡ room_after all (stops s c [] Full) = omega arith in z)

  -- more is written before, of the room that there is
  resumed-behind : (bytes : List ℕ) (all : ℕ) (r : Ran) → behind bytes (resumed form pool tape (all - length bytes) r) ≡ resumed form pool tape all (behind bytes r)
  resumed-behind bytes all r = go (waits r.pause)
    where
      on : ℕ → Ran
      on left = ran form pool tape true r.sequencer r.cursor left

      go : (b : Bool) → behind bytes (cond b (behind r.written (on (room_after (all - length bytes) r))) r) ≡ cond b (behind (bytes ++ r.written) (on (room_after all (behind bytes r)))) (behind bytes r)
      go true =
          let z : room_after (all - length bytes) r ≡ room_after all (behind bytes r) = omega (arith, length-append bytes r.written) in
          let x = on (room_after all (behind bytes r)) in
          ap (λ (left : ℕ). behind bytes (behind r.written (on left))) z
          ∙ ap (λ (w : List ℕ). stops x.sequencer x.cursor w x.pause) (sym (append_assoc bytes r.written x.written))
      go false = refl

  -- one record
  module _ (part : List ℕ) (whole : Bool) (s : Sequencer) (c : Cursor) (room all : ℕ) (more : room ≤ all) where
    on_tape : (r : Read) → r ≡ read_at tape c → ran form pool tape true s c all ≡ after_read form pool (again form pool tape true) r s c silence all
    on_tape r e = unrolls form pool tape true s c all ∙ ap (λ (x : Read). after_read form pool (again form pool tape true) x s c silence all) (sym e)

    roomy : (n : ℕ) → ltb room n ≡ false → ltb all n ≡ false
    roomy n e = le-ltb all n (omega (arith, ltb-false room n e))

    called : (k : ℕ) (next : Cursor) (a : Applied) (x : List Float) → ran form pool tape true s c all ≡ after_call form (again form pool tape true) s c k a x next all
        → ((t : Sequencer) (left rest : ℕ) → left ≤ rest → Resumes form pool part whole tape t next left rest)
        → ran form pool tape true s c all ≡ resumed form pool tape all (after_call form (again form pool part whole) s c k a x next room)
    unfolding after_call
    called k next a x e law = go (ltb room (room_for form bytes)) refl
      where
        bytes : List ℕ
        bytes = left_by form k a x

        theirs : Ran
        theirs = ran form pool part whole a.sequencer next (room - length bytes)

        ours : Ran
        ours = ran form pool tape true a.sequencer next (all - length bytes)

        on : Bool → Ran → Ran
        on b r = cond b (stops a.sequencer next bytes (Refused 1)) (behind bytes r)

        goes : (b : Bool) → on b ours ≡ resumed form pool tape all (on b theirs)
        goes true = refl
        goes false = ap (behind bytes) (law a.sequencer (room - length bytes) (all - length bytes) (omega arith)) ∙ resumed-behind bytes all theirs

        go : (b : Bool) → ltb room (room_for form bytes) ≡ b → ran form pool tape true s c all ≡ resumed form pool tape all (cond b (stops s c [] Full) (on (eqb a.refusal 1) theirs))
        go true q = from_here s c all
        go false q = e ∙ ap (λ (b : Bool). cond b (stops s c [] Full) (on (eqb a.refusal 1) ours)) (roomy (room_for form bytes) q) ∙ goes (eqb a.refusal 1)

    read : (r : Read) → r ≡ read_at tape c → Behind form pool tape part whole r → ran form pool tape true s c all ≡ resumed form pool tape all (after_read form pool (again form pool part whole) r s c silence room)
    unfolding after_read ending
    read (Read.Record k call next) e law = called k next (applied_to pool s call silence) (applied_out pool s call silence) (on_tape (Read.Record k call next) e) (law k call next refl)
    read (Read.Refused k n) e law = go (ltb room (room_for form [])) refl
      where
        stop : Bool → Ran
        stop b =
            let x : Ending = cond b (record { written = []; pause = Full }) (record { written = refused_line form k n (counts_of s); pause = Refused n }) in
            stops s c x.written x.pause

        go : (b : Bool) → ltb room (room_for form []) ≡ b → ran form pool tape true s c all ≡ resumed form pool tape all (stop b)
        go true q = from_here s c all
        go false q = on_tape (Read.Refused k n) e ∙ ap stop (roomy (room_for form []) q)
    read Read.End e law = on_tape Read.End e

  -- every record: the bytes left of the part become fewer
  module _ (part : List ℕ) (whole : Bool) (hand : AtHand part whole tape) where
    step : (s : Sequencer) (c : Cursor) (room all : ℕ) → room ≤ all → Behind form pool tape part whole (read_at part c) → Resumes form pool part whole tape s c room all
    step s c room all more law = go (is_short whole (length part) c.at) refl ∙ ap (resumed form pool tape all) (sym (unrolls form pool part whole s c room))
      where
        go : (b : Bool) → is_short whole (length part) c.at ≡ b
            → ran form pool tape true s c all ≡ resumed form pool tape all (cond b (stops s c [] Short) (after_read form pool (again form pool part whole) (read_at part c) s c silence room))
        go true q = from_here s c all
        go false q = read part whole s c room all more (read_at part c) (same_read part whole tape hand c q) law

    by_bytes : (n : ℕ) (s : Sequencer) (c : Cursor) (room all : ℕ) → room ≤ all → length part ≤ c.at + n → Resumes form pool part whole tape s c room all
    by_bytes zero s c room all more h = step s c room all more (λ k call next e t left rest l. let m = moves part c k call next e in absurd (omega arith))
    by_bytes (suc n) s c room all more h = step s c room all more (λ k call next e t left rest l. let m = moves part c k call next e in by_bytes n t next left rest l (omega arith))

-- ---- the law: in either form, of any engine and any cursor, with as much room as the part's run had or more
pub resumes : (form : Form) (pool : List Float) (part : List ℕ) (whole : Bool) (tape : List ℕ) → AtHand part whole tape → (s : Sequencer) (c : Cursor) (room all : ℕ) → room ≤ all
    → Resumes form pool part whole tape s c room all
resumes form pool part whole tape hand s c room all more = by_bytes form pool tape part whole hand (length part) s c room all more (omega arith)

-- Why a run can stop: one that is told that its tape goes on finds no end of it, and one that has all of it does not wait for bytes. Assumes nothing.
use Rattle.std.specs.Prelude.{◌≡◌, Bool, ltb, eqb, Float, length, drop}
use Rattle.std.proofs.Math.Path.{refl}
use Rattle.std.proofs.Common.{sym, ap, ◌∙◌, subst, true≢false, arith, ltb-false, lt-ltb}
use Rattle.std.proofs.Math.Bool.{true, false, cond}
use Rattle.std.proofs.lemmas.Bool.{false≢true}
use mathlib.Core.List.{List, []}
use Prim.Native.Nat.{ℕ, zero, suc, ◌+◌, ◌-◌, ◌≤◌, ◌<◌}
use Rattle.sequencer.specs.declared.Sequencer.{Sequencer}
use Rattle.sequencer.specs.Readers.{counts_of}
use Rattle.tape.specs.declared.reader.Cursor.{Cursor}
use Rattle.tape.specs.declared.reader.Call.{Call}
use Rattle.tape.specs.declared.reader.Read.{Read}
use Rattle.tape.specs.Tape.{read_at, record_of, unknown, kind_of, size_of, call_of}
use Rattle.apply.specs.declared.Applied.{Applied}
use Rattle.apply.specs.Applying.{applied_to, applied_out}
use Rattle.record_output.specs.declared.Form.{Form}
use Rattle.record_output.specs.declared.Pause.TheVariants.{End, Refused, Full, Short}
use Rattle.record_output.specs.Lines.{room_for}
use Rattle.record_output.specs.Endings.{Ending, refused_line, ending, is_short}
use Rattle.player.specs.Records.{Ran, stops, behind, left_by, after_call, after_read, ran}
use Rattle.tape.specs.Cursors.{moves}
use Rattle.resuming.specs.Again.{silence, again}
use Rattle.resuming.proofs.Unrolls.{unrolls}
use Rattle.resuming.specs.Reasons.{Possible, is_end}

full : (whole : Bool) → Possible whole Full
full true = tt
full false = tt

refused : (whole : Bool) (k : ℕ) → Possible whole (Refused k)
refused true k = tt
refused false k = tt

record_no_end : (c : Cursor) (bs : List ℕ) → is_end (record_of c bs) ≡ false
unfolding record_of
record_no_end c bs = go (unknown c.first bs) (ltb (length bs) (size_of (kind_of bs)))
  where
    go : (p q : Bool) → is_end (cond p (Read.Refused (kind_of bs) 14) (cond q (Read.Refused (kind_of bs) 15) (Read.Record (kind_of bs) (call_of bs) (record { at = c.at + size_of (kind_of bs); first = false })))) ≡ false
    go true q = refl
    go false true = refl
    go false false = refl

no_end : (tape : List ℕ) (c : Cursor) → c.at < length tape → is_end (read_at tape c) ≡ false
unfolding read_at
no_end tape c h = simp (lt-ltb c.at (length tape) h) (record_no_end c (drop c.at tape))

end_possible : (whole : Bool) (tape : List ℕ) (c : Cursor) → is_short whole (length tape) c.at ≡ false → read_at tape c ≡ Read.End → Possible whole End
end_possible true tape c q e = tt
end_possible false tape c q e = true≢false (ap is_end (sym e) ∙ no_end tape c (omega (arith, ltb-false (length tape - c.at) 47 q)))

short_possible : (whole : Bool) (tape : List ℕ) (c : Cursor) → is_short whole (length tape) c.at ≡ true → Possible whole Short
short_possible true tape c q = false≢true q
short_possible false tape c q = tt

-- ---- every record

module _ (form : Form) (pool : List Float) (tape : List ℕ) (whole : Bool) where
  called : (s : Sequencer) (c : Cursor) (kind : ℕ) (a : Applied) (x : List Float) (next : Cursor) (room : ℕ) → ((t : Sequencer) (left : ℕ) → Possible whole (ran form pool tape whole t next left).pause)
      → Possible whole (after_call form (again form pool tape whole) s c kind a x next room).pause
  unfolding after_call
  called s c kind a x next room law = go (ltb room (room_for form bytes)) (eqb a.refusal 1)
    where
      bytes : List ℕ
      bytes = left_by form kind a x

      go : (p q : Bool) → Possible whole (cond p (stops s c [] Full) (cond q (stops a.sequencer next bytes (Refused 1)) (behind bytes (ran form pool tape whole a.sequencer next (room - length bytes))))).pause
      go true q = full whole
      go false true = refused whole 1
      go false false = law a.sequencer (room - length bytes)

  read : (r : Read) (s : Sequencer) (c : Cursor) (room : ℕ) → (r ≡ Read.End → Possible whole End)
      → ((kind : ℕ) (call : Call) (next : Cursor) → r ≡ Read.Record kind call next → (t : Sequencer) (left : ℕ) → Possible whole (ran form pool tape whole t next left).pause)
      → Possible whole (after_read form pool (again form pool tape whole) r s c silence room).pause
  unfolding after_read ending
  read (Read.Record kind call next) s c room end law = called s c kind (applied_to pool s call silence) (applied_out pool s call silence) next room (law kind call next refl)
  read (Read.Refused kind n) s c room end law = go (ltb room (room_for form []))
    where
      go : (b : Bool) → (let x : Ending = cond b (record { written = []; pause = Full }) (record { written = refused_line form kind n (counts_of s); pause = Refused n }) in Possible whole x.pause)
      go true = full whole
      go false = refused whole n
  read Read.End s c room end law = end refl

  step : (s : Sequencer) (c : Cursor) (room : ℕ) → ((kind : ℕ) (call : Call) (next : Cursor) → read_at tape c ≡ Read.Record kind call next → (t : Sequencer) (left : ℕ) → Possible whole (ran form pool tape whole t next left).pause)
      → Possible whole (ran form pool tape whole s c room).pause
  step s c room law = subst (λ (r : Ran). Possible whole r.pause) (sym (unrolls form pool tape whole s c room)) (go (is_short whole (length tape) c.at) refl)
    where
      go : (b : Bool) → is_short whole (length tape) c.at ≡ b → Possible whole (cond b (stops s c [] Short) (after_read form pool (again form pool tape whole) (read_at tape c) s c silence room)).pause
      go true q = short_possible whole tape c q
      go false q = read (read_at tape c) s c room (end_possible whole tape c q) law

  by_bytes : (n : ℕ) (s : Sequencer) (c : Cursor) (room : ℕ) → length tape ≤ c.at + n → Possible whole (ran form pool tape whole s c room).pause
  by_bytes zero s c room l = step s c room (λ kind call next e t left. let m = moves tape c kind call next e in absurd (omega arith))
  by_bytes (suc n) s c room l = step s c room (λ kind call next e t left. let m = moves tape c kind call next e in by_bytes n t next left (omega arith))

  -- ---- the law: of any engine and any cursor
  pub possible : (s : Sequencer) (c : Cursor) (room : ℕ) → Possible whole (ran form pool tape whole s c room).pause
  possible s c room = by_bytes (length tape) s c room (omega arith)

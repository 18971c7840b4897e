-- A run's cursor goes on and stays within its tape. A run of lines that stopped for room, lent as much as any record may take, has read one.
-- Assumes nothing.
use Rattle.std.specs.Prelude.{◌≡◌, refl, true, false, ltb, eqb, Float, length}
use Rattle.std.proofs.Common.{sym, subst}
use Rattle.std.proofs.Math.Bool.{Bool, cond}
use mathlib.Core.List.{List, []}
use Prim.Native.Nat.{ℕ, zero, suc, ◌+◌, ◌-◌, ◌≤◌, ◌<◌}
use native.Mathlib.Omega.{arith}
use Rattle.sequencer.specs.declared.Sequencer.{Sequencer}
use Rattle.tape.specs.declared.reader.Cursor.{Cursor}
use Rattle.tape.specs.declared.reader.Read.{Read}
use Rattle.tape.specs.Tape.{read_at}
use Rattle.tape.specs.Cursors.{moves}
use Rattle.apply.specs.declared.Applied.{Applied}
use Rattle.apply.specs.Applying.{applied_to, applied_out}
use Rattle.record_output.specs.declared.Form.{Form}
use Rattle.record_output.specs.declared.Pause.{Pause}
use Rattle.record_output.specs.declared.Pause.TheVariants.{Refused, Full, Short}
use Rattle.record_output.specs.Lines.{room_for}
use Rattle.record_output.specs.Endings.{ending, is_short}
use Rattle.player.specs.Records.{Ran, stops, behind, left_by, after_call, after_read, ran}
use Rattle.resuming.specs.Again.{silence, again}
use Rattle.resuming.proofs.Unrolls.{unrolls}
use Rattle.resuming.specs.Onward.{Onward, LaterFrom, Later}

stays : (n : ℕ) (s : Sequencer) (c : Cursor) (w : List ℕ) (p : Pause) → Onward n c (stops s c w p)
stays n s c w p = (omega arith, λ h. h)

module _ (form : Form) (pool : List Float) (tape : List ℕ) (whole : Bool) where
  called : (s : Sequencer) (c : Cursor) (kind : ℕ) (a : Applied) (x : List Float) (next : Cursor) (room : ℕ) → c.at < next.at → next.at ≤ length tape
      → LaterFrom form pool tape whole next → Onward (length tape) c (after_call form (again form pool tape whole) s c kind a x next room)
  unfolding after_call
  called s c kind a x next room on in-tape law = go (ltb room (room_for form bytes)) (eqb a.refusal 1)
    where
      bytes : List ℕ
      bytes = left_by form kind a x

      rest : Ran
      rest = ran form pool tape whole a.sequencer next (room - length bytes)

      go : (p q : Bool) → Onward (length tape) c (cond p (stops s c [] Full) (cond q (stops a.sequencer next bytes (Refused 1)) (behind bytes rest)))
      go true q = stays (length tape) s c [] Full
      go false true = (omega arith, λ h. in-tape)
      go false false = let m = law a.sequencer (room - length bytes) in (omega (arith, m.0), λ h. m.1 in-tape)

  read : (r : Read) (s : Sequencer) (c : Cursor) (room : ℕ) → r ≡ read_at tape c → Later form pool tape whole r
      → Onward (length tape) c (after_read form pool (again form pool tape whole) r s c silence room)
  unfolding after_read ending
  read (Read.Record kind call next) s c room e law =
      let m = moves tape c kind call next (sym e) in
      called s c kind (applied_to pool s call silence) (applied_out pool s call silence) next room m.1 m.2 (law kind call next refl)
  read (Read.Refused kind n) s c room e law = (omega arith, λ h. h)
  read Read.End s c room e law = (omega arith, λ h. h)

  step : (s : Sequencer) (c : Cursor) (room : ℕ) → Later form pool tape whole (read_at tape c) → Onward (length tape) c (ran form pool tape whole s c room)
  step s c room law = subst (Onward (length tape) c) (sym (unrolls form pool tape whole s c room)) (go (is_short whole (length tape) c.at))
    where
      first : Ran
      first = after_read form pool (again form pool tape whole) (read_at tape c) s c silence room

      go : (b : Bool) → Onward (length tape) c (cond b (stops s c [] Short) first)
      go true = stays (length tape) s c [] Short
      go false = read (read_at tape c) s c room refl law

  by_bytes : (n : ℕ) (s : Sequencer) (c : Cursor) (room : ℕ) → length tape ≤ c.at + n → Onward (length tape) c (ran form pool tape whole s c room)
  by_bytes zero s c room l = step s c room (λ kind call next e t left. let m = moves tape c kind call next e in absurd (omega arith))
  by_bytes (suc n) s c room l = step s c room (λ kind call next e t left. let m = moves tape c kind call next e in by_bytes n t next left (omega arith))

  -- ---- the law: of any engine and any cursor
  pub onward : (s : Sequencer) (c : Cursor) (room : ℕ) → Onward (length tape) c (ran form pool tape whole s c room)
  onward s c room = by_bytes (length tape) s c room (omega arith)

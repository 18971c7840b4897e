-- A run of lines that stopped for room has come further on, where the room is enough for a record. Assumes nothing.
use Rattle.std.specs.Prelude.{◌≡◌, refl, true, false, ltb, eqb, Float, length}
use Rattle.std.proofs.Common.{sym, ap, subst, true≢false, le-ltb}
use Rattle.std.proofs.Math.Bool.{Bool, cond}
use Rattle.std.proofs.lemmas.Bool.{false≢true}
use mathlib.Core.List.{List, []}
use Prim.Native.Nat.{ℕ, zero, suc, ◌+◌, ◌-◌, ◌≤◌, ◌<◌}
use native.Mathlib.Omega.{arith}
use Rattle.sequencer.specs.declared.Sequencer.{Sequencer}
use Rattle.sequencer.specs.Readers.{counts_of}
use Rattle.tape.specs.declared.reader.Cursor.{Cursor}
use Rattle.tape.specs.declared.reader.Call.{Call}
use Rattle.tape.specs.declared.reader.Read.{Read}
use Rattle.tape.specs.declared.reader.Read.TheVariants as Read
use Rattle.tape.specs.Tape.{read_at}
use Rattle.tape.specs.Cursors.{moves}
use Rattle.apply.specs.declared.Applied.{Applied}
use Rattle.apply.specs.Applying.{applied_to, applied_out}
use Rattle.record_output.specs.declared.Form.{Form}
use Rattle.record_output.specs.declared.Form.TheVariants.{Lines}
use Rattle.record_output.specs.declared.Pause.{Pause}
use Rattle.record_output.specs.declared.Pause.TheVariants.{End, Refused, Full, Short}
use Rattle.record_output.specs.Lines.{room_for}
use Rattle.record_output.specs.Endings.{Ending, refused_line, ending, is_short}
use Rattle.player.specs.Records.{Ran, stops, behind, left_by, after_call, after_read, ran}
use Rattle.resuming.specs.Again.{silence, again}
use Rattle.resuming.proofs.Unrolls.{unrolls}
use Rattle.resuming.specs.Full.{is_full, Moved}
use Rattle.resuming.proofs.Full.{full-called}

module _ (pool : List Float) (tape : List ℕ) (whole : Bool) (s : Sequencer) (c : Cursor) (room : ℕ) (enough : 4716 ≤ room) where
  full-read : (r : Read) → r ≡ read_at tape c → Moved c (after_read Lines pool (again Lines pool tape whole) r s c silence room)
  unfolding after_read ending
  full-read (Read.Record kind call next) e =
      full-called pool tape whole s c room enough kind (applied_to pool s call silence) (applied_out pool s call silence) next (moves tape c kind call next (sym e)).1
  full-read (Read.Refused kind n) e = go (ltb room 4716) (le-ltb room 4716 enough)
    where
      stop : Bool → Ending
      stop p = cond p (record { written = []; pause = Full }) (record { written = refused_line Lines kind n (counts_of s); pause = Refused n })

      go : (p : Bool) → p ≡ false → Moved c (stops s c (stop p).written (stop p).pause)
      go true e = absurd (true≢false e)
      go false e = λ f. absurd (false≢true f)
  full-read Read.End e = λ f. absurd (false≢true f)

  pub full-moves : (ran Lines pool tape whole s c room).pause ≡ Full → c.at < (ran Lines pool tape whole s c room).cursor.at
  full-moves f =
      subst (Moved c) (sym (unrolls Lines pool tape whole s c room)) (go (is_short whole (length tape) c.at)) (ap is_full f)
    where
      first : Ran
      first = after_read Lines pool (again Lines pool tape whole) (read_at tape c) s c silence room

      go : (b : Bool) → Moved c (cond b (stops s c [] Short) first)
      go true = λ f. absurd (false≢true f)
      go false = full-read (read_at tape c) refl

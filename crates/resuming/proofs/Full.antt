-- A run of lines that stopped for room, record by record. Assumes nothing.
use Rattle.std.specs.Prelude.{◌≡◌, refl, true, false, ltb, eqb, Float, length}
use Rattle.std.proofs.Common.{sym, ap, subst, true≢false, le-ltb}
use Rattle.std.proofs.Math.Bool.{Bool, cond}
use Rattle.std.proofs.lemmas.Bool.{false≢true}
use mathlib.Core.List.{List, []}
use Prim.Native.Nat.{ℕ, zero, suc, ◌+◌, ◌-◌, ◌≤◌, ◌<◌}
use native.Mathlib.Omega.{arith}
use Rattle.sequencer.specs.declared.Sequencer.{Sequencer}
use Rattle.sequencer.specs.Readers.{counts_of}
use Rattle.tape.specs.declared.reader.Cursor.{Cursor}
use Rattle.tape.specs.declared.reader.Call.{Call}
use Rattle.tape.specs.declared.reader.Read.{Read}
use Rattle.tape.specs.declared.reader.Read.TheVariants as Read
use Rattle.tape.specs.Tape.{read_at}
use Rattle.tape.specs.Cursors.{moves}
use Rattle.apply.specs.declared.Applied.{Applied}
use Rattle.apply.specs.Applying.{applied_to, applied_out}
use Rattle.record_output.specs.declared.Form.{Form}
use Rattle.record_output.specs.declared.Form.TheVariants.{Lines}
use Rattle.record_output.specs.declared.Pause.{Pause}
use Rattle.record_output.specs.declared.Pause.TheVariants.{End, Refused, Full, Short}
use Rattle.record_output.specs.Lines.{room_for}
use Rattle.record_output.specs.Endings.{Ending, refused_line, ending, is_short}
use Rattle.player.specs.Records.{Ran, stops, behind, left_by, after_call, after_read, ran}
use Rattle.resuming.specs.Again.{silence, again}
use Rattle.resuming.proofs.Unrolls.{unrolls}
use Rattle.resuming.proofs.Onward.{onward}
use Rattle.resuming.specs.Full.{is_full, Moved}

module _ (pool : List Float) (tape : List ℕ) (whole : Bool) (s : Sequencer) (c : Cursor) (room : ℕ) (enough : 4716 ≤ room) where
  pub full-called : (kind : ℕ) (a : Applied) (x : List Float) (next : Cursor) → c.at < next.at
      → Moved c (after_call Lines (again Lines pool tape whole) s c kind a x next room)
  unfolding after_call
  full-called kind a x next on = go (ltb room 4716) (le-ltb room 4716 enough) (eqb a.refusal 1)
    where
      bytes : List ℕ
      bytes = left_by Lines kind a x

      rest : Ran
      rest = ran Lines pool tape whole a.sequencer next (room - length bytes)

      go : (p : Bool) → p ≡ false → (q : Bool) → Moved c (cond p (stops s c [] Full) (cond q (stops a.sequencer next bytes (Refused 1)) (behind bytes rest)))
      go true e q = absurd (true≢false e)
      go false e true = λ f. absurd (false≢true f)
      go false e false = λ f. let m = (onward Lines pool tape whole a.sequencer next (room - length bytes)).0 in omega arith

-- What the records leave does not depend on the samples that stood in the output lent to the engine, of which there are 512. Assumes nothing.
use Rattle.std.specs.Prelude.{◌≡◌, Bool, true, false, cond, ltb, eqb, Float, length}
use Rattle.std.proofs.Math.Path.{refl, ap}
use Rattle.std.proofs.Common.{sym, ◌∙◌}
use mathlib.Core.List.{List, []}
use Prim.Native.Nat.{ℕ, zero, suc, ◌-◌}
use Rattle.sequencer.specs.declared.Sequencer.{Sequencer}
use Rattle.sequencer.specs.Readers.{counts_of}
use Rattle.tape.specs.declared.reader.Cursor.{Cursor}
use Rattle.tape.specs.declared.reader.Call.{Call}
use Rattle.tape.specs.declared.reader.Read.{Read}
use Rattle.tape.specs.declared.reader.Read.TheVariants as Read
use Rattle.tape.specs.Tape.{read_at}
use Rattle.apply.specs.declared.Applied.{Applied}
use Rattle.apply.specs.Applying.{applied_to, applied_out}
use Rattle.record_output.specs.declared.Form.{Form}
use Rattle.record_output.specs.declared.Pause.TheVariants.{Refused, Full, Short}
use Rattle.record_output.specs.Lines.{room_for}
use Rattle.record_output.specs.Endings.{is_short}
use Rattle.record_output.specs.Rows.{row-leaves}
use Rattle.player.specs.Records.{Ran, Rest, stops, behind, left_by, after_call, after_read, ran_from}
use Rattle.player.specs.Given.{given}

-- ---- one record, with another rest and other samples

-- what the record leaves is the same, and so is what comes behind it
call_alike : (form : Form) (rest other : Rest) (s : Sequencer) (c : Cursor) (k : ℕ) (a : Applied) (x y : List Float) (next : Cursor) (room : ℕ) → left_by form k a x ≡ left_by form k a y
    → ((left : ℕ) → rest a.sequencer next x left ≡ other a.sequencer next y left) → after_call form rest s c k a x next room ≡ after_call form other s c k a y next room
unfolding after_call
call_alike form rest other s c k a x y next room e same =
    ap (λ (bytes : List ℕ). from bytes (rest a.sequencer next x (room - length bytes))) e ∙ ap (from (left_by form k a y)) (same (room - length (left_by form k a y)))
  where
    from : List ℕ → Ran → Ran
    from bytes r = cond (ltb room (room_for form bytes)) (stops s c [] Full) (cond (eqb a.refusal 1) (stops a.sequencer next bytes (Refused 1)) (behind bytes r))

-- two rests that do the same with any 512 samples
pub read_alike : (form : Form) (pool : List Float) (rest other : Rest) (r : Read) (s : Sequencer) (c : Cursor) (x y : List Float) (room : ℕ) → length x ≡ 512 → length y ≡ 512
    → ((t : Sequencer) (d : Cursor) (v w : List Float) (left : ℕ) → length v ≡ 512 → length w ≡ 512 → rest t d v left ≡ other t d w left)
    → after_read form pool rest r s c x room ≡ after_read form pool other r s c y room
unfolding after_read
read_alike form pool rest other (Read.Record k call next) s c x y room lx ly same =
    let g = given pool s call in
    let a = g.gives in
    let v = applied_out pool s call x in
    let w = applied_out pool s call y in
    let left : left_by form k a v ≡ left_by form k a w =
    sym (row-leaves form k a.refusal (counts_of a.sequencer) a.channels a.each a.stride g.row v (g.shows x lx))
    ∙ row-leaves form k a.refusal (counts_of a.sequencer) a.channels a.each a.stride g.row w (g.shows y ly) in
    ap (λ (b : Applied). after_call form rest s c k b v next room) (g.is x lx)
    ∙ call_alike form rest other s c k a v w next room left (λ n. same a.sequencer next v w n (g.long x lx) (g.long y ly))
    ∙ ap (λ (b : Applied). after_call form other s c k b w next room) (sym (g.is y ly))
read_alike form pool rest other (Read.Refused k n) s c x y room lx ly same = refl
read_alike form pool rest other Read.End s c x y room lx ly same = refl

-- two rests that do the same behind the record that is read
pub next_alike : (form : Form) (pool : List Float) (rest other : Rest) (r : Read) (s : Sequencer) (c : Cursor) (x : List Float) (room : ℕ)
    → ((k : ℕ) (call : Call) (next : Cursor) → r ≡ Read.Record k call next → (t : Sequencer) (v : List Float) (left : ℕ) → rest t next v left ≡ other t next v left)
    → after_read form pool rest r s c x room ≡ after_read form pool other r s c x room
unfolding after_read
next_alike form pool rest other (Read.Record k call next) s c x room same =
    let a = applied_to pool s call x in
    let v = applied_out pool s call x in
    call_alike form rest other s c k a v v next room refl (λ n. same k call next refl a.sequencer v n)
next_alike form pool rest other (Read.Refused k n) s c x room same = refl
next_alike form pool rest other Read.End s c x room same = refl

-- ---- the law: whatever stood in the 512 samples that are lent before, the records leave the same; of any engine, also one that no call left

module _ (form : Form) (pool : List Float) (tape : List ℕ) (whole : Bool) where
  pub same_samples_lem : (f : ℕ) (s : Sequencer) (c : Cursor) (x y : List Float) (room : ℕ) → length x ≡ 512 → length y ≡ 512 → ran_from form pool tape whole f s c x room ≡ ran_from form pool tape whole f s c y room
  unfolding ran_from
  same_samples_lem zero s c x y room lx ly = refl
  same_samples_lem (suc f) s c x y room lx ly =
      ap (cond (is_short whole (length tape) c.at) (stops s c [] Short))
      (read_alike form pool (ran_from form pool tape whole f) (ran_from form pool tape whole f) (read_at tape c) s c x y room lx ly (λ t d v w n p q. same_samples_lem f t d v w n p q))

-- A program may move the bytes that are still to be read to the front of its buffer: the run from there on is the same, and its cursor stands as many bytes further back. Assumes nothing.
use Rattle.std.specs.Prelude.{◌≡◌, Bool, true, false, cond, ltb, eqb, Float, length, drop}
use Rattle.std.proofs.Math.Path.{refl}
use Rattle.std.proofs.Common.{sym, ap, ◌∙◌, arith, ltb-true, ltb-false, lt-ltb, le-ltb, length-drop, drop-drop}
use mathlib.Core.List.{List, []}
use Prim.Native.Nat.{ℕ, zero, suc, ◌+◌, ◌-◌, ◌≤◌}
use Rattle.sequencer.specs.declared.Sequencer.{Sequencer}
use Rattle.tape.specs.declared.reader.Cursor.{Cursor}
use Rattle.tape.specs.declared.reader.Call.{Call}
use Rattle.tape.specs.declared.reader.Read.{Read}
use Rattle.tape.specs.Tape.{read_at, record_of, unknown, kind_of, size_of, call_of}
use Rattle.apply.specs.declared.Applied.{Applied}
use Rattle.apply.specs.Applying.{applied_to, applied_out}
use Rattle.record_output.specs.declared.Form.{Form}
use Rattle.record_output.specs.declared.Pause.TheVariants.{Refused, Full, Short}
use Rattle.record_output.specs.Lines.{room_for}
use Rattle.record_output.specs.Endings.{ending, is_short}
use Rattle.player.specs.Records.{Ran, stops, behind, left_by, after_call, after_read, ran}
use Rattle.tape.specs.Cursors.{moves}
use Rattle.resuming.specs.Again.{silence, again}
use Rattle.resuming.proofs.Unrolls.{unrolls}
use Rattle.resuming.specs.Moved.{back, cursor_back, read_back, Moves}

-- ---- the same is read

ltb_back : (k m n : ℕ) → k ≤ m → ltb (m - k) (n - k) ≡ ltb m n
ltb_back k m n h = go (ltb m n) refl
  where
    go : (b : Bool) → ltb m n ≡ b → ltb (m - k) (n - k) ≡ b
    go true e = lt-ltb (m - k) (n - k) (omega (arith, ltb-true m n e))
    go false e = le-ltb (m - k) (n - k) (omega (arith, ltb-false m n e))

record_back : (k : ℕ) (c : Cursor) (bs : List ℕ) → k ≤ c.at → record_of (back k c) bs ≡ read_back k (record_of c bs)
unfolding record_of
record_back k c bs h = go (unknown c.first bs) (ltb (length bs) (size_of (kind_of bs)))
  where
    it : Bool → Bool → ℕ → Read
    it p q n = cond p (Read.Refused (kind_of bs) 14) (cond q (Read.Refused (kind_of bs) 15) (Read.Record (kind_of bs) (call_of bs) (record { at = n; first = false })))

    go : (p q : Bool) → it p q (c.at - k + size_of (kind_of bs)) ≡ read_back k (it p q (c.at + size_of (kind_of bs)))
    go true q = refl
    go false true = refl
    go false false =
        let z : c.at - k + size_of (kind_of bs) ≡ c.at + size_of (kind_of bs) - k = omega arith in
        ap (it false false) z

read_back_lem : (k : ℕ) (tape : List ℕ) (c : Cursor) → k ≤ c.at → read_at (drop k tape) (back k c) ≡ read_back k (read_at tape c)
unfolding read_at
read_back_lem k tape c h =
    let z : k + (c.at - k) ≡ c.at = omega arith in
    let same : drop (c.at - k) (drop k tape) ≡ drop c.at tape = drop-drop (c.at - k) k tape ∙ ap (λ (n : ℕ). drop n tape) z in
    let inside : ltb (c.at - k) (length (drop k tape)) ≡ ltb c.at (length tape) = ap (ltb (c.at - k)) (length-drop k tape) ∙ ltb_back k c.at (length tape) h in
    (λ i. cond (inside i) (record_of (back k c) (same i)) Read.End) ∙ go (ltb c.at (length tape))
  where
    go : (b : Bool) → cond b (record_of (back k c) (drop c.at tape)) Read.End ≡ read_back k (cond b (record_of c (drop c.at tape)) Read.End)
    go true = record_back k c (drop c.at tape) h
    go false = refl

short_back : (k : ℕ) (whole : Bool) (tape : List ℕ) (c : Cursor) → k ≤ c.at → is_short whole (length (drop k tape)) (c.at - k) ≡ is_short whole (length tape) c.at
short_back k true tape c h = refl
short_back k false tape c h =
    let z : length (drop k tape) - (c.at - k) ≡ length tape - c.at = omega (arith, length-drop k tape) in
    ap (λ (n : ℕ). ltb n 47) z

-- ---- the same is left

module _ (form : Form) (pool : List Float) (k : ℕ) (tape : List ℕ) (whole : Bool) where
  called : (s : Sequencer) (c : Cursor) (kind : ℕ) (a : Applied) (x : List Float) (next : Cursor) (room : ℕ) → ((t : Sequencer) (left : ℕ) → Moves form pool k tape whole t next left)
      → after_call form (again form pool (drop k tape) whole) s (back k c) kind a x (back k next) room ≡ cursor_back k (after_call form (again form pool tape whole) s c kind a x next room)
  unfolding after_call
  called s c kind a x next room law = go (ltb room (room_for form bytes)) (eqb a.refusal 1)
    where
      bytes : List ℕ
      bytes = left_by form kind a x

      go : (p q : Bool)
          → cond p (stops s (back k c) [] Full)
          (cond q (stops a.sequencer (back k next) bytes (Refused 1)) (behind bytes (ran form pool (drop k tape) whole a.sequencer (back k next) (room - length bytes))))
          ≡ cursor_back k
          (cond p (stops s c [] Full) (cond q (stops a.sequencer next bytes (Refused 1)) (behind bytes (ran form pool tape whole a.sequencer next (room - length bytes)))))
      go true q = refl
      go false true = refl
      go false false = ap (behind bytes) (law a.sequencer (room - length bytes))

  read : (r : Read) (s : Sequencer) (c : Cursor) (room : ℕ) → ((kind : ℕ) (call : Call) (next : Cursor) → r ≡ Read.Record kind call next → (t : Sequencer) (left : ℕ) → Moves form pool k tape whole t next left)
      → after_read form pool (again form pool (drop k tape) whole) (read_back k r) s (back k c) silence room ≡ cursor_back k (after_read form pool (again form pool tape whole) r s c silence room)
  unfolding after_read ending
  read (Read.Record kind call next) s c room law = called s c kind (applied_to pool s call silence) (applied_out pool s call silence) next room (law kind call next refl)
  read (Read.Refused kind n) s c room law = refl
  read Read.End s c room law = refl

  step : (s : Sequencer) (c : Cursor) (room : ℕ) → k ≤ c.at → ((kind : ℕ) (call : Call) (next : Cursor) → read_at tape c ≡ Read.Record kind call next → (t : Sequencer) (left : ℕ) → Moves form pool k tape whole t next left) → Moves form pool k tape whole s c room
  step s c room h law =
      unrolls form pool (drop k tape) whole s (back k c) room
      ∙ (λ i. cond (short_back k whole tape c h i) (stops s (back k c) [] Short) (after_read form pool (again form pool (drop k tape) whole) (read_back_lem k tape c h i) s (back k c) silence room))
      ∙ ap (cond (is_short whole (length tape) c.at) (stops s (back k c) [] Short)) (read (read_at tape c) s c room law)
      ∙ go (is_short whole (length tape) c.at)
      ∙ ap (cursor_back k) (sym (unrolls form pool tape whole s c room))
    where
      later : Ran
      later = after_read form pool (again form pool tape whole) (read_at tape c) s c silence room

      go : (b : Bool) → cond b (stops s (back k c) [] Short) (cursor_back k later) ≡ cursor_back k (cond b (stops s c [] Short) later)
      go true = refl
      go false = refl

  by_bytes : (n : ℕ) (s : Sequencer) (c : Cursor) (room : ℕ) → k ≤ c.at → length tape ≤ c.at + n → Moves form pool k tape whole s c room
  by_bytes zero s c room h l = step s c room h (λ kind call next e t left. let m = moves tape c kind call next e in absurd (omega arith))
  by_bytes (suc n) s c room h l = step s c room h (λ kind call next e t left. let m = moves tape c kind call next e in by_bytes n t next left (omega arith) (omega arith))

  -- ---- the law: k bytes may be dropped that stand before the cursor
  pub moved : (s : Sequencer) (c : Cursor) (room : ℕ) → k ≤ c.at → Moves form pool k tape whole s c room
  moved s c room h = by_bytes (length tape) s c room h (omega arith)

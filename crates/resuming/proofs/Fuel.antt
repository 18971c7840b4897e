-- The records that a tape has are no more than its bytes, so more fuel than bytes changes nothing. Assumes nothing.
use Rattle.std.specs.Prelude.{◌≡◌, Bool, cond, Float, replicate}
use Rattle.std.proofs.Math.Path.{refl, sym, ap}
use Rattle.std.proofs.Common.{◌∙◌, arith, le-ltb, lt-ltb}
use Rattle.std.proofs.Math.Bool.{true, false}
use mathlib.Core.List.{List, []}
use Prim.Native.Nat.{ℕ, zero, suc, ◌+◌, ◌-◌, ◌≤◌}
use Rattle.std.proofs.Math.ListN.{length, length-replicate}
use Rattle.floats.specs.Arithmetic.{zeroᶠ}
use Rattle.sequencer.specs.declared.Sequencer.{Sequencer}
use Rattle.tape.specs.declared.reader.Cursor.{Cursor}
use Rattle.tape.specs.declared.reader.Read.{Read}
use Rattle.tape.specs.declared.reader.Read.TheVariants as Read
use Rattle.tape.specs.Tape.{read_at}
use Rattle.record_output.specs.declared.Form.{Form}
use Rattle.record_output.specs.declared.Pause.TheVariants.{Short}
use Rattle.record_output.specs.Endings.{is_short}
use Rattle.player.specs.Records.{Rest, stops, after_read, at_end, ran_from, ran}
use Rattle.tape.specs.Cursors.{moves}
use Rattle.resuming.proofs.Samples.{read_alike, next_alike, same_samples_lem}

module _ (form : Form) (pool : List Float) (tape : List ℕ) (whole : Bool) where
  -- where no byte is left nothing is read
  over : (w : Bool) (rest : Rest) (s : Sequencer) (c : Cursor) (samples : List Float) (room : ℕ) → length tape ≤ c.at
      → stops s c [] (at_end w) ≡ cond (is_short w (length tape) c.at) (stops s c [] Short) (after_read form pool rest (read_at tape c) s c samples room)
  unfolding after_read read_at
  over true rest s c samples room h =
      let end : read_at tape c ≡ Read.End = simp (le-ltb c.at (length tape) h) in
      ap (λ (r : Read). after_read form pool rest r s c samples room) (sym end)
  over false rest s c samples room h = simp (lt-ltb (length tape - c.at) 47 (omega arith))

  -- fuel for every byte left is enough: more changes nothing
  pub enough_fuel : (f g : ℕ) (s : Sequencer) (c : Cursor) (samples : List Float) (room : ℕ) → length tape ≤ c.at + f → length tape ≤ c.at + g
      → ran_from form pool tape whole f s c samples room ≡ ran_from form pool tape whole g s c samples room
  unfolding ran_from
  enough_fuel zero zero s c samples room p q = refl
  enough_fuel zero (suc g) s c samples room p q = over whole (ran_from form pool tape whole g) s c samples room (omega arith)
  enough_fuel (suc f) zero s c samples room p q = sym (over whole (ran_from form pool tape whole f) s c samples room (omega arith))
  enough_fuel (suc f) (suc g) s c samples room p q =
      ap (cond (is_short whole (length tape) c.at) (stops s c [] Short))
      (next_alike form pool (ran_from form pool tape whole f) (ran_from form pool tape whole g) (read_at tape c) s c samples room
      (λ k call next e t v left. let m = moves tape c k call next e in enough_fuel f g t next v left (omega arith) (omega arith)))

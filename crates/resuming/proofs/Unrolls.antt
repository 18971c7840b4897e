-- A run is its first record, then a run: no fuel and no samples are left in that. Assumes nothing.
use Rattle.std.specs.Prelude.{◌≡◌, Bool, cond, Float, replicate}
use Rattle.std.proofs.Math.Path.{refl, sym, ap}
use Rattle.std.proofs.Common.{◌∙◌, arith, le-ltb, lt-ltb}
use Rattle.std.proofs.Math.Bool.{true, false}
use mathlib.Core.List.{List, []}
use Prim.Native.Nat.{ℕ, zero, suc, ◌+◌, ◌-◌, ◌≤◌}
use Rattle.std.proofs.Math.ListN.{length, length-replicate}
use Rattle.floats.specs.Arithmetic.{zeroᶠ}
use Rattle.sequencer.specs.declared.Sequencer.{Sequencer}
use Rattle.tape.specs.declared.reader.Cursor.{Cursor}
use Rattle.tape.specs.declared.reader.Read.{Read}
use Rattle.tape.specs.declared.reader.Read.TheVariants as Read
use Rattle.tape.specs.Tape.{read_at}
use Rattle.record_output.specs.declared.Form.{Form}
use Rattle.record_output.specs.declared.Pause.TheVariants.{Short}
use Rattle.record_output.specs.Endings.{is_short}
use Rattle.player.specs.Records.{Rest, stops, after_read, at_end, ran_from, ran}
use Rattle.tape.specs.Cursors.{moves}
use Rattle.resuming.proofs.Samples.{read_alike, next_alike, same_samples_lem}
use Rattle.resuming.specs.Again.{silence, again}
use Rattle.resuming.proofs.Fuel.{enough_fuel}

module _ (form : Form) (pool : List Float) (tape : List ℕ) (whole : Bool) where
  -- a run is its first record, then a run
  pub unrolls : (s : Sequencer) (c : Cursor) (room : ℕ)
      → ran form pool tape whole s c room ≡ cond (is_short whole (length tape) c.at) (stops s c [] Short) (after_read form pool (again form pool tape whole) (read_at tape c) s c silence room)
  unfolding ran ran_from
  unrolls s c room =
      let n : ℕ = length tape in
      let long : length silence ≡ 512 = length-replicate 512 zeroᶠ in
      enough_fuel form pool tape whole n (suc n) s c silence room (omega arith) (omega arith)
      ∙ ap (cond (is_short whole (length tape) c.at) (stops s c [] Short))
      (read_alike form pool (ran_from form pool tape whole n) (again form pool tape whole) (read_at tape c) s c silence silence room long long
      (λ t d v w left p q. same_samples_lem form pool tape whole n t d v silence left p long))

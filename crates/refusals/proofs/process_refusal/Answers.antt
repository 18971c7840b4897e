-- `refusals::process_refusal` meets its contract. Assumes nothing.
use Rattle.std.proofs.Common.{◌≡◌, ◌/◌, ◌%◌, true, ◌&&◌, eqb, le-ltb, lt-ltb, eq-eqb, ne_eqb}
use lib.Ieee.{of_bits, of_int, round}
use Rattle.floats.specs.Arithmetic.{whole}
use Rattle.refusals.specs.Refusals.{process_refusal}
use Rattle.refusals.proofs.process_refusal.Goals as goal
use Rattle.refusals.proofs.process_refusal.Goals.{Else-len-outputs, then-len-ne0-via-then-len-ne0, then-len-ne0-via-else-len-ne0+then-len-outputs}

length-passes : (c : Else-len-outputs) → (let a = c.args in (eqb (a.len % 64) 0 && eqb (a.len / 64) a.outputs) ≡ true)
length-passes c = rw (eq-eqb _ _ c.if-len-ne0.false, eq-eqb _ _ c.if-len-outputs.false)

pub returns-then-len-ne0 : goal.returns-then-len-ne0
unfolding process_refusal
returns-then-len-ne0 c = elim c.then-len-ne0.branch [
  | then-len-ne0-via-then-len-ne0 w ↦ rw (ne_eqb _ _ w.if-len-ne0.true)
  | then-len-ne0-via-else-len-ne0+then-len-outputs w ↦ rw (eq-eqb _ _ w.if-len-ne0.false, ne_eqb _ _ w.if-len-outputs.true)
]

pub returns-then-size-gt64 : goal.returns-then-size-gt64
unfolding process_refusal
returns-then-size-gt64 c = rw (length-passes c.before, lt-ltb _ _ c.if-size-gt64.true)

pub returns-then-not-time-sample_duration : goal.returns-then-not-time-sample_duration
unfolding process_refusal whole of_int of_bits round
returns-then-not-time-sample_duration c =
    let p = c.before.before in
    rw (length-passes p.before, le-ltb _ _ p.if-size-gt64.false, ← c.nearest_u64_to_f64.ensures, c.if-not-time-sample_duration.true)

pub returns : goal.returns
unfolding process_refusal whole of_int of_bits round
returns c =
    let p = c.before.before in
    rw (length-passes p.before, le-ltb _ _ p.if-size-gt64.false, ← c.nearest_u64_to_f64.ensures, c.if-not-time-sample_duration.false)

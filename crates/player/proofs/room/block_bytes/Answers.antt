-- `player::room::block_bytes` meets its contract: by two cases on the refusal.
use mathlib.Core.Path.{◌≡◌, ap, ◌∙◌}
use Prim.Native.Nat.{ℕ, ◌*◌, ◌≤◌, ◌<◌, min}
use native.Mathlib.Nat.{mul-le-mul_right}
use native.Mathlib.Omega.{arith}
use borrow.Author.Tests.{eq-eqb, ne_eqb}
use mathlib.Core.Bool.{false}
use lib.Dec.{eqb}
use Rattle.refusals.specs.Numbers.{refused_is, taken_is}
use Rattle.refusals.specs.Refusals.{process_refusal}
use Rattle.player.specs.Carrying.{block_bytes}
use borrow.Author.Rules.{rules}
use Rattle.player.proofs.room.block_bytes.Goals as goal

-- at most 8 channels
below : (k n m : ℕ) → k ≡ min m 8 → k * n ≤ 8 * n
below k n m h = mul-le-mul_right n (omega arith)

-- a refusal's number is not 0
refused-test : (n : ℕ) → 0 < n → eqb n 0 ≡ false
refused-test n h = ne_eqb n 0 (λ z. omega arith)

pub returns-in-Some : goal.returns-in-Some
unfolding block_bytes
returns-in-Some c =
    let a = c.args in
    let e = c.process_refusal.ensures ∙ ap (λ (k : ℕ). process_refusal a.size (64 * k) a.outputs a.time a.duration) c.min-channels.ensures in
    let some = (refused_is _ _ _ e c.in-Some.is).1 in
    rw (refused-test _ some)

pub overflow_mul-result : goal.overflow_mul-result
overflow_mul-result c =
    let z = below c.min-channels.result c.args.size c.args.outputs c.min-channels.ensures in
    let s = c.ranges.size.fits in
    record { fits = omega arith }

pub overflow_mul-result-in-None : goal.overflow_mul-result-in-None
overflow_mul-result-in-None c =
    let z = below c.min-channels.result c.args.size c.args.outputs c.min-channels.ensures in
    let s = c.ranges.size.fits in
    record { fits = omega arith }

pub returns-in-None : goal.returns-in-None
unfolding block_bytes
returns-in-None c =
    let a = c.args in
    let e = c.process_refusal.ensures ∙ ap (λ (k : ℕ). process_refusal a.size (64 * k) a.outputs a.time a.duration) c.min-channels.ensures in
    rw (eq-eqb _ 0 (taken_is _ _ e c.in-None.is)) (ap (λ (k : ℕ). 4 * (k * a.size)) c.min-channels.ensures)

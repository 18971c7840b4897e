-- `player::room::tick_bytes` meets its contract: by two cases on the refusal.
use mathlib.Core.Path.{◌≡◌, ap, ◌∙◌}
use Prim.Native.Nat.{ℕ, ◌*◌, ◌<◌}
use native.Mathlib.Omega.{arith}
use borrow.Author.Tests.{eq-eqb, ne_eqb}
use mathlib.Core.Bool.{false}
use lib.Dec.{eqb}
use Rattle.refusals.specs.Numbers.{refused_is, taken_is}
use Rattle.refusals.specs.Refusals.{tick_refusal}
use Rattle.player.specs.Carrying.{tick_bytes}
use borrow.Author.Rules.{rules}
use Rattle.player.proofs.room.tick_bytes.Goals as goal

-- a refusal's number is not 0
refused-test : (n : ℕ) → 0 < n → eqb n 0 ≡ false
refused-test n h = ne_eqb n 0 (λ z. omega arith)

pub returns-in-Some : goal.returns-in-Some
unfolding tick_bytes
returns-in-Some c =
    let a = c.args in
    let e = c.tick_refusal.ensures ∙ ap (λ (k : ℕ). tick_refusal k a.outputs a.time a.duration) c.min-channels.ensures in
    let some = (refused_is _ _ _ e c.in-Some.is).1 in
    rw (refused-test _ some)

pub returns-in-None : goal.returns-in-None
unfolding tick_bytes
returns-in-None c =
    let a = c.args in
    let e = c.tick_refusal.ensures ∙ ap (λ (k : ℕ). tick_refusal k a.outputs a.time a.duration) c.min-channels.ensures in
    rw (eq-eqb _ 0 (taken_is _ _ e c.in-None.is)) (ap (λ (k : ℕ). 4 * k) c.min-channels.ensures)

-- `little_endian::put_word` meets its contract. Assumes nothing.
use mathlib.Core.Path.{◌≡◌, refl, ap, ◌∙◌}
use mathlib.Core.List.{[], ◌∷◌, ◌++◌}
use Prim.Native.Nat.{ℕ, ◌+◌, ◌-◌, ◌/◌, ◌%◌, ◌<◌}
use native.Mathlib.Omega.{arith}
use Rattle.listing.specs.Putting.{begin, further, ended, left_is, place_is}
use Rattle.little_endian.specs.LowBytes.{little_endian, little_step}
use Rattle.little_endian.proofs.put_word.Goals as goal

pub loop-i-init : goal.loop-i-init
loop-i-init c =
    let a = c.args in
    let z : a.width ≡ a.width - 0 = omega arith in
    let p : a.at ≡ a.at + 0 = omega arith in
    place_is (left_is (begin _ _ _) (ap (λ (k : ℕ). little_endian k a.n) z)) p

pub loop-i-preserved : goal.loop-i-preserved
loop-i-preserved c =
    let l = c.loop-i in
    let a = c.args in
    let k = a.width - l.i in
    let some : 0 < k = let t = c.loop-i-test.true in omega arith in
    let z : k - 1 ≡ a.width - (l.i + 1) = omega arith in
    let p : a.at + l.i + 1 ≡ a.at + (l.i + 1) = omega arith in
    place_is (further (l.rest % 256 ∷ []) _ (left_is l.invariant (little_step k l.rest some ∙ ap (λ (j : ℕ). (l.rest % 256 ∷ []) ++ little_endian j (l.rest / 256)) z)) _ refl) p

pub returns : goal.returns
unfolding little_endian
returns c =
    let l = c.loop-i in
    let a = c.args in
    let z : a.width - l.i ≡ 0 = omega (arith, c.loop-i-test.false) in
    ended (left_is l.invariant (ap (λ (k : ℕ). little_endian k l.rest) z))

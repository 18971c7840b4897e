-- `listing::put_digits` meets its contract: the digits are put from the last place down. Assumes nothing.
use Rattle.std.proofs.Common.{◌≡◌, ◌<◌, length, arith, ap, ◌∙◌}
use native.Mathlib.Nat.{mod-lt, lt_of_lt_of_le}
use lib.Seq.{length-sets}
use Rattle.listing.proofs.Lines.{first-digit, next-digit, all_digits}
use Rattle.listing.proofs.put_digits.Goals as goal

pub loop-i-init : goal.loop-i-init
loop-i-init c = first-digit _ _ _ _ _

pub digit-requires : goal.digit-requires
digit-requires c = let p = c.requires.fact_1 in let q = c.requires.fact_2 in lt_of_lt_of_le (mod-lt c.loop-i.rest (let z : 0 < c.args.base = omega arith in z)) q

pub bounds-out-at : goal.bounds-out-at
bounds-out-at c = let p = c.requires.fact_3 in let h = ap length c.loop-i.invariant.is ∙ length-sets _ _ c.loop-i.invariant.acc in omega arith

pub loop-i-preserved : goal.loop-i-preserved
loop-i-preserved c = next-digit c.loop-i.i c.loop-i-test.true c.loop-i.invariant c.digit.result c.digit.ensures

pub returns : goal.returns
returns c = let z : c.loop-i.i ≡ 0 = omega (arith, c.loop-i-test.false) in all_digits c.loop-i.i z c.loop-i.invariant

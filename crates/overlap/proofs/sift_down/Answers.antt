use Rattle.std.proofs.Common.{refl, sym, ◌∙◌, arith, length-set}
use Rattle.ready.proofs.Rounds.{sinking_on, sunk}
use Rattle.overlap.specs.Keys.{key_less, no_key}
use Rattle.overlap.proofs.sift_down.Goals as goal

pub loop-i-init : goal.loop-i-init
loop-i-init c = (omega arith, c.requires, refl, record { fuel = c.args.m; enough = omega arith; gives = refl })

pub loop-i-preserved : goal.loop-i-preserved
loop-i-preserved c =
    let v = c.loop-i.invariant in (
      omega arith,
      simp length-set v.1,
      simp length-set v.2,
      sinking_on key_less no_key _ _ _ _ _ _ _ c.loop-i-test.true (sym c.first_child-c.ensures.value) refl v.3,
    )

pub returns : goal.returns
returns c = c.sift_up.ensures ∙ sunk key_less no_key _ _ _ _ _ c.loop-i-test.false c.loop-i.invariant.3

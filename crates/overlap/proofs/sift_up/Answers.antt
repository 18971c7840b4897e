use Rattle.std.proofs.Common.{refl, sym, ◌∙◌, arith, length-set}
use Rattle.ready.proofs.Rounds.{rising_on, risen_root, risen_stop}
use Rattle.overlap.specs.Keys.{key_less, no_key}
use Rattle.overlap.proofs.sift_up.Goals as goal
use Rattle.overlap.proofs.sift_up.Goals.{else-loop-i-test, then-loop-i-test+then-not-is_sooner}

pub loop-i-init : goal.loop-i-init
loop-i-init c = (omega arith, refl, record { fuel = c.args.n; enough = omega arith; gives = refl })

pub loop-i-preserved : goal.loop-i-preserved
loop-i-preserved c =
    let v = c.loop-i.invariant in
    (omega arith, simp length-set v.1, rising_on key_less no_key _ _ _ _ c.loop-i-test.true (sym c.is_sooner.ensures ∙ c.if-not-is_sooner.false) v.2)

pub returns : goal.returns
returns c =
    let v = c.loop-i.invariant in
    elim c.loop-i-test.branch [
      | else-loop-i-test w ↦ risen_root key_less no_key _ _ _ _ w.loop-i-test.false v.2
      | then-loop-i-test+then-not-is_sooner w ↦ risen_stop key_less no_key _ _ _ _ (sym w.is_sooner.ensures ∙ w.if-not-is_sooner.true) v.2
    ]

use Rattle.std.proofs.Common.{refl, arith, rules}
use Rattle.overlap.proofs.Draining.{draining_start, draining_turn, draining_done}
use Rattle.overlap.proofs.drain_sorted.Goals as goal

pub loop-k-init : goal.loop-k-init
loop-k-init c = (refl, refl, draining_start _ _ _ c.requires.fits c.requires.ordered)

pub loop-k-preserved : goal.loop-k-preserved
loop-k-preserved c =
    let p = c.requires in
    let v = c.loop-k.invariant in (
      search rules,
      search rules,
      draining_turn _ _ _ _ _ _ _ _ (omega (arith, p.has)) (omega (arith, p.room, v.1)) refl c.sift_down.ensures v.2,
    )

pub returns : goal.returns
returns c = draining_done _ _ _ _ _ _ _ c.loop-k.auto.k-end c.loop-k-test.false c.loop-k.invariant.2

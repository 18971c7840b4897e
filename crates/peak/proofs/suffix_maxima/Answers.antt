use Rattle.peak.proofs.Rows.{rising-start, rising-turn}
use Rattle.peak.proofs.suffix_maxima.Goals as goal

pub loop-i-init : goal.loop-i-init
loop-i-init c = rising-start _ _ c.requires

pub loop-i-preserved : goal.loop-i-preserved
loop-i-preserved c = rw c.max-most.ensures (rising-turn _ _ c.loop-i.invariant c.loop-i-test.true)

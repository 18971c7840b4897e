use Rattle.peak.proofs.Rows.{Rising}
use Rattle.peak.proofs.suffix_maxima.Given as goal

abbrev pub invariant-loop-i : goal.invariant-loop-i
invariant-loop-i l = Rising l.n l.initial.row l.i l.most l.row

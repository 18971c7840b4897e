use Rattle.std.proofs.Common.{sym, ap, ◌∙◌, arith, Ok, Err}
use Rattle.peak.specs.Steps.{refused}
use Rattle.peak.proofs.Turns.{outside, in-limits}
use Rattle.peak.proofs.RunningPeak.new.Goals as goal

pub returns-then-window-lt1 : goal.returns-then-window-lt1
returns-then-window-lt1 c = ap (λ p. Err (refused p)) c.fresh.ensures ∙ sym (outside _ _ c.then-window-lt1.either)

pub returns : goal.returns
returns c = ap Ok c.fresh-2.ensures ∙ sym (in-limits _ _ (omega arith) (omega arith) (omega arith))

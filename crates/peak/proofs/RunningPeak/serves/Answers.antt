use Rattle.std.proofs.Common.{sym, ◌∙◌, le-leb, le-ltb}
use Rattle.peak.proofs.Turns.{misplaced, narrow, wide}
use Rattle.peak.proofs.RunningPeak.serves.Goals as goal

pub returns-then-self-le1 : goal.returns-then-self-le1
returns-then-self-le1 c = le-leb _ 1 c.if-self-le1.true ∙ sym (narrow _ _ c.if-self.true c.if-self-le1.true)

pub returns-else-self-le1 : goal.returns-else-self-le1
returns-else-self-le1 c = sym (wide _ _ c.if-self.true c.if-self-le1.false)

pub returns-else-self : goal.returns-else-self
returns-else-self c = le-ltb _ _ c.if-self.false ∙ sym (misplaced _ _ c.if-self.false)

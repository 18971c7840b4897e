use Rattle.std.proofs.Common.{sym, rules}
use Rattle.peak.specs.Steps.{older}
use Rattle.peak.proofs.Turns.{left_of_none}
use Rattle.peak.proofs.RunningPeak.older.Goals as goal

pub returns-then-self-row : goal.returns-then-self-row
unfolding older
returns-then-self-row c = search rules

pub returns-else-self : goal.returns-else-self
returns-else-self c = sym (left_of_none _ _ c.else-self.either)

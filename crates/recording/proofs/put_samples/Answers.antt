use Rattle.std.proofs.Common.{rules, refl, sym, ◌∙◌, arith}
use Rattle.recording.specs.Samples.{samples_from}
use Rattle.recording.proofs.Steps.{start, turn, done}
use Rattle.recording.proofs.put_samples.Goals as goal

pub returns-then-out-at : goal.returns-then-out-at
unfolding samples_from
returns-then-out-at c = record { count = omega (arith, c.if-out-at.true); lent = refl }

pub loop-i-init : goal.loop-i-init
loop-i-init c = start _ _ _ _

pub loop-i-preserved : goal.loop-i-preserved
loop-i-preserved c = turn _ _ _ _ _ _ (search rules) c.f32_at.ensures ∙ c.loop-i.invariant

pub returns-clause-lent : goal.returns-clause-lent
returns-clause-lent c = sym (done _ _ _ _ _ (search rules)) ∙ c.loop-i.invariant

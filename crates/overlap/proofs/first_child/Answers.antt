use Rattle.std.proofs.Common.{sym, ◌∙◌}
use Rattle.ready.proofs.Steps.{child_left, child_first, child_second}
use Rattle.overlap.specs.Keys.{key_less, no_key}
use Rattle.overlap.proofs.first_child.Goals as goal
use Rattle.overlap.proofs.first_child.Goals.{else-r-m-via-then-r-m+else-is_sooner, else-r-m-via-else-r-m}

pub returns-then-is_sooner-clause-value : goal.returns-then-is_sooner-clause-value
returns-then-is_sooner-clause-value c = sym (child_second key_less no_key _ _ _ c.if-r-m.true (sym c.is_sooner.ensures ∙ c.if-is_sooner.true))

pub returns-else-r-m-clause-value : goal.returns-else-r-m-clause-value
returns-else-r-m-clause-value c =
    elim c.else-r-m.branch [
      | else-r-m-via-then-r-m+else-is_sooner w ↦ sym (child_first key_less no_key _ _ _ (sym w.is_sooner.ensures ∙ w.if-is_sooner.false))
      | else-r-m-via-else-r-m w ↦ sym (child_left key_less no_key _ _ _ w.if-r-m.false)
    ]

-- `overlap::is_sooner` meets its contract: at each answer of `total_cmp`, `tied` says what `sooner` is. Assumes nothing.
use Rattle.std.proofs.Common.{◌≡◌, ltb, sym, ap, ◌∙◌}
use Rattle.std.specs.declared.cmp.Ordering.{Ordering}
use Rattle.floats.specs.Ordered.{ordered}
use Rattle.floats.specs.Sooner.{tied, sooner-ordered}
use Rattle.overlap.specs.Keys.{Key, key_less}
use Rattle.overlap.proofs.is_sooner.Goals as goal

at : (a b : Key) (o p : Ordering) → o ≡ p → o ≡ ordered a.0 b.0 → tied p (ltb a.1 b.1) ≡ key_less a b
at a b o p q r = ap (λ (o : Ordering). tied o (ltb a.1 b.1)) (sym q ∙ r) ∙ sooner-ordered a.0 a.1 b.0 b.1

pub returns-in-Less : goal.returns-in-Less
returns-in-Less c = at c.args.a c.args.b _ _ c.in-Less.is c.total_cmp.ensures

pub returns-in-Equal : goal.returns-in-Equal
returns-in-Equal c = at c.args.a c.args.b _ _ c.in-Equal.is c.total_cmp.ensures

pub returns-in-Greater : goal.returns-in-Greater
returns-in-Greater c = at c.args.a c.args.b _ _ c.in-Greater.is c.total_cmp.ensures

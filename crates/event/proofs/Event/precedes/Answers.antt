-- `event::Event::precedes` meets its contract: at each answer of `total_cmp`, `tied` says what `sooner` is. Assumes nothing.
use Rattle.std.proofs.Common.{◌≡◌, ltb, sym, ap, ◌∙◌}
use Rattle.floats.specs.Ordered.{ordered}
use Rattle.std.specs.declared.cmp.Ordering.{Ordering}
use Rattle.floats.specs.Sooner.{tied, sooner-ordered}
use Rattle.event.specs.declared.Event.{Event}
use Rattle.event.specs.Events.{earlier, number_of}
use Rattle.event.proofs.Event.precedes.Goals as goal

at : (a b : Event) (o p : Ordering) → o ≡ p → o ≡ ordered a.start_time b.start_time → tied p (ltb (number_of a) (number_of b)) ≡ earlier a b
at a b o p q r =
    ap (λ (o : Ordering). tied o (ltb (number_of a) (number_of b))) (sym q ∙ r)
    ∙ sooner-ordered a.start_time (number_of a) b.start_time (number_of b)

pub returns-in-Less : goal.returns-in-Less
returns-in-Less c = let s = c.args in at s.self s.other _ _ c.in-Less.is c.total_cmp.ensures

pub returns-in-Equal : goal.returns-in-Equal
returns-in-Equal c = let s = c.args in at s.self s.other _ _ c.in-Equal.is c.total_cmp.ensures

pub returns-in-Greater : goal.returns-in-Greater
returns-in-Greater c = let s = c.args in at s.self s.other _ _ c.in-Greater.is c.total_cmp.ensures

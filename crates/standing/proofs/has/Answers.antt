use Rattle.std.proofs.Common.{eqb, take, ap, ◌∙◌, rules, tests}
use Rattle.std.proofs.lemmas.Iterator.{YieldsList-from_slice}
use Rattle.std.proofs.lemmas.Iterator.Search.{any_from_yields_List}
use Rattle.event.specs.declared.Event.{Event}
use Rattle.event.specs.Events.{number_of}
use Rattle.ledger.specs.Lists.{has as has_number}
use Rattle.standing.proofs.Scanning.{any-has, first-ones}
use Rattle.standing.proofs.has.Goals as goal

pub returns : goal.returns
returns c =
    let k = c.args.number in
    let xs = take c.min.result c.args.events.now in
    let a = any_from_yields_List (λ (e : Event). eqb (number_of e) k) _ _ _ c.any.ensures.ran (YieldsList-from_slice xs cc) (λ x b q h. search (rules, tests)) in
    a ∙ any-has k xs ∙ ap (has_number k) (first-ones _ _ c.args.events.now c.told-events c.min.ensures)

-- `mixing::count_fade_in` meets its contract. Assumes nothing.
use Rattle.std.proofs.Common.{sym, ap, ◌∙◌}
use Rattle.event.specs.PlacingCounts.{one_more}
use Rattle.ledger.specs.Places.{fade_in_placings}
use Rattle.mixing.specs.declared.Place.{Place}
use Rattle.mixing.proofs.count_fade_in.Goals as goal

pub returns-then-fades_in : goal.returns-then-fades_in
unfolding fade_in_placings
returns-then-fades_in c = rw (sym c.fades_in.ensures ∙ c.if-fades_in.true) (c.add.ensures ∙ ap (λ (q : Place). one_more c.args.places q.how) c.fade_in_place-place.ensures)

pub returns : goal.returns
unfolding fade_in_placings
returns c = rw (sym c.fades_in.ensures ∙ c.if-fades_in.false)

-- `mixing::count_fade_out` meets its contract. Assumes nothing.
use Rattle.std.proofs.Common.{sym, ap, ◌∙◌}
use Rattle.event.specs.PlacingCounts.{one_more}
use Rattle.ledger.specs.Places.{fade_out_placings}
use Rattle.mixing.specs.declared.Place.{Place}
use Rattle.mixing.proofs.count_fade_out.Goals as goal

pub returns-then-fades_out : goal.returns-then-fades_out
unfolding fade_out_placings
returns-then-fades_out c = rw (sym c.fades_out.ensures ∙ c.if-fades_out.true) (c.add.ensures ∙ ap (λ (q : Place). one_more c.args.places q.how) c.fade_out_place-place.ensures)

pub returns : goal.returns
unfolding fade_out_placings
returns c = rw (sym c.fades_out.ensures ∙ c.if-fades_out.false)

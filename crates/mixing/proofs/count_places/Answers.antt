-- `mixing::count_places` meets its contract. Assumes nothing.
use Rattle.std.proofs.Common.{◌++◌, sym, ap, ◌∙◌, ap₂, le-ltb, lt-ltb}
use Rattle.event.specs.declared.Placings.{Placings}
use Rattle.event.specs.PlacingCounts.{one_more, add_all, add_all-append}
use Rattle.ledger.specs.Places.{fade_in_placings, fade_out_placings, event_placings}
use Rattle.mixing.specs.declared.Place.{Place}
use Rattle.mixing.specs.Blocks.{as_span}
use Rattle.mixing.proofs.count_places.Goals as goal

pub returns-then-s-z : goal.returns-then-s-z
unfolding event_placings
returns-then-s-z c =
    let b = as_span c.args.span in
    let e = c.args.event in
    let first = ap (λ (q : Place). q.at) c.first_place-first.ensures in
    let end = ap (λ (q : Place). q.at) c.end_place-end.ensures in
    let s = c.first_place-first.result.at in
    let outs = fade_out_placings b s e in
    let ins = fade_in_placings b e in
    let two = c.add-places.ensures ∙ ap (λ (p : Placings). one_more p c.end_place-end.result.how) c.add.ensures
    ∙ ap₂ (λ (p q : Place). one_more (one_more c.args.places p.how) q.how) c.first_place-first.ensures c.end_place-end.ensures in
    let all = c.count_fade_out.ensures ∙ ap (λ (p : Placings). add_all p outs) c.count_fade_in-places.ensures ∙ sym (add_all-append c.add-places.result ins outs) ∙ ap (λ (p : Placings). add_all p (ins ++ outs)) two in
    rw (← first, ← end, lt-ltb s c.end_place-end.result.at c.if-s-z.true) all

pub returns : goal.returns
unfolding event_placings
returns c =
    let first = ap (λ (q : Place). q.at) c.first_place-first.ensures in
    let end = ap (λ (q : Place). q.at) c.end_place-end.ensures in
    let two = c.add-places.ensures ∙ ap (λ (p : Placings). one_more p c.end_place-end.result.how) c.add.ensures
    ∙ ap₂ (λ (p q : Place). one_more (one_more c.args.places p.how) q.how) c.first_place-first.ensures c.end_place-end.ensures in
    rw (← first, ← end, le-ltb c.first_place-first.result.at c.end_place-end.result.at c.if-s-z.false) two

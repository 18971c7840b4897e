-- `mixing::process_event` meets its contract. Assumes nothing.
use Rattle.std.proofs.Common.{◌≡◌, ℕ, ◌-◌, ◌||◌, leb, length, sym, ap, ◌∙◌, arith, le-ltb, lt-ltb, leb-true}
use Rattle.event.specs.declared.Unit.{Unit}
use Rattle.event.specs.declared.Source.{Source}
use Rattle.event.specs.Sources.{advanced_by}
use Rattle.event.specs.SourceStays.{source_stays}
use Rattle.ledger.specs.BlockSamples.{channel_after, after_block}
use Rattle.ledger.proofs.WithinBlock.{end_within}
use Rattle.mixing.specs.declared.Place.{Place}
use Rattle.mixing.specs.Blocks.{as_span}
use Rattle.mixing.specs.Placed.{fades_in, fades_out}
use Rattle.mixing.proofs.Plain.{is_plain, plain-run}
use Rattle.mixing.proofs.process_event.Goals as goal

-- a source that has moved on by n, put together of its fields
moved_on : (u : Unit) (n : ℕ) (v : Unit) → v ≡ advanced_by u n → record { source = u.source; value = v.value; place = v.place } ≡ advanced_by u n
moved_on u n v h = ap (λ (w : Unit). record { source = u.source; value = w.value; place = w.place }) h ∙ ap (λ (s : Source). record { source = s; value = (advanced_by u n).value; place = (advanced_by u n).place }) (sym (source_stays u n))

pub add_plain-after-requires : goal.add_plain-after-requires
add_plain-after-requires c =
    let a = c.args in
    let b = as_span a.span in
    let z = c.end_place-end.result.at in
    let k = is_plain (leb z (length a.channel.now)) (fades_in b a.event || fades_out b a.event) (sym c.is_plain.ensures ∙ c.if-is_plain.true) in
    let h = c.if-s-z.true in
    record { fact_1 = omega (arith, h); fact_2 = leb-true z (length a.channel.now) k.0 }

pub returns-then-is_plain : goal.returns-then-is_plain
unfolding channel_after after_block
returns-then-is_plain c =
    let a = c.args in
    let b = as_span a.span in
    let e = a.event in
    let first = ap (λ (q : Place). q.at) c.first_place-first.ensures in
    let end = ap (λ (q : Place). q.at) c.end_place-end.ensures in
    let s = c.first_place-first.result.at in
    let z = c.end_place-end.result.at in
    let k = is_plain (leb z (length a.channel.now)) (fades_in b e || fades_out b e) (sym c.is_plain.ensures ∙ c.if-is_plain.true) in
    let test = lt-ltb s z c.if-s-z.true in
    (rw (← first, ← end, test) (moved_on e.unit (z - s) c.add_plain-after.result c.add_plain-after.ensures.0), rw (← first, ← end, test, plain-run b e k.1 a.pool.now s z) c.add_plain-after.ensures.1)

pub slice_bounds-row-end : goal.slice_bounds-row-end
slice_bounds-row-end c =
    omega (arith, end_within (as_span c.args.span) c.args.event, ap (λ (q : Place). q.at) c.end_place-end.ensures)

pub returns-then-s-z : goal.returns-then-s-z
unfolding channel_after after_block
returns-then-s-z c =
    let first = ap (λ (q : Place). q.at) c.first_place-first.ensures in
    let end = ap (λ (q : Place). q.at) c.end_place-end.ensures in
    let test = lt-ltb c.first_place-first.result.at c.end_place-end.result.at c.if-s-z.true in
    (rw (← first, ← end, test) c.add_run.ensures.0, rw (← first, ← end, test) c.add_run.ensures.1)

pub returns : goal.returns
unfolding channel_after after_block
returns c =
    let first = ap (λ (q : Place). q.at) c.first_place-first.ensures in
    let end = ap (λ (q : Place). q.at) c.end_place-end.ensures in
    let test = le-ltb c.first_place-first.result.at c.end_place-end.result.at c.if-s-z.false in
    (rw (← first, ← end, test), rw (← first, ← end, test))

-- `little_endian::put_fields` meets its contract: a field a turn, up to the first that does not fit. Assumes nothing.
use mathlib.Core.Path.{ap, ◌∙◌}
use mathlib.Core.List.{[], ◌∷◌}
use native.Mathlib.Omega.{arith}
use lib.ListN.{length-append}
use Rattle.std.proofs.lemmas.Slice.Zip.{zip_turn, zip_end}
use Rattle.listing.specs.Putting.{same-long}
use Rattle.little_endian.proofs.Steps.{no_pair, no_room, stop, turn_by}
use Rattle.little_endian.proofs.put_fields.Goals as goal

pub returns-then-out-at : goal.returns-then-out-at
returns-then-out-at c =
    let l = c.loop-width in
    let s = c.into_iter-width-iterator in
    let pairs = c.zip-width-items.ensures in
    let e = s.ensures.into_iter_gives in
    let p = c.in-Some in
    let z = zip_turn _ _ l.yielded s.result l.width-iterator c.next.new.self c.next.result (ap (λ i. i.a.rest.now) e ∙ ap (λ i. i.rest.now) pairs.first ∙ c.iter.ensures.rest) (ap (λ i. i.b.rest.now) e ∙ pairs.second.0)
    l.yielded_by (p.width, p.number) p.is c.next.ensures.steps in
    let w = z.2 0 in
    let long = same-long l.invariant.put in
    let r = stop _ _ _ l.invariant (no_room _ _ _ _ z.0 z.1 (omega (arith, c.if-out-at.true))) in
    record { count = r.0; lent = r.1 }

pub loop-width-preserved : goal.loop-width-preserved
loop-width-preserved c =
    let l = c.loop-width in
    let s = c.into_iter-width-iterator in
    let pairs = c.zip-width-items.ensures in
    let e = s.ensures.into_iter_gives in
    let p = c.in-Some in
    let z = zip_turn _ _ l.yielded s.result l.width-iterator c.next.new.self c.next.result (ap (λ i. i.a.rest.now) e ∙ ap (λ i. i.rest.now) pairs.first ∙ c.iter.ensures.rest) (ap (λ i. i.b.rest.now) e ∙ pairs.second.0)
    l.yielded_by (p.width, p.number) p.is c.next.ensures.steps in
    turn_by _ _ _ l.invariant z.0 z.1 p.width.now p.number.now _ (z.2 0) (z.3 0) c.if-out-at.false _ c.put_word.ensures (length-append l.yielded ((p.width, p.number) ∷ []))

pub returns : goal.returns
returns c =
    let l = c.loop-width in
    let s = c.into_iter-width-iterator in
    let pairs = c.zip-width-items.ensures in
    let e = s.ensures.into_iter_gives in
    let z = zip_end _ _ l.yielded s.result l.width-iterator c.next.new.self c.next.result (ap (λ i. i.a.rest.now) e ∙ ap (λ i. i.rest.now) pairs.first ∙ c.iter.ensures.rest) (ap (λ i. i.b.rest.now) e ∙ pairs.second.0)
    l.yielded_by c.in-None.is c.next.ensures.steps in
    let r = stop _ _ _ l.invariant (no_pair _ _ _ _ z) in
    record { count = r.0; lent = r.1 }

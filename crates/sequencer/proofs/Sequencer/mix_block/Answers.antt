-- `sequencer::Sequencer::mix_block` meets its contract.
use Rattle.std.proofs.Common.{◌≡◌, ◌-◌, Bool, true, false, cond, ltb, refl, ap, ◌∙◌, rules}
use Rattle.event.specs.declared.Event.{Event}
use Rattle.event.specs.declared.Unit.{Unit}
use Rattle.event.specs.Events.{with_unit}
use Rattle.event.specs.Sources.{advanced_by}
use Rattle.ledger.specs.BlockSamples.{Span, first_place, end_place, after_block}
use Rattle.sequencer.specs.Rendering.{places_pass}
use Rattle.sequencer.specs.Passing.{passing_start, passing_on, passing_end}
use Rattle.sequencer.proofs.Sequencer.mix_block.Goals as goal

-- of an event only its source changes
moved : (b : Bool) (u : Unit) (e : Event) → with_unit (cond b (with_unit u e) e).unit e ≡ cond b (with_unit u e) e
moved true u e = refl
moved false u e = refl

after-unit : (b : Span) (e : Event) (u : Unit) → u ≡ (after_block b e).unit → with_unit u e ≡ after_block b e
unfolding after_block
after-unit b e u h = ap (λ (v : Unit). with_unit v e) h ∙ moved (ltb (first_place b e) (end_place b e)) (advanced_by e.unit (end_place b e - first_place b e)) e

pub loop-i-init : goal.loop-i-init
loop-i-init c = (passing_start c.min-m.ensures refl, passing_start c.min-m.ensures c.new-places.ensures, refl)

pub loop-i-preserved : goal.loop-i-preserved
loop-i-preserved c =
    let l = c.loop-i in
    let r = c.process_event-event in
    let event = after-unit _ _ _ r.ensures.0 in (
      passing_on c.mix_place-place.ensures.0 event r.ensures.1 c.loop-i-test.true l.invariant.0,
      passing_on c.mix_place-place.ensures.0 event c.count_places-places.ensures c.loop-i-test.true l.invariant.1,
      search rules,
    )

pub returns : goal.returns
unfolding places_pass
returns c =
    let l = c.loop-i in
    let r = passing_end refl c.loop-i-test.false l.invariant.0 in
    record { engine = r.0; samples = r.1; places = (passing_end refl c.loop-i-test.false l.invariant.1).1 }

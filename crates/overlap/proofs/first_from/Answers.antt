use Rattle.std.proofs.Common.{◌≡◌, Ok, option_map, sym, ap, ◌∙◌, arith, rules}
use Rattle.event.specs.declared.Event.{Event}
use Rattle.memory.specs.Memory.{cells_of, engine_of}
use Rattle.overlap.specs.Stretch.{starts_from}
use Rattle.overlap.proofs.Gathering.{sized_engine, count_waits}
use Rattle.overlap.proofs.Scanning.{none_seen, out, first_in, later_in, nan_refused, answered, heap_at}
use Rattle.overlap.proofs.first_from.Goals as goal
use Rattle.overlap.proofs.first_from.Goals.{then-time-event+then-comes_first, else-time-event, else-time-event-via-then-time-event+else-comes_first, else-time-event-via-else-time-event}
use Rattle.overlap.proofs.first_from.Invariants.{heap}

pub returns-then-is_nan : goal.returns-then-is_nan
returns-then-is_nan c = nan_refused _ _ (sym c.is_nan.ensures.value ∙ c.if-is_nan.true)

pub loop-i-init : goal.loop-i-init
loop-i-init c =
    let a = c.args in
    let cells = cells_of a.times.now a.levels.now a.marks.now a.numbers.now in
    (count_waits cells _ c.min-n.ensures, none_seen (starts_from a.time) (heap cells))

pub loop-i-preserved : goal.loop-i-preserved
loop-i-preserved c =
    let l = c.loop-i in
    let v = l.invariant in
    let a = c.args in
    let cells = cells_of a.times.now a.levels.now a.marks.now a.numbers.now in
    let xs = heap cells in
    let p = starts_from a.time in
    let h = heap_at cells _ l.i _ v.0 c.loop-i-test.true c.event_at-event.ensures in (
      v.0,
      elim c.if-time-event.branch [
        | then-time-event+then-comes_first w ↦ rw w.first-is (first_in p xs l.i _ h.0 h.1 l.first w.if-time-event.true (sym w.comes_first.ensures ∙ w.if-comes_first.true) v.1)
        | else-time-event w ↦
            rw w.first-is
            (elim w.else-time-event.branch [
              | else-time-event-via-then-time-event+else-comes_first w' ↦ later_in p xs l.i _ h.0 h.1 l.first w'.if-time-event.true (sym w'.comes_first.ensures ∙ w'.if-comes_first.false) v.1
              | else-time-event-via-else-time-event w' ↦ out p xs l.i _ h.0 h.1 l.first w'.if-time-event.false v.1
            ])
      ],
    )

pub returns : goal.returns
returns c =
    let l = c.loop-i in
    let a = c.args in
    let cells = cells_of a.times.now a.levels.now a.marks.now a.numbers.now in
    let n : l.i ≡ c.min-n.result = omega (arith, l.auto.i-end, c.loop-i-test.false) in
    let m : c.map.result ≡ option_map (λ (f : Event). f.id) l.first = search rules in
    ap Ok m ∙ answered a.time (engine_of cells) l.i (sym c.is_nan.ensures.value ∙ c.if-is_nan.false) (sized_engine cells).ready (n ∙ l.invariant.0) l.first l.invariant.1

-- `overlap::held_event` meets its contract. Assumes nothing.
use Rattle.memory.specs.Memory.{cells_of}
use Rattle.overlap.proofs.Gathering.{ends_asked, held_waiting, held_sounding, held_finished}
use Rattle.overlap.proofs.held_event.Goals as goal

pub returns-then-i-waiting : goal.returns-then-i-waiting
returns-then-i-waiting c =
    let a = c.args in
    let cells = cells_of a.times.now a.levels.now a.marks.now a.numbers.now in
    held_waiting cells _ _ _ _ _ (ends_asked cells _ _ c.requires.fact_1 c.requires.fact_2) c.if-i-waiting.true c.event_at.ensures

pub returns-then-i-sounding : goal.returns-then-i-sounding
returns-then-i-sounding c =
    let a = c.args in
    let cells = cells_of a.times.now a.levels.now a.marks.now a.numbers.now in
    held_sounding cells _ _ _ _ _ (ends_asked cells _ _ c.requires.fact_1 c.requires.fact_2) c.if-i-waiting.false c.if-i-sounding.true c.event_at-then-i-sounding.ensures

pub returns : goal.returns
returns c =
    let a = c.args in
    let cells = cells_of a.times.now a.levels.now a.marks.now a.numbers.now in
    held_finished cells _ _ _ _ _ (ends_asked cells _ _ c.requires.fact_1 c.requires.fact_2) c.if-i-sounding.false c.requires.fact_3 c.event_at-2.ensures

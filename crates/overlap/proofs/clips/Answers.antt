-- `overlap::clips` meets its contract: refused for the stretch, for the slice, or carried out. Assumes nothing.
use Rattle.memory.specs.Memory.{cells_of, engine_of}
use Rattle.overlap.specs.Reading.{held_in}
use Rattle.overlap.proofs.Listing.{no_stretch, no_slice, all_well}
use Rattle.overlap.proofs.clips.Goals as goal

pub returns-then-not-from-to : goal.returns-then-not-from-to
returns-then-not-from-to c =
    let a = c.args in
    let r = no_stretch a.from a.to a.out.now (held_in (engine_of (cells_of a.times.now a.levels.now a.marks.now a.numbers.now))) c.if-not-from-to.true in
    record { answer = r.0; lent = r.1 }

pub returns-then-out-ne256 : goal.returns-then-out-ne256
returns-then-out-ne256 c =
    let a = c.args in
    let r = no_slice a.from a.to a.out.now (held_in (engine_of (cells_of a.times.now a.levels.now a.marks.now a.numbers.now))) c.if-out-ne256.true in
    record { answer = r.0; lent = r.1 }

pub returns : goal.returns
returns c =
    let a = c.args in
    let r = all_well a.from a.to a.out.now (held_in (engine_of (cells_of a.times.now a.levels.now a.marks.now a.numbers.now)))
    c.if-not-from-to.false c.if-out-ne256.false _ _ c.list_clips-count.ensures.counted c.list_clips-count.ensures.listed in
    record { answer = r.0; lent = r.1 }

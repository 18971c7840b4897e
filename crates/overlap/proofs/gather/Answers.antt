use Rattle.std.proofs.Common.{◌<◌, length, sym, ◌∙◌, arith}
use Rattle.memory.specs.Memory.{cells_of, engine_of}
use Rattle.overlap.specs.Reading.{held_in}
use Rattle.overlap.proofs.Gathering.{gathering_start, gathering_in, gathering_out, gathering_done, held-length, sized_engine, ends_read, asked-at}
use Rattle.overlap.proofs.gather.Goals as goal
use Rattle.overlap.proofs.gather.Goals.{then-overlaps, else-overlaps}

pub loop-i-init : goal.loop-i-init
loop-i-init c =
    let a = c.args in
    let waiting = c.min-waiting.ensures in
    let sounding = c.min.ensures in
    let finished = c.min-2.ensures in (
      ends_read (cells_of a.times.now a.levels.now a.marks.now a.numbers.now) _ _ _ waiting sounding finished,
      omega (arith, waiting, sounding, finished),
      c.requires,
      gathering_start _ _ _,
    )

pub held_event-event-requires : goal.held_event-event-requires
held_event-event-requires c =
    let a = c.args in
    let e = c.loop-i.invariant.0 in
    let r = asked-at (cells_of a.times.now a.levels.now a.marks.now a.numbers.now) _ _ _ _ e c.loop-i-test.true in
    record { fact_1 = e.waiting; fact_2 = r.0; fact_3 = r.1 }

pub loop-i-preserved : goal.loop-i-preserved
loop-i-preserved c =
    let l = c.loop-i in
    let v = l.invariant in
    let e = c.held_event-event.ensures in
    let a = c.args in
    let cells = cells_of a.times.now a.levels.now a.marks.now a.numbers.now in
    let h : l.i < length (held_in (engine_of cells)) = rw (held-length (engine_of cells) (sized_engine cells) _ _ _ v.0) c.loop-i-test.true in (
      v.0,
      v.1,
      omega arith,
      elim c.if-overlaps.branch [
        | then-overlaps w ↦
            rw w.count-is (gathering_in _ _ l.i l.count l.keys _ h e v.3 _ (sym c.overlaps.ensures ∙ w.if-overlaps.true) (omega arith) (w.keys-is ∙ w.sift_up.ensures))
        | else-overlaps w ↦ rw (w.keys-is, w.count-is) (gathering_out _ _ l.i l.count l.keys _ h e v.3 (sym c.overlaps.ensures ∙ w.if-overlaps.false))
      ],
    )

pub returns : goal.returns
returns c =
    let v = c.loop-i.invariant in
    let a = c.args in
    let cells = cells_of a.times.now a.levels.now a.marks.now a.numbers.now in
    gathering_done _ _ _ _ _ (omega (arith, held-length (engine_of cells) (sized_engine cells) _ _ _ v.0)) v.3

-- `live::pushes::push_timed` meets its contract.
use Rattle.memory.specs.Memory.{cells_of}
use Rattle.live.specs.CallContracts.{timed}
use Rattle.live.proofs.Entering.{pushed_in}
use Rattle.live.proofs.pushes.push_timed.Goals as goal

pub returns : goal.returns
returns c =
    let a = c.args in
    let e = c.push_to.ensures in
    let r = pushed_in (timed a.timing) (cells_of a.times.now a.levels.now a.marks.now a.numbers.now) _ _ _ _ a.start_time a.end_time a.fade_ease a.fade_in a.fade_out a.source a.gain _ c.new-stated.ensures (e.engine, (e.answer, (e.rise, e.refused))) in
    record { engine = r.0; answer = r.1.0; rise = r.1.1.0; refused = r.1.1.1 }

-- `chakaqel::rendering::chakaqel_tick` meets its contract.
use mathlib.Core.Path.{refl}
use Rattle.memory.specs.Memory.{cells_of}
use Rattle.chakaqel.specs.Entries.{order_of, unknown_mark}
use Rattle.chakaqel.proofs.Codes.{unknown_is, known-is, ticked-entry}
use borrow.Author.Rules.{rules}
use Rattle.chakaqel.proofs.rendering.chakaqel_tick.Goals as goal

pub returns-in_default : goal.returns-in_default
returns-in_default c = rw (unknown_is (order_of c.args.mark) _ (unknown_mark c.args.mark) c.order_of.ensures c.in_default.is) (record { engine = refl; samples = refl; answer = refl; refused = λ h. refl })

pub returns : goal.returns
returns c =
    let a = c.args in
    let k = known-is (order_of a.mark) _ (unknown_mark a.mark) c.order_of.ensures _ c.in-Some.is in
    let e = c.tick-answer.ensures in
    let r = ticked-entry (cells_of a.times.now a.levels.now a.marks.now a.numbers.now) _ (unknown_mark a.mark) k.0 (order_of a.mark) _
    k.1 a.pool.now a.out.now _ _ (e.engine, (e.samples, (e.answer, e.refused))) _ c.code_of.ensures in
    record { engine = r.0; samples = r.1.0; answer = r.1.1.0; refused = r.1.1.1 }

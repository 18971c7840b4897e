-- `chakaqel::resets::chakaqel_set_sample_rate` meets its contract.
use Rattle.memory.specs.Memory.{cells_of}
use Rattle.chakaqel.proofs.Codes.{answered-entry}
use borrow.Author.Rules.{rules}
use Rattle.chakaqel.proofs.resets.chakaqel_set_sample_rate.Goals as goal

pub returns : goal.returns
returns c =
    let a = c.args in
    let e = c.set_sample_rate-answer.ensures in
    let r = answered-entry (cells_of a.times.now a.levels.now a.marks.now a.numbers.now) _ _ _ _ (e.engine, (e.answer, e.refused)) _ c.code_of.ensures in
    record { engine = r.0; answer = r.1.0; refused = r.1.1 }

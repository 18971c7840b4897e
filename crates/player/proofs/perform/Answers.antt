-- `player::perform` meets its contract.
use mathlib.Core.Path.{◌≡◌, ap, ◌∙◌}
use Rattle.record_output.specs.declared.Left.{Left}
use Rattle.memory.specs.Memory.{cells_of, engine_of}
use Rattle.player.proofs.Carried.{puts}
use borrow.Author.Rules.{rules}
use Rattle.player.proofs.perform.Goals as goal

pub returns : goal.returns
returns c =
    let a = c.args in
    let s = engine_of (cells_of a.times.now a.levels.now a.marks.now a.numbers.now) in
    let g = c.carry_out-left.ensures in
    record {
      engine = g.engine;
      samples = g.samples;
      refusal = ap (λ (l : Left). l.refusal) g.answer;
      out = puts a.form a.kind a.pool.now s a.call a.samples.now g.engine g.answer g.samples c.counts-counts.ensures a.out.now a.at c.leave-used.ensures.stands;
    }

-- `record_output::put_counts` meets its contract. Assumes nothing.
use borrow.Author.Rules.{rules}
use Rattle.record_output.specs.Lines.{record_line}
use Rattle.record_output.proofs.Listed.{none-added, line_added, line_within}
use Rattle.record_output.proofs.put_counts.Goals as goal

pub returns-then-out-at : goal.returns-then-out-at
returns-then-out-at c = none-added (record_line c.args.kind c.args.refusal c.args.counts) c.args.out.now c.args.at c.if-out-at.true

pub overflow_add-result : goal.overflow_add-result
overflow_add-result c = let h = line_within c.args.out.now c.args.at
    (record_line c.args.kind c.args.refusal c.args.counts) c.if-out-at.false
    c.counts_line-n.ensures.value in search rules

pub returns : goal.returns
returns c = line_added c.args.out.now c.args.at
    (record_line c.args.kind c.args.refusal c.args.counts) c.if-out-at.false
    c.counts_line-n.ensures.out_after c.counts_line-n.ensures.value

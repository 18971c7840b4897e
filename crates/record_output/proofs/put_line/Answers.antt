-- `record_output::put_line` meets its contract. Assumes nothing.
use borrow.Author.Rules.{rules}
use Rattle.listing.specs.Text.{samples_line}
use Rattle.record_output.proofs.Listed.{none-added, line_added, line_within}
use Rattle.record_output.proofs.put_line.Goals as goal

pub returns-then-out-at : goal.returns-then-out-at
returns-then-out-at c = none-added (samples_line c.args.row.now) c.args.out.now c.args.at c.if-out-at.true

pub overflow_add-result : goal.overflow_add-result
overflow_add-result c =
    let a = c.args in
    let h = line_within a.out.now a.at (samples_line a.row.now) c.if-out-at.false c.samples_line-n.ensures.value in
    search rules

pub returns : goal.returns
returns c =
    let a = c.args in
    let l = c.samples_line-n.ensures in
    line_added a.out.now a.at (samples_line a.row.now) c.if-out-at.false l.out_after l.value

-- `runs::copy_row` meets its contract. Assumes nothing.
use borrow.Author.Rules.{rules}
use mathlib.Core.Path.{◌≡◌}
use lib.ListN.{length, take}
use lib.Seq.{length-take-le}
use Rattle.runs.proofs.Adds.{zipped_others}
use Rattle.runs.proofs.copy_row.Goals as goal

pub returns : goal.returns
returns c =
    let run = c.args.run.now in
    let row = c.args.row.now in
    let e = c.each_along.ensures (λ a y. y) (λ a y x p. search rules) in
    let n : length (take (length run) row) ≡ length run = length-take-le (length run) row c.requires in
    let same = zipped_others run (take (length run) row) (cc) in
    rw (e, same)

-- `state_listing::put_numbers` meets its contract: part by part. Assumes nothing.
use Rattle.std.proofs.Common.{◌++◌, rules}
use Rattle.listing.specs.Ascii.{ascii}
use Rattle.state_listing.specs.Lines.{number_part, number_parts}
use Rattle.state_listing.proofs.Parts.{join}
use Rattle.state_listing.proofs.put_numbers.Goals as goal

pub returns : goal.returns
unfolding number_parts
returns c =
    let s = c.args.s in
    join _ (number_part (ascii " channels=") s.outputs) (number_part (ascii " next=") s.next ++ number_part (ascii " gone=") s.let_go) c.put_number-to.ensures
    (join _ (number_part (ascii " next=") s.next) (number_part (ascii " gone=") s.let_go) c.put_number-to-2.ensures c.put_number.ensures)

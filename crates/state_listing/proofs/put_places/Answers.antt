-- `state_listing::put_places` meets its contract: three numbers. Assumes nothing.
use Rattle.std.proofs.Common.{◌++◌, rules}
use Rattle.listing.specs.Ascii.{ascii}
use Rattle.state_listing.specs.Lines.{number_part}
use Rattle.state_listing.proofs.Parts.{join}
use Rattle.state_listing.proofs.put_places.Goals as goal

pub returns : goal.returns
returns c =
    let p = c.args.c in
    join _ (number_part (ascii " answer=rendered:") p.kept) (number_part (ascii ":") p.forced ++ number_part (ascii ":") p.edge) c.put_number-to.ensures
    (join _ (number_part (ascii ":") p.forced) (number_part (ascii ":") p.edge) c.put_number-to-2.ensures c.put_number.ensures)

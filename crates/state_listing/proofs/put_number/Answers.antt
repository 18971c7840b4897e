-- `state_listing::put_number` meets its contract: the name, then the number. Assumes nothing.
use Rattle.std.proofs.Common.{rules}
use Rattle.listing.specs.Pieces.{add_all}
use Rattle.state_listing.proofs.put_number.Goals as goal

pub returns : goal.returns
unfolding add_all
returns c = cc

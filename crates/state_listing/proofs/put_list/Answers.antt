-- `state_listing::put_list` meets its contract: name and count, a colon, the digest. Assumes nothing.
use Rattle.std.proofs.Common.{List, [], ◌∷◌, rules}
use Rattle.listing.specs.Ascii.{ascii}
use Rattle.listing.specs.Pieces.{add_all}
use Rattle.state_listing.specs.Lines.{hex, number_part}
use Rattle.state_listing.proofs.Parts.{join}
use Rattle.state_listing.proofs.put_list.Goals as goal

pub returns : goal.returns
unfolding add_all
returns c =
    let a = c.args in
    join _ (number_part a.name.now a.count) (ascii ":" ∷ hex a.digest ∷ []) c.put_number-to.ensures
    (join _ (ascii ":" ∷ []) (hex a.digest ∷ []) c.put_bytes-to.ensures c.put_hex.ensures)

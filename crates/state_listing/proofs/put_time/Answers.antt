-- `state_listing::put_time` meets its contract: the name, then the bits. Assumes nothing.
use Rattle.std.proofs.Common.{ℕ, [], ◌∷◌, ap, rules}
use lib.Ieee.{binary64, to_bits}
use Rattle.listing.specs.Pieces.{add_all}
use Rattle.state_listing.specs.Lines.{hex}
use Rattle.state_listing.proofs.Parts.{join, same-part}
use Rattle.state_listing.proofs.put_time.Goals as goal

pub returns : goal.returns
unfolding add_all
returns c =
    let a = c.args in
    join _ (a.name.now ∷ []) (hex (to_bits binary64 a.x) ∷ []) c.put_bytes-to.ensures
    (same-part _ (ap (λ (n : ℕ). hex n ∷ []) c.f64_to_bits.ensures) c.put_hex.ensures)

-- `listing::pieces::put_decimal` meets its contract: the digits that were counted are those of the number. Assumes nothing.
use Rattle.std.proofs.Common.{ℕ, ap, ◌∙◌}
use Rattle.listing.specs.Pieces.{text, add}
use Rattle.listing.specs.Text.{digits, decimal}
use Rattle.listing.proofs.pieces.put_decimal.Goals as goal

pub returns : goal.returns
unfolding decimal
returns c = c.put_in_base.ensures ∙ ap (λ (k : ℕ). add (digits 10 k c.args.n) (text c.args.out.now c.args.at)) c.places.ensures.value

-- `listing::places` meets its contract: the number's decimal logarithm, and one. Assumes nothing.
use Rattle.std.proofs.Common.{ℕ, ◌≤◌, ◌<◌, ◌*◌, ◌^◌, subst}
use Rattle.listing.proofs.Lines.{places-most}
use Rattle.listing.proofs.places.Goals as goal

pub returns-clause-value : goal.returns-clause-value
returns-clause-value c =
    let k = c.ilog10.ensures in
    let e = c.max.ensures in
    places-most c.ilog10.result c.args.n k.bound (subst (λ (m : ℕ). 10 ^ c.ilog10.result ≤ m) e k.power_le) (subst (λ (m : ℕ). m < 10 * 10 ^ c.ilog10.result) e k.next_power_gt)

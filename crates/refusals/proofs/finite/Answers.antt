-- `refusals::finite` meets its contract. Assumes nothing.
use Rattle.std.proofs.Common.{◌≡◌, Bool, true, false, ◌&&◌, ◌∙◌}
use lib.Ieee.{Float, nan, inf, fin, of_bits, round, neg, div, lt}
use lib.Ieee.Scale.{finite}
use Rattle.refusals.proofs.finite.Goals as goal

finite-test : (x : Float) (b : Bool) → lt x (inf false) ≡ b → (b && lt (inf true) x) ≡ finite x
unfolding lt
finite-test nan b h = rw (← h)
finite-test (inf true) b h = rw (← h)
finite-test (inf false) b h = rw (← h)
finite-test (fin s m e) b h = rw (← h)

pub returns-then-x : goal.returns-then-x
unfolding of_bits div round neg
returns-then-x c = finite-test c.args.x true c.if-x.true

pub returns-else-x : goal.returns-else-x
unfolding of_bits div round neg
returns-else-x c = c.if-x.false ∙ finite-test c.args.x false c.if-x.false

-- `refusals::within_end` meets its contract. Assumes nothing.
use Rattle.std.proofs.Common.{◌≡◌, Bool, true, false, ◌||◌, sym, ◌∙◌}
use lib.Ieee.{Float, nan, inf, fin, of_bits, round, div, eq}
use Rattle.ledger.specs.Refusals.{within, within_end}
use Rattle.refusals.proofs.within_end.Goals as goal

end_test : (x : Float) (b : Bool) → b ≡ within x → (b || eq x (inf false)) ≡ within_end x
unfolding within_end eq
end_test nan b h = rw h
end_test (inf true) b h = rw h
end_test (inf false) b h = rw h
end_test (fin s m e) b h = rw h

pub returns-then-within : goal.returns-then-within
unfolding of_bits div round
returns-then-within c = c.if-within.true ∙ end_test c.args.x true (sym c.if-within.true ∙ c.within.ensures)

pub returns-else-within : goal.returns-else-within
unfolding of_bits div round
returns-else-within c = end_test c.args.x false (sym c.if-within.false ∙ c.within.ensures)

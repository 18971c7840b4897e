-- `listing::put_end` meets its contract: one byte, where there is room. Assumes nothing.
use Prim.Native.Nat.{◌+◌}
use mathlib.Core.Path.{◌≡◌, refl, sym, ◌∙◌}
use mathlib.Core.List.{[], ◌∷◌}
use native.Mathlib.Omega.{arith}
use Rattle.listing.specs.Putting.{begin, further, place_is, put_whole, put-none}
use borrow.Author.Tests.{eqb-true, eqb-false}
use Rattle.listing.proofs.put_end.Goals as goal

pub returns-then-is_empty : goal.returns-then-is_empty
returns-then-is_empty c = let t = eqb-true _ _ (sym c.is_empty.ensures ∙ c.if-is_empty.true) in let r = put-none _ (10 ∷ []) (omega arith) in record { out_after = r.0; value = r.1 }

pub returns : goal.returns
returns c =
    let t = eqb-false _ _ (sym c.is_empty.ensures ∙ c.if-is_empty.false) in
    let one : 0 + 1 ≡ 1 = omega arith in
    let r = put_whole (place_is (further (10 ∷ []) [] (begin c.args.out.now 0 (10 ∷ [])) _ refl) one) (omega arith) in record { out_after = r.0; value = r.1 }

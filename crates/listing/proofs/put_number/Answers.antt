-- `listing::put_number` meets its contract: a space, then the digits. Assumes nothing.
use mathlib.Core.Path.{ap, ◌∙◌}
use Prim.Native.Nat.{ℕ, suc}
use native.Mathlib.Numerals.{add-one}
use native.Mathlib.Omega.{arith}
use lib.Seq.{sets, length-sets}
use lib.ListN.{length, set, length-set}
use Rattle.listing.specs.Text.{digits, decimal}
use Rattle.listing.proofs.Lines.{length-decimal}
use Rattle.listing.proofs.put_number.Goals as goal

pub put_digits-requires : goal.put_digits-requires
put_digits-requires c = let d = length-decimal c.args.n in record { fact_1 = omega arith; fact_2 = omega arith; fact_3 = simp length-set (omega arith) }

pub shape_of-out : goal.shape_of-out
shape_of-out c = ap length c.put_digits.ensures ∙ simp (length-sets, length-set)

pub returns : goal.returns
unfolding decimal
returns c =
    let a = c.args in
    let k = c.places-k.result in
    let q = c.places-k.ensures.value in
    let o = set a.out.now a.at 32 in
    let d = length-decimal a.n in
    record { out_after = c.put_digits.ensures ∙ ap (λ (i : ℕ). sets o i (digits 10 k a.n)) (add-one a.at) ∙ ap (λ (j : ℕ). sets o (suc a.at) (digits 10 j a.n)) q; value = omega arith }

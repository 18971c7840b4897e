-- `listing::put_sample` meets its contract: eight digits, then the byte behind them. Assumes nothing.
use mathlib.Core.Path.{◌≡◌, sym, ap, ◌∙◌}
use mathlib.Core.List.{List, [], ◌∷◌, ◌++◌}
use Prim.Native.Nat.{ℕ, ◌+◌}
use lib.ListN.{length, set}
use lib.Seq.{sets}
use Rattle.listing.specs.Putting.{sets_append}
use Rattle.listing.specs.Text.{digits}
use Rattle.listing.proofs.Lines.{length_digits}
use Rattle.listing.proofs.put_sample.Goals as goal

pub returns : goal.returns
returns c =
    let a = c.args in
    let o = a.out.now in
    let n = c.f32_to_bits-bits.result in
    let eight : length (digits 16 8 n) ≡ 8 = length_digits 16 8 n in
    ap (λ (l : List ℕ). set l (a.at + 8) a.end) c.put_digits.ensures
    ∙ ap (λ (k : ℕ). set (sets o a.at (digits 16 8 n)) (a.at + k) a.end) (sym eight)
    ∙ sets_append o a.at (digits 16 8 n) (a.end ∷ [])
    ∙ ap (λ (b : ℕ). sets o a.at (digits 16 8 b ++ (a.end ∷ []))) c.f32_to_bits-bits.ensures

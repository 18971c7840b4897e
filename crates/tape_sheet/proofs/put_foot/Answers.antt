use mathlib.Core.Path.{ap}
use Prim.Native.Nat.{ℕ, ◌+◌}
use Rattle.listing.specs.Ascii.{ascii}
use Rattle.tape_words.specs.Joining.{one, further, named}
use Rattle.tape_sheet.specs.Elements.{open_text, foot}
use borrow.Author.Rules.{rules}
use Rattle.tape_sheet.proofs.put_foot.Goals as goal

pub returns : goal.returns
unfolding foot
returns c =
    let e1 = named _ (ap (λ (y¹ : ℕ). open_text (ascii "z") 170 (y¹ + 20)) c.wave-y.ensures.value) c.put_open_text-to.ensures in
    let e2 = c.put_sum-to.ensures in
    let e3 = one _ _ c.put_bytes.ensures in
    let r = further _ _ _ e1 (further _ _ _ e2 e3) in
    r

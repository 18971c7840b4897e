use mathlib.Core.Path.{ap}
use mathlib.Core.List.{[], ◌∷◌}
use Prim.Native.Nat.{ℕ, ◌+◌}
use Rattle.listing.specs.Ascii.{ascii}
use Rattle.listing.specs.Text.{decimal}
use Rattle.tape_words.specs.Joining.{one, further, named}
use Rattle.tape_sheet.specs.Elements.{attribute, page}
use borrow.Author.Rules.{rules}
use Rattle.tape_sheet.proofs.put_page.Goals as goal

pub returns : goal.returns
unfolding page
returns c =
    let e1 = one _ _ c.put_bytes-to.ensures in
    let e2 = named _ (ap (λ (n : ℕ). attribute (ascii "height") (n + 60)) c.wave-y.ensures.value) c.put_attribute-to.ensures in
    let e3 = named _ (ap (λ (n : ℕ). ascii " viewBox=\"0 0 1640 " ∷ decimal (n + 60) ∷ []) c.wave-y.ensures.value) c.put_numbered-to.ensures in
    let e4 = one _ _ c.put_bytes.ensures in
    let r = further _ _ _ e1 (further _ _ _ e2 (further _ _ _ e3 e4)) in
    r

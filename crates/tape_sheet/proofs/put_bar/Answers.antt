use mathlib.Core.Path.{refl, ap, ◌∙◌}
use mathlib.Core.List.{[], ◌∷◌}
use Prim.Native.Nat.{ℕ, ◌+◌, ◌-◌}
use borrow.Author.Tests.{eq-eqb, ne_eqb}
use Rattle.listing.specs.Pieces.{add_all}
use Rattle.listing.specs.Ascii.{ascii}
use Rattle.listing.specs.Text.{decimal}
use Rattle.tape_words.specs.Joining.{further, named}
use Rattle.tape_sheet.specs.Elements.{bar}
use borrow.Author.Rules.{rules}
use Rattle.tape_sheet.proofs.put_bar.Goals as goal

pub returns-then-bits-eq0 : goal.returns-then-bits-eq0
unfolding add_all bar
returns-then-bits-eq0 c =
    rw (eq-eqb _ _ c.if-bits-eq0.true) refl

pub returns : goal.returns
unfolding bar
returns c =
    let e1 = c.put_numbered-to.ensures in
    let e2 = named _ (ap (λ (n : ℕ). ascii " " ∷ decimal n ∷ []) (c.saturating_sub-top.ensures ∙ ap (λ (z : ℕ). c.args.middle - z) c.height-h.ensures.value)) c.put_numbered-to-2.ensures in
    let e3 = named _ (ap (λ (n : ℕ). ascii "v" ∷ decimal (n + n + 1) ∷ []) c.height-h.ensures.value) c.put_numbered.ensures in
    let r = further _ _ _ e1 (further _ _ _ e2 e3) in
    named _ (rw (ne_eqb _ _ c.if-bits-eq0.false) refl) r

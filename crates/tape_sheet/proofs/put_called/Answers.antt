use mathlib.Core.Path.{ap, ◌∙◌}
use mathlib.Core.List.{[], ◌∷◌}
use Prim.Native.Nat.{ℕ, ◌-◌}
use Rattle.listing.specs.Ascii.{ascii}
use Rattle.listing.specs.Text.{decimal}
use Rattle.tape_words.specs.Joining.{one, further, named}
use Rattle.tape_sheet.specs.Elements.{open_path, called}
use borrow.Author.Rules.{rules}
use Rattle.tape_sheet.proofs.put_called.Goals as goal

pub shape_of-out : goal.shape_of-out
shape_of-out c =
    let g1 = c.out-1.given in let g2 = c.out-2-1.given in let g3 = c.out-3-1.given in let g4 = c.out-4-1.given in let g5 = c.out-5-1.given in let g6 = c.out-6-1.given in
    let g7 = c.out-7-1.given in let g8 = c.out-8-1.given in
    search rules

pub returns : goal.returns
unfolding called
returns c =
    let e1 = c.put_open_mark-to.ensures in
    let e2 = c.put_call-to.ensures in
    let e3 = one _ _ c.put_bytes-to.ensures in
    let e4 = c.put_call_at-to.ensures in
    let e5 = one _ _ c.put_bytes-to-2.ensures in
    let e6 = named _ (ap (λ (n : ℕ). open_path (ascii "c") n 176) c.x-x.ensures.value) c.put_open_path-to.ensures in
    let e7 = named _ (ap (λ (n : ℕ). ascii "v" ∷ decimal n ∷ []) (c.saturating_sub-height.ensures ∙ ap (λ (z : ℕ). z - 176) c.lanes_end.ensures.value)) c.put_numbered-to.ensures in
    let e8 = one _ _ c.put_bytes.ensures in
    let r = further _ _ _ e1 (further _ _ _ e2 (further _ _ _ e3 (further _ _ _ e4 (further _ _ _ e5 (further _ _ _ e6 (further _ _ _ e7 e8)))))) in
    r

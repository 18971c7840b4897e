use mathlib.Core.Path.{ap, ◌∙◌}
use Prim.Native.Nat.{ℕ, ◌+◌}
use Rattle.listing.specs.Ascii.{ascii}
use Rattle.chart.specs.Scale.{x_of}
use Rattle.tape_words.specs.Joining.{one, further, named}
use Rattle.tape_sheet.specs.Elements.{open_text, open_path, axis_mark}
use borrow.Author.Rules.{rules}
use Rattle.tape_sheet.proofs.put_axis_mark.Goals as goal

pub returns : goal.returns
unfolding axis_mark
returns c =
    let a = c.args in
    let e1 = named _ (ap (λ (n : ℕ). open_path (ascii "a") n a.top) c.x-x.ensures.value) c.put_open_path-to.ensures in
    let e2 = c.put_numbered-to.ensures in
    let e3 = one _ _ c.put_bytes-to.ensures in
    let e4 = named _ (ap (λ (n : ℕ). open_text (ascii "t") (n + 2) c.saturating_sub-above.result) c.x-x.ensures.value ∙ ap (open_text (ascii "t") (x_of a.time a.total + 2)) c.saturating_sub-above.ensures) c.put_open_text-to.ensures in
    let e5 = c.put_axis_time-to.ensures in
    let e6 = one _ _ c.put_bytes.ensures in
    let r = further _ _ _ e1 (further _ _ _ e2 (further _ _ _ e3 (further _ _ _ e4 (further _ _ _ e5 e6)))) in
    r

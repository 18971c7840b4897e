use mathlib.Core.Path.{ap, ◌∙◌}
use Prim.Native.Nat.{ℕ, ◌+◌}
use Rattle.listing.specs.Ascii.{ascii}
use Rattle.chart.specs.Scale.{x_of, lane_of}
use Rattle.tape_words.specs.Joining.{one, further, named}
use Rattle.tape_sheet.specs.Elements.{open_path, edited_lane}
use borrow.Author.Rules.{rules}
use Rattle.tape_sheet.proofs.put_edited_lane.Goals as goal

pub returns : goal.returns
unfolding edited_lane
returns c =
    let a = c.args in
    let y = c.lane-y.ensures.value ∙ ap lane_of c.saturating_sub-i.ensures in
    let e1 = named _ (ap (λ (n : ℕ). open_path (ascii "d") n (c.lane-y.result + 5)) c.x-x.ensures.value ∙ ap (λ (n : ℕ). open_path (ascii "d") (x_of a.time a.total) (n + 5)) y) c.put_open_path-to.ensures in
    let e2 = one _ _ c.put_bytes-to.ensures in
    let e3 = c.put_edit_title-to.ensures in
    let e4 = one _ _ c.put_bytes.ensures in
    let r = further _ _ _ e1 (further _ _ _ e2 (further _ _ _ e3 e4)) in
    r

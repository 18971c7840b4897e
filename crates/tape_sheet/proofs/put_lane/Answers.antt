use mathlib.Core.Path.{ap, ◌∙◌}
use mathlib.Core.Bool.{Bool, cond}
use mathlib.Core.List.{[], ◌∷◌}
use Prim.Native.Nat.{ℕ, ◌+◌, ◌-◌}
use Rattle.listing.specs.Ascii.{ascii}
use Rattle.chart.specs.Scale.{x_of, lane_of}
use Rattle.tape_words.specs.Joining.{one, further, named}
use Rattle.tape_sheet.specs.Elements.{open_text, open_path, lane}
use borrow.Author.Rules.{rules}
use Rattle.tape_sheet.proofs.put_lane.Goals as goal

pub shape_of-out : goal.shape_of-out
shape_of-out c =
    let g1 = c.out-1.given in let g2 = c.out-2-1.given in let g3 = c.out-3-1.given in let g4 = c.out-4-1.given in let g5 = c.out-5-1.given in let g6 = c.out-6-1.given in
    let g7 = c.out-7-1.given in let g8 = c.out-8-1.given in let g9 = c.out-9-1.given in let g10 = c.out-10-1.given in
    search rules

pub returns : goal.returns
unfolding lane
returns c =
    let a = c.args in
    let y = c.lane-y.ensures.value ∙ ap lane_of c.saturating_sub-i.ensures in
    let x = c.saturating_sub-left.ensures ∙ ap (λ (z : ℕ). z - 6) c.x.ensures.value in
    let e1 = named _ (ap (λ (n : ℕ). open_path (ascii "l") 170 (n + 10)) y) c.put_open_path-to.ensures in
    let e2 = one _ _ c.put_bytes-to.ensures in
    let e3 = named _ (ap (λ (n : ℕ). open_text (ascii "n") 162 (n + 14)) y) c.put_open_text-to.ensures in
    let e4 = one _ _ c.put_decimal-to.ensures in
    let e5 = one _ _ c.put_bytes-to-2.ensures in
    let e6 = named _ (ap (λ (n : ℕ). open_path (ascii "p") n (c.lane-y.result + 5)) x ∙ ap (λ (n : ℕ). open_path (ascii "p") (x_of a.time a.total - 6) (n + 5)) y) c.put_open_path-to-2.ensures in
    let e7 = c.put_numbered-to.ensures in
    let e8 = c.put_timed-to.ensures in
    let e9 = named _ (ap (λ (b : Bool). cond b (ascii ", straight to sounding") (ascii ", waits") ∷ []) c.is_sounding.ensures) (one _ _ c.put_either-to.ensures) in
    let e10 = one _ _ c.put_bytes.ensures in
    let rest = further _ _ _ e9 e10 in
    let r = further _ _ _ e1 (further _ _ _ e2 (further _ _ _ e3 (further _ _ _ e4 (further _ _ _ e5 (further _ _ _ e6 (further _ _ _ e7 (further _ _ _ e8 rest))))))) in
    r

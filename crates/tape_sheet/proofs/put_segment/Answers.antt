use mathlib.Core.Path.{refl, ap, ◌∙◌}
use Prim.Native.Nat.{ℕ, ◌-◌}
use borrow.Author.Tests.{eq-eqb, ne_eqb}
use Rattle.listing.specs.Pieces.{add_all}
use Rattle.chart.specs.Scale.{x_of, lane_of}
use Rattle.tape_words.specs.Joining.{one, further, named}
use Rattle.tape_sheet.specs.Elements.{standing, segment}
use borrow.Author.Rules.{rules}
use Rattle.tape_sheet.proofs.put_segment.Goals as goal

pub returns-then-from-until : goal.returns-then-from-until
unfolding add_all segment
returns-then-from-until c =
    rw (eq-eqb _ _ c.if-from-until.true) refl

pub returns : goal.returns
unfolding segment
returns c =
    let a = c.args in
    let y = c.lane-y.ensures.value ∙ ap lane_of c.saturating_sub-i.ensures in
    let b =
    ap (λ (n : ℕ). standing a.place n c.lane-y.result c.breadth-width.result) c.x-x.ensures.value
    ∙ ap (λ (n : ℕ). standing a.place (x_of a.from a.total) n c.breadth-width.result) y
    ∙ ap (standing a.place (x_of a.from a.total) (lane_of (a.clip - a.first))) c.breadth-width.ensures in
    let e1 = named _ (b) c.put_standing-to.ensures in
    let e2 = c.put_numbered-to.ensures in
    let e3 = one _ _ c.put_bytes-to.ensures in
    let e4 = one _ _ c.put_name-to.ensures in
    let e5 = c.put_timed-to.ensures in
    let e6 = c.put_timed-to-2.ensures in
    let e7 = one _ _ c.put_bytes.ensures in
    let r = further _ _ _ e1 (further _ _ _ e2 (further _ _ _ e3 (further _ _ _ e4 (further _ _ _ e5 (further _ _ _ e6 e7))))) in
    named _ (rw (ne_eqb _ _ c.if-from-until.false) refl) r

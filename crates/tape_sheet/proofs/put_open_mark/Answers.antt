use mathlib.Core.Path.{ap}
use Prim.Native.Nat.{ℕ, ◌+◌, ◌*◌, ◌%◌}
use Rattle.tape_words.specs.Joining.{one, further, named}
use Rattle.tape_sheet.specs.Elements.{open_text, open_box, open_mark}
use borrow.Author.Rules.{rules}
use Rattle.tape_sheet.proofs.put_open_mark.Goals as goal

pub returns : goal.returns
unfolding open_mark
returns c =
    let a = c.args in
    let e1 = one _ _ c.put_bytes-to.ensures in
    let e2 = named _ (ap (λ (y¹ : ℕ). open_box a.class.now y¹ (70 + a.row % 8 * 13) 32 12) c.x-x.ensures.value) c.put_open_box-to.ensures in
    let e3 = one _ _ c.put_bytes-to-2.ensures in
    let e4 = named _ (ap (λ (y¹ : ℕ). open_text a.class.now (y¹ + 16) (79 + a.row % 8 * 13)) c.x-x.ensures.value) c.put_open_text.ensures in
    let r = further _ _ _ e1 (further _ _ _ e2 (further _ _ _ e3 e4)) in
    r

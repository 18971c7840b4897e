use mathlib.Core.Path.{refl, sym, ap}
use Prim.Native.Nat.{ℕ, ◌+◌}
use Rattle.listing.specs.Pieces.{add_all}
use Rattle.listing.specs.Ascii.{ascii}
use Rattle.tape_words.specs.Joining.{one, further, named}
use Rattle.tape_sheet.specs.Elements.{open_text, stop_text}
use borrow.Author.Rules.{rules}
use Rattle.tape_sheet.proofs.put_stop.Goals as goal

pub returns-in-None : goal.returns-in-None
unfolding add_all stop_text
returns-in-None c =
    let a = c.args in
    named _ (ap (stop_text a.lanes a.channels) (sym c.in-None.is)) refl

pub returns-in-Some : goal.returns-in-Some
unfolding stop_text
returns-in-Some c =
    let a = c.args in
    let e1 = named _ (ap (λ (y¹ : ℕ). open_text (ascii "z") 170 (y¹ + 42)) c.wave-y.ensures.value) c.put_open_text-to.ensures in
    let e2 = one _ _ c.put_bytes-to.ensures in
    let e3 = c.put_refusal-to.ensures in
    let e4 = one _ _ c.put_bytes.ensures in
    let r = further _ _ _ e1 (further _ _ _ e2 (further _ _ _ e3 e4)) in
    named _ (ap (stop_text a.lanes a.channels) (sym c.in-Some.is)) r

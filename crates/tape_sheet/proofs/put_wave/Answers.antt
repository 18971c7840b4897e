use mathlib.Core.Path.{ap}
use Prim.Native.Nat.{ℕ, ◌+◌}
use Rattle.listing.specs.Ascii.{ascii}
use Rattle.tape_words.specs.Joining.{one, further, named}
use Rattle.tape_sheet.specs.Elements.{open_text, open_path, open_box, wave}
use borrow.Author.Rules.{rules}
use Rattle.tape_sheet.proofs.put_wave.Goals as goal

pub overflow_add-channel-2 : goal.overflow_add-channel-2
overflow_add-channel-2 c =
    let h = c.ranges.channel in
    search rules

pub overflow_add-y-2 : goal.overflow_add-y-2
overflow_add-y-2 c =
    let h = c.wave-y.ensures.upper_bound in
    search rules

pub overflow_add-y-3 : goal.overflow_add-y-3
overflow_add-y-3 c =
    let h = c.wave-y.ensures.upper_bound in
    search rules

pub shape_of-out : goal.shape_of-out
shape_of-out c =
    let g1 = c.out-1.given in let g2 = c.out-2-1.given in let g3 = c.out-3-1.given in let g4 = c.out-4-1.given in let g5 = c.out-5-1.given in let g6 = c.out-6-1.given in
    let g7 = c.out-7-1.given in let g8 = c.out-8-1.given in let g9 = c.out-9-1.given in let g10 = c.out-10-1.given in let g11 = c.out-11-1.given in let g12 = c.out-12-1.given in
    let g13 = c.out-13-1.given in let g14 = c.out-14-1.given in
    search rules

pub returns : goal.returns
unfolding wave
returns c =
    let e1 = named _ (ap (λ (n : ℕ). open_box (ascii "b") 170 n 1_401 81) c.wave-y.ensures.value) c.put_open_box-to.ensures in
    let e2 = c.put_numbered-to.ensures in
    let e3 = one _ _ c.put_bytes-to.ensures in
    let e4 = c.put_peak-to.ensures in
    let e5 = one _ _ c.put_bytes-to-2.ensures in
    let e6 = named _ (ap (λ (n : ℕ). open_text (ascii "n") 162 (n + 38)) c.wave-y.ensures.value) c.put_open_text-to.ensures in
    let e7 = c.put_numbered-to-2.ensures in
    let e8 = one _ _ c.put_bytes-to-3.ensures in
    let e9 = named _ (ap (λ (n : ℕ). open_text (ascii "n") 162 (n + 52)) c.wave-y.ensures.value) c.put_open_text-to-2.ensures in
    let e10 = one _ _ c.put_bytes-to-4.ensures in
    let e11 = c.put_peak-to-2.ensures in
    let e12 = one _ _ c.put_bytes-to-5.ensures in
    let e13 = named _ (ap (λ (n : ℕ). open_path (ascii "v") 170 (n + 40)) c.wave-y.ensures.value) c.put_open_path-to.ensures in
    let e14 = one _ _ c.put_bytes.ensures in
    let rest = further _ _ _ e9 (further _ _ _ e10 (further _ _ _ e11 (further _ _ _ e12 (further _ _ _ e13 e14)))) in
    let r = further _ _ _ e1 (further _ _ _ e2 (further _ _ _ e3 (further _ _ _ e4 (further _ _ _ e5 (further _ _ _ e6 (further _ _ _ e7 (further _ _ _ e8 rest))))))) in
    r

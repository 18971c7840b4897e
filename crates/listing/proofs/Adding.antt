-- A piece is added, or has no room. Assumes nothing.
use mathlib.Core.Path.{◌≡◌, refl, sym, ap, ◌∙◌}
use mathlib.Core.Bool.{Bool, true, false}
use mathlib.Core.List.{List, ◌++◌}
use Prim.Native.Nat.{ℕ, ◌+◌, ◌-◌, ◌≤◌, ◌<◌}
use native.Mathlib.Omega.{arith}
use borrow.Author.Tests.{le-leb, lt-leb, leb-true, leb-false}
use lib.ListN.{length, take, drop}
use lib.Seq.{sets, sets-eq}
use borrow.Rule.Slice.PartMut.{put_mid}
use Rattle.std.proofs.lemmas.List.{take-append-drop}
use Rattle.std.proofs.lemmas.Slice.{take-put_mid, drop-put_mid}
use lib.Dec.{leb}
use Rattle.listing.specs.Pieces.{text, add}

-- room behind `at` is room for both
pub room-behind : (len at n : ℕ) → at ≤ len → leb n (len - at) ≡ leb (at + n) len
room-behind len at n h = go (leb n (len - at)) (leb-true n (len - at)) (leb-false n (len - at))
  where
    go : (b : Bool) → (b ≡ true → n ≤ len - at) → (b ≡ false → len - at < n) → b ≡ leb (at + n) len
    go true p q = let z = p refl in sym (le-leb (at + n) len (omega arith))
    go false p q = let z = q refl in sym (lt-leb (at + n) len (omega arith))

pub added : (piece out out' : List ℕ) (at n : ℕ) → n ≡ length piece → leb (at + n) (length out) ≡ true → out' ≡ sets out at piece → text out' (at + n) ≡ add piece (text out at)
unfolding add
added piece out out' at n e h q = rw (sym (ap (λ (k : ℕ). leb (at + k) (length out)) e) ∙ h) (ap (λ (l : List ℕ). text l (at + n)) q ∙ ap (λ (k : ℕ). text (sets out at piece) (at + k)) e)

pub left_out : (piece out : List ℕ) (at n : ℕ) → n ≡ length piece → leb (at + n) (length out) ≡ false → text out at ≡ add piece (text out at)
unfolding add
left_out piece out at n e h = rw (sym (ap (λ (k : ℕ). leb (at + k) (length out)) e) ∙ h)

-- a piece copied to a place stands there
pub copied : (piece out : List ℕ) (at : ℕ) → at + length piece ≤ length out → put_mid at (at + length piece - at) out piece ≡ sets out at piece
copied piece out at h =
    let n = at + length piece in
    let k = n - at in
    let s = put_mid at k out piece in
    let before = take-put_mid at k out piece n refl (omega arith) in
    let behind = drop-put_mid at k out piece n (omega arith) (omega arith) (omega arith) in
    sym (take-append-drop n s) ∙ ap (λ (l : List ℕ). l ++ drop n s) before ∙ ap (λ (l : List ℕ). (take at out ++ piece) ++ l) behind ∙ sym (sets-eq piece out at h)

-- `little_endian::put_samples` meets its contract: the samples are put piece by piece, or have no room. Assumes nothing.
use borrow.Author.Rules.{rules}
use mathlib.Core.Path.{◌≡◌, refl, sym, ap, ◌∙◌}
use mathlib.Core.List.{List, ◌++◌}
use Prim.Native.Nat.{ℕ, ◌+◌, ◌≤◌, ◌<◌}
use native.Mathlib.Omega.{arith}
use lib.ListN.{length, drop, get_or}
use Rattle.listing.specs.Putting.{Pieces, first_piece, piece_fits, next_piece, last_piece, same-long}
use Rattle.little_endian.specs.LowBytes.{little_endian, length_little}
use Rattle.little_endian.specs.Samples.{bytes_of, length_bytes, bytes_step}
use Rattle.little_endian.proofs.Steps.{no_place, placed}
use Rattle.little_endian.proofs.put_samples.Goals as goal
use Rattle.std.specs.Float.{Float, nan, binary32}
use Rattle.std.specs.Float.Ieee.{to_bits}

-- the next sample's bytes
next : (xs : List Float) (i n : ℕ) → i < length xs → n ≡ to_bits binary32 (get_or xs i nan) → bytes_of (drop i xs) ≡ little_endian 4 n ++ bytes_of (drop (i + 1) xs)
next xs i n h e = bytes_step xs i h ∙ ap (λ (k : ℕ). little_endian 4 k ++ bytes_of (drop (i + 1) xs)) (sym e)

fits_next : (xs : List Float) (l : List ℕ) (at : ℕ) (out : List ℕ) (to i n : ℕ) → Pieces bytes_of xs l at out to i → i < length xs → n ≡ to_bits binary32 (get_or xs i nan) → to + 4 ≤ length out
fits_next xs l at out to i n p h e =
    let f = piece_fits bytes_of _ _ _ p (little_endian 4 n) (next xs i n h e) in
    omega (arith, length_little 4 n)

pub returns-then-out-at : goal.returns-then-out-at
returns-then-out-at c = let l = length_bytes c.args.samples.now in no_place _ _ _ (omega arith)

pub returns-then-out-at-2 : goal.returns-then-out-at-2
returns-then-out-at-2 c = let l = length_bytes c.args.samples.now in no_place _ _ _ (omega (arith, c.if-out-at.false))

pub loop-sample-init : goal.loop-sample-init
loop-sample-init c = first_piece bytes_of _ _ _ (omega (arith, c.if-out-at.false, c.if-out-at-2.false, length_bytes c.args.samples.now))

pub put_word-requires : goal.put_word-requires
put_word-requires c = fits_next _ _ _ _ _ _ _ c.loop-sample.invariant c.loop-sample-test.true c.f32_to_bits-bits.ensures

pub overflow_add-to : goal.overflow_add-to
overflow_add-to c =
    let l = fits_next _ _ _ _ _ _ _ c.loop-sample.invariant c.loop-sample-test.true c.f32_to_bits-bits.ensures in
    let s = same-long c.loop-sample.invariant.put in
    search rules

pub loop-sample-preserved : goal.loop-sample-preserved
loop-sample-preserved c =
    let n = length_little 4 c.f32_to_bits-bits.result in
    next_piece bytes_of _ _ _ c.loop-sample.invariant c.loop-sample-test.true (little_endian 4 c.f32_to_bits-bits.result) (next _ _ _ c.loop-sample-test.true c.f32_to_bits-bits.ensures) _ c.put_word.ensures _ (omega arith)

pub shape_of-out : goal.shape_of-out
shape_of-out c = same-long c.loop-sample.invariant.put

pub returns : goal.returns
unfolding bytes_of
returns c =
    let i = c.loop-sample.invariant in
    let p = last_piece bytes_of _ _ _ i c.loop-sample-test.false refl in
    placed _ _ _ i.room _ _ p.0 p.1

-- `preview::table` meets its contract: the table's rule is one test at each of its 1,025 entries, which antt computes. Assumes nothing.
use mathlib.Core.Path.{◌≡◌, refl}
use mathlib.Core.Bool.{Bool, ◌&&◌}
use mathlib.Core.List.{List}
use Prim.Native.Nat.{ℕ}
use lib.Dec.{T, eqb, eqb→eq}
use lib.Ieee.{Float, nan, binary32, fits, to_bits, of_bits, round}
use lib.Ieee.Fits.{and_l, and_r, mul-fits}
use lib.ListN.{get_or}
use Rattle.floats.specs.Arithmetic.{◌+ˢ◌, ◌-ˢ◌, ◌×ˢ◌, f32}
use Rattle.floats.specs.Values.{same_bits}
use Rattle.math.specs.Curves.{smooth}
use Rattle.preview.specs.Preview.{phase, entry}
use Rattle.preview.proofs.EveryEntry.{at}
use Rattle.preview.proofs.table.Reads as reads
use Rattle.preview.proofs.table.Lts as lts
use Rattle.preview.proofs.table.Goals as goal
use Rattle.preview.proofs.table.Goals.{Start}

-- x is an f32 with the bits of entry k
abbrev right : ℕ → Float → Bool
right k x = fits binary32 x && eqb (to_bits binary32 x) (to_bits binary32 (entry k))

-- the curve ends in a product
entry-fits : (k : ℕ) → T (fits binary32 (entry k))
unfolding smooth
entry-fits k = let x = phase k in mul-fits binary32 (((x ×ˢ f32 0x40c00000 -ˢ f32 0x41700000) ×ˢ x +ˢ f32 0x41200000) ×ˢ x ×ˢ x) x

right_is : (k : ℕ) (x : Float) → T (right k x) → x ≡ entry k
right_is k x t =
    same_bits binary32 x (entry k) (and_l (fits binary32 x) (eqb (to_bits binary32 x) (to_bits binary32 (entry k))) t) (entry-fits k)
    (eqb→eq (to_bits binary32 x) (to_bits binary32 (entry k)) (and_r (fits binary32 x) (eqb (to_bits binary32 x) (to_bits binary32 (entry k))) t))

-- the table, as the code has it
abbrev entries : Start → List Float
entries c = (lts.m2 reads.Pre reads.Post c.args).0

pub returns : goal.returns
unfolding of_bits to_bits fits smooth round
returns c = record { long = refl; at = λ k h. right_is k (get_or (entries c) k nan) (at right (entries c) tt k nan h) }

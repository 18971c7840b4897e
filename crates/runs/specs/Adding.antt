-- A run that is added to the places s to s + n of a channel. Assumes nothing.
use Rattle.std.specs.Prelude.{ℕ, zero, suc, ◌+◌, ◌≤◌, ◌≡◌, refl, List, [], ◌∷◌, ◌++◌, Float, length, take, drop}
use Rattle.std.proofs.Common.{ap, arith}
use Rattle.floats.specs.Arithmetic.{◌+ˢ◌}
use Rattle.ledger.specs.BlockSamples.{add_at}
use Rattle.runs.specs.Walk.{zipped}

from_first : (run l : List Float) → length run ≤ length l → zipped (λ a y. a +ˢ y) run (take (length run) l) ++ drop (length run) l ≡ add_at 0 run l
unfolding zipped add_at
from_first [] [] h = refl
from_first [] (x ∷ l) h = refl
from_first (y ∷ run) [] h = absurd (omega arith)
from_first (y ∷ run) (x ∷ l) h = ap (λ (r : List Float). (x +ˢ y) ∷ r) (from_first run l (omega arith))

pub add-inside : (s : ℕ) (run l : List Float) → s + length run ≤ length l
    → take s l ++ (zipped (λ a y. a +ˢ y) run (take (length run) (drop s l)) ++ drop (length run) (drop s l)) ≡ add_at s run l
unfolding add_at
add-inside zero run l h = from_first run l (omega arith)
add-inside (suc s) run [] h = absurd (omega arith)
add-inside (suc s) run (x ∷ l) h = ap (λ (r : List Float). x ∷ r) (add-inside s run l (omega arith))

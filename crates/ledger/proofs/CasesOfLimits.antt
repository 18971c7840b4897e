-- The limits are reached exactly, by computation: 256 events are held and the 257th is refused by 6; 256 edits are stored and the 257th is refused by 9, while one of them is replaced. Assumes nothing.
use Rattle.std.specs.Prelude.{ℕ, zero, suc, ◌≡◌, refl, List, [], ◌∷◌, ◌++◌, drop}
use Rattle.floats.specs.Arithmetic.{zeroᶠ, oneᶠ, whole}
use Rattle.floats.specs.Constants.{+∞}
use Rattle.ledger.specs.Calls.{Call, edit, absolute_end, Answer, number, stored, refused}
use Rattle.ledger.specs.Steps.{run}
use Rattle.ledger.specs.Computes.{computes}
use Rattle.ledger.specs.Cases.{at_rate8, held1, answers_of}

-- n pushes that start at n - 1, .., 1, 0, and n edits of the numbers n, .., 2, 1
unfoldable pub pushes : (n : ℕ) → List Call
unfolding whole
pushes zero = []
pushes (suc n) = held1 (whole n) +∞ zeroᶠ zeroᶠ ∷ pushes n

unfoldable pub edits : (n : ℕ) → List Call
edits zero = []
edits (suc n) = edit absolute_end (suc n) oneᶠ zeroᶠ ∷ edits n

unfoldable pub last_answers : (from : ℕ) → List Call → List Answer
unfolding at_rate8
last_answers from cs = drop from (answers_of (run cs at_rate8).replies)

pub holds-256 : last_answers 255 (pushes 257) ≡ number 256 ∷ refused 6 ∷ []
unfolding last_answers pushes
holds-256 = refl

pub stores-256 : last_answers 255 (edits 257 ++ (edit absolute_end 2 oneᶠ zeroᶠ ∷ [])) ≡ stored ∷ refused 9 ∷ stored ∷ []
unfolding last_answers edits
stores-256 = refl

-- After every list of calls from every creation, refused ones included: the accepted pushes are as many as W, S, F and G hold, each accepted number stands there exactly once, no other number does, and the numbers are first, first + 1, .. Assumes nothing.
use Rattle.std.specs.Prelude.{ℕ, suc, ◌+◌, ◌≡◌, cond, List, [], ◌∷◌, eqb, length}
use Rattle.ledger.specs.Steps.{Outcome}
use Rattle.ledger.specs.Ledger.{Ledger, held}
use Rattle.ledger.specs.Conservation.{four_sum}
use Rattle.ledger.specs.Numbers.{up_from}
use Rattle.ledger.specs.Claim.{accepted_of, among}

-- ---- the numbers count up

pub data Numbered (l : Ledger) (o : Outcome) : Type 0 where
  same : accepted_of o.reply.answer ≡ [] → o.ledger.next ≡ l.next → Numbered l o
  issued : accepted_of o.reply.answer ≡ l.next ∷ [] → o.ledger.next ≡ suc l.next → Numbered l o

-- ---- counting one number

abbrev pub is : ℕ → ℕ → ℕ
is k n = cond (eqb n k) 1 0

-- how often a number stands in W, S, F and G
abbrev pub stands : ℕ → Ledger → ℕ
stands k l = four_sum (is k) l

-- `answered` are the numbers that pushes were answered with, in order
pub record Partition (first : ℕ) (l : Ledger) (answered : List ℕ) : Type 0 where
  -- accepted pushes = waiting + sounding + finished + let go
  pub as_many : length answered ≡ held l + length l.gone
  -- an accepted number stands once in the four, any other not at all
  pub once : (k : ℕ) → stands k l ≡ cond (among k answered) 1 0
  -- they are first, first + 1, ..
  pub in_order : answered ≡ up_from first (length answered)

-- What a page draws is the plain ledger's, after any list of calls from any creation, refused ones included: the engine's standing of a number is the ledger's, each number that a push was answered with stands in exactly one of W, S, F and G, and 'let go' is drawn
-- exactly where G has the number. The sum at the foot is the claim's. `drawn` of proofs/Theorem.antt proves it. Assumes nothing.
use Rattle.std.specs.Prelude.{ℕ, ◌+◌, ◌≡◌, Bool, true, false, cond, List, length}
use Rattle.ledger.specs.Lists.{has}
use Rattle.ledger.specs.Ledger.{Ledger}
use Rattle.ledger.specs.Claim.{among}
use Rattle.sequencer.specs.declared.Sequencer.{Sequencer}
use Rattle.standing.specs.declared.Standing.{Standing}
use Rattle.standing.specs.declared.Standing.TheVariants.{Waiting, Sounding, Finished, LetGo}
use Rattle.standing.specs.Standings.{standing_in, standing_of}

-- how many of W, S, F and G have a number
abbrev pub lists : Ledger → ℕ → ℕ
lists l k = cond (has k l.waiting) 1 0 + (cond (has k l.sounding) 1 0 + (cond (has k l.finished) 1 0 + cond (among k l.gone) 1 0))

abbrev pub is_let_go : Standing → Bool
is_let_go Waiting = false
is_let_go Sounding = false
is_let_go Finished = false
is_let_go LetGo = true

pub record Drawn (s : Sequencer) (l : Ledger) (answered : List ℕ) : Type 0 where
  -- the engine's standing is the ledger's
  pub same : (k : ℕ) → standing_in s k ≡ standing_of l k
  -- a number that a push was answered with stands in exactly one of the four, any other in none
  pub one : (k : ℕ) → lists l k ≡ cond (among k answered) 1 0
  -- it is drawn as let go exactly where G has it
  pub gone : (k : ℕ) → among k answered ≡ true → is_let_go (standing_of l k) ≡ among k l.gone
  -- the foot: accepted pushes = waiting + sounding + finished + let go, by the counts that the engine tells
  pub foot : length answered ≡ s.ready_len + s.active_len + s.past_len + s.let_go

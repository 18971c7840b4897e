-- After every list of calls from every creation, refused ones included: the accepted pushes are as many as the queue, W, S, F and G hold, each accepted number stands there exactly once, no other number does, and the numbers are first, first + 1, .. Assumes nothing.
use Prim.Native.Nat.{ℕ, ◌+◌}
use Rattle.std.specs.Prelude.{◌≡◌, cond, length}
use mathlib.Core.List.{List, ◌++◌}
use Rattle.ledger.specs.Lists.{numbers}
use Rattle.ledger.specs.Ledger.{held}
use Rattle.ledger.specs.Numbers.{up_from}
use Rattle.ledger.specs.Claim.{among, times}
use Rattle.desk.specs.Desk.{Desk, pushes_in}

-- the numbers of queued pushes
abbrev pub queued_numbers : Desk → List ℕ
queued_numbers d = up_from d.back.next (pushes_in d.queued)

-- `answered` are the numbers that pushes were answered with, in order
pub record DeskPartition (first : ℕ) (d : Desk) (answered : List ℕ) : Type 0 where
  -- accepted pushes = queued + waiting + sounding + finished + let go
  pub as_many : length answered ≡ pushes_in d.queued + (held d.back + length d.back.gone)
  -- an accepted number stands once in them, any other not at all
  pub once : (k : ℕ)
      → times k (queued_numbers d ++ (numbers d.back.waiting ++ (numbers d.back.sounding ++ (numbers d.back.finished ++ d.back.gone)))) ≡ cond (among k answered) 1 0
  -- they are first, first + 1, ..
  pub in_order : answered ≡ up_from first (length answered)

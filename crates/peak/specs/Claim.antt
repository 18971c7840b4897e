-- "After every list of feeds from a fresh one, nobody else writing it, the answer is the maximum over exactly that window of the history."
use Rattle.std.specs.Prelude.{◌≡◌, ℕ, length, Ok}
use mathlib.Core.List.{List, map, foldl}
use Rattle.peak.specs.Peaks.{magnitude, Feed, one, run, peak_of}
use Rattle.peak.specs.Steps.{State, peak_in, state, created, refusal, fed, fed_all, reading}

-- the functions' calls: `new` with window w, then `feed` and `feed_run`; one row, of any length and with anything in it, is lent to all of them
abbrev pub fresh : ℕ → List ℕ → State
fresh w row = state (peak_in (created w (length row))) row

unfoldable pub step : State → Feed → State
step s (one x) = fed s (magnitude x)
step s (run xs) = fed_all s (map magnitude xs)

abbrev pub after : (w : ℕ) (row : List ℕ) → List Feed → State
after w row fs = foldl step (fresh w row) fs

-- w is the window asked for; that in force is w, or 1 where `new` refuses it
abbrev pub in_force : ℕ → List ℕ → ℕ
in_force w row = (peak_in (created w (length row))).window

pub record Claim : Type 0 where
  -- the answer, which is no refusal
  pub answer : (w : ℕ) (row : List ℕ) (fs : List Feed) → reading (after w row fs) ≡ Ok (peak_of (in_force w row) fs)
  -- no feed after a list of feeds is refused
  pub taken : (w : ℕ) (row : List ℕ) (fs : List Feed) → refusal (after w row fs).peak (length (after w row fs).row) ≡ 0

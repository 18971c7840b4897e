-- What each function gives, on every value. Claim.antt says what that is worth.
use Rattle.std.specs.Prelude.{Bool, true, false, ◌&&◌, ◌||◌, cond, ℕ, ◌+◌, max, ltb, leb, length, get_or, set, take, drop, Result, Ok, Err}
use mathlib.Core.List.{List, [], ◌∷◌, ◌++◌, foldl}
use Rattle.peak.specs.declared.RunningPeak.{RunningPeak}
use Rattle.peak.specs.declared.Refused.{Refused}
use Rattle.peak.specs.Peaks.{greatest}

-- the paper's number of a refusal
abbrev pub number_of : Refused → ℕ
number_of r = 20

-- what a call hands back: the running peak, or a refusal with the running peak in it
abbrev pub Outcome : Type 0
Outcome = Result RunningPeak Refused

abbrev pub refused : RunningPeak → Refused
refused p = record { peak = p }

abbrev pub peak_in : Outcome → RunningPeak
peak_in (Ok p) = p
peak_in (Err r) = r.peak

-- 0 where it is no refusal
abbrev pub refusal_in : Outcome → ℕ
refusal_in (Ok p) = 0
refusal_in (Err r) = number_of r

-- the greatest magnitude, or a refusal
abbrev pub Reading : Type 0
Reading = Result ℕ Refused

-- a running peak with its lent row
pub record State : Type 0 where
  pub peak : RunningPeak
  pub row : List ℕ

abbrev pub state : RunningPeak → List ℕ → State
state p l = record { peak = p; row = l }

abbrev pub empty : ℕ → RunningPeak
empty w = record { window = w; place = 0; recent = 0; turned = false }

-- at each place the greatest from there on
unfoldable pub suffix_maxima : List ℕ → List ℕ
suffix_maxima [] = []
suffix_maxima (x ∷ l) = greatest (x ∷ l) ∷ suffix_maxima l

-- so the first n, the rest left
abbrev pub suffix_maxima_to : ℕ → List ℕ → List ℕ
suffix_maxima_to n l = suffix_maxima (take n l) ++ drop n l

-- "with w from 1 to 4,096 fixed at its start"; "A w outside the limits is refused as 20, handing back a fresh one with w = 1."
-- So is a lent row of fewer words than w (demand 1).
unfoldable pub created : (w words : ℕ) → Outcome
created w words =
    cond (ltb w 1) (Err (refused (empty 1)))
    (cond (ltb 4096 w) (Err (refused (empty 1)))
    (cond (ltb words w) (Err (refused (empty 1)))
    (Ok (empty w))))

-- whether a row of this many words serves: it has one for each sample of the window, or the window is 1; and the place is one of the window's
unfoldable pub serves : RunningPeak → ℕ → Bool
serves p words = ltb p.place p.window && (leb p.window 1 || leb p.window words)

-- itself, where the row serves
abbrev pub served : RunningPeak → ℕ → Outcome
served p words = cond (serves p words) (Ok p) (Err (refused p))

abbrev pub refusal : RunningPeak → ℕ → ℕ
refusal p words = cond (serves p words) 0 20

-- one magnitude more; a window of 1 is the last one
unfoldable pub advanced : State → ℕ → State
advanced s m =
    cond (leb s.peak.window 1)
    (state (record { window = s.peak.window; place = s.peak.place; recent = m; turned = false }) s.row)
    (cond (ltb (s.peak.place + 1) s.peak.window)
    (state (record { window = s.peak.window; place = s.peak.place + 1; recent = max s.peak.recent m; turned = s.peak.turned })
    (set s.row s.peak.place m))
    (state (record { window = s.peak.window; place = 0; recent = 0; turned = true })
    (suffix_maxima_to s.peak.window (set s.row s.peak.place m))))

-- a refused feed changes nothing
unfoldable pub fed : State → ℕ → State
fed s m = cond (serves s.peak (length s.row)) (advanced s m) s

-- several, one after another
abbrev pub fed_all : State → List ℕ → State
fed_all s ms = foldl fed s ms

-- the greatest that is left of the window before the last turn
unfoldable pub older : State → ℕ
older s = cond s.peak.turned (get_or s.row s.peak.place 0) 0

unfoldable pub reading : State → Reading
reading s = cond (serves s.peak (length s.row)) (Ok (max s.peak.recent (older s))) (Err (refused s.peak))

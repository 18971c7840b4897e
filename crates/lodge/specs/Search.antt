-- What `earliest` answers, as it goes. Theorem.antt says what that is worth.
use Rattle.std.specs.Prelude.{Bool, true, ◌&&◌, cond, List, [], ◌∷◌, ℕ, ◌+◌, ◌-◌, ◌%◌, max, ltb, leb, eqb, Option, Some, None, Ok, Err}
use Rattle.lodge.specs.declared.Window.{Window}
use Rattle.lodge.specs.declared.Hours.{Hours}
use Rattle.lodge.specs.declared.Refusal.TheVariants.{Improper, TooLong}
use Rattle.lodge.specs.Refusals.{Answer}
use Rattle.lodge.specs.Hours.{in_use}

-- no window opens before `last` or before the one ahead of it closes, none is empty, none closes past the week
unfoldable pub orderly : ℕ → List Window → Bool
orderly last [] = true
orderly last (w ∷ ws) = leb last w.opens && (ltb w.opens w.closes && (leb w.closes 10080 && orderly w.closes ws))

-- the first window with room for n minutes from its opening on, or from `from` if that is later
unfoldable pub first_from : ℕ → ℕ → List Window → Option ℕ
first_from from n [] = None
first_from from n (w ∷ ws) = cond (leb (max w.opens from + n) w.closes) (Some (max w.opens from)) (first_from from n ws)

abbrev pub next_week : ℕ → Option ℕ → Answer
next_week week (Some t) = Ok (week + 10080 + t)
next_week week None = Err TooLong

abbrev pub this_week : ℕ → Option ℕ → Option ℕ → Answer
this_week week (Some t) next = Ok (week + t)
this_week week None next = next_week week next

-- this week from the given minute on, else next week from its beginning
abbrev pub searched : List Window → ℕ → ℕ → Answer
searched ws minute n = this_week (minute - minute % 10080) (first_from (minute % 10080) n ws) (first_from 0 n ws)

unfoldable pub answered : Hours → ℕ → ℕ → Answer
answered h minute n =
    cond (ltb 16 h.count) (Err Improper)
    (cond (ltb 4294967295 minute) (Err Improper)
    (cond (eqb n 0) (Err Improper)
    (cond (orderly 0 (in_use h)) (searched (in_use h) minute n) (Err Improper))))

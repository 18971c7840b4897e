-- Document 02, Paper 4, over the plain ledger's lists. Comparisons are IEEE 754's, so -0.0 equals 0.0; the order is that of W, totalOrder, so -0.0 comes before 0.0.
use Rattle.std.specs.Prelude.{ℕ, Bool, ◌&&◌, cond, List, [], ◌∷◌, ◌++◌, eqb, Float, length, take, drop, Option, Some, None, Result, Ok, Err}
use Rattle.std.specs.Float.Ieee.{is_nan}
use Rattle.event.specs.declared.Event.{Event}
use Rattle.event.specs.declared.EventId.{EventId}
use Rattle.floats.specs.Arithmetic.{◌<ᶠ◌, ◌≤ᶠ◌}
use Rattle.ledger.specs.Ledger.{Ledger}
use Rattle.ledger.specs.Lists.{insert_all, numbers}
use Rattle.overlap.specs.declared.Refusal.{Refusal}
use Rattle.overlap.specs.declared.Refusal.TheVariants.{Improper}

-- those that pass a test, in order
unfoldable pub those : {A : Type 0} → (A → Bool) → List A → List A
those p [] = []
those p (x ∷ l) = cond (p x) (x ∷ those p l) (those p l)

-- ---- the clips of a stretch

-- "all held events, in any of the three lists"
abbrev pub held_events : Ledger → List Event
held_events l = l.waiting ++ (l.sounding ++ l.finished)

-- "with start < the stretch's end and end > its beginning"
abbrev pub in_stretch : (from to : Float) → Event → Bool
in_stretch from to e = (e.start_time <ᶠ to) && (from <ᶠ e.end_time)

-- "by start then number": sorted insertion, as into W
abbrev pub in_order : List Event → List Event
in_order l = insert_all l []

-- of a list of events
unfoldable pub clips_of : (from to : Float) → List Event → List Event
unfolding those
clips_of from to l = in_order (those (in_stretch from to) l)

-- "into a lent slice of 256 numbers, the rest of the slice left"
abbrev pub written : (numbers slice : List ℕ) → List ℕ
written ns out = take 256 ns ++ drop (length (take 256 ns)) out

-- 17 is given where this fails: "A NaN in a stretch .., a stretch whose end is not above its beginning, or a slice of another length". A comparison with a NaN fails.
abbrev pub sound : (from to : Float) → (slice : List ℕ) → Bool
sound from to out = (from <ᶠ to) && eqb (length out) 256

-- how many clips the stretch has, or a refusal
abbrev pub Found : Type 0
Found = Result ℕ Refusal

-- "counted"
unfoldable pub clips_answer : (from to : Float) → (slice : List ℕ) → List Event → Found
unfolding clips_of
clips_answer from to out l = cond (sound from to out) (Ok (length (clips_of from to l))) (Err Improper)

-- ".. and listed"
unfoldable pub clips_listed : (from to : Float) → (slice : List ℕ) → List Event → List ℕ
unfolding clips_of
clips_listed from to out l = cond (sound from to out) (written (numbers (clips_of from to l)) out) out

-- ---- the first waiting event from a time on

-- "that starts at or after a given time"
abbrev pub starts_from : (time : Float) → Event → Bool
starts_from t e = t ≤ᶠ e.start_time

-- an event's number, or that no such event waits, or a refusal
abbrev pub FirstWaiting : Type 0
FirstWaiting = Result (Option EventId) Refusal

-- the number of the first, "or none"
abbrev pub first_of : List Event → FirstWaiting
first_of [] = Ok None
first_of (e ∷ l) = Ok (Some e.id)

-- "A NaN .. as the given time .. gets 17"
unfoldable pub first_answer : (time : Float) → List Event → FirstWaiting
first_answer t l = cond (is_nan t) (Err Improper) (first_of l)

-- W is in order
unfoldable pub first_in : (time : Float) → Ledger → FirstWaiting
unfolding first_answer those
first_in t l = first_answer t (those (starts_from t) l.waiting)

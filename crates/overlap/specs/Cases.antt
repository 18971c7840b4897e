-- Paper 4's sentences on small ledgers, computed. At rate 8; the values are the paper's, by hand. Assumes nothing.
use Rattle.std.specs.Prelude.{ℕ, true, false, ◌≡◌, refl, List, [], ◌∷◌, ◌++◌, pos, negsuc, Float, replicate, Some, None, Ok, Err}
use Rattle.std.specs.Float.{nan, fin}
use Rattle.std.specs.Float.Ieee.{lt, le, is_nan}
use Rattle.event.specs.declared.Event.{Event}
use Rattle.event.specs.declared.Fade.TheVariants.{Smooth}
use Rattle.event.specs.declared.ReplayMode.TheVariants.{All}
use Rattle.event.specs.declared.Source.TheVariants.{Held}
use Rattle.event.specs.Events.{new_event}
use Rattle.floats.specs.Arithmetic.{zeroᶠ, oneᶠ, halfᶠ, -∞, whole}
use Rattle.floats.specs.Constants.{+∞}
use Rattle.floats.specs.Floats.{total_less, sooner}
use Rattle.ledger.specs.Calls.{Call, edit, absolute_end}
use Rattle.ledger.specs.Ledger.{Ledger}
use Rattle.ledger.specs.Lists.{insert, insert_all, numbers}
use Rattle.ledger.specs.Cases.{held1, one_tick}
use Rattle.ledger.proofs.CasesOfSlips.{ledger_of}
use Rattle.sequencer.specs.declared.Sequencer.{Sequencer}
use Rattle.sequencer.specs.Parts.{with_ready, with_active, with_past}
use Rattle.sequencer.specs.Creation.{fresh_engine}
use Rattle.overlap.specs.declared.Refusal.TheVariants.{Improper}
use Rattle.overlap.specs.Refusals.{number_of}
use Rattle.overlap.specs.Stretch.{FirstWaiting, those, held_events, clips_of, clips_answer, clips_listed, first_answer, first_in}
use Rattle.overlap.specs.Reading.{held_in, first_read}

abbrev -0ᶠ : Float
-0ᶠ = fin true 0 (pos 0)

-- held 1.0 without fades
abbrev clip : (start end : Float) → Call
clip start end = held1 start end zeroᶠ zeroᶠ

-- After a tick 5, 1 and 4 wait, in this order, 2 sounds and 3 is finished.
unfoldable five : Ledger
unfolding ledger_of whole
five =
    ledger_of (clip (whole 2) (whole 3) ∷ clip zeroᶠ oneᶠ ∷ clip -0ᶠ (fin false 1 (negsuc 3)) ∷ clip (whole 2) (whole 4) ∷ clip oneᶠ (whole 2) ∷ one_tick ∷ [])

five-lists : (numbers five.waiting ≡ 5 ∷ 1 ∷ 4 ∷ []) × (numbers five.sounding ≡ 2 ∷ []) × (numbers five.finished ≡ 3 ∷ [])
unfolding five
five-lists = (refl, refl, refl)

abbrev numbers_in : (from to : Float) → List ℕ
numbers_in from to = numbers (clips_of from to (held_events five))

-- "all held events, in any of the three lists .. listed by start then number": -0.0 before 0.0, whatever the numbers, and of equal starts the lower number
all-five : numbers_in -∞ +∞ ≡ 3 ∷ 2 ∷ 5 ∷ 1 ∷ 4 ∷ []
unfolding five clips_of those insert_all lt
all-five = refl

-- "start < the stretch's end and end > its beginning": 2 ends at the beginning of 1 to 2, and 1 and 4 start at its end
from-1-to-2 : numbers_in oneᶠ (whole 2) ≡ 5 ∷ []
unfolding five clips_of those insert_all lt whole
from-1-to-2 = refl

-- "against a stretch .. -0.0 equals 0.0": nothing starts before 0.0, nor ends after 4
before_zero : numbers_in (fin true 1 (pos 0)) zeroᶠ ≡ []
unfolding five clips_of those insert_all lt
before_zero = refl

from-4 : numbers_in (whole 4) +∞ ≡ []
unfolding five clips_of those insert_all lt whole
from-4 = refl

-- "counted, and listed .. into a lent slice of 256 numbers, the rest of the slice left"
abbrev slice : List ℕ
slice = replicate 256 7

two-and-254 : (clips_answer halfᶠ (whole 2) slice (held_events five) ≡ Ok 2) × (clips_listed halfᶠ (whole 2) slice (held_events five) ≡ (2 ∷ 5 ∷ []) ++ replicate 254 7)
unfolding five clips_answer clips_listed clips_of those insert_all lt whole
two-and-254 = (refl, refl)

-- "A NaN in a stretch .., a stretch whose end is not above its beginning, or a slice of another length gets 17, before anything is written"
abbrev Refuses : (from to : Float) → List ℕ → Type 0
Refuses from to out = (clips_answer from to out (held_events five) ≡ Err Improper) × (clips_listed from to out (held_events five) ≡ out)

seventeen : Refuses nan oneᶠ slice × Refuses zeroᶠ nan slice × Refuses oneᶠ oneᶠ slice × Refuses oneᶠ zeroᶠ slice × Refuses -0ᶠ zeroᶠ slice × Refuses zeroᶠ -0ᶠ slice × Refuses +∞ +∞ slice
    × Refuses zeroᶠ oneᶠ (replicate 255 7) × Refuses zeroᶠ oneᶠ (replicate 257 7) × Refuses zeroᶠ oneᶠ []
unfolding five clips_answer clips_listed clips_of those insert_all lt
seventeen = ((refl, refl), (refl, refl), (refl, refl), (refl, refl), (refl, refl), (refl, refl), (refl, refl), (refl, refl), (refl, refl), (refl, refl))

-- a stored edit is not looked at: the held end is 6
edit-stored : numbers (clips_of (whole 7) (whole 8) (held_events (ledger_of (clip (whole 5) (whole 6) ∷ edit absolute_end 1 (whole 9) zeroᶠ ∷ [])))) ≡ []
unfolding ledger_of clips_of those insert_all lt whole
edit-stored = refl

-- an end before the start is tested as it stands: 1 sounds from 0, and an edit made it end at -1
abbrev backwards : (from to : Float) → List ℕ
backwards from to = numbers (clips_of from to (held_events (ledger_of (clip zeroᶠ oneᶠ ∷ one_tick ∷ edit absolute_end 1 (fin true 1 (pos 0)) zeroᶠ ∷ []))))

end_before-start : (backwards (fin true 1 (pos 1)) oneᶠ ≡ 1 ∷ []) × (backwards zeroᶠ oneᶠ ≡ [])
unfolding ledger_of clips_of those insert_all lt
end_before-start = (refl, refl)

-- "the first waiting event that starts at or after a given time, or none": by start, then by number; 2 sounds and 3 is finished
abbrev first_at : Float → FirstWaiting
first_at t = first_in t five

firsts : (first_at -∞ ≡ Ok (Some (record { 0 = 5 }))) × (first_at oneᶠ ≡ Ok (Some (record { 0 = 5 }))) × (first_at (fin false 3 (negsuc 0)) ≡ Ok (Some (record { 0 = 1 })))
    × (first_at (whole 2) ≡ Ok (Some (record { 0 = 1 }))) × (first_at (whole 3) ≡ Ok None) × (first_at +∞ ≡ Ok None) × (first_at nan ≡ Err Improper)
unfolding five first_in first_answer those le is_nan whole
firsts = (refl, refl, refl, refl, refl, refl, refl)

-- "the first waiting event": one that sounds is none
none-waits : first_in -∞ (ledger_of (clip zeroᶠ oneᶠ ∷ one_tick ∷ [])) ≡ Ok None
unfolding ledger_of first_in first_answer those le is_nan
none-waits = refl

-- "against .. a given time -0.0 equals 0.0": a start of -0.0 is at 0.0, and comes first
zeros : first_in zeroᶠ (ledger_of (clip zeroᶠ oneᶠ ∷ clip -0ᶠ oneᶠ ∷ [])) ≡ Ok (Some (record { 0 = 2 }))
unfolding ledger_of first_in first_answer those le is_nan
zeros = refl

-- ---- an engine: its arrays up to their counts. 5, 4 and 1 wait, as a heap has them; 2 sounds and 3 is finished. What is behind the counts is no longer held.
abbrev event : (start end : Float) → (number : ℕ) → Event
event start end k = new_event start end zeroᶠ zeroᶠ Smooth (Held oneᶠ) oneᶠ k

abbrev engine : Sequencer
engine =
    with_past
    (with_active
    (with_ready (fresh_engine 1 All 1) (event oneᶠ (whole 2) 5 ∷ event (whole 3) (whole 4) 4 ∷ event (whole 2) (whole 3) 1 ∷ event halfᶠ (whole 9) 6 ∷ []) 3)
    (event zeroᶠ oneᶠ 2 ∷ event zeroᶠ (whole 9) 7 ∷ []) [] 1)
    (event -0ᶠ oneᶠ 3 ∷ event zeroᶠ (whole 9) 8 ∷ []) 1

engine_clips : numbers (clips_of -∞ +∞ (held_in engine)) ≡ 3 ∷ 2 ∷ 5 ∷ 1 ∷ 4 ∷ []
unfolding fresh_engine clips_of those insert insert_all sooner total_less lt whole
engine_clips = refl

-- of those that wait the first from 1.5 on is 1, which the array has behind 4
engine-first : (first_read (fin false 3 (negsuc 0)) engine ≡ Ok (Some (record { 0 = 1 }))) × (first_read -∞ engine ≡ Ok (Some (record { 0 = 5 })))
    × (first_read (whole 4) engine ≡ Ok None) × (first_read nan engine ≡ Err Improper)
unfolding fresh_engine first_read first_answer those insert insert_all sooner total_less le is_nan whole
engine-first = (refl, refl, refl, refl)

-- the paper's number
number : number_of Improper ≡ 17
number = refl

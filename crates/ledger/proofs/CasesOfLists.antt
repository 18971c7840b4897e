-- Document 01, "The plain ledger": where each call puts events, edits and numbers, and what it leaves. At rate 8 from clock 0. Assumes nothing.
use Rattle.std.specs.Prelude.{ℕ, ◌≡◌, refl, true, false, List, [], ◌∷◌, ◌++◌, pos, negsuc, Float}
use Rattle.std.proofs.Math.Option.{none, some}
use Rattle.std.specs.Float.{fin}
use Rattle.floats.specs.Arithmetic.{zeroᶠ, oneᶠ, halfᶠ, -∞, whole}
use Rattle.floats.specs.Constants.{+∞}
use Rattle.event.specs.declared.Event.{Event}
use Rattle.event.specs.declared.StoredEdit.{StoredEdit}
use Rattle.event.specs.declared.Fade.TheVariants.{Power, Smooth}
use Rattle.event.specs.declared.ReplayMode.TheVariants.{None}
use Rattle.event.specs.declared.Source.TheVariants.{Held, Ramp}
use Rattle.ledger.specs.Calls.{Call, push, edit, rate, reset, absolute, relative, by_duration, absolute_end, relative_end, past, stored, done}
use Rattle.ledger.specs.Lists.{numbers, place_of}
use Rattle.ledger.specs.Ledger.{Ledger, fresh}
use Rattle.ledger.specs.Steps.{run}
use Rattle.ledger.specs.Computes.{computes}
use Rattle.ledger.specs.Cases.{held1, one_tick, block_of, answers_of}
use Rattle.ledger.proofs.CasesOfSlips.{ends_of, values_of, ledger_of, replies_of}

abbrev quarter : Float
quarter = fin false 1 (negsuc 1)

-- 0.0625: what ends there finishes in the first tick, and θ is there after it
abbrev 16th : Float
16th = fin false 1 (negsuc 3)

-- held 1.0 without fades
abbrev plain : (start end : Float) → Call
plain start end = held1 start end zeroᶠ zeroᶠ

abbrev starts_of : List Event → List Float
starts_of [] = []
starts_of (e ∷ l) = e.start_time ∷ starts_of l

abbrev fades_of : List Event → List Float
fades_of [] = []
fades_of (e ∷ l) = e.fade_in ∷ e.fade_out ∷ fades_of l

abbrev stored_edit : (number : ℕ) → (end fade_out : Float) → StoredEdit
stored_edit k end fade_out = record { id = record { 0 = k }; edit = record { end_time = end; fade_out = fade_out } }

-- a one-channel ledger in mode None at rate 8 after a list of calls
unfoldable pub in_none : List Call → Ledger
unfolding computes
in_none cs = (run (rate (whole 8) ∷ cs) (fresh 1 None 1)).ledger

-- ---- creation

-- "clock t = 0; threshold θ = -infinity; rate r = 44,100; d = 1/r": as an f64, 1/44,100 is 3EF7C6F8C751F177.
pub fresh_ledger :
    let l : Ledger = fresh 3 None 9 in
    (l.clock ≡ zeroᶠ) × (l.threshold ≡ -∞) × (l.rate ≡ fin false 11_025 (pos 2)) × (l.duration ≡ fin false 6_692_696_262_570_359 (negsuc 67)) × (l.next ≡ 9) × (l.channels ≡ 3) × (l.mode ≡ None)
unfolding computes
fresh_ledger = (refl, refl, refl, refl, refl, refl, refl)

-- ---- pushes

-- "An event holds start, end, both fades, the curve, its source and its number"; Paper 5: "Every event carries an f32 gain".
pub pushed-event : (ledger_of (push absolute quarter (whole 2) halfᶠ oneᶠ Power (Ramp (whole 3) (whole 5)) (whole 7) ∷ [])).waiting ≡ record {
  start_time = quarter;
  end_time = fin false 1 (pos 1);
  fade_ease = Power;
  fade_in = halfᶠ;
  fade_out = oneᶠ;
  unit = record { source = Ramp (fin false 3 (pos 0)) (fin false 5 (pos 0)); value = fin false 3 (pos 0); place = 0 };
  gain = fin false 7 (pos 0);
  id = record { 0 = 1 };
} ∷ []
unfolding ledger_of whole
pushed-event = refl

-- "Relative adds t to start and end .. By duration: end = start + duration." At t = 0.125, a start of 0.25 and an end or duration of 1.
pub pushed-times :
    let l : Ledger = ledger_of (one_tick ∷ push relative quarter oneᶠ zeroᶠ zeroᶠ Smooth (Held oneᶠ) oneᶠ ∷ push by_duration quarter oneᶠ zeroᶠ zeroᶠ Smooth (Held oneᶠ) oneᶠ ∷ []) in
    (starts_of l.waiting ≡ quarter ∷ fin false 3 (negsuc 2) ∷ []) × (ends_of l.waiting ≡ fin false 5 (negsuc 1) ∷ fin false 9 (negsuc 2) ∷ [])
unfolding ledger_of
pushed-times = (refl, refl)

-- "start < θ appends to S ..; otherwise into W": θ is 0.0625 and t 0.125. A relative start is judged with t added.
pub pushed-before_threshold :
    let l : Ledger = ledger_of (plain zeroᶠ oneᶠ ∷ one_tick ∷ plain zeroᶠ oneᶠ ∷ plain 16th oneᶠ ∷ push relative zeroᶠ oneᶠ zeroᶠ zeroᶠ Smooth (Held oneᶠ) oneᶠ ∷ []) in
    (numbers l.sounding ≡ 1 ∷ 2 ∷ []) × (numbers l.waiting ≡ 3 ∷ 4 ∷ []) × (l.next ≡ 5)
unfolding ledger_of
pushed-before_threshold = (refl, refl, refl)

-- "W sorted by start then number": by totalOrder -0.0 precedes 0.0.
pub waiting_in_order : numbers (ledger_of (plain oneᶠ +∞ ∷ plain zeroᶠ +∞ ∷ plain zeroᶠ +∞ ∷ plain (fin true 0 (pos 0)) +∞ ∷ [])).waiting ≡ 4 ∷ 2 ∷ 3 ∷ 1 ∷ []
unfolding ledger_of
waiting_in_order = refl

-- ---- edits

-- "in S, replace end and fade-out": of that event alone.
pub edit_applied :
    let l : Ledger = ledger_of (plain zeroᶠ oneᶠ ∷ held1 zeroᶠ oneᶠ halfᶠ zeroᶠ ∷ plain zeroᶠ oneᶠ ∷ one_tick ∷ edit absolute_end 2 quarter 16th ∷ []) in
    (ends_of l.sounding ≡ oneᶠ ∷ quarter ∷ oneᶠ ∷ []) × (fades_of l.sounding ≡ zeroᶠ ∷ zeroᶠ ∷ halfᶠ ∷ 16th ∷ zeroᶠ ∷ zeroᶠ ∷ []) × (l.edits ≡ [])
unfolding ledger_of
edit_applied = (refl, refl, refl)

-- "Else, if end < θ, nothing": an end at θ, 0.0625, is stored, one before it is past and not stored.
pub edit-at_threshold :
    let cs : List Call = one_tick ∷ edit absolute_end 7 16th zeroᶠ ∷ edit absolute_end 8 (fin false 1 (negsuc 4)) zeroᶠ ∷ [] in
    (answers_of (replies_of cs) ≡ done ∷ stored ∷ past ∷ []) × ((ledger_of cs).edits ≡ stored_edit 7 16th zeroᶠ ∷ [])
unfolding replies_of ledger_of
edit-at_threshold = (refl, refl)

-- "Else store in E, replacing an earlier edit, even for an unknown number .. Relative uses t + end": edits of a waiting event, of a finished one and of none, the first one replaced at t = 0.125.
pub edit-stored :
    let l : Ledger = ledger_of (plain zeroᶠ 16th ∷ plain oneᶠ +∞ ∷ one_tick ∷ edit absolute_end 2 oneᶠ zeroᶠ ∷ edit absolute_end 1 oneᶠ zeroᶠ ∷ edit absolute_end 7 oneᶠ halfᶠ ∷ edit relative_end 2 oneᶠ quarter ∷ []) in
    (l.edits ≡ stored_edit 2 (fin false 9 (negsuc 2)) quarter ∷ stored_edit 1 oneᶠ zeroᶠ ∷ stored_edit 7 oneᶠ halfᶠ ∷ []) × (ends_of l.waiting ≡ +∞ ∷ []) × (ends_of l.finished ≡ 16th ∷ [])
unfolding ledger_of
edit-stored = (refl, refl, refl)

-- ---- ticks and blocks

-- "e = t + d for a tick, t + d × n for a block. θ = e - d × 0.5 .. Last, t = e": from 0.125 a block of 3 ends at 0.5.
-- At rate 10 three samples end at d × 3 = 3FD3333333333334, one above the f64 of 0.3, and θ is 3FD0000000000001.
pub step-ends :
    let l : Ledger = ledger_of (one_tick ∷ block_of 3 ∷ []) in
    let k : Ledger = ledger_of (rate (whole 10) ∷ block_of 3 ∷ []) in
    ((ledger_of (one_tick ∷ [])).clock ≡ fin false 1 (negsuc 2)) × ((ledger_of (one_tick ∷ [])).threshold ≡ 16th) × (l.clock ≡ halfᶠ) × (l.threshold ≡ fin false 7 (negsuc 3)) × (k.clock ≡ fin false 1_351_079_888_211_149 (negsuc 51)) × (k.threshold ≡ fin false 4_503_599_627_370_497 (negsuc 53))
unfolding ledger_of whole
step-ends = (refl, refl, refl, refl, refl, refl)

-- "While W's first start < θ it moves to S's end, taking and removing its edit": 3 starts before 2, both behind 1; the edit of 9 stays, and the start at θ waits.
pub started_in_order :
    let l : Ledger = ledger_of (plain zeroᶠ oneᶠ ∷ one_tick ∷ plain (fin false 1 (negsuc 2)) oneᶠ ∷ plain 16th oneᶠ ∷ plain (fin false 3 (negsuc 3)) oneᶠ ∷ edit absolute_end 9 oneᶠ zeroᶠ ∷ edit absolute_end 3 halfᶠ 16th ∷ edit absolute_end 8 oneᶠ zeroᶠ ∷ one_tick ∷ []) in
    (numbers l.sounding ≡ 1 ∷ 3 ∷ 2 ∷ []) × (numbers l.waiting ≡ 4 ∷ []) × (ends_of l.sounding ≡ oneᶠ ∷ halfᶠ ∷ oneᶠ ∷ []) × (fades_of l.sounding ≡ zeroᶠ ∷ zeroᶠ ∷ zeroᶠ ∷ 16th ∷ zeroᶠ ∷ zeroᶠ ∷ []) × (l.edits ≡ stored_edit 9 oneᶠ zeroᶠ ∷ stored_edit 8 oneᶠ zeroᶠ ∷ [])
unfolding ledger_of
started_in_order = (refl, refl, refl, refl, refl)

-- "if end ≤ t + 0.5 × d .. the event goes to F's end": t is the clock before the step, so what ends within the first block sounds in it and finishes in the next.
pub finished_in_order :
    let cs : List Call = plain zeroᶠ quarter ∷ plain zeroᶠ 16th ∷ block_of 8 ∷ [] in
    let l : Ledger = ledger_of cs in
    (numbers l.sounding ≡ 1 ∷ []) × (numbers l.finished ≡ 2 ∷ []) × (numbers (ledger_of (cs ++ (one_tick ∷ []))).finished ≡ 2 ∷ 1 ∷ [])
unfolding ledger_of
finished_in_order = (refl, refl, refl)

-- "in mode None F's numbers are appended to G and F empties": before the step, so what finishes in it is let go by the next; and not in mode All.
pub let_go_in_order :
    let cs : List Call = plain zeroᶠ 16th ∷ one_tick ∷ plain zeroᶠ 16th ∷ plain zeroᶠ 16th ∷ one_tick ∷ [] in
    ((in_none cs).gone ≡ 1 ∷ []) × (numbers (in_none cs).finished ≡ 2 ∷ 3 ∷ []) × ((in_none (cs ++ (one_tick ∷ []))).gone ≡ 1 ∷ 2 ∷ 3 ∷ []) × ((ledger_of cs).gone ≡ []) × (numbers (ledger_of cs).finished ≡ 1 ∷ 2 ∷ 3 ∷ [])
unfolding in_none ledger_of
let_go_in_order = (refl, refl, refl, refl, refl)

-- ---- rate and reset: 1 is finished, 2 waits, 3 sounds with a ramp at its second value, an edit of 7 is stored

abbrev one_of_each : List Call
one_of_each =
    push absolute zeroᶠ 16th zeroᶠ zeroᶠ Smooth (Ramp zeroᶠ oneᶠ) oneᶠ ∷ push absolute (whole 9) +∞ zeroᶠ zeroᶠ Smooth (Ramp zeroᶠ oneᶠ) oneᶠ
    ∷ push absolute zeroᶠ oneᶠ zeroᶠ zeroᶠ Smooth (Ramp zeroᶠ oneᶠ) oneᶠ ∷ edit absolute_end 7 oneᶠ zeroᶠ ∷ one_tick ∷ []

-- "Rate: if different, r and d change, everything goes to W, θ = -infinity; t, E and source places remain."
pub rate_changes :
    let l : Ledger = ledger_of (one_of_each ++ (rate (whole 4) ∷ [])) in
    (l.rate ≡ fin false 1 (pos 2)) × (l.duration ≡ quarter) × (numbers l.waiting ≡ 1 ∷ 3 ∷ 2 ∷ []) × (values_of l.waiting ≡ zeroᶠ ∷ oneᶠ ∷ zeroᶠ ∷ []) × (l.sounding ≡ []) × (l.finished ≡ []) × (l.threshold ≡ -∞) × (l.clock ≡ fin false 1 (negsuc 2)) × (l.edits ≡ stored_edit 7 oneᶠ zeroᶠ ∷ [])
unfolding ledger_of whole
rate_changes = (refl, refl, refl, refl, refl, refl, refl, refl, refl)

-- The same rate changes nothing.
pub same-rate :
    let l : Ledger = ledger_of (one_of_each ++ (rate (whole 8) ∷ [])) in
    (numbers l.waiting ≡ 2 ∷ []) × (numbers l.sounding ≡ 3 ∷ []) × (numbers l.finished ≡ 1 ∷ []) × (l.threshold ≡ 16th)
unfolding ledger_of whole
same-rate = (refl, refl, refl, refl)

-- "Reset: All sends everything to W and rewinds sources, E remaining .. t = 0, θ = -infinity."
pub reset_in_all :
    let l : Ledger = ledger_of (one_of_each ++ (reset ∷ [])) in
    (numbers l.waiting ≡ 1 ∷ 3 ∷ 2 ∷ []) × (values_of l.waiting ≡ zeroᶠ ∷ zeroᶠ ∷ zeroᶠ ∷ []) × (l.sounding ≡ []) × (l.finished ≡ []) × (l.edits ≡ stored_edit 7 oneᶠ zeroᶠ ∷ []) × (l.clock ≡ zeroᶠ) × (l.threshold ≡ -∞) × (l.gone ≡ [])
unfolding ledger_of whole
reset_in_all = (refl, refl, refl, refl, refl, refl, refl, refl)

-- "None appends the numbers of F, W and S to G and empties all four of W, S, F and E. Both: t = 0, θ = -infinity." 1 was let go before.
pub reset_in_none :
    let l : Ledger = in_none (plain zeroᶠ 16th ∷ one_tick ∷ plain zeroᶠ oneᶠ ∷ plain (whole 9) +∞ ∷ plain zeroᶠ 16th ∷ plain zeroᶠ oneᶠ ∷ edit absolute_end 7 oneᶠ zeroᶠ ∷ one_tick ∷ reset ∷ []) in
    (l.gone ≡ 1 ∷ 4 ∷ 3 ∷ 2 ∷ 5 ∷ []) × (l.waiting ≡ []) × (l.sounding ≡ []) × (l.finished ≡ []) × (l.edits ≡ []) × (l.clock ≡ zeroᶠ) × (l.threshold ≡ -∞) × (l.next ≡ 6)
unfolding in_none whole
reset_in_none = (refl, refl, refl, refl, refl, refl, refl, refl)

-- ---- "The index gives each number's place in S, or none."
pub places :
    let s : List Event = (ledger_of (plain zeroᶠ oneᶠ ∷ plain zeroᶠ oneᶠ ∷ plain oneᶠ +∞ ∷ one_tick ∷ [])).sounding in
    (place_of 1 s ≡ some 0) × (place_of 2 s ≡ some 1) × (place_of 3 s ≡ none)
unfolding ledger_of
places = (refl, refl, refl)

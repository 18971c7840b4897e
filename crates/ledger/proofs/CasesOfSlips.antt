-- Document 01's plausible slips, each with a list of calls whose outcome shows it (the queue's is the desk's), and rules beside them that are easily missed. At rate 8 from clock 0. Assumes nothing.
use Rattle.std.specs.Prelude.{◌≡◌, refl, false, List, [], ◌∷◌, ◌++◌, negsuc, length, take, drop, replicate, Float}
use Rattle.std.specs.Float.{fin}
use Rattle.floats.specs.Arithmetic.{zeroᶠ, oneᶠ, halfᶠ, whole}
use Rattle.floats.specs.Constants.{+∞}
use Rattle.event.specs.declared.Event.{Event}
use Rattle.event.specs.declared.Fade.TheVariants.{Smooth}
use Rattle.event.specs.declared.Source.TheVariants.{Ramp}
use Rattle.ledger.specs.Calls.{Call, push, edit, rate, reset, absolute, absolute_end, relative_end, applied, past, stored, number, done, Reply}
use Rattle.ledger.specs.Lists.{numbers}
use Rattle.ledger.specs.Ledger.{Ledger}
use Rattle.ledger.specs.Steps.{run}
use Rattle.ledger.specs.Computes.{computes}
use Rattle.ledger.specs.Cases.{at_rate8, held1, decimal, 512ths, one_tick, block_of, answers_of, last_out, replies_at}

abbrev pub ends_of : List Event → List Float
ends_of [] = []
ends_of (e ∷ l) = e.end_time ∷ ends_of l

-- where a ramp stands
abbrev pub values_of : List Event → List Float
values_of [] = []
values_of (e ∷ l) = e.unit.value ∷ values_of l

-- the ledger, and its replies, after a list of calls
unfoldable pub ledger_of : List Call → Ledger
unfolding at_rate8
ledger_of cs = (run cs at_rate8).ledger

unfoldable pub replies_of : List Call → List Reply
unfolding at_rate8
replies_of cs = (run cs at_rate8).replies

-- A block is not n ticks: the example tape's block of 2 leaves the clip, which ends at 0.125, sounding, and two ticks leave it finished. (Case 6 no longer tells the two apart: document 02, Paper 3.)
pub block-is-not-ticks :
    let clip : Call = held1 zeroᶠ (fin false 1 (negsuc 2)) zeroᶠ zeroᶠ in
    let block : Ledger = ledger_of (clip ∷ block_of 2 ∷ []) in
    let ticks : Ledger = ledger_of (clip ∷ one_tick ∷ one_tick ∷ []) in
    (numbers block.sounding ≡ 1 ∷ []) × (numbers block.finished ≡ []) × (numbers ticks.sounding ≡ []) × (numbers ticks.finished ≡ 1 ∷ [])
unfolding ledger_of
block-is-not-ticks = (refl, refl, refl, refl)

-- After a finish i does not grow: of three, the first and the last end, and the last, which fills the first's place, is not skipped.
pub moved-is-not_skipped :
    let l : Ledger = ledger_of (held1 zeroᶠ (decimal 625 4) zeroᶠ zeroᶠ ∷ held1 zeroᶠ oneᶠ zeroᶠ zeroᶠ ∷ held1 zeroᶠ (decimal 625 4) zeroᶠ zeroᶠ ∷ one_tick ∷ []) in
    (numbers l.sounding ≡ 2 ∷ []) × (numbers l.finished ≡ 1 ∷ 3 ∷ [])
unfolding ledger_of decimal
moved-is-not_skipped = (refl, refl)

-- The last fills a finished event's place: of four of which the first ends, the fourth stands first.
pub last_fills_place :
    let l : Ledger = ledger_of (held1 zeroᶠ (decimal 625 4) zeroᶠ zeroᶠ ∷ held1 zeroᶠ oneᶠ zeroᶠ zeroᶠ ∷ held1 zeroᶠ oneᶠ zeroᶠ zeroᶠ ∷ held1 zeroᶠ oneᶠ zeroᶠ zeroᶠ ∷ one_tick ∷ []) in
    numbers l.sounding ≡ 4 ∷ 2 ∷ 3 ∷ []
unfolding ledger_of decimal
last_fills_place = refl

-- A push straight to S takes no stored edit: its end is its own, and the edit stays.
pub straight_takes_no_edit :
    let l : Ledger = ledger_of (edit absolute_end 1 (whole 2) zeroᶠ ∷ one_tick ∷ held1 zeroᶠ oneᶠ zeroᶠ zeroᶠ ∷ []) in
    (ends_of l.sounding ≡ oneᶠ ∷ []) × (length l.edits ≡ 1)
unfolding ledger_of whole
straight_takes_no_edit = (refl, refl)

-- An event that starts takes its edit and removes it.
pub starting_takes_edit :
    let l : Ledger = ledger_of (held1 zeroᶠ oneᶠ zeroᶠ zeroᶠ ∷ edit absolute_end 1 halfᶠ zeroᶠ ∷ one_tick ∷ []) in
    (ends_of l.sounding ≡ halfᶠ ∷ []) × (length l.edits ≡ 0)
unfolding ledger_of
starting_takes_edit = (refl, refl)

-- Reset in mode All leaves E and rewinds the sources; a rate change leaves the source places.
pub reset-leaves-edits :
    let a : List Call = push absolute zeroᶠ oneᶠ zeroᶠ zeroᶠ Smooth (Ramp zeroᶠ oneᶠ) oneᶠ ∷ edit absolute_end 9 oneᶠ zeroᶠ ∷ one_tick ∷ [] in
    (length (ledger_of (a ++ (reset ∷ []))).edits ≡ 1) × (values_of (ledger_of (a ++ (reset ∷ []))).waiting ≡ zeroᶠ ∷ []) × (values_of (ledger_of (a ++ (rate oneᶠ ∷ []))).waiting ≡ oneᶠ ∷ [])
unfolding ledger_of
reset-leaves-edits = (refl, refl, refl)

-- The three answers of an edit, and that a relative one uses t + end.
pub edit-answers :
    answers_of (replies_of (held1 zeroᶠ oneᶠ zeroᶠ zeroᶠ ∷ one_tick ∷ edit relative_end 1 halfᶠ zeroᶠ ∷ edit absolute_end 7 zeroᶠ zeroᶠ ∷ edit relative_end 7 zeroᶠ zeroᶠ ∷ []))
    ≡ number 1 ∷ done ∷ applied ∷ past ∷ stored ∷ []
unfolding replies_of
edit-answers = refl

pub relative_edit : ends_of (ledger_of (held1 zeroᶠ oneᶠ zeroᶠ zeroᶠ ∷ one_tick ∷ edit relative_end 1 halfᶠ zeroᶠ ∷ [])).sounding ≡ fin false 5 (negsuc 2) ∷ []
unfolding ledger_of
relative_edit = refl

-- A start's place is (start - t) × r and a fade's (x - t) / d, and the two round differently: at rate 10, 0.15 is place 2 by the first and place 1 by the second.
unfoldable pub at_rate10 : Call → List Float
unfolding replies_at
at_rate10 c = take 3 (last_out (replies_at (whole 10) (c ∷ block_of 8 ∷ [])))

pub places-round_differently : (at_rate10 (held1 zeroᶠ +∞ (decimal 15 2) zeroᶠ) ≡ zeroᶠ ∷ oneᶠ ∷ oneᶠ ∷ []) × (at_rate10 (held1 (decimal 15 2) +∞ zeroᶠ zeroᶠ) ≡ zeroᶠ ∷ zeroᶠ ∷ oneᶠ ∷ [])
unfolding at_rate10 decimal
places-round_differently = (refl, refl)

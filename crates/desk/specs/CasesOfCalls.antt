-- Document 01, "The desk": what each call queues, drains, returns and refuses. At rate 8 from clock 0. Assumes nothing.
use Rattle.std.specs.Prelude.{ℕ, ◌-◌, ◌^◌, ◌≡◌, refl, true, false, List, [], ◌∷◌, ◌++◌, pos, negsuc, take, replicate, Float}
use Rattle.std.specs.Float.{nan, fin}
use Rattle.event.specs.declared.Event.{Event}
use Rattle.event.specs.declared.StoredEdit.{StoredEdit}
use Rattle.event.specs.declared.Fade.TheVariants.{Smooth}
use Rattle.event.specs.declared.MixOrder.TheVariants.{Forward, Backward}
use Rattle.event.specs.declared.ReplayMode.TheVariants.{All, None}
use Rattle.event.specs.declared.Source.TheVariants.{Held}
use Rattle.floats.specs.Arithmetic.{zeroᶠ, oneᶠ, halfᶠ, -∞, whole}
use Rattle.floats.specs.Constants.{+∞}
use Rattle.ledger.specs.Calls.{PushKind, absolute, relative, by_duration, absolute_end, relative_end}
use Rattle.ledger.specs.Lists.{numbers}
use Rattle.ledger.specs.Ledger.{Ledger, fresh}
use Rattle.ledger.specs.Steps.{with_lists}
use Rattle.ledger.proofs.CasesOfSlips.{ends_of}
use Rattle.desk.specs.Desk.{Message, push, edit, reset, tick, block, rate, Call, front, back, Answer, number, queued, done, refused, Reply, Desk, opened, run, computes}
use Rattle.desk.specs.CasesOfSlips.{held1, event, desk}

-- a tick and a block of n samples of one channel, lent 0.5
abbrev one_tick : Call
one_tick = back (tick Forward [] (halfᶠ ∷ []))

abbrev block_of : (n : ℕ) → Call
block_of n = back (block Forward n [] (replicate 64 halfᶠ))

-- held 1.0 without fades, at a gain and at 1.0, and an edit without a fade-out
abbrev at_gain : (gain : Float) → Message
at_gain gain = push absolute zeroᶠ oneᶠ zeroᶠ zeroᶠ Smooth (Held oneᶠ) gain

abbrev plain : PushKind → (start end : Float) → Message
plain kind start end = push kind start end zeroᶠ zeroᶠ Smooth (Held oneᶠ) oneᶠ

abbrev ending : (number : ℕ) → (end : Float) → Message
ending k end = edit absolute_end k end zeroᶠ

-- 0.0625: what ends there finishes in the first tick
abbrev 16th : Float
16th = fin false 1 (negsuc 3)

abbrev 8th : Float
8th = fin false 1 (negsuc 2)

abbrev answers_of : List Reply → List Answer
answers_of [] = []
answers_of (r ∷ l) = r.answer ∷ answers_of l

abbrev last_out : List Reply → List Float
last_out [] = []
last_out (r ∷ []) = r.out
last_out (r ∷ (q ∷ l)) = last_out (q ∷ l)

abbrev starts_of : List Event → List Float
starts_of [] = []
starts_of (e ∷ l) = e.start_time ∷ starts_of l

abbrev stored_edit : (number : ℕ) → (end : Float) → StoredEdit
stored_edit k end = record { id = record { 0 = k }; edit = record { end_time = end; fade_out = zeroᶠ } }

-- a one-channel desk in mode None, and one in mode All, at rate 8 after a list of calls
unfoldable pub in_none : List Call → Desk
unfolding computes
in_none cs = (run (back (rate (whole 8)) ∷ cs) (opened (fresh 1 None 1))).desk

unfoldable pub in_all : List Call → Desk
unfolding computes
in_all cs = (run (back (rate (whole 8)) ∷ cs) (opened (fresh 1 All 1))).desk

unfoldable pub replies : List Call → List Reply
unfolding computes
replies cs = (run (back (rate (whole 8)) ∷ cs) (opened (fresh 1 None 1))).replies

-- the answers of a desk that is so far
unfoldable pub answers_from : Desk → List Call → List Answer
unfolding computes
answers_from d cs = answers_of (run cs d).replies

-- ---- the front

-- "The front queues push (by duration too), relative push, edit, relative edit and reset ..": first in first out, and the back is as it was. "An accepted front edit or reset answers: queued"; a push takes its number at once.
abbrev one_of_each : List Message
one_of_each = plain absolute oneᶠ +∞ ∷ plain by_duration oneᶠ oneᶠ ∷ ending 1 oneᶠ ∷ plain relative oneᶠ +∞ ∷ edit relative_end 9 oneᶠ zeroᶠ ∷ reset ∷ plain absolute oneᶠ +∞ ∷ []

abbrev fronts : List Message → List Call
fronts [] = []
fronts (m ∷ l) = front m ∷ fronts l

pub front_queues :
    let d : Desk = in_none (fronts one_of_each) in
    (d.queued ≡ one_of_each) × (d.returned ≡ []) × (d.back.waiting ≡ []) × (d.back.edits ≡ []) × (answers_of (replies (fronts one_of_each)) ≡ done ∷ number 1 ∷ number 2 ∷ queued ∷ number 3 ∷ queued ∷ queued ∷ number 4 ∷ [])
unfolding in_none replies
front_queues = (refl, refl, refl, refl, refl)

-- ".. after emptying the return queue": a push, an edit and a reset; a refused one leaves it.
abbrev two_returned : List Message → Desk
two_returned q = desk [] [] [] q (8 ∷ 9 ∷ [])

pub front_empties_returns :
    ((run (front held1 ∷ []) (two_returned [])).desk.returned ≡ []) × ((run (front (ending 1 oneᶠ) ∷ []) (two_returned [])).desk.returned ≡ []) × ((run (front reset ∷ []) (two_returned [])).desk.returned ≡ [])
    × ((run (front (ending 1 nan) ∷ []) (two_returned [])).desk.returned ≡ 8 ∷ 9 ∷ [])
unfolding computes
front_empties_returns = (refl, refl, refl, refl)

-- ---- draining

-- "Back calls (tick, block, rate, reset) first drain the messages": the push starts in the tick or block, or goes back; the stored edit is taken in the same tick. An equal rate drains too (DECISIONS, 12).
pub back_drains :
    let q : List Call = front (plain absolute zeroᶠ oneᶠ) ∷ front (ending 1 halfᶠ) ∷ [] in
    (ends_of (in_none (q ++ (one_tick ∷ []))).back.sounding ≡ halfᶠ ∷ []) × (ends_of (in_none (q ++ (block_of 2 ∷ []))).back.sounding ≡ halfᶠ ∷ []) × (numbers (in_none (q ++ (back (rate (whole 8)) ∷ []))).back.waiting ≡ 1 ∷ []) × ((in_none (q ++ (back reset ∷ []))).returned ≡ 1 ∷ [])
    × ((in_none (q ++ (one_tick ∷ []))).queued ≡ []) × ((in_none (q ++ (back reset ∷ []))).queued ≡ [])
unfolding in_none whole
back_drains = (refl, refl, refl, refl, refl, refl)

-- Paper 5: a queued push keeps its gain. 1.0 at gain 0.5.
pub queued_gain : (last_out (replies (front (at_gain halfᶠ) ∷ one_tick ∷ [])) ≡ halfᶠ ∷ []) × (take 2 (last_out (replies (front (at_gain halfᶠ) ∷ block_of 2 ∷ []))) ≡ halfᶠ ∷ halfᶠ ∷ [])
unfolding replies
queued_gain = (refl, refl)

-- First to last: the second edit of 9 replaces the first. t, 0.125, is added when a message is handled.
pub drained_in_order :
    let l : Ledger = (in_none (front (plain relative oneᶠ +∞) ∷ front (plain by_duration oneᶠ halfᶠ) ∷ front (ending 9 halfᶠ) ∷ front (edit relative_end 9 oneᶠ zeroᶠ) ∷ one_tick ∷ front (plain relative oneᶠ +∞) ∷ front (edit relative_end 7 oneᶠ zeroᶠ) ∷ back (rate (whole 8)) ∷ [])).back in
    (starts_of l.waiting ≡ oneᶠ ∷ oneᶠ ∷ fin false 9 (negsuc 2) ∷ []) × (ends_of l.waiting ≡ +∞ ∷ fin false 3 (negsuc 0) ∷ +∞ ∷ []) × (l.edits ≡ stored_edit 9 oneᶠ ∷ stored_edit 7 (fin false 9 (negsuc 2)) ∷ []) × (l.next ≡ 4)
unfolding in_none whole
drained_in_order = (refl, refl, refl, refl)

-- "messages behind a reset are handled before it acts": also behind two, and the edit of 9 behind them is emptied with the rest.
pub handled-before-reset :
    let d : Desk = in_none (front held1 ∷ front reset ∷ front held1 ∷ front reset ∷ front (ending 9 oneᶠ) ∷ front held1 ∷ one_tick ∷ []) in
    (d.back.gone ≡ 1 ∷ 2 ∷ 3 ∷ []) × (d.returned ≡ 1 ∷ 2 ∷ 3 ∷ []) × (d.back.edits ≡ []) × (d.back.waiting ≡ []) × (d.back.sounding ≡ [])
unfolding in_none
handled-before-reset = (refl, refl, refl, refl, refl)

-- In mode All a reset keeps all: after a tick, a queued reset and a push; then t = 0 and both wait.
pub reset_in_all :
    let d : Desk = in_all (front held1 ∷ one_tick ∷ front reset ∷ front (ending 9 oneᶠ) ∷ front held1 ∷ back (rate (whole 8)) ∷ []) in
    (numbers d.back.waiting ≡ 1 ∷ 2 ∷ []) × (d.back.clock ≡ zeroᶠ) × (d.back.threshold ≡ -∞) × (d.back.edits ≡ stored_edit 9 oneᶠ ∷ []) × (d.back.gone ≡ []) × (d.returned ≡ [])
unfolding in_all whole
reset_in_all = (refl, refl, refl, refl, refl, refl)

-- ---- what goes back

-- "In mode None, finished numbers go to the return queue after a tick or block, taken from F's end": in the step in which they finish. In mode All they stay.
pub returned_after-step :
    let q : List Call = front (plain absolute zeroᶠ 16th) ∷ front (plain absolute zeroᶠ 16th) ∷ front (plain absolute zeroᶠ oneᶠ) ∷ [] in
    let d : Desk = in_none (q ++ (one_tick ∷ [])) in
    let e : Desk = in_none (q ++ (block_of 1 ∷ [])) in
    let f : Desk = in_all (q ++ (one_tick ∷ [])) in
    (d.returned ≡ 2 ∷ 1 ∷ []) × (d.back.gone ≡ 2 ∷ 1 ∷ []) × (d.back.finished ≡ []) × (numbers d.back.sounding ≡ 3 ∷ []) × (e.returned ≡ 2 ∷ 1 ∷ []) × (e.back.finished ≡ []) × (f.returned ≡ []) × (f.back.gone ≡ []) × (numbers f.back.finished ≡ 1 ∷ 2 ∷ [])
unfolding in_none in_all
returned_after-step = (refl, refl, refl, refl, refl, refl, refl, refl, refl)

-- A reset empties all, and t = 0, θ = -infinity; later numbers are behind earlier ones.
pub reset_returns :
    let d : Desk = in_none (front held1 ∷ front (plain absolute zeroᶠ 16th) ∷ one_tick ∷ front (plain absolute oneᶠ +∞) ∷ front (ending 9 oneᶠ) ∷ back (rate (whole 8)) ∷ back reset ∷ []) in
    (d.returned ≡ 3 ∷ 1 ∷ []) × (d.back.gone ≡ 2 ∷ 3 ∷ 1 ∷ []) × (d.back.clock ≡ zeroᶠ) × (d.back.threshold ≡ -∞) × (d.back.edits ≡ []) × (d.back.next ≡ 4)
unfolding in_none whole
reset_returns = (refl, refl, refl, refl, refl, refl)

-- ---- what the back writes: a level of 1 in the first sample; of a block of 1 the first 8 places are cleared, the rest remains
pub back_writes : (last_out (replies (front held1 ∷ one_tick ∷ [])) ≡ oneᶠ ∷ []) × (take 9 (last_out (replies (front held1 ∷ block_of 1 ∷ []))) ≡ oneᶠ ∷ replicate 7 zeroᶠ ++ (halfᶠ ∷ []))
unfolding replies
back_writes = (refl, refl)

-- Paper 9: the back's marked calls add from the end of the list. Of 1, 2 ^ 30 and - 2 ^ 30 the sum in f32 is 1 so, and 0 in order.
pub back_marked :
    let q : List Call = front held1 ∷ front (at_gain (fin false 1 (pos 30))) ∷ front (at_gain (fin true 1 (pos 30))) ∷ [] in
    (last_out (replies (q ++ (back (tick Backward [] (halfᶠ ∷ [])) ∷ []))) ≡ oneᶠ ∷ []) × (take 1 (last_out (replies (q ++ (back (block Backward 1 [] (replicate 64 halfᶠ)) ∷ [])))) ≡ oneᶠ ∷ [])
    × (last_out (replies (q ++ (one_tick ∷ []))) ≡ zeroᶠ ∷ [])
unfolding replies
back_marked = (refl, refl, refl)

-- ---- refusals

-- a desk in mode None, clock t and so many edits stored
abbrev edits : (k : ℕ) → List StoredEdit
edits k = replicate k (stored_edit 1 oneᶠ)

unfoldable pub desk_at : (stored : ℕ) → (t : Float) → (queued : List Message) → Desk
unfolding computes
desk_at k t q = let l = (run (back (rate oneᶠ) ∷ []) (opened (fresh 1 None 500))).desk.back in record { back = with_lists l [] (event zeroᶠ 7 ∷ []) [] (edits k) t -∞ []; queued = q; returned = 8 ∷ [] }

-- "A refused call drains neither queue": a tick with no output, a block of 65, a rate of 0; what is lent is as lent.
pub refused_drains_nothing :
    let d : Desk = desk_at 0 zeroᶠ (held1 ∷ []) in
    let r : List Reply = (run (back (tick Forward [] []) ∷ block_of 65 ∷ back (rate zeroᶠ) ∷ []) d).replies in
    let e : Desk = (run (back (tick Forward [] []) ∷ block_of 65 ∷ back (rate zeroᶠ) ∷ []) d).desk in
    (r ≡ record { answer = refused 10; out = [] } ∷ record { answer = refused 11; out = replicate 64 halfᶠ } ∷ record { answer = refused 2; out = [] } ∷ []) × (e.queued ≡ held1 ∷ []) × (e.returned ≡ 8 ∷ []) × (e.back.clock ≡ zeroᶠ)
unfolding desk_at
refused_drains_nothing = (refl, refl, refl, refl)

-- "the clock for refusal 12 is read before draining": the queued reset would set it to 0.
pub clock_before_draining : answers_from (desk_at 0 (whole 1_000_000_000) (reset ∷ [])) (one_tick ∷ block_of 1 ∷ back (rate oneᶠ) ∷ one_tick ∷ []) ≡ refused 12 ∷ refused 12 ∷ done ∷ done ∷ []
unfolding answers_from desk_at whole
clock_before_draining = refl

-- 3, 4, 5, 18 as for the plain ledger, and before 13; a refused push uses no number.
pub front_refusals : answers_from (desk_at 0 zeroᶠ []) (front (plain absolute nan oneᶠ) ∷ front (push absolute zeroᶠ oneᶠ (whole 2) zeroᶠ Smooth (Held oneᶠ) oneᶠ) ∷ front (push absolute zeroᶠ oneᶠ zeroᶠ zeroᶠ Smooth (Held nan) oneᶠ) ∷ front (at_gain -∞) ∷ front held1 ∷ [])
    ≡ refused 3 ∷ refused 4 ∷ refused 5 ∷ refused 18 ∷ number 500 ∷ []
unfolding answers_from desk_at whole
front_refusals = refl

-- Paper 5: "A gain that is not finite is refused as 18, directly after 5": behind 5, before 6 (256 held), before 13 (64 queued).
pub front-refusal-18 : (answers_from (desk (replicate 256 (event zeroᶠ 1)) [] [] [] []) (front (push relative zeroᶠ oneᶠ zeroᶠ zeroᶠ Smooth (Held nan) nan) ∷ front (at_gain nan) ∷ front held1 ∷ []) ≡ refused 5 ∷ refused 18 ∷ refused 6 ∷ [])
    × (answers_from (desk_at 0 zeroᶠ (replicate 64 reset)) (front (at_gain +∞) ∷ front held1 ∷ []) ≡ refused 18 ∷ refused 13 ∷ [])
unfolding answers_from desk_at
front-refusal-18 = (refl, refl)

-- 6. "256 events are held in W, S and F (on the desk, with queued pushes)": queued edits and resets do not count.
pub holds_with_queued : answers_from (desk (replicate 250 (event zeroᶠ 1)) [] [] (ending 1 oneᶠ ∷ reset ∷ replicate 5 held1) []) (front held1 ∷ front held1 ∷ []) ≡ number 6 ∷ refused 6 ∷ []
unfolding answers_from
holds_with_queued = refl

-- 7. "Number 2^64 - 1 has been given": by a queued push too.
pub last_number : answers_from (opened (fresh 1 None (2 ^ 64 - 2))) (front held1 ∷ front held1 ∷ front held1 ∷ []) ≡ number (2 ^ 64 - 2) ∷ number (2 ^ 64 - 1) ∷ refused 7 ∷ []
unfolding answers_from
last_number = refl

-- 8, and 9: "on the desk instead, for any edit: stored plus queued edits are 256". Queued pushes do not count; event 7 sounds, and 1 has an edit.
pub edits_with_queued : answers_from (desk_at 250 zeroᶠ (held1 ∷ reset ∷ replicate 5 (ending 1 oneᶠ))) (front (ending 7 oneᶠ) ∷ front (ending 7 oneᶠ) ∷ front (ending 1 oneᶠ) ∷ front (ending 1 nan) ∷ front (edit absolute_end 1 +∞ +∞) ∷ [])
    ≡ queued ∷ refused 9 ∷ refused 9 ∷ refused 8 ∷ refused 8 ∷ []
unfolding answers_from desk_at
edits_with_queued = refl

-- 13. "64 messages are queued": behind 8 and 9, and for a push behind 3 to 7 (`full_queue` has the push).
pub queue-of-64 : answers_from (desk_at 192 zeroᶠ (replicate 63 (ending 1 oneᶠ))) (front reset ∷ front reset ∷ front (ending 1 oneᶠ) ∷ front (ending 1 nan) ∷ front held1 ∷ front (plain absolute nan oneᶠ) ∷ []) ≡ queued ∷ refused 13 ∷ refused 13 ∷ refused 8 ∷ refused 13 ∷ refused 3 ∷ []
unfolding answers_from desk_at
queue-of-64 = refl

pub edits-before_queue : answers_from (desk_at 192 zeroᶠ (replicate 64 (ending 1 oneᶠ))) (front (ending 1 oneᶠ) ∷ []) ≡ refused 9 ∷ []
unfolding answers_from desk_at
edits-before_queue = refl

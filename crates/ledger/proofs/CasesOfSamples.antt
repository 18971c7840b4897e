-- Document 01, "Tick samples" and "Block samples": what is written where, what stays, and which samples a source has given. Fades are in `CasesOfFades`. At rate 8 from clock 0. Assumes nothing.
use Rattle.std.specs.Prelude.{ℕ, ◌≡◌, refl, true, false, List, [], ◌∷◌, ◌++◌, pos, negsuc, take, replicate, Float}
use Rattle.std.proofs.Math.Option.{Option, none, some}
use Rattle.std.specs.Float.{fin}
use Rattle.std.specs.Float.Ieee.{neg}
use Rattle.floats.specs.Arithmetic.{zeroᶠ, oneᶠ, halfᶠ, whole}
use Rattle.event.specs.declared.Event.{Event}
use Rattle.event.specs.declared.Fade.TheVariants.{Smooth}
use Rattle.event.specs.declared.MixOrder.TheVariants.{Forward}
use Rattle.event.specs.declared.ReplayMode.TheVariants.{All}
use Rattle.event.specs.declared.Source.{Source}
use Rattle.event.specs.declared.Source.TheVariants.{Held, Ramp, Clip}
use Rattle.ledger.specs.Calls.{Call, push, tick, block, rate, absolute, Reply}
use Rattle.ledger.specs.Ledger.{Ledger, fresh}
use Rattle.ledger.specs.Steps.{run}
use Rattle.ledger.specs.Computes.{computes}
use Rattle.ledger.specs.Cases.{decimal, one_tick, block_of, last_out, places}
use Rattle.ledger.proofs.CasesOfSlips.{values_of, ledger_of, replies_of, at_rate10}

abbrev quarter : Float
quarter = fin false 1 (negsuc 1)

abbrev playing : (start end : Float) → Source → Call
playing start end source = push absolute start end zeroᶠ zeroᶠ Smooth source oneᶠ

abbrev level : Float → Call
level x = playing zeroᶠ oneᶠ (Held x)

abbrev places_of : List Event → List ℕ
places_of [] = []
places_of (e ∷ l) = e.unit.place ∷ places_of l

-- "In S order, each value .. is added": 2 ^ 30 - 2 ^ 30 + 1 is 1 in f32, in the other order it is 0.
abbrev large : Float
large = fin false 1 (pos 30)

pub sum_in_order :
    let cs : List Call = level large ∷ level (neg large) ∷ level oneᶠ ∷ [] in
    (last_out (replies_of (cs ++ (one_tick ∷ []))) ≡ oneᶠ ∷ []) × (take 2 (last_out (replies_of (cs ++ (block_of 1 ∷ [])))) ≡ oneᶠ ∷ zeroᶠ ∷ [])
unfolding replies_of neg
sum_in_order = (refl, refl)

-- Sums round in f32: 1 + 2 ^ -25 is 1, twice; in f64 the two would count.
pub sum_rounds :
    let cs : List Call = level oneᶠ ∷ level (fin false 1 (negsuc 24)) ∷ level (fin false 1 (negsuc 24)) ∷ [] in
    (last_out (replies_of (cs ++ (one_tick ∷ []))) ≡ oneᶠ ∷ []) × (take 1 (last_out (replies_of (cs ++ (block_of 1 ∷ [])))) ≡ oneᶠ ∷ [])
unfolding replies_of
sum_rounds = (refl, refl)

-- "Outputs start at +0.0": a level of -0.0 added to it is +0.0, whatever was lent.
pub outputs-start-at_zero :
    let e : Call = level (fin true 0 (pos 0)) in
    (last_out (replies_of (e ∷ tick Forward [] (halfᶠ ∷ []) ∷ [])) ≡ zeroᶠ ∷ []) × (take 1 (last_out (replies_of (e ∷ block Forward 1 [] (replicate 64 halfᶠ) none ∷ []))) ≡ zeroᶠ ∷ [])
unfolding replies_of
outputs-start-at_zero = (refl, refl)

-- Two channels, a pool of 0.25, 0.5, 0.75, a clip of 3 from its place 1 and, one sample later, a ramp. All that is lent has 0.25 in it.
abbrev pool : List Float
pool = quarter ∷ halfᶠ ∷ fin false 3 (negsuc 1) ∷ []

abbrev clip_and_ramp : List Call
clip_and_ramp = rate (whole 8) ∷ playing zeroᶠ oneᶠ (Clip 1 3) ∷ playing (fin false 1 (negsuc 2)) oneᶠ (Ramp oneᶠ halfᶠ) ∷ []

abbrev lent : ℕ → List Float
lent n = replicate n quarter

abbrev pub last_reply : List Reply → Option Reply
last_reply [] = none
last_reply (r ∷ []) = some r
last_reply (r ∷ (q ∷ l)) = last_reply (q ∷ l)

-- "One value feeds all channels."
pub tick_outputs : last_out (run (clip_and_ramp ++ (tick Forward pool (lent 2) ∷ tick Forward pool (lent 2) ∷ [])) (fresh 2 All 1)).replies ≡ fin false 7 (negsuc 1) ∷ fin false 7 (negsuc 1) ∷ []
unfolding computes
tick_outputs = refl

-- "Each channel is 64 long; the first 8 × ceil(n/8) become +0.0, the rest remain .. the source gives z - s samples to a scratch from place 0 .. scratch k is added at s + k": 0.5, 0.75 + 1, 0 + 1.5.
-- The scratch has the last event's two samples, and behind them what was lent (DECISIONS, 6). "0.0 past the clip or the pool".
abbrev row : List Float
row = halfᶠ ∷ fin false 7 (negsuc 1) ∷ fin false 3 (negsuc 0) ∷ replicate 5 zeroᶠ ++ lent 56

abbrev run_given : List Float
run_given = oneᶠ ∷ fin false 3 (negsuc 0) ∷ lent 62

unfoldable pub block_replies : (n : ℕ) → List Reply
unfolding computes
block_replies n = (run (clip_and_ramp ++ (block Forward n pool (lent 128) (some (lent 64)) ∷ [])) (fresh 2 All 1)).replies

pub block-outputs : last_reply (block_replies 3) ≡ some (record { answer = places 1 0 3; out = row ++ row; scratch = some run_given; filled = 2 })
unfolding block_replies
block-outputs = refl

-- the two parts of `block_clears`, with the samples in the form that they compute to
block_of_9 : take 18 (last_out (block_replies 9)) ≡ halfᶠ ∷ fin false 7 (negsuc 1) ∷ fin false 3 (negsuc 0) ∷ fin false 1 (pos 1) ∷ fin false 5 (negsuc 0) ∷ fin false 3 (pos 0) ∷ fin false 7 (negsuc 0) ∷ fin false 1 (pos 2) ∷ replicate 8 zeroᶠ ++ lent 2
unfolding block_replies
block_of_9 = refl

block_of_0 : last_out (block_replies 0) ≡ lent 128
unfolding block_replies
block_of_0 = refl

-- 9 samples clear 16 places: in a channel 0.5, 0.75 + 1, 1.5, 2, .., 4, then zeros, and from place 16 what was lent. 64 clear all, and none none.
pub block_clears : (take 18 (last_out (block_replies 9)) ≡ halfᶠ ∷ fin false 7 (negsuc 1) ∷ fin false 3 (negsuc 0) ∷ whole 2 ∷ fin false 5 (negsuc 0) ∷ whole 3 ∷ fin false 7 (negsuc 0) ∷ whole 4 ∷ replicate 8 zeroᶠ ++ lent 2) × (last_out (block_replies 0) ≡ lent 128)
unfolding whole
block_clears = (block_of_9, block_of_0)

-- "Only produced samples move a source on": after a block of 3 from clock 0 the clip has given 3 and the ramp 2; after 8 more the clip stops at its length (DECISIONS, 16) and the ramp, which ends at 1, has given 5 more.
pub sources_moved :
    let l : Ledger = ledger_of (clip_and_ramp ++ (block_of 3 ∷ [])) in
    let m : Ledger = ledger_of (clip_and_ramp ++ (block_of 3 ∷ block_of 8 ∷ [])) in
    (places_of l.sounding ≡ 3 ∷ 0 ∷ []) × (values_of l.sounding ≡ zeroᶠ ∷ fin false 1 (pos 1) ∷ []) × (places_of m.sounding ≡ 3 ∷ 0 ∷ []) × (values_of m.sounding ≡ zeroᶠ ∷ fin false 9 (negsuc 0) ∷ [])
unfolding ledger_of whole
sources_moved = (refl, refl, refl, refl)

-- "If z > s": an event that ends where it starts gives nothing; its ramp stays and the scratch keeps the run before.
pub nothing_given :
    let cs : List Call = level oneᶠ ∷ playing quarter quarter (Ramp oneᶠ oneᶠ) ∷ [] in
    (take 4 (last_out (replies_of (cs ++ (block_of 4 ∷ [])))) ≡ replicate 4 oneᶠ)
    × (values_of (ledger_of (cs ++ (block_of 4 ∷ []))).sounding ≡ oneᶠ ∷ oneᶠ ∷ [])
    × (last_reply (replies_of (cs ++ (block Forward 4 [] (lent 64) (some (lent 64)) ∷ []))) ≡ some (record { answer = places 2 0 2; out = replicate 4 oneᶠ ++ (replicate 4 zeroᶠ ++ lent 56); scratch = some (replicate 4 oneᶠ ++ lent 60); filled = 4 }))
unfolding replies_of ledger_of
nothing_given = (refl, refl, refl)

-- "s = 0 if start ≤ t, else index((start - t) × r). z = n if end ≥ e, else index((end - t) × r)": in a second block, from t = 1 on, from 1.25 up to 1.5.
pub places_in_block : take 9 (last_out (replies_of (playing (fin false 5 (negsuc 1)) (fin false 3 (negsuc 0)) (Held oneᶠ) ∷ block_of 8 ∷ block_of 8 ∷ []))) ≡ zeroᶠ ∷ zeroᶠ ∷ oneᶠ ∷ oneᶠ ∷ replicate 5 zeroᶠ
unfolding replies_of
places_in_block = refl

-- × r and not ÷ d: at rate 10 an end of 0.15 is place 2 by the first and place 1 by the second, and there is no fade between.
pub end_by_rate : at_rate10 (playing zeroᶠ (decimal 15 2) (Held oneᶠ)) ≡ oneᶠ ∷ oneᶠ ∷ zeroᶠ ∷ []
unfolding at_rate10 decimal
end_by_rate = refl

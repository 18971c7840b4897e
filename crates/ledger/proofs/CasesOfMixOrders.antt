-- Document 02, Paper 9, "Mixing order without consequence": marked ticks and blocks, by values: exact arithmetic by hand. At rate 8 from clock 0. Assumes nothing.
use Rattle.std.specs.Prelude.{ℕ, ◌≡◌, refl, true, false, List, [], ◌∷◌, ◌++◌, pos, negsuc, take, replicate, Float}
use Rattle.std.proofs.Math.Option.{none, some}
use Rattle.std.specs.Float.{fin}
use Rattle.std.specs.Float.Ieee.{neg}
use Rattle.floats.specs.Arithmetic.{zeroᶠ, oneᶠ, halfᶠ, whole}
use Rattle.event.specs.declared.Fade.TheVariants.{Smooth}
use Rattle.event.specs.declared.MixOrder.TheVariants.{Backward}
use Rattle.event.specs.declared.ReplayMode.TheVariants.{All}
use Rattle.event.specs.declared.Source.TheVariants.{Held, Ramp, Clip}
use Rattle.ledger.specs.Calls.{Call, push, tick, block, rate, absolute, refused}
use Rattle.ledger.specs.Ledger.{Ledger, fresh}
use Rattle.ledger.specs.Lists.{numbers}
use Rattle.ledger.specs.Steps.{run}
use Rattle.ledger.specs.Computes.{computes}
use Rattle.ledger.specs.Cases.{one_tick, block_of, answers_of, last_out, places}
use Rattle.ledger.proofs.CasesOfSamples.{last_reply}
use Rattle.ledger.proofs.CasesOfSlips.{values_of, ledger_of, replies_of}

abbrev marked_tick : Call
marked_tick = tick Backward [] (zeroᶠ ∷ [])

abbrev marked_block : (n : ℕ) → Call
marked_block n = block Backward n [] (replicate 64 zeroᶠ) none

-- a held level from 0 up to `end`
abbrev level : (end : Float) → Float → Call
level end x = push absolute zeroᶠ end zeroᶠ zeroᶠ Smooth (Held x) oneᶠ

abbrev large : Float
large = fin false 1 (pos 30)

-- "a mark that makes the mixer add from the end of the sounding list": of 1, 2 ^ 30 and - 2 ^ 30 the sum in f32 is 1 from the end, and 0 in order.
pub sum-from_end :
    let cs : List Call = level oneᶠ oneᶠ ∷ level oneᶠ large ∷ level oneᶠ (neg large) ∷ [] in
    (last_out (replies_of (cs ++ (marked_tick ∷ []))) ≡ oneᶠ ∷ []) × (take 2 (last_out (replies_of (cs ++ (marked_block 2 ∷ [])))) ≡ oneᶠ ∷ oneᶠ ∷ [])
    × (last_out (replies_of (cs ++ (one_tick ∷ []))) ≡ zeroᶠ ∷ []) × (take 2 (last_out (replies_of (cs ++ (block_of 2 ∷ [])))) ≡ zeroᶠ ∷ zeroᶠ ∷ [])
unfolding replies_of neg
sum-from_end = (refl, refl, refl, refl)

-- ".. as the call leaves it": the first of four ends at 0.1875, with the second tick, and the last, which is 1, fills its place. Then 1, 2 ^ 30 and - 2 ^ 30 sound, from the end 1. The list before, from its end, would give 0.
pub sum_as_left :
    let cs : List Call = level (fin false 3 (negsuc 3)) oneᶠ ∷ level oneᶠ large ∷ level oneᶠ (neg large) ∷ level oneᶠ oneᶠ ∷ one_tick ∷ [] in
    (numbers (ledger_of cs).sounding ≡ 1 ∷ 2 ∷ 3 ∷ 4 ∷ []) × (numbers (ledger_of (cs ++ (marked_tick ∷ []))).sounding ≡ 4 ∷ 2 ∷ 3 ∷ [])
    × (last_out (replies_of (cs ++ (marked_tick ∷ []))) ≡ oneᶠ ∷ []) × (take 1 (last_out (replies_of (cs ++ (marked_block 1 ∷ [])))) ≡ oneᶠ ∷ [])
unfolding replies_of ledger_of neg
sum_as_left = (refl, refl, refl, refl)

-- "events move and finish as without the mark": two ramps have given one sample, and two more, each its own.
pub sources_as_unmarked :
    let ramp : Float → Call = λ x. push absolute zeroᶠ oneᶠ zeroᶠ zeroᶠ Smooth (Ramp x oneᶠ) oneᶠ in
    let l : Ledger = ledger_of (ramp oneᶠ ∷ ramp (fin false 5 (pos 1)) ∷ marked_tick ∷ []) in
    let m : Ledger = ledger_of (ramp oneᶠ ∷ ramp (fin false 5 (pos 1)) ∷ marked_tick ∷ marked_block 2 ∷ []) in
    (values_of l.sounding ≡ fin false 1 (pos 1) ∷ fin false 11 (pos 0) ∷ []) × (values_of m.sounding ≡ fin false 1 (pos 2) ∷ fin false 13 (pos 0) ∷ []) × (numbers m.sounding ≡ 1 ∷ 2 ∷ [])
unfolding ledger_of
sources_as_unmarked = (refl, refl, refl)

-- A lent scratch has the run given last: from the end, that of the first sounding event. Here a clip's 0.5, 0.75 and 0.0, and not the ramp's that begins one sample later. Places and samples are those without the mark.
abbrev lent : ℕ → List Float
lent n = replicate n (fin false 1 (negsuc 1))

pub marked_scratch :
    let pool : List Float = halfᶠ ∷ fin false 3 (negsuc 1) ∷ [] in
    let cs : List Call =
    rate (whole 8) ∷ push absolute zeroᶠ oneᶠ zeroᶠ zeroᶠ Smooth (Clip 0 3) oneᶠ ∷ push absolute (fin false 1 (negsuc 2)) oneᶠ zeroᶠ zeroᶠ Smooth (Ramp oneᶠ halfᶠ) oneᶠ ∷ [] in
    last_reply (run (cs ++ (block Backward 3 pool (lent 64) (some (lent 64)) ∷ [])) (fresh 1 All 1)).replies
    ≡ some (record {
      answer = places 1 0 3;
      out = halfᶠ ∷ fin false 7 (negsuc 1) ∷ fin false 3 (negsuc 0) ∷ replicate 5 zeroᶠ ++ lent 56;
      scratch = some (halfᶠ ∷ fin false 3 (negsuc 1) ∷ zeroᶠ ∷ lent 61);
      filled = 3;
    })
unfolding computes
marked_scratch = refl

-- Marked calls are refused as the others are: 10 before 11.
pub marked_refused :
    answers_of (replies_of (tick Backward [] [] ∷ block Backward 65 [] [] none ∷ marked_block 65 ∷ [])) ≡ refused 10 ∷ refused 10 ∷ refused 11 ∷ []
unfolding replies_of
marked_refused = refl

-- Document 02, Paper 5, "A level for each clip", by values: exact arithmetic by hand. At rate 8 from clock 0. Assumes nothing.
use Rattle.std.specs.Prelude.{ℕ, ◌+◌, ◌-◌, ◌^◌, ◌≡◌, refl, true, false, List, [], ◌∷◌, ◌++◌, pos, negsuc, take, drop, replicate, Float}
use Rattle.std.proofs.Math.Option.{none}
use Rattle.std.specs.Float.{nan, fin}
use Rattle.std.specs.Float.Ieee.{neg, to_bits}
use Rattle.floats.specs.Arithmetic.{zeroᶠ, oneᶠ, halfᶠ, -∞, whole}
use Rattle.floats.specs.Constants.{+∞}
use Rattle.event.specs.declared.Event.{Event}
use Rattle.event.specs.declared.Fade.TheVariants.{Smooth}
use Rattle.event.specs.declared.MixOrder.TheVariants.{Forward}
use Rattle.event.specs.declared.ReplayMode.TheVariants.{All}
use Rattle.event.specs.declared.Source.{Source}
use Rattle.event.specs.declared.Source.TheVariants.{Held, Ramp, Clip}
use Rattle.ledger.specs.Calls.{Call, PushKind, push, edit, tick, block, rate, reset, absolute, relative, by_duration, absolute_end, number, refused}
use Rattle.ledger.specs.Ledger.{Ledger, fresh}
use Rattle.ledger.specs.Steps.{run}
use Rattle.ledger.specs.Computes.{computes}
use Rattle.ledger.specs.Cases.{one_tick, block_of, answers_of, last_out, outs_of, bits}
use Rattle.ledger.proofs.CasesOfFades.{ticks_at, block_at}
use Rattle.ledger.proofs.CasesOfLimits.{pushes}
use Rattle.ledger.proofs.CasesOfRefusals.{answers_to}
use Rattle.ledger.proofs.CasesOfSlips.{ends_of, values_of, ledger_of, replies_of}

-- a clip from 0 to 1, with a fade-in
abbrev playing : (fade_in : Float) → Source → (gain : Float) → Call
playing fade_in source gain = push absolute zeroᶠ oneᶠ fade_in zeroᶠ Smooth source gain

-- "Every event carries an f32 gain, multiplied onto the source's sample": 3 × 0.5 = 1.5, 3 × -0.5 = -1.5; a clip's samples 0.25 and 0.5 at gain 2.
pub gain_multiplies :
    let cs : List Call = playing zeroᶠ (Clip 0 2) (fin false 1 (pos 1)) ∷ [] in
    let pool : List Float = fin false 1 (negsuc 1) ∷ halfᶠ ∷ [] in
    (ticks_at (whole 8) 2 (playing zeroᶠ (Held (fin false 3 (pos 0))) halfᶠ) ≡ 0x3fc00000 ∷ 0x3fc00000 ∷ [])
    × (block_at (whole 8) 2 (playing zeroᶠ (Held (fin false 3 (pos 0))) (neg halfᶠ)) ≡ 0xbfc00000 ∷ 0xbfc00000 ∷ [])
    × (outs_of (drop 1 (replies_of (cs ++ replicate 2 (tick Forward pool (zeroᶠ ∷ []))))) ≡ halfᶠ ∷ oneᶠ ∷ [])
    × (take 3 (last_out (replies_of (cs ++ (block Forward 3 pool (replicate 64 zeroᶠ) none ∷ [])))) ≡ halfᶠ ∷ oneᶠ ∷ zeroᶠ ∷ [])
unfolding ticks_at block_at replies_of whole neg
gain_multiplies = (refl, refl, refl, refl)

-- ".. before the fades, by one rounding": 2 ^ 127 × 4 is an infinity; times smooth5 at 0, which is 0, that is a NaN, and at 0.25 an infinity. Behind the fades, or onto their factor, it would be 0 and 0.103515625 × 2 ^ 129.
pub gain_before_fades :
    let c : Call = playing halfᶠ (Held (fin false 1 (pos 127))) (fin false 1 (pos 2)) in
    (ticks_at (whole 8) 2 c ≡ 0x7fc00000 ∷ 0x7f800000 ∷ []) × (block_at (whole 8) 2 c ≡ 0x7fc00000 ∷ 0x7f800000 ∷ [])
unfolding ticks_at block_at whole
gain_before_fades = (refl, refl)

-- The product rounds in f32: (1 + 2 ^ -23) squared is 1 + 2 ^ -22. Subnormal products stay: 2 ^ -126 × 0.5 is 2 ^ -127, 3 × 2 ^ -149 × 0.5 goes to 2 ^ -148, the even one.
pub gain_rounds :
    let next : Float = fin false (2 ^ 23 + 1) (negsuc 22) in
    (ticks_at (whole 8) 1 (playing zeroᶠ (Held next) next) ≡ 0x3f800002 ∷ []) × (block_at (whole 8) 1 (playing zeroᶠ (Held next) next) ≡ 0x3f800002 ∷ [])
    × (ticks_at (whole 8) 1 (playing zeroᶠ (Held (fin false 1 (negsuc 125))) halfᶠ) ≡ 0x00400000 ∷ []) × (block_at (whole 8) 1 (playing zeroᶠ (Held (fin false 3 (negsuc 148))) halfᶠ) ≡ 0x00000002 ∷ [])
unfolding ticks_at block_at whole
gain_rounds = (refl, refl, refl, refl)

-- A ramp goes on with its own value: 1, 2, 3 at gain 0.5, and then it stands at 4. At gain 0 it moves on too.
abbrev ramp : (gain : Float) → Call
ramp gain = playing zeroᶠ (Ramp oneᶠ oneᶠ) gain

pub ramp-keeps_value :
    (ticks_at (whole 8) 3 (ramp halfᶠ) ≡ 0x3f000000 ∷ 0x3f800000 ∷ 0x3fc00000 ∷ []) × (block_at (whole 8) 3 (ramp halfᶠ) ≡ 0x3f000000 ∷ 0x3f800000 ∷ 0x3fc00000 ∷ [])
    × (values_of (ledger_of (ramp halfᶠ ∷ replicate 3 one_tick)).sounding ≡ fin false 1 (pos 2) ∷ []) × (values_of (ledger_of (ramp halfᶠ ∷ block_of 3 ∷ [])).sounding ≡ fin false 1 (pos 2) ∷ [])
unfolding ticks_at block_at ledger_of whole
ramp-keeps_value = (refl, refl, refl, refl)

pub gain_zero :
    (ticks_at (whole 8) 2 (ramp zeroᶠ) ≡ 0 ∷ 0 ∷ []) × (block_at (whole 8) 2 (ramp zeroᶠ) ≡ 0 ∷ 0 ∷ [])
    × (values_of (ledger_of (ramp zeroᶠ ∷ replicate 2 one_tick)).sounding ≡ fin false 3 (pos 0) ∷ []) × (values_of (ledger_of (ramp zeroᶠ ∷ block_of 2 ∷ [])).sounding ≡ fin false 3 (pos 0) ∷ [])
unfolding ticks_at block_at ledger_of whole
gain_zero = (refl, refl, refl, refl)

-- An event keeps its gain: 1 finishes, 2 waits, 3 takes a stored edit at its start and another while it sounds; then a rate and a reset.
abbrev gains_of : List Event → List Float
gains_of [] = []
gains_of (e ∷ l) = e.gain ∷ gains_of l

abbrev one_of_each : List Call
one_of_each =
    push absolute zeroᶠ (fin false 1 (negsuc 3)) zeroᶠ zeroᶠ Smooth (Held oneᶠ) (fin false 1 (pos 1)) ∷ push relative (whole 9) +∞ zeroᶠ zeroᶠ Smooth (Held oneᶠ) (fin false 3 (pos 0))
    ∷ push by_duration zeroᶠ oneᶠ zeroᶠ zeroᶠ Smooth (Held oneᶠ) (fin false 5 (pos 0)) ∷ edit absolute_end 3 (whole 3) zeroᶠ ∷ one_tick ∷ []

pub gains-kept :
    let l : Ledger = ledger_of one_of_each in
    let m : Ledger = ledger_of (one_of_each ++ (edit absolute_end 3 (whole 7) zeroᶠ ∷ [])) in
    (gains_of l.finished ≡ fin false 1 (pos 1) ∷ []) × (gains_of l.waiting ≡ fin false 3 (pos 0) ∷ []) × (gains_of l.sounding ≡ fin false 5 (pos 0) ∷ []) × (ends_of l.sounding ≡ fin false 3 (pos 0) ∷ [])
    × (gains_of m.sounding ≡ fin false 5 (pos 0) ∷ []) × (ends_of m.sounding ≡ fin false 7 (pos 0) ∷ [])
    × (gains_of (ledger_of (one_of_each ++ (rate (whole 4) ∷ []))).waiting ≡ fin false 1 (pos 1) ∷ fin false 5 (pos 0) ∷ fin false 3 (pos 0) ∷ [])
    × (gains_of (ledger_of (one_of_each ++ (reset ∷ []))).waiting ≡ fin false 1 (pos 1) ∷ fin false 5 (pos 0) ∷ fin false 3 (pos 0) ∷ [])
unfolding ledger_of whole
gains-kept = (refl, refl, refl, refl, refl, refl, refl, refl)

-- "A gain that is not finite is refused as 18": of every kind of push. The largest f32, 0, a negative and the least subnormal pass.
abbrev at : PushKind → (gain : Float) → Call
at kind gain = push kind zeroᶠ oneᶠ zeroᶠ zeroᶠ Smooth (Held oneᶠ) gain

pub refusal-18 : answers_to (at absolute nan ∷ at relative +∞ ∷ at by_duration -∞ ∷ at absolute (fin false (2 ^ 24 - 1) (pos 104)) ∷ at relative zeroᶠ ∷ at by_duration (neg oneᶠ) ∷ at absolute (fin false 1 (negsuc 148)) ∷ [])
    ≡ refused 18 ∷ refused 18 ∷ refused 18 ∷ number 1 ∷ number 2 ∷ number 3 ∷ number 4 ∷ []
unfolding answers_to neg
refusal-18 = refl

-- ".. directly after 5": one push that breaks 4, 5 and 18, one that breaks 5 and 18; with 256 held and the last number given one that breaks 18 too.
pub refusal-18-behind-5 : answers_to (push absolute zeroᶠ oneᶠ (whole 2) zeroᶠ Smooth (Held nan) nan ∷ playing zeroᶠ (Held nan) nan ∷ playing zeroᶠ (Ramp oneᶠ -∞) -∞ ∷ playing zeroᶠ (Held oneᶠ) nan ∷ []) ≡ refused 4 ∷ refused 5 ∷ refused 5 ∷ refused 18 ∷ []
unfolding answers_to whole
refusal-18-behind-5 = refl

pub refusal-18-before-6 : drop 256 (answers_of (run (pushes 257 ++ (at absolute +∞ ∷ [])) (fresh 1 All (2 ^ 64 - 256))).replies) ≡ refused 6 ∷ refused 18 ∷ []
unfolding computes pushes
refusal-18-before-6 = refl

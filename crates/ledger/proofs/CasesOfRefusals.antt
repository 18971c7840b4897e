-- Document 01, "Turned down, in checking order": each bound is reached exactly, and of two refusals the first is given. Assumes nothing.
use Rattle.std.specs.Prelude.{ℕ, ◌+◌, ◌-◌, ◌^◌, ◌≡◌, refl, false, List, [], ◌∷◌, ◌++◌, pos, negsuc, length, drop, replicate, Float}
use Rattle.std.proofs.Math.Option.{Option, none, some}
use Rattle.std.specs.Float.{nan, fin}
use Rattle.std.specs.Float.Ieee.{neg}
use Rattle.floats.specs.Arithmetic.{zeroᶠ, oneᶠ, halfᶠ, -∞, whole}
use Rattle.floats.specs.Constants.{+∞}
use Rattle.event.specs.declared.Fade.TheVariants.{Smooth}
use Rattle.event.specs.declared.MixOrder.TheVariants.{Forward}
use Rattle.event.specs.declared.ReplayMode.TheVariants.{All, None}
use Rattle.event.specs.declared.Source.{Source}
use Rattle.event.specs.declared.Source.TheVariants.{Held, Ramp, Clip}
use Rattle.ledger.specs.Calls.{Call, PushKind, push, edit, tick, block, rate, absolute, relative, by_duration, absolute_end, relative_end, applied, past, stored, number, done, refused, Answer, Reply}
use Rattle.ledger.specs.Ledger.{Ledger, fresh, create}
use Rattle.ledger.specs.Steps.{run, with_lists}
use Rattle.ledger.specs.Computes.{computes}
use Rattle.ledger.specs.Cases.{held1, one_tick, block_of, answers_of, places}
use Rattle.ledger.proofs.CasesOfLimits.{pushes, edits}
use Rattle.ledger.proofs.CasesOfSlips.{ledger_of, replies_of}

-- 1,000,000,000, and the f64 next above it
abbrev limit : Float
limit = fin false 1_953_125 (pos 9)

abbrev above : Float
above = fin false 8_388_608_000_000_001 (negsuc 22)

-- the answers at rate 8 from clock 0
unfoldable pub answers_to : List Call → List Answer
unfolding replies_of
answers_to cs = answers_of (replies_of cs)

-- a push of each kind without fades, and one with a source
abbrev push_of : PushKind → (start end : Float) → Call
push_of kind start end = push kind start end zeroᶠ zeroᶠ Smooth (Held oneᶠ) oneᶠ

abbrev playing : Source → Call
playing source = push absolute zeroᶠ oneᶠ zeroᶠ zeroᶠ Smooth source oneᶠ

-- ---- 1. "Channels are not 1 to 8, or the first number is 0"; "a refused creation hands back an empty one-channel engine, mode All, first number 1".

abbrev creates : (channels first : ℕ) → Answer
creates channels first = (create channels None first).answer

pub refusal-1 : creates 1 1 ∷ creates 8 1 ∷ creates 0 1 ∷ creates 9 1 ∷ creates 1 0 ∷ [] ≡ done ∷ done ∷ refused 1 ∷ refused 1 ∷ refused 1 ∷ []
unfolding computes
refusal-1 = refl

pub refused-creation :
    let l : Ledger = (create 9 None 5).ledger in
    let k : Ledger = (create 8 None 5).ledger in
    (l.channels ≡ 1) × (l.mode ≡ All) × (l.next ≡ 1) × (k.channels ≡ 8) × (k.mode ≡ None) × (k.next ≡ 5)
unfolding computes
refused-creation = (refl, refl, refl, refl, refl, refl)

-- ---- 2. "A rate is not from 1 to 1,000,000": both ends pass, their neighbours do not.
pub refusal-2 : answers_to (rate oneᶠ ∷ rate (fin false 15_625 (pos 6)) ∷ rate (fin false 9_007_199_254_740_991 (negsuc 52)) ∷ rate (fin false 8_589_934_592_000_001 (negsuc 32)) ∷ rate nan ∷ [])
    ≡ done ∷ done ∷ refused 2 ∷ refused 2 ∷ refused 2 ∷ []
unfolding answers_to
refusal-2 = refl

-- ---- 3. "A pushed time or fade is NaN or beyond 1,000,000,000 in magnitude; only an end or duration may be +infinity."

-- start
pub refusal_3_start : answers_to (push_of absolute (neg limit) +∞ ∷ push_of absolute limit +∞ ∷ push_of absolute (neg above) +∞ ∷ push_of absolute above +∞ ∷ push_of absolute nan +∞ ∷ push_of absolute -∞ +∞ ∷ push_of absolute +∞ +∞ ∷ [])
    ≡ number 1 ∷ number 2 ∷ refused 3 ∷ refused 3 ∷ refused 3 ∷ refused 3 ∷ refused 3 ∷ []
unfolding answers_to neg
refusal_3_start = refl

-- end: -infinity is refused. By duration the sum with the start may be beyond (DECISIONS, 1).
pub refusal_3_end : answers_to (push_of absolute (neg limit) (neg limit) ∷ push_of absolute zeroᶠ limit ∷ push_of absolute zeroᶠ +∞ ∷ push_of absolute zeroᶠ above ∷ push_of absolute zeroᶠ nan ∷ push_of absolute zeroᶠ -∞ ∷ push_of by_duration oneᶠ limit ∷ push_of by_duration zeroᶠ +∞ ∷ push_of by_duration (neg oneᶠ) above ∷ [])
    ≡ number 1 ∷ number 2 ∷ number 3 ∷ refused 3 ∷ refused 3 ∷ refused 3 ∷ number 4 ∷ number 5 ∷ refused 3 ∷ []
unfolding answers_to neg
refusal_3_end = refl

-- fades
pub refusal_3_fades : answers_to (held1 zeroᶠ +∞ limit limit ∷ held1 zeroᶠ +∞ above zeroᶠ ∷ held1 zeroᶠ +∞ zeroᶠ above ∷ held1 zeroᶠ oneᶠ (neg above) zeroᶠ ∷ held1 zeroᶠ oneᶠ zeroᶠ (neg above) ∷ held1 zeroᶠ +∞ +∞ zeroᶠ ∷ held1 zeroᶠ +∞ zeroᶠ +∞ ∷ [])
    ≡ number 1 ∷ refused 3 ∷ refused 3 ∷ refused 3 ∷ refused 3 ∷ refused 3 ∷ refused 3 ∷ []
unfolding answers_to neg
refusal_3_fades = refl

-- ---- 4. "A push has a fade above end - start, before the clock is added": by duration the end is start + duration. At t = 0.125.
pub refusal-4 : answers_to (one_tick ∷ push relative oneᶠ (whole 2) oneᶠ oneᶠ Smooth (Held oneᶠ) oneᶠ ∷ push relative oneᶠ (whole 2) (whole 2) zeroᶠ Smooth (Held oneᶠ) oneᶠ ∷ push by_duration oneᶠ (whole 2) (whole 2) (whole 2) Smooth (Held oneᶠ) oneᶠ ∷ push by_duration oneᶠ (whole 2) zeroᶠ (whole 3) Smooth (Held oneᶠ) oneᶠ ∷ [])
    ≡ done ∷ number 1 ∷ refused 4 ∷ number 2 ∷ refused 4 ∷ []
unfolding answers_to whole
refusal-4 = refl

-- ---- 5. "A held level, ramp value or step is not finite."
pub refusal-5 : answers_to (playing (Held nan) ∷ playing (Held -∞) ∷ playing (Ramp +∞ zeroᶠ) ∷ playing (Ramp zeroᶠ nan) ∷ playing (Ramp oneᶠ oneᶠ) ∷ playing (Clip 7 0) ∷ [])
    ≡ refused 5 ∷ refused 5 ∷ refused 5 ∷ refused 5 ∷ number 1 ∷ number 2 ∷ []
unfolding answers_to
refusal-5 = refl

-- ---- 6. "256 events are held in W, S and F": at rate 1, one that ends where it starts and 255 that start at 0, 1, .., 254; a block of 64 finishes the one and starts 64 of the others, 191 wait.
unfoldable pub spread : List Call
unfolding pushes
spread = rate oneᶠ ∷ held1 zeroᶠ zeroᶠ zeroᶠ zeroᶠ ∷ pushes 255 ++ (block_of 64 ∷ held1 zeroᶠ oneᶠ zeroᶠ zeroᶠ ∷ [])

pub refusal-6 : drop 258 (answers_of (run spread (fresh 1 All 1)).replies) ≡ refused 6 ∷ []
unfolding computes spread
refusal-6 = refl

-- ---- 7. "Number 2^64 - 1 has been given."
pub refusal-7 : answers_of (run (replicate 2 (held1 zeroᶠ oneᶠ zeroᶠ zeroᶠ)) (fresh 1 All (2 ^ 64 - 1))).replies ≡ number (2 ^ 64 - 1) ∷ refused 7 ∷ []
unfolding computes
refusal-7 = refl

-- Of 3 to 7 the first: one push that breaks 3, 4 and 5, one that breaks 4 and 5; with 256 held one that breaks 5; and when the last number is given too.
pub pushes_in_checking_order : answers_to (push absolute zeroᶠ oneᶠ above zeroᶠ Smooth (Held nan) oneᶠ ∷ push absolute zeroᶠ oneᶠ (whole 2) zeroᶠ Smooth (Held nan) oneᶠ ∷ []) ≡ refused 3 ∷ refused 4 ∷ []
unfolding answers_to whole
pushes_in_checking_order = refl

pub full_in_checking_order : drop 256 (answers_of (run (pushes 257 ++ (playing (Held +∞) ∷ [])) (fresh 1 All (2 ^ 64 - 256))).replies) ≡ refused 6 ∷ refused 5 ∷ []
unfolding computes pushes
full_in_checking_order = refl

-- ---- 8. "An edit's end or fade breaks 3's limits": the end as given, for a relative edit too (t is 0.125).
pub refusal-8 : answers_to (one_tick ∷ edit absolute_end 7 limit limit ∷ edit absolute_end 7 +∞ (neg limit) ∷ edit relative_end 7 limit zeroᶠ ∷ edit absolute_end 7 above zeroᶠ
    ∷ edit absolute_end 7 -∞ zeroᶠ ∷ edit absolute_end 7 nan zeroᶠ ∷ edit absolute_end 7 oneᶠ above ∷ edit absolute_end 7 oneᶠ (neg above) ∷ edit absolute_end 7 oneᶠ +∞ ∷ edit absolute_end 7 oneᶠ nan ∷ [])
    ≡ done ∷ stored ∷ stored ∷ stored ∷ refused 8 ∷ refused 8 ∷ refused 8 ∷ refused 8 ∷ refused 8 ∷ refused 8 ∷ refused 8 ∷ []
unfolding answers_to neg
refusal-8 = refl

-- ---- 9. "An edit must be stored, its number has none, and 256 are stored": with 256 stored an edit of a sounding event is applied, one that is past answers so, also by t + end, one that ends at θ, 0.5, must be stored, and 8 comes first.
pub refusal-9 : drop 259 (answers_of (run (rate oneᶠ ∷ held1 zeroᶠ +∞ zeroᶠ zeroᶠ ∷ one_tick ∷ edits 256
    ++ (edit absolute_end 500 oneᶠ zeroᶠ ∷ edit absolute_end 300 zeroᶠ zeroᶠ ∷ edit relative_end 300 (neg oneᶠ) zeroᶠ ∷ edit relative_end 300 zeroᶠ zeroᶠ ∷ edit absolute_end 300 halfᶠ zeroᶠ ∷ edit absolute_end 300 nan zeroᶠ ∷ [])) (fresh 1 All 500)).replies)
    ≡ applied ∷ past ∷ past ∷ refused 9 ∷ refused 9 ∷ refused 8 ∷ []
unfolding computes edits
refusal-9 = refl

-- ---- 10. "Output length is not channels (tick) or 64 × channels (block), or a block's scratch, where it is lent", is not 64 long (Paper 7). Two channels; the last two answers are those of too long a block with too short an output, and with a scratch of 64 × channels.

abbrev tick_into : (length : ℕ) → Call
tick_into n = tick Forward [] (replicate n halfᶠ)

abbrev block_into : (size length : ℕ) → Option (List Float) → Call
block_into size n scratch = block Forward size [] (replicate n halfᶠ) scratch

unfoldable pub stereo : List Call → List Reply
unfolding computes
stereo cs = (run cs (fresh 2 All 1)).replies

pub refusal-10 : answers_of (stereo (tick_into 2 ∷ tick_into 1 ∷ tick_into 3 ∷ block_into 1 128 none ∷ block_into 1 127 none ∷ block_into 1 64 none ∷ block_into 1 129 none
    ∷ block_into 1 128 (some (replicate 64 halfᶠ)) ∷ block_into 1 128 (some (replicate 63 halfᶠ)) ∷ block_into 1 128 (some (replicate 128 halfᶠ)) ∷ block_into 1 128 (some []) ∷ block_into 65 127 none ∷ block_into 65 128 (some (replicate 128 halfᶠ)) ∷ []))
    ≡ done ∷ refused 10 ∷ refused 10 ∷ places 0 0 0 ∷ refused 10 ∷ refused 10 ∷ refused 10 ∷ places 0 0 0 ∷ refused 10 ∷ refused 10 ∷ refused 10 ∷ refused 10 ∷ refused 10 ∷ []
unfolding stereo
refusal-10 = refl

-- ---- 11. "Block size exceeds 64."
pub refusal-11 : answers_to (block_of 64 ∷ block_of 65 ∷ []) ≡ places 0 0 0 ∷ refused 11 ∷ []
unfolding answers_to
refusal-11 = refl

-- ---- 12. "The clock after the step would exceed 1,000,000,000": at rate 1 one sample before it. 10 and 11 come first.
unfoldable pub one_before : List Call → List Answer
unfolding computes
one_before cs =
    let l = (run (rate oneᶠ ∷ []) (fresh 1 All 1)).ledger in
    answers_of (run cs (with_lists l [] [] [] [] (whole 999_999_999) -∞ [])).replies

pub refusal_12_tick : one_before (tick_into 2 ∷ one_tick ∷ one_tick ∷ tick_into 2 ∷ []) ≡ refused 10 ∷ done ∷ refused 12 ∷ refused 10 ∷ []
unfolding one_before
refusal_12_tick = refl

pub refusal_12_block : one_before (block_of 2 ∷ block_of 65 ∷ block_into 2 63 none ∷ block_of 1 ∷ block_of 0 ∷ block_of 1 ∷ []) ≡ refused 12 ∷ refused 11 ∷ refused 10 ∷ places 0 0 0 ∷ places 0 0 0 ∷ refused 12 ∷ []
unfolding one_before
refusal_12_block = refl

-- ---- "Each returns its number and changes nothing lent or held."
pub refused_changes_nothing :
    let l : Ledger = ledger_of (held1 zeroᶠ oneᶠ zeroᶠ zeroᶠ ∷ tick_into 2 ∷ block_into 65 64 none ∷ rate zeroᶠ ∷ playing (Held nan) ∷ edit absolute_end 1 nan zeroᶠ ∷ []) in
    (length l.waiting ≡ 1) × (l.clock ≡ zeroᶠ) × (l.threshold ≡ -∞) × (l.rate ≡ fin false 1 (pos 3)) × (l.next ≡ 2) × (l.edits ≡ [])
unfolding ledger_of
refused_changes_nothing = (refl, refl, refl, refl, refl, refl)

-- the output and scratch of a refused tick and block
pub refused_writes_nothing : stereo (tick_into 1 ∷ block_into 65 128 (some (replicate 64 oneᶠ)) ∷ [])
    ≡ record { answer = refused 10; out = halfᶠ ∷ []; scratch = none; filled = 0 }
    ∷ record { answer = refused 11; out = replicate 128 halfᶠ; scratch = some (replicate 64 oneᶠ); filled = 64 } ∷ []
unfolding stereo
refused_writes_nothing = refl

-- a scratch of 64 × channels: "a refused call leaves it and all that is lent unchanged", and each of the 128 places counts
abbrev long-scratch : List Float
long-scratch = replicate 64 oneᶠ ++ replicate 64 halfᶠ

pub refused-scratch : stereo (block_into 1 128 (some long-scratch) ∷ [])
    ≡ record { answer = refused 10; out = replicate 128 halfᶠ; scratch = some long-scratch; filled = 128 } ∷ []
unfolding stereo
refused-scratch = refl

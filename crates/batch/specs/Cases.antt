-- Paper 1's sentences on small runs, computed. The pushes are on the plain ledger, fresh, first number 1; the values are the paper's, by hand. Assumes nothing.
use Rattle.std.specs.Prelude.{ℕ, true, false, ◌≡◌, refl, List, [], ◌∷◌, ◌++◌, Float, length, take, drop, replicate}
use Rattle.std.specs.Float.{binary32, binary64}
use Rattle.std.specs.Float.Ieee.{of_bits}
use Rattle.event.specs.declared.ReplayMode.TheVariants.{All}
use Rattle.event.specs.declared.Fade.TheVariants.{Power}
use Rattle.event.specs.declared.Source.TheVariants.{Ramp}
use Rattle.floats.specs.Arithmetic.{oneᶠ}
use Rattle.ledger.specs.Calls.{Call, push, PushKind, absolute, relative, by_duration, number, applied, past, stored, done, refused, Reply}
use Rattle.apply.specs.RecordCalls.{refusal_of}
use Rattle.ledger.specs.Ledger.{Ledger, create}
use Rattle.ledger.specs.LedgerMeets.{pair_of}
use Rattle.ledger.specs.Steps.{step}
use Rattle.ledger.specs.Computes.{computes}
use Rattle.tape.specs.Fields.{field, from_little_endian}
use Rattle.tape.specs.Tape.{push_kind, unknown_push, size_of, sizes, push_of, source_of}
use Rattle.batch.specs.Records.{beyond, stop_of, call_of}
use Rattle.batch.specs.Run.{Pushed, push_run, push_all, written}

-- 01, from 0.0 to 0.125, no fades, then curve and source bytes, level 1.0, word 0
abbrev times : List ℕ
times = 0 ∷ 0 ∷ 0 ∷ 0 ∷ 0 ∷ 0 ∷ 0 ∷ 0 ∷ 0 ∷ 0 ∷ 0 ∷ 0 ∷ 0 ∷ 0 ∷ 0xc0 ∷ 0x3f ∷ replicate 16 0

abbrev words : List ℕ
words = 0 ∷ 0 ∷ 0x80 ∷ 0x3f ∷ 0 ∷ 0 ∷ 0 ∷ 0 ∷ []

abbrev pub clip : List ℕ
clip = 0x01 ∷ (times ++ (1 ∷ 0 ∷ words))

-- the same from 2.0, so that its fades pass its length: 4; with an unknown curve: 14
abbrev pub too_late : List ℕ
too_late = 0x01 ∷ (0 ∷ 0 ∷ 0 ∷ 0 ∷ 0 ∷ 0 ∷ 0 ∷ 0x40 ∷ (drop 8 times ++ (1 ∷ 0 ∷ words)))

abbrev no_curve : List ℕ
no_curve = 0x01 ∷ (times ++ (7 ∷ 0 ∷ words))

-- ---- the record that begins the bytes

-- "A record that is no push stops it as 14": another kind, whole or cut, 00 and an unknown kind
no_push : (stop_of (0x04 ∷ []) ≡ 14) × (stop_of (0x06 ∷ []) ≡ 14) × (stop_of (0x00 ∷ []) ≡ 14) × (stop_of (0x0d ∷ []) ≡ 14)
unfolding stop_of push_kind
no_push = (refl, refl, refl, refl)

-- ".. a cut or missing one as 15"
cut_or_missing : (stop_of [] ≡ 15) × (stop_of (0x01 ∷ []) ≡ 15) × (stop_of (take 42 clip) ≡ 15) × (stop_of clip ≡ 0) × (stop_of (0x0a ∷ drop 1 clip) ≡ 15)
unfolding stop_of push_kind unknown_push size_of sizes
cut_or_missing = (refl, refl, refl, refl, refl)

-- 14 before 15, but only by bytes that are there
curve-byte : (stop_of no_curve ≡ 14) × (stop_of (take 34 no_curve) ≡ 14) × (stop_of (take 33 no_curve) ≡ 15)
unfolding stop_of push_kind unknown_push size_of sizes
curve-byte = (refl, refl, refl)

-- the call: from 1.0 to 4.0 (or as long), fades of 0.5 and 0.25, curve power, a ramp from 1.0 by 0.5; 0A to 0C have a gain of 2.0
abbrev ramp : List ℕ
ramp =
    0 ∷ 0 ∷ 0 ∷ 0 ∷ 0 ∷ 0 ∷ 0xf0 ∷ 0x3f ∷ 0 ∷ 0 ∷ 0 ∷ 0 ∷ 0 ∷ 0 ∷ 0x10 ∷ 0x40 ∷ 0 ∷ 0 ∷ 0 ∷ 0 ∷ 0 ∷ 0 ∷ 0xe0 ∷ 0x3f ∷ 0 ∷ 0 ∷ 0 ∷ 0 ∷ 0 ∷ 0 ∷ 0xd0 ∷ 0x3f
    ∷ 0 ∷ 1 ∷ 0 ∷ 0 ∷ 0x80 ∷ 0x3f ∷ 0 ∷ 0 ∷ 0x00 ∷ 0x3f ∷ 0 ∷ 0 ∷ 0 ∷ 0x40 ∷ []

abbrev push_of_ramp : PushKind → (gain : Float) → Call
push_of_ramp kind gain =
    push kind (of_bits binary64 0x3ff0000000000000) (of_bits binary64 0x4010000000000000) (of_bits binary64 0x3FE0000000000000) (of_bits binary64 0x3FD0000000000000)
    Power (Ramp (of_bits binary32 0x3f800000) (of_bits binary32 0x3f000000)) gain

-- "01 push, 02 relative, 03 by duration", and "the same pushes with four gain bytes"
calls-of-kinds : (call_of (0x01 ∷ ramp) ≡ push_of_ramp absolute oneᶠ) × (call_of (0x02 ∷ ramp) ≡ push_of_ramp relative oneᶠ) × (call_of (0x03 ∷ ramp) ≡ push_of_ramp by_duration oneᶠ)
    × (call_of (0x0a ∷ ramp) ≡ push_of_ramp absolute (of_bits binary32 0x40000000)) × (call_of (0x0b ∷ ramp) ≡ push_of_ramp relative (of_bits binary32 0x40000000)) × (call_of (0x0c ∷ ramp) ≡ push_of_ramp by_duration (of_bits binary32 0x40000000))
unfolding call_of push_of source_of field from_little_endian
calls-of-kinds = (refl, refl, refl, refl, refl, refl)

-- an answer's refusal
refusals : (refusal_of (refused 4) ≡ 4) × (refusal_of (number 7) ≡ 0) × (refusal_of applied ≡ 0) × (refusal_of past ≡ 0) × (refusal_of stored ≡ 0) × (refusal_of done ≡ 0)
refusals = (refl, refl, refl, refl, refl, refl)

-- ---- a run

abbrev pub call : Ledger → Call → Ledger × Reply
call l c = pair_of (step l c)

unfoldable after : (count : ℕ) → (records : List ℕ) → Pushed Ledger
unfolding push_run computes
after n bs = push_run call n bs (create 1 All 1).ledger

-- "how many were laid and what ended it, 0 if nothing did"; records behind the count are not looked at
two-laid : ((after 2 (clip ++ (clip ++ (0xFF ∷ [])))).numbers ≡ 1 ∷ 2 ∷ []) × ((after 2 (clip ++ (clip ++ (0xFF ∷ [])))).ended ≡ 0) × ((after 0 (0xFF ∷ [])).ended ≡ 0)
unfolding after stop_of push_kind unknown_push size_of sizes call_of push_of source_of field from_little_endian
two-laid = (refl, refl, refl)

-- "the first refused one ends it, earlier ones stand", whatever stands behind it
refused-ends : ((after 3 (clip ++ (too_late ++ (0xFF ∷ [])))).numbers ≡ 1 ∷ []) × ((after 3 (clip ++ (too_late ++ (0xFF ∷ [])))).ended ≡ 4)
unfolding after stop_of push_kind unknown_push size_of sizes call_of push_of source_of field from_little_endian
refused-ends = (refl, refl)

-- "The engine .. equal those of the single pushes": what is left behind, also where the run ends early
left_behind : ((after 2 (clip ++ clip)).state.next ≡ 3) × (length (after 2 (clip ++ clip)).state.waiting ≡ 2) × ((after 3 (clip ++ (too_late ++ clip))).state.next ≡ 2) × ((after 2 clip).state.next ≡ 2)
unfolding after stop_of push_kind unknown_push size_of sizes call_of push_of source_of field from_little_endian
left_behind = (refl, refl, refl, refl)

-- a record with gain bytes is longer: the next one begins behind them
behind_gain : ((after 2 (0x0a ∷ (drop 1 clip ++ (0 ∷ 0 ∷ 0x80 ∷ 0x3f ∷ clip)))).numbers ≡ 1 ∷ 2 ∷ []) × ((after 2 (0x0a ∷ (drop 1 clip ++ (0 ∷ 0 ∷ 0x80 ∷ 0x3f ∷ [])))).ended ≡ 15)
unfolding after stop_of push_kind unknown_push size_of sizes call_of push_of source_of field from_little_endian
behind_gain = (refl, refl)

missing-ends : ((after 2 clip).numbers ≡ 1 ∷ []) × ((after 2 clip).ended ≡ 15) × ((after 2 (clip ++ (0x06 ∷ []))).ended ≡ 14)
unfolding after stop_of push_kind unknown_push size_of sizes call_of push_of source_of field from_little_endian
missing-ends = (refl, refl, refl)

-- ---- the whole call

-- "A count above 32, or a slice of another length, is refused as 16", also where the count is 0
limits : (beyond 32 32 ≡ false) × (beyond 33 32 ≡ true) × (beyond 32 31 ≡ true) × (beyond 0 33 ≡ true) × (beyond 0 0 ≡ true)
unfolding beyond
limits = (refl, refl, refl, refl, refl)

-- "before any record is read"
sixteen : ((push_all call clip 33 (replicate 32 9) (create 1 All 1).ledger).ended ≡ 16) × ((push_all call clip 1 (9 ∷ []) (create 1 All 1).ledger).numbers ≡ [])
unfolding push_all beyond
sixteen = (refl, refl)

-- "a run of push records with their count, reads no further"
whole-call : ((push_all call (clip ++ (clip ++ clip)) 2 (replicate 32 9) (create 1 All 1).ledger).numbers ≡ 1 ∷ 2 ∷ []) × ((push_all call clip 2 (replicate 32 9) (create 1 All 1).ledger).ended ≡ 15)
unfolding push_all beyond computes stop_of push_kind unknown_push size_of sizes call_of push_of source_of field from_little_endian
whole-call = (refl, refl)

-- "into a lent slice of 32, the rest of it left"
in-front : written (5 ∷ 6 ∷ []) (9 ∷ 9 ∷ 9 ∷ 9 ∷ []) ≡ 5 ∷ 6 ∷ 9 ∷ 9 ∷ []
in-front = refl

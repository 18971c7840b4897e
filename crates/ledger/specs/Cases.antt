-- What the computed cases share: rate 8, clock 0, one channel, held 1.0 (the proof sheet itself is crate `sheet`). Assumes nothing.
use Rattle.std.specs.Prelude.{ℕ, ◌^◌, false, List, [], ◌∷◌, ◌++◌, map, negsuc, replicate, Float}
use Rattle.std.proofs.Math.Option.{none}
use Rattle.std.specs.Float.{fin, binary32, binary64}
use Rattle.std.specs.Float.Ieee.{round, to_bits}
use Rattle.floats.specs.Arithmetic.{zeroᶠ, oneᶠ, whole}
use Rattle.event.specs.declared.Fade.TheVariants.{Smooth}
use Rattle.event.specs.declared.MixOrder.TheVariants.{Forward}
use Rattle.event.specs.declared.ReplayMode.TheVariants.{All}
use Rattle.event.specs.declared.Source.TheVariants.{Held}
use Rattle.ledger.specs.Calls.{Call, push, tick, block, rate, absolute, Answer, rendered, Reply}
use Rattle.ledger.specs.Ledger.{Ledger, fresh}
use Rattle.ledger.specs.Steps.{run}
use Rattle.ledger.specs.Computes.{computes}

-- a decimal number with k digits behind the point, as an f64
unfoldable pub decimal : (n k : ℕ) → Float
unfolding round
decimal n k = round binary64 false n (10 ^ k)

-- n / 512 for an odd n, in the form that a computed f32 has
abbrev pub 512ths : ℕ → Float
512ths n = fin false n (negsuc 8)

-- a one-channel ledger at rate 8 and clock 0
unfoldable pub at_rate8 : Ledger
unfolding computes
at_rate8 = (run (rate (whole 8) ∷ []) (fresh 1 All 1)).ledger

-- a push of held 1.0 with smooth fades
abbrev pub held1 : (start end fade_in fade_out : Float) → Call
held1 start end fade_in fade_out = push absolute start end fade_in fade_out Smooth (Held oneᶠ) oneᶠ

-- a tick, and a block of n samples, of one channel
abbrev pub one_tick : Call
one_tick = tick Forward [] (zeroᶠ ∷ [])

abbrev pub block_of : (n : ℕ) → Call
block_of n = block Forward n [] (replicate 64 zeroᶠ) none

abbrev pub answers_of : List Reply → List Answer
answers_of [] = []
answers_of (r ∷ l) = r.answer ∷ answers_of l

-- an accepted block with so many places kept as rounded, forced, and set at an edge
abbrev pub places : (kept forced edge : ℕ) → Answer
places k f e = rendered (record { kept = k; forced = f; edge = e })

abbrev pub last_out : List Reply → List Float
last_out [] = []
last_out (r ∷ []) = r.out
last_out (r ∷ (q ∷ l)) = last_out (q ∷ l)

-- every output, one after another
abbrev pub outs_of : List Reply → List Float
outs_of [] = []
outs_of (r ∷ l) = r.out ++ outs_of l

-- the bits of samples, as a listing prints them
abbrev pub bits : List Float → List ℕ
bits l = map (to_bits binary32) l

-- the replies of a fresh one-channel ledger at rate r
unfoldable pub replies_at : (r : Float) → List Call → List Reply
unfolding computes
replies_at r cs = (run (rate r ∷ cs) (fresh 1 All 1)).replies

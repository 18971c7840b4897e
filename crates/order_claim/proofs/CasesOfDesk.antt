-- Document 02, Paper 9, of the desk, by values: exact arithmetic by hand. From clock 0, one channel.
use Rattle.std.specs.Prelude.{◌≡◌, refl, true, false, List, [], ◌∷◌, ◌++◌, negsuc, take, replicate, Float}
use Rattle.std.specs.Float.{fin}
use Rattle.floats.specs.Arithmetic.{zeroᶠ, oneᶠ}
use Rattle.event.specs.declared.Fade.TheVariants.{Smooth}
use Rattle.event.specs.declared.MixOrder.{MixOrder}
use Rattle.event.specs.declared.MixOrder.TheVariants.{Forward, Backward}
use Rattle.event.specs.declared.ReplayMode.TheVariants.{None}
use Rattle.event.specs.declared.Source.TheVariants.{Held}
use Rattle.ledger.specs.Calls.{absolute}
use Rattle.ledger.specs.Ledger.{fresh}
use Rattle.sums.specs.Cases.{least}
use Rattle.sums.specs.Multiples.{multiple}
use Rattle.desk.specs.Desk.{push, tick, block, Call, front, back, Desk, opened, step, run, computes}
use Rattle.order_claim.specs.DeskOrder.{TickAllQualify, BlockAllQualify}

-- held levels from 0 to 1, queued in this order with a fade-in, and without one
abbrev levels : (fade_in : Float) → List Float → List Call
levels x [] = []
levels x (y ∷ l) = front (push absolute zeroᶠ oneᶠ x zeroᶠ Smooth (Held y) oneᶠ) ∷ levels x l

abbrev queued_fading : (fade_in : Float) → List Float → Desk
queued_fading x l = (run (levels x l) (opened (fresh 1 None 1))).desk

abbrev queued_levels : List Float → Desk
queued_levels l = queued_fading zeroᶠ l

-- what a tick gives, and a block of one sample at its place
unfoldable pub heard : MixOrder → List Float → List Float
unfolding computes
heard o l =
    (step (queued_levels l) (back (tick o [] (zeroᶠ ∷ [])))).reply.out
    ++ take 1 (step (queued_levels l) (back (block o 1 [] (replicate 64 zeroᶠ)))).reply.out

-- 1, -1/2 and 1/32768 qualify once they are drained: 16385/32768 either way
abbrev coarse : List Float
coarse = oneᶠ ∷ fin true 1 (negsuc 0) ∷ least ∷ []

pub queued_qualify :
    TickAllQualify (queued_levels coarse) [] × BlockAllQualify (queued_levels coarse) [] 1 0
    × (heard Forward coarse ≡ replicate 2 (fin false 16385 (negsuc 14))) × (heard Backward coarse ≡ replicate 2 (fin false 16385 (negsuc 14)))
unfolding computes heard multiple
queued_qualify = (
  ((tt, refl, tt), ((tt, refl, tt), ((tt, refl, tt), tt))),
  (λ s. (tt, refl, tt), (λ s. (tt, refl, tt), (λ s. (tt, refl, tt), tt))),
  refl,
  refl,
)

-- 1, 2 ^ -24 and 2 ^ -24 do not, though nothing sounds before they are drained: from the first on 1, from the last on 1 + 2 ^ -23
abbrev fine : List Float
fine = oneᶠ ∷ fin false 1 (negsuc 23) ∷ fin false 1 (negsuc 23) ∷ []

pub queued_too_fine :
    (TickAllQualify (queued_levels fine) [] → ⊥) × (BlockAllQualify (queued_levels fine) [] 1 0 → ⊥)
    × (heard Forward fine ≡ replicate 2 oneᶠ) × (heard Backward fine ≡ replicate 2 (fin false 8388609 (negsuc 22)))
unfolding computes heard multiple
queued_too_fine = (λ h. h.1.0.2, λ h. (h.1.0 tt).2, refl, refl)

-- "if no fade factor is applied at a sample": a fade_in of 2 ^ -17 s, a third of a sample, is in its first phase at clock 0, and over at the next clock.
-- In the block it covers no place.
pub queued_fading_lem :
    let d : Desk = queued_fading (fin false 1 (negsuc 16)) (least ∷ []) in
    (TickAllQualify d [] → ⊥) × BlockAllQualify d [] 1 0
unfolding computes multiple
queued_fading_lem = (λ h. h.0.0, (λ s. (tt, refl, tt), tt))

-- Document 02, Paper 12: how the places of a block came. Values by hand from the paper's words. Assumes nothing.
use Rattle.std.specs.Prelude.{ℕ, ◌≡◌, refl, true, false, List, [], ◌∷◌, pos, negsuc, Float}
use Rattle.std.specs.Float.{nan, fin, inf}
use Rattle.floats.specs.Arithmetic.{zeroᶠ, oneᶠ, halfᶠ, whole}
use Rattle.floats.specs.Constants.{+∞}
use Rattle.event.specs.declared.Event.{Event}
use Rattle.event.specs.declared.Fade.TheVariants.{Smooth}
use Rattle.event.specs.declared.Placing.{Placing}
use Rattle.event.specs.declared.Placing.TheVariants.{Kept, Forced}
use Rattle.event.specs.declared.Source.TheVariants.{Held}
use Rattle.event.specs.Events.{new_event}
use Rattle.ledger.specs.Calls.{Call, edit, absolute_end, Answer, done, Reply}
use Rattle.ledger.specs.Computes.{computes-places}
use Rattle.ledger.specs.Places.{rounded, first_placing, end_placing}
use Rattle.ledger.specs.BlockSamples.{Span}
use Rattle.ledger.specs.Cases.{held1, decimal, block_of, one_tick, places, replies_at}

abbrev last_answer : List Reply → Answer
last_answer [] = done
last_answer (r ∷ []) = r.answer
last_answer (r ∷ (q ∷ l)) = last_answer (q ∷ l)

-- the answer to the last of a list of calls, at rate r
unfoldable pub answer_at : (r : Float) → List Call → Answer
unfolding replies_at
answer_at r cs = last_answer (replies_at r cs)

-- The example tape's block: "set at an edge .. as s at start ≤ t", and z kept as rounded.
pub kept_and_edge : answer_at (whole 8) (held1 zeroᶠ (fin false 1 (negsuc 2)) zeroᶠ zeroᶠ ∷ block_of 2 ∷ []) ≡ places 1 0 1
unfolding answer_at whole
kept_and_edge = refl

-- Case 6: s is kept, z is at the edge, and the fade-in's place is kept. A fade-in that ends with the block is at the edge.
pub fade_in_counts : (answer_at (whole 8) (held1 oneᶠ +∞ halfᶠ zeroᶠ ∷ block_of 16 ∷ []) ≡ places 2 0 1) × (answer_at (whole 8) (held1 zeroᶠ +∞ oneᶠ zeroᶠ ∷ block_of 8 ∷ []) ≡ places 0 0 3)
unfolding answer_at whole
fade_in_counts = (refl, refl)

-- "or as a rounded fade-out place raised to s": a fade_out that an edit lets begin between clock and start is forced; one that begins before the clock is set at the edge, also where it is raised. One that is not raised is kept, also at s.
pub raised_counts :
    (answer_at (whole 8) (held1 halfᶠ oneᶠ zeroᶠ zeroᶠ ∷ edit absolute_end 1 oneᶠ (fin false 7 (negsuc 2)) ∷ block_of 8 ∷ []) ≡ places 1 1 1)
    × (answer_at (whole 8) (held1 halfᶠ oneᶠ zeroᶠ zeroᶠ ∷ edit absolute_end 1 oneᶠ (whole 2) ∷ block_of 8 ∷ []) ≡ places 1 0 2)
    × (answer_at (whole 8) (held1 halfᶠ oneᶠ zeroᶠ (fin false 1 (negsuc 1)) ∷ block_of 8 ∷ []) ≡ places 2 0 1)
    × (answer_at (whole 8) (held1 halfᶠ oneᶠ zeroᶠ halfᶠ ∷ block_of 8 ∷ []) ≡ places 2 0 1)
unfolding answer_at whole
raised_counts = (refl, refl, refl, refl)

-- A fade-in that ends before s is not forced (0.3 at rate 5: s is 2, its place 1): s and the fade-in's place are kept.
pub fade_in_below_s : answer_at (whole 5) (held1 (decimal 3 1) +∞ (fin false 1 (negsuc 59)) zeroᶠ ∷ block_of 4 ∷ []) ≡ places 2 0 1
unfolding answer_at whole decimal
fade_in_below_s = refl

-- "a fade's only where `fade_in` or `fade_out` computes it": not where the fade_in is over or the fade_out not reached in the block, not where nothing is given (z = s), and not in a tick.
pub fades_not_computed :
    (answer_at (whole 8) (held1 zeroᶠ +∞ (fin false 1 (negsuc 2)) zeroᶠ ∷ block_of 8 ∷ block_of 8 ∷ []) ≡ places 0 0 2)
    × (answer_at (whole 8) (held1 zeroᶠ (whole 4) zeroᶠ oneᶠ ∷ block_of 8 ∷ []) ≡ places 0 0 2)
    × (answer_at (whole 8) (held1 (fin false 1 (negsuc 1)) (fin false 9 (negsuc 4)) (fin false 1 (negsuc 4)) zeroᶠ ∷ block_of 8 ∷ []) ≡ places 2 0 0)
    × (answer_at (whole 8) (held1 zeroᶠ oneᶠ halfᶠ halfᶠ ∷ one_tick ∷ []) ≡ done)
unfolding answer_at whole
fades_not_computed = (refl, refl, refl, refl)

-- A block of 0 counts two edges for each sounding event, and what is finished by the block counts nothing.
pub nothing-heard :
    (answer_at (whole 8) (held1 zeroᶠ oneᶠ zeroᶠ zeroᶠ ∷ held1 zeroᶠ oneᶠ zeroᶠ zeroᶠ ∷ one_tick ∷ block_of 0 ∷ []) ≡ places 0 0 4)
    × (answer_at (whole 8) (held1 zeroᶠ (decimal 625 4) zeroᶠ zeroᶠ ∷ block_of 8 ∷ []) ≡ places 0 0 0)
unfolding answer_at whole decimal
nothing-heard = (refl, refl)

-- "only by the index step, by the cuts to the block's size and to 64": 16 is not cut at 16, 17 is; -0.3 is kept, -0.5 and a NaN are raised, 2 ^ 64 is cut.
pub forced_places :
    (rounded 16 (whole 16) ≡ Kept) × (rounded 16 (whole 17) ≡ Forced) × (rounded 64 (whole 65) ≡ Forced) × (rounded 64 (fin true 5_404_319_552_844_595 (negsuc 53)) ≡ Kept)
    × (rounded 64 (fin true 1 (negsuc 0)) ≡ Forced) × (rounded 64 nan ≡ Forced) × (rounded 64 (inf true) ≡ Forced) × (rounded 64 (fin false 1 (pos 64)) ≡ Forced)
unfolding computes-places whole
forced_places = (refl, refl, refl, refl, refl, refl, refl, refl)

-- s and z are by × r: 0.25 - 2 ^ -55 at rate 6 is place 1, and in a block of 1 not cut; by ÷ d it would be 2. No accepted call reaches it.
abbrev span : Span
span = record { size = 1; clock = zeroᶠ; upto = oneᶠ; rate = fin false 3 (pos 1); duration = fin false 6_004_799_503_160_661 (negsuc 54) }

abbrev clip : (start end : Float) → Event
clip start end = new_event start end zeroᶠ zeroᶠ Smooth (Held oneᶠ) oneᶠ 1

pub placed_by_rate : let x = fin false 9_007_199_254_740_991 (negsuc 54) in (first_placing span (clip x oneᶠ) ≡ Kept) × (end_placing span (clip zeroᶠ x) ≡ Kept)
unfolding computes-places
placed_by_rate = (refl, refl)

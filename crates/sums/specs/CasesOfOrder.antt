-- Document 02, Paper 9, of ticks and blocks, by values: exact arithmetic by hand. At rate 8 from clock 0. Assumes nothing.
use Rattle.std.specs.Prelude.{◌≡◌, refl, Bool, true, false, pos, negsuc, take, replicate, Float}
use mathlib.Core.List.{List, [], ◌∷◌, ◌++◌, map, filter_map}
use Rattle.std.proofs.Math.Option.{none}
use Rattle.std.specs.Float.{fin}
use Rattle.floats.specs.Arithmetic.{zeroᶠ, oneᶠ, halfᶠ, whole}
use Rattle.event.specs.declared.Event.{Event}
use Rattle.event.specs.declared.Fade.TheVariants.{Smooth}
use Rattle.event.specs.declared.MixOrder.{MixOrder}
use Rattle.event.specs.declared.MixOrder.TheVariants.{Forward, Backward}
use Rattle.event.specs.declared.ReplayMode.TheVariants as Mode
use Rattle.event.specs.declared.Source.{Source}
use Rattle.event.specs.declared.Source.TheVariants.{Held, Ramp, Clip}
use Rattle.event.specs.Events.{new_event}
use Rattle.ledger.specs.BlockSamples.{Span}
use Rattle.ledger.specs.Calls.{Call, push, tick, block, absolute}
use Rattle.ledger.specs.Cases.{last_out}
use Rattle.ledger.specs.Ledger.{fresh}
use Rattle.ledger.specs.Steps.{run}
use Rattle.ledger.specs.Computes.{computes, computes-ticks, computes-blocks}
use Rattle.sums.specs.Cases.{least}
use Rattle.sums.specs.Contributions.{All, unfaded_tick, TickQualifies, unfaded_at, BlockQualifies, tick_contributions, block_contributions}
use Rattle.sums.specs.Multiples.{multiple}

-- a block of 8 samples
abbrev span : Span
span = record { size = 8; clock = zeroᶠ; upto = oneᶠ; rate = fin false 1 (pos 3); duration = fin false 1 (negsuc 2) }

abbrev clip : (start end fade_in fade_out : Float) → Source → (gain : Float) → Event
clip start end fade_in fade_out source gain = new_event start end fade_in fade_out Smooth source gain 1

abbrev quarter : Float
quarter = fin false 1 (negsuc 1)

-- whether no fade factor is applied: at the places of the block, and in ticks at the clocks k/8
abbrev at_places : Event → List Bool
at_places e = map (λ k. unfaded_at span k e) (0 ∷ 1 ∷ 2 ∷ 3 ∷ 4 ∷ 5 ∷ 6 ∷ 7 ∷ [])

abbrev at_clocks : Event → List Bool
at_clocks e = map (λ k. unfaded_tick (fin false k (negsuc 2)) e) (0 ∷ 1 ∷ 2 ∷ 3 ∷ 4 ∷ 5 ∷ 6 ∷ 7 ∷ [])

-- From 0 to 1, a fade-in of 0.25 and a fade-out of 0.375. In a block the fade-in multiplies at places 0 and 1, the fade-out from 5 on: there by a factor of 1.0, which counts. In a tick the fade-in multiplies while its phase is below 1, the fade-out while its phase is above 0.
abbrev fading : (level : Float) → Event
fading level = clip zeroᶠ oneᶠ quarter (fin false 3 (negsuc 2)) (Held level) oneᶠ

pub unfaded_places :
    (at_places (fading oneᶠ) ≡ false ∷ false ∷ true ∷ true ∷ true ∷ false ∷ false ∷ false ∷ [])
    × (at_clocks (fading oneᶠ) ≡ false ∷ false ∷ true ∷ true ∷ true ∷ true ∷ false ∷ false ∷ [])
unfolding computes-blocks computes-ticks
unfaded_places = (refl, refl)

-- A fade-in alone; and without fades none is applied, wherever the clip begins and ends.
pub fade_in_alone :
    let e : Event = clip zeroᶠ oneᶠ quarter zeroᶠ (Held oneᶠ) oneᶠ in
    (at_places e ≡ false ∷ false ∷ replicate 6 true) × (at_clocks e ≡ false ∷ false ∷ replicate 6 true)
unfolding computes-blocks computes-ticks
fade_in_alone = (refl, refl)

pub no_fades : let e : Event = clip quarter halfᶠ zeroᶠ zeroᶠ (Held oneᶠ) oneᶠ in (at_places e ≡ replicate 8 true) × (at_clocks e ≡ replicate 8 true)
unfolding computes-blocks computes-ticks
no_fades = (refl, refl)

-- "of the events with s ≤ k < z": a ramp 1, 2 .. from place 2 on, and a clip of 3/4s at gain 2 up to but without place 4. To a tick both contribute.
pub contributions_by_place :
    let pool : List Float = replicate 4 (fin false 3 (negsuc 1)) in
    let x : Float = fin false 3 (negsuc 0) in
    let l : List Event = clip quarter oneᶠ zeroᶠ zeroᶠ (Ramp oneᶠ oneᶠ) oneᶠ ∷ clip zeroᶠ halfᶠ zeroᶠ zeroᶠ (Clip 0 4) (fin false 1 (pos 1)) ∷ [] in
    (map (λ k. block_contributions pool span k l) (1 ∷ 2 ∷ 3 ∷ 4 ∷ 8 ∷ []) ≡ (x ∷ []) ∷ (oneᶠ ∷ x ∷ []) ∷ (fin false 1 (pos 1) ∷ x ∷ []) ∷ (fin false 3 (pos 0) ∷ []) ∷ [] ∷ [])
    × (tick_contributions pool zeroᶠ l ≡ oneᶠ ∷ x ∷ [])
unfolding computes-blocks computes-ticks filter_map
contributions_by_place = (refl, refl)

-- 1/32768 qualifies between the fades; 1/65536 does not, nor does either in a fade. A ramp from place 1 on, 2/65536, 3/65536 ..: its first sample qualifies, its second does not.
pub qualifying :
    let ramp : Event = clip (fin false 1 (negsuc 2)) oneᶠ zeroᶠ zeroᶠ (Ramp least (fin false 1 (negsuc 15))) oneᶠ in
    BlockQualifies [] span 3 (fading least) × TickQualifies [] halfᶠ (fading least)
    × (BlockQualifies [] span 3 (fading (fin false 1 (negsuc 15))) → ⊥) × (BlockQualifies [] span 5 (fading least) → ⊥) × (All (TickQualifies [] zeroᶠ) (fading least ∷ []) → ⊥)
    × BlockQualifies [] span 0 ramp × BlockQualifies [] span 1 ramp × (BlockQualifies [] span 2 ramp → ⊥)
unfolding computes-blocks computes-ticks multiple
qualifying = (λ s. (tt, refl, tt), (tt, refl, tt), λ h. (h tt).2, λ h. (h tt).0, λ h. h.0.0, λ s. absurd s, λ s. (tt, refl, tt), λ h. (h tt).2)

-- held levels from 0 to 1, in this order, and then a tick or a block of one sample
abbrev levels : List Float → List Call
levels [] = []
levels (x ∷ l) = push absolute zeroᶠ oneᶠ zeroᶠ zeroᶠ Smooth (Held x) oneᶠ ∷ levels l

unfoldable pub heard : MixOrder → List Float → List Float
unfolding computes
heard o l =
    last_out (run (levels l ++ (tick o [] (zeroᶠ ∷ []) ∷ [])) (fresh 1 Mode.All 1)).replies
    ++ take 1 (last_out (run (levels l ++ (block o 1 [] (replicate 64 zeroᶠ) none ∷ [])) (fresh 1 Mode.All 1)).replies)

-- 1, 2 ^ -24 and 2 ^ -24: from the first on 1, from the last on 1 + 2 ^ -23. 1, -1/2 and 1/32768 qualify: 16385/32768 either way.
pub order_of_mixing :
    let fine : List Float = oneᶠ ∷ fin false 1 (negsuc 23) ∷ fin false 1 (negsuc 23) ∷ [] in
    let coarse : List Float = oneᶠ ∷ fin true 1 (negsuc 0) ∷ least ∷ [] in
    (heard Forward fine ≡ replicate 2 oneᶠ) × (heard Backward fine ≡ replicate 2 (fin false 8388609 (negsuc 22)))
    × (heard Forward coarse ≡ replicate 2 (fin false 16385 (negsuc 14))) × (heard Backward coarse ≡ replicate 2 (fin false 16385 (negsuc 14)))
unfolding heard
order_of_mixing = (refl, refl, refl, refl)

-- What the code gives for a place: its number and how it came, both the ledger's; and what a block changes of an event. Assumes nothing.
use Rattle.std.specs.Prelude.{◌≡◌, ℕ, ◌-◌, min, max, Bool, true, false, cond, ◌&&◌, nat_le, nat_lt, refl, Float}
use Rattle.std.proofs.Common.{sym, ap}
use Rattle.floats.specs.Arithmetic.{◌+ᵈ◌, ◌-ᵈ◌, ◌<ᶠ◌, zeroᶠ}
use Rattle.floats.specs.declared.SampleIndex.{SampleIndex}
use Rattle.floats.specs.Floats.{index, is_free}
use Rattle.event.specs.declared.Event.{Event}
use Rattle.event.specs.declared.Placing.{Placing}
use Rattle.event.specs.declared.Placing.TheVariants.{Kept, Forced}
use Rattle.event.specs.declared.Source.{Source}
use Rattle.event.specs.Events.{with_unit}
use Rattle.event.specs.Sources.{advanced_by}
use Rattle.event.specs.SourceStays.{source_stays}
use Rattle.ledger.specs.BlockSamples.{Span, first_place, end_place, fade_in_place, fade_out_place, after_block}
use Rattle.ledger.specs.Places.{rounded, first_placing, end_placing, fade_in_placing, fade_out_placing}
use Rattle.mixing.specs.declared.Place.{Place}

abbrev pub placing_of : (most : ℕ) → SampleIndex → Placing
placing_of most i = cond (is_free i.how && nat_le i.index most) Kept Forced

abbrev pub rounded_place : (most : ℕ) → Float → Place
rounded_place most x = record { at = min most (index x); how = rounded most x }

abbrev pub raised_place : (s : ℕ) → Place → Place
raised_place s p = record { at = max p.at s; how = cond (nat_lt p.at s) Forced p.how }

abbrev pub first_of : Span → Event → Place
first_of b e = record { at = first_place b e; how = first_placing b e }

abbrev pub end_of : Span → Event → Place
end_of b e = record { at = end_place b e; how = end_placing b e }

abbrev pub fade_in_of : Span → (z : ℕ) → Event → Place
fade_in_of b z e = record { at = fade_in_place b z e; how = fade_in_placing b e }

abbrev pub fade_out_of : Span → (s : ℕ) → Event → Place
fade_out_of b s e = record { at = max (fade_out_place b e) s; how = fade_out_placing b s e }

-- whether a fade acts in the block
abbrev pub fades_in : Span → Event → Bool
fades_in b e = zeroᶠ <ᶠ e.fade_in && b.clock <ᶠ (e.start_time +ᵈ e.fade_in)

abbrev pub fades_out : Span → Event → Bool
fades_out b e = zeroᶠ <ᶠ e.fade_out && (e.end_time -ᵈ e.fade_out) <ᶠ b.upto

-- a block changes of an event no more than the value and the place of its source
pub source_moves : (b : Span) (e : Event) → with_unit (record { source = e.unit.source; value = (after_block b e).unit.value; place = (after_block b e).unit.place }) e ≡ after_block b e
unfolding after_block
source_moves b e = go (nat_lt (first_place b e) (end_place b e)) (end_place b e - first_place b e)
  where
    to : Bool → ℕ → Event
    to t n = cond t (with_unit (advanced_by e.unit n) e) e

    go : (t : Bool) (n : ℕ) → with_unit (record { source = e.unit.source; value = (to t n).unit.value; place = (to t n).unit.place }) e ≡ to t n
    go true n = ap (λ (s : Source). with_unit (record { source = s; value = (advanced_by e.unit n).value; place = (advanced_by e.unit n).place }) e) (sym (source_stays e.unit n))
    go false n = refl

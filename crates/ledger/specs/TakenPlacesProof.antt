-- What is counted of an event's places is what its samples are made from: `counted_as_taken`, for every event and span.
use Rattle.std.specs.Prelude.{Bool, ◌&&◌}
use Rattle.std.proofs.Math.Dec.{ltb}
use Rattle.floats.specs.Arithmetic.{◌+ᵈ◌, ◌-ᵈ◌, ◌<ᶠ◌, zeroᶠ}
use Rattle.event.specs.declared.Event.{Event}
use Rattle.ledger.specs.BlockSamples.{Span, first_place, end_place}
use Rattle.ledger.specs.Places.{first_placing, end_placing}
use Rattle.ledger.specs.TakenPlaces.{fade_in_taken, fade_out_taken, EventPlaces}

module _ (b : Span) (e : Event) where
  abbrev pub fades-in : Bool
  fades-in = zeroᶠ <ᶠ e.fade_in && b.clock <ᶠ (e.start_time +ᵈ e.fade_in)

  abbrev pub fades-out : Bool
  fades-out = zeroᶠ <ᶠ e.fade_out && (e.end_time -ᵈ e.fade_out) <ᶠ b.upto

  -- ---- all of an event

  -- the places, with the ledger's s and z
  abbrev pub places : EventPlaces
  places =
      let s = first_place b e in
      let z = end_place b e in
      record {
        first = record { at = s; how = first_placing b e };
        end = record { at = z; how = end_placing b e };
        fade_in = fade_in_taken b z e;
        fade_out = fade_out_taken b s e;
      }

  abbrev pub sounds : Bool
  sounds = ltb (first_place b e) (end_place b e)

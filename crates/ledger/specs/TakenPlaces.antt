-- Document 02, Paper 12: "Every user of it passes this on, and a block reports of its s, z and fade places how many were kept as rounded, how many forced ..,
-- and how many set at an edge". The places that an event takes in a block, number and word by one definition; and the statement that the samples are made from
-- the numbers and the counts from the words of the same places.
use Rattle.std.specs.Prelude.{ℕ, ◌-◌, min, ◌≡◌, ◌&&◌, true, false, cond, List, [], ◌∷◌, ◌++◌, ltb, leb, Float}
use Rattle.std.proofs.Math.Option.{Option, none, some}
use Rattle.floats.specs.Arithmetic.{◌+ᵈ◌, ◌-ᵈ◌, ◌×ᵈ◌, ◌÷ᵈ◌, ◌<ᶠ◌, ◌≤ᶠ◌, zeroᶠ}
use Rattle.floats.specs.Floats.{is_free}
use Rattle.floats.specs.IndexStep.{sample_index}
use Rattle.event.specs.declared.Event.{Event}
use Rattle.event.specs.declared.Placing.{Placing}
use Rattle.event.specs.declared.Placing.TheVariants.{Kept, Forced, Edge}
use Rattle.event.specs.Events.{with_unit}
use Rattle.event.specs.Sources.{next_samples, advanced_by}
use Rattle.ledger.specs.BlockSamples.{Span, faded, phase_at, phase_step, gained, add_at, channel_after, scratch_after, after_block}
use Rattle.ledger.specs.Places.{event_placings}

-- ---- a place: its number, and how it came

pub record Taken : Type 0 where
  pub at : ℕ
  pub how : Placing

-- without the index step
abbrev pub at_edge : ℕ → Taken
at_edge k = record { at = k; how = Edge }

-- the index step's number cut to `most`: forced where the step's word says so, or where the cut changes the number
abbrev pub by_index : (most : ℕ) → Float → Taken
by_index most x = let i = sample_index x in record { at = min most i.index; how = cond (is_free i.how && leb i.index most) Kept Forced }

-- "a rounded fade-out place raised to s"
abbrev pub raised_to : (s : ℕ) → Taken → Taken
raised_to s p = cond (ltb p.at s) (record { at = s; how = Forced }) p

-- ---- the places of an event

abbrev pub first_taken : Span → Event → Taken
first_taken b e = cond (e.start_time ≤ᶠ b.clock) (at_edge 0) (by_index b.size ((e.start_time -ᵈ b.clock) ×ᵈ b.rate))

abbrev pub end_taken : Span → Event → Taken
end_taken b e = cond (b.upto ≤ᶠ e.end_time) (at_edge b.size) (by_index b.size ((e.end_time -ᵈ b.clock) ×ᵈ b.rate))

-- "a fade's only where `fade_in` or `fade_out` computes it"
abbrev pub fade_in_taken : Span → (z : ℕ) → Event → Option Taken
fade_in_taken b z e =
    let top = e.start_time +ᵈ e.fade_in in
    let place = cond (b.upto ≤ᶠ top) (at_edge z) (by_index 64 ((top -ᵈ b.clock) ÷ᵈ b.duration)) in
    cond (zeroᶠ <ᶠ e.fade_in && b.clock <ᶠ top) (some place) none

abbrev pub fade_out_taken : Span → (s : ℕ) → Event → Option Taken
fade_out_taken b s e =
    let bottom = e.end_time -ᵈ e.fade_out in
    let place = cond (bottom ≤ᶠ b.clock) (at_edge s) (raised_to s (by_index 64 ((bottom -ᵈ b.clock) ÷ᵈ b.duration))) in
    cond (zeroᶠ <ᶠ e.fade_out && bottom <ᶠ b.upto) (some place) none

pub record EventPlaces : Type 0 where
  pub first : Taken
  pub end : Taken
  pub fade_in : Option Taken
  pub fade_out : Option Taken

abbrev pub taken_by : Span → Event → EventPlaces
taken_by b e =
    let s = first_taken b e in
    let z = end_taken b e in
    record { first = s; end = z; fade_in = fade_in_taken b z.at e; fade_out = fade_out_taken b s.at e }

-- ---- what is made from the numbers (BlockSamples.antt has the sentences)

-- the fade-in covers scratch places below its place minus s
abbrev pub faded_in_to : Span → (s : ℕ) → Event → Option Taken → List Float → List Float
faded_in_to b s e none l = l
faded_in_to b s e (some p) l =
    let top = e.start_time +ᵈ e.fade_in in
    faded e.fade_ease true 0 (p.at - s) (phase_at b s e.start_time top) (phase_step b e.fade_in) l

-- the fade-out begins at its place, with the phase of that place
abbrev pub faded_out_from : Span → (s z : ℕ) → Event → Option Taken → List Float → List Float
faded_out_from b s z e none l = l
faded_out_from b s z e (some p) l =
    let bottom = e.end_time -ᵈ e.fade_out in
    faded e.fade_ease false (p.at - s) (z - s) (phase_at b p.at bottom e.end_time) (phase_step b e.fade_out) l

abbrev pub run_from : (pool : List Float) → Span → Event → EventPlaces → List Float
run_from pool b e p =
    let s = p.first.at in
    let z = p.end.at in
    faded_out_from b s z e p.fade_out (faded_in_to b s e p.fade_in (gained e.gain (next_samples pool e.unit (z - s))))

-- ---- what is counted of the words

abbrev pub word_of : Option Taken → List Placing
word_of none = []
word_of (some p) = p.how ∷ []

abbrev pub words_of : EventPlaces → List Placing
words_of p = p.first.how ∷ p.end.how ∷ cond (ltb p.first.at p.end.at) (word_of p.fade_in ++ word_of p.fade_out) []

-- ---- the statement: channel, scratch and source after a block are made from the numbers of the very places whose words are counted
pub record CountedAsTaken (b : Span) (e : Event) : Type 0 where
  pub channel : (pool l : List Float) → let p = taken_by b e in
      channel_after pool b e l ≡ cond (ltb p.first.at p.end.at) (add_at p.first.at (run_from pool b e p) l) l
  pub scratch : (pool l : List Float) → let p = taken_by b e in
      scratch_after pool b e l ≡ cond (ltb p.first.at p.end.at) (run_from pool b e p) l
  pub source : let p = taken_by b e in
      after_block b e ≡ cond (ltb p.first.at p.end.at) (with_unit (advanced_by e.unit (p.end.at - p.first.at)) e) e
  pub counted : event_placings b e ≡ words_of (taken_by b e)

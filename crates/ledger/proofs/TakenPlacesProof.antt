-- What is counted of an event's places is what its samples are made from: `counted_as_taken`, for every event and span.
use Prim.Native.Nat.{ℕ, ◌-◌, min, max}
use Rattle.std.specs.Prelude.{◌≡◌, Bool, Float}
use Rattle.std.proofs.Math.Path.{refl, sym, ap}
use Rattle.std.proofs.Common.{ap₂, ◌∙◌, arith}
use Rattle.std.proofs.Math.Bool.{true, false, cond}
use mathlib.Core.List.{List, [], ◌∷◌, ◌++◌}
use Rattle.std.proofs.Math.Option.{Option, none, some}
use borrow.Author.Tests.{ltb-true, ltb-false}
use Rattle.std.proofs.Math.Dec.{ltb}
use Rattle.floats.specs.Arithmetic.{◌+ᵈ◌, ◌-ᵈ◌, ◌×ᵈ◌, ◌÷ᵈ◌, ◌≤ᶠ◌}
use Rattle.floats.specs.Floats.{index}
use Rattle.floats.specs.IndexStep.{sample_index}
use Rattle.event.specs.declared.Event.{Event}
use Rattle.event.specs.declared.Placing.{Placing}
use Rattle.event.specs.declared.Placing.TheVariants.{Forced, Edge}
use Rattle.event.specs.Events.{with_unit}
use Rattle.event.specs.Sources.{next_samples, advanced_by}
use Rattle.ledger.specs.BlockSamples.{Span, first_place, end_place, fade_in_place, fade_out_place, gained, run_faded_in, run_faded_out, faded_run}
use Rattle.ledger.specs.BlockSamples.{add_at, channel_after, scratch_after, after_block}
use Rattle.ledger.specs.Places.{rounded, first_placing, end_placing, fade_in_placing, fade_out_placing, fade_in_placings, fade_out_placings, event_placings}
use Rattle.ledger.specs.TakenPlaces.{Taken, at_edge, by_index, raised_to, first_taken, end_taken, fade_in_taken, fade_out_taken, EventPlaces, taken_by}
use Rattle.ledger.specs.TakenPlaces.{faded_in_to, faded_out_from, run_from, word_of, words_of, CountedAsTaken}
use Rattle.ledger.specs.TakenPlacesProof.{fades-in, fades-out, places, sounds}

-- ---- a place's number and word are the ledger's

is_edge : (t : Bool) (k most : ℕ) (x : Float)
    → cond t (at_edge k) (by_index most x) ≡ record { at = cond t k (min most (index x)); how = cond t Edge (rounded most x) }
unfolding sample_index rounded
is_edge true k most x = refl
is_edge false k most x = refl

first-is : (b : Span) (e : Event) → first_taken b e ≡ record { at = first_place b e; how = first_placing b e }
unfolding first_place first_placing
first-is b e = is_edge (e.start_time ≤ᶠ b.clock) 0 b.size ((e.start_time -ᵈ b.clock) ×ᵈ b.rate)

end_is : (b : Span) (e : Event) → end_taken b e ≡ record { at = end_place b e; how = end_placing b e }
unfolding end_place end_placing
end_is b e = is_edge (b.upto ≤ᶠ e.end_time) b.size b.size ((e.end_time -ᵈ b.clock) ×ᵈ b.rate)

module _ (b : Span) (e : Event) where
  fade_in_is : (z : ℕ) → fade_in_taken b z e ≡ cond (fades-in b e) (some (record { at = fade_in_place b z e; how = fade_in_placing b e })) none
  unfolding fade_in_place fade_in_placing
  fade_in_is z =
      let top = e.start_time +ᵈ e.fade_in in
      ap (λ (p : Taken). cond (fades-in b e) (some p) none) (is_edge (b.upto ≤ᶠ top) z 64 ((top -ᵈ b.clock) ÷ᵈ b.duration))

  raised_is : (s : ℕ) (t : Bool) (x : Float)
      → cond t (at_edge s) (raised_to s (by_index 64 x))
      ≡ record { at = max (cond t 0 (min 64 (index x))) s; how = cond t Edge (cond (ltb (cond t 0 (min 64 (index x))) s) Forced (rounded 64 x)) }
  unfolding sample_index rounded
  raised_is s true x = ap at_edge (omega arith)
  raised_is s false x = go (ltb (min 64 (index x)) s) refl
    where
      go : (u : Bool) → ltb (min 64 (index x)) s ≡ u
          → cond u (record { at = s; how = Forced }) (by_index 64 x) ≡ record { at = max (min 64 (index x)) s; how = cond u Forced (rounded 64 x) }
      go true h =
          let q : s ≡ max (min 64 (index x)) s = omega (arith, ltb-true (min 64 (index x)) s h) in
          ap (λ (k : ℕ). record { at = k; how = Forced }) q
      go false h =
          let q : min 64 (index x) ≡ max (min 64 (index x)) s = omega (arith, ltb-false (min 64 (index x)) s h) in
          ap (λ (k : ℕ). record { at = k; how = rounded 64 x }) q

  fade_out_is : (s : ℕ) → fade_out_taken b s e ≡ cond (fades-out b e) (some (record { at = max (fade_out_place b e) s; how = fade_out_placing b s e })) none
  unfolding fade_out_place fade_out_placing
  fade_out_is s =
      let bottom = e.end_time -ᵈ e.fade_out in
      ap (λ (p : Taken). cond (fades-out b e) (some p) none) (raised_is s (bottom ≤ᶠ b.clock) ((bottom -ᵈ b.clock) ÷ᵈ b.duration))

  -- ---- the fades are by these places, and these are counted, for any s and z

  pub faded_in_to_lem : (s z : ℕ) (l : List Float) → run_faded_in b s z e l ≡ faded_in_to b s e (fade_in_taken b z e) l
  unfolding run_faded_in
  faded_in_to_lem s z l = sym (ap (λ (p : Option Taken). faded_in_to b s e p l) (fade_in_is z) ∙ go (fades-in b e))
    where
      p : Taken
      p = record { at = fade_in_place b z e; how = fade_in_placing b e }

      go : (t : Bool) → faded_in_to b s e (cond t (some p) none) l ≡ cond t (faded_in_to b s e (some p) l) l
      go true = refl
      go false = refl

  pub faded_out_from_lem : (s z : ℕ) (l : List Float) → run_faded_out b s z e l ≡ faded_out_from b s z e (fade_out_taken b s e) l
  unfolding run_faded_out
  faded_out_from_lem s z l = sym (ap (λ (p : Option Taken). faded_out_from b s z e p l) (fade_out_is s) ∙ go (fades-out b e))
    where
      p : Taken
      p = record { at = max (fade_out_place b e) s; how = fade_out_placing b s e }

      go : (t : Bool) → faded_out_from b s z e (cond t (some p) none) l ≡ cond t (faded_out_from b s z e (some p) l) l
      go true = refl
      go false = refl

  word-is : (t : Bool) (p : Taken) → cond t (p.how ∷ []) [] ≡ word_of (cond t (some p) none)
  word-is true p = refl
  word-is false p = refl

  pub fade_in_counted : (z : ℕ) → fade_in_placings b e ≡ word_of (fade_in_taken b z e)
  unfolding fade_in_placings
  fade_in_counted z = word-is (fades-in b e) (record { at = fade_in_place b z e; how = fade_in_placing b e }) ∙ ap word_of (sym (fade_in_is z))

  pub fade_out_counted : (s : ℕ) → fade_out_placings b s e ≡ word_of (fade_out_taken b s e)
  unfolding fade_out_placings
  fade_out_counted s = word-is (fades-out b e) (record { at = max (fade_out_place b e) s; how = fade_out_placing b s e }) ∙ ap word_of (sym (fade_out_is s))

  taken_is : taken_by b e ≡ places b e
  taken_is =
      ap₂ (λ (s z : Taken). record { first = s; end = z; fade_in = fade_in_taken b z.at e; fade_out = fade_out_taken b s.at e }) (first-is b e) (end_is b e)

  run_is : (pool : List Float) → faded_run pool b (first_place b e) (end_place b e) e ≡ run_from pool b e (places b e)
  run_is pool =
      let s = first_place b e in
      let z = end_place b e in
      let xs = gained e.gain (next_samples pool e.unit (z - s)) in
      ap (run_faded_out b s z e) (faded_in_to_lem s z xs) ∙ faded_out_from_lem s z (faded_in_to b s e (fade_in_taken b z e) xs)

  pub counted_as_taken : CountedAsTaken b e
  unfolding channel_after scratch_after after_block event_placings
  counted_as_taken = record {
    channel = λ pool l.
        ap (λ (r : List Float). cond (sounds b e) (add_at (first_place b e) r l) l) (run_is pool)
        ∙ ap (λ (p : EventPlaces). cond (ltb p.first.at p.end.at) (add_at p.first.at (run_from pool b e p) l) l) (sym taken_is);
    scratch = λ pool l.
        ap (λ (r : List Float). cond (sounds b e) r l) (run_is pool)
        ∙ ap (λ (p : EventPlaces). cond (ltb p.first.at p.end.at) (run_from pool b e p) l) (sym taken_is);
    source =
        ap (λ (p : EventPlaces). cond (ltb p.first.at p.end.at) (with_unit (advanced_by e.unit (p.end.at - p.first.at)) e) e) (sym taken_is);
    counted =
        ap (λ (l : List Placing). first_placing b e ∷ end_placing b e ∷ cond (sounds b e) l [])
        (ap₂ (λ (i o : List Placing). i ++ o) (fade_in_counted (end_place b e)) (fade_out_counted (first_place b e)))
        ∙ ap words_of (sym taken_is);
  }

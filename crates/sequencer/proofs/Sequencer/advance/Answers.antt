-- `sequencer::Sequencer::advance` meets its contract.
use Rattle.std.proofs.Common.{◌≡◌, refl, ap, ◌∙◌}
use lib.Ieee.{Float, of_bits}
use Rattle.event.specs.declared.ReplayMode.{ReplayMode}
use Rattle.event.specs.declared.ReplayMode.TheVariants.{All, None}
use Rattle.floats.specs.Arithmetic.{◌+ᵈ◌, ◌-ᵈ◌, ◌×ᵈ◌, halfᶠ}
use Rattle.sequencer.specs.declared.Sequencer.{Sequencer}
use Rattle.sequencer.specs.Parts.{with_times}
use Rattle.sequencer.specs.Moves.{released_past, ready_to_active, active_to_past, advanced}
use Rattle.sequencer.proofs.Sequencer.advance.Goals as goal

same_duration : (s : Sequencer) (m : ReplayMode) → (released_past s m).sample_duration ≡ s.sample_duration
unfolding released_past
same_duration s All = refl
same_duration s None = refl

-- a is the engine once the finished are let go, b once those that are due have started, and t once those that have ended are past
advanced_by_lem : (s a b t : Sequencer) (e : Float) → a ≡ released_past s s.mode → b ≡ ready_to_active (with_times a a.time (e -ᵈ a.sample_duration ×ᵈ halfᶠ))
    → t ≡ active_to_past b (s.time +ᵈ halfᶠ ×ᵈ s.sample_duration) → with_times t e t.active_threshold ≡ advanced s e
unfolding advanced
advanced_by_lem s a b t e r p q =
    let g = released_past s s.mode in
    let started : b ≡ ready_to_active (with_times g g.time (e -ᵈ s.sample_duration ×ᵈ halfᶠ)) =
    p ∙ ap (λ (x : Sequencer). ready_to_active (with_times x x.time (e -ᵈ x.sample_duration ×ᵈ halfᶠ))) r
    ∙ ap (λ (y : Float). ready_to_active (with_times g g.time (e -ᵈ y ×ᵈ halfᶠ))) (same_duration s s.mode) in
    ap (λ (x : Sequencer). with_times x e x.active_threshold) (q ∙ ap (λ (x : Sequencer). active_to_past x (s.time +ᵈ halfᶠ ×ᵈ s.sample_duration)) started)

pub returns : goal.returns
unfolding of_bits
returns c = advanced_by_lem c.args.self _ _ _ _ c.release_past.ensures c.ready_to_active.ensures c.active_to_past-s.ensures

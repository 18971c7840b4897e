-- The heap's first starts, with its edit, while it is due.
use Rattle.std.proofs.Common.{◌≡◌, ℕ, ◌-◌, ◌<◌, ◌≤◌, true, false, get_or, sym, refl, ap, ◌∙◌, subst, ap₂, arith}
use lib.Ieee.{Float, lt, nan}
use Rattle.event.specs.declared.Event.{Event}
use Rattle.event.specs.Blank.{blank}
use Rattle.std.specs.declared.option.Option.{Option}
use Rattle.std.specs.declared.option.Option.TheVariants.{Some, None}
use Rattle.lists.specs.Edits.{placed, found_at, removed_at, found_edit, removed}
use Rattle.sequencer.specs.declared.Sequencer.{Sequencer}
use Rattle.floats.specs.Arithmetic.{◌-ᵈ◌, ◌×ᵈ◌, halfᶠ}
use Rattle.sequencer.specs.Parts.{with_edits, with_times}
use Rattle.sequencer.specs.Moves.{popped_ready, pushed_active, activated, activated_by, ready_to_active}
use Rattle.sequencer.specs.Turns.{Activating, activated_len, activated-none, activated-beyond, activated-late, activating_on}
use Rattle.memory.specs.Memory.{Cells, engine_of}
use Rattle.memory.specs.Laws.{Sized, waits-at, counts_are}
use Rattle.memory.specs.Clock.{with_time, threshold_is, threshold_in, duration_in}
use Rattle.memory.specs.Edits.{edited_if}

-- ---- the heap's first, with its edit

module _ (s : Sequencer) (f : Event) where
  abbrev started : Option ℕ → Sequencer
  started p = pushed_active (popped_ready (with_edits s (removed s.edit_map f.id))) (edited_if (found_at s.edit_map p) f)

  starts_by : (p : Option ℕ) → placed s.edit_map f.id ≡ p → started p ≡ activated_by s f (found_at s.edit_map p)
  unfolding activated_by removed
  starts_by (Some j) h = refl
  starts_by None h = ap (λ (q : Option ℕ). pushed_active (popped_ready (with_edits s (removed_at s.edit_map q))) f) h

  pub begun : (t x y : Sequencer) (e : Event) → t ≡ with_edits s (removed s.edit_map f.id) → e ≡ edited_if (found_edit s.edit_map f.id) f → x ≡ popped_ready t → y ≡ pushed_active x e → y ≡ activated s f
  unfolding activated found_edit
  begun t x y e p q u v = v ∙ ap₂ pushed_active (u ∙ ap popped_ready p) q ∙ starts_by (placed s.edit_map f.id) refl

pub begun_first : (c : Cells) (f : Event) (t x y : Sequencer) (e : Event) → f ≡ get_or (engine_of c).ready 0 blank
    → t ≡ with_edits (engine_of c) (removed (engine_of c).edit_map f.id) → e ≡ edited_if (found_edit (engine_of c).edit_map f.id) f → x ≡ popped_ready t → y ≡ pushed_active x e
    → y ≡ activated (engine_of c) (get_or (engine_of c).ready 0 blank)
begun_first c f t x y e h p q u v = begun (engine_of c) f t x y e p q u v ∙ ap (activated (engine_of c)) h

-- ---- while it is due

pub begins : (s : Sequencer) → Activating s (ready_to_active s)
unfolding ready_to_active
begins s = record { fuel = s.ready_len; enough = omega arith; gives = refl }

due_is : (c : Cells) → lt (get_or c.times 0 nan) (get_or c.times 3073 nan) ≡ lt (get_or (engine_of c).ready 0 blank).start_time (engine_of c).active_threshold
due_is c = ap₂ lt (ap (λ (e : Event). e.start_time) (waits-at c 0 blank (omega arith))) (threshold_in c)

pub begin-beyond : (c : Cells) (n : ℕ) → n ≡ get_or c.numbers 1280 0 → 256 < n → engine_of c ≡ ready_to_active (engine_of c)
begin-beyond c n q h = activated-beyond (engine_of c) _ (omega (arith, q, (counts_are c).0, h)) (begins (engine_of c))

module _ (c : Cells) (r : Sequencer) (n : ℕ) (q : n ≡ (engine_of c).ready_len) (w : Activating (engine_of c) r) where
  pub begin-none : n ≤ 0 → engine_of c ≡ r
  begin-none h = activated-none (engine_of c) r (omega (arith, q, h)) w

  pub begin-late : lt (get_or c.times 0 nan) (get_or c.times 3073 nan) ≡ false → engine_of c ≡ r
  begin-late h = activated-late (engine_of c) r (sym (due_is c) ∙ h) w

  pub begin_on : 0 < n → n ≤ 256 → lt (get_or c.times 0 nan) (get_or c.times 3073 nan) ≡ true → (u : Sequencer) → u ≡ activated (engine_of c) (get_or (engine_of c).ready 0 blank)
      → (n - 1 ≡ u.ready_len) × Activating u r
  begin_on p l h u e =
      let a : 0 < (engine_of c).ready_len = omega (arith, q, p) in
      let b : (engine_of c).ready_len ≤ 256 = omega (arith, q, l) in (
        ap (λ (k : ℕ). k - 1) q ∙ sym (activated_len (engine_of c) _ a b) ∙ ap (λ (x : Sequencer). x.ready_len) (sym e),
        subst (λ (x : Sequencer). Activating x r) (sym e) (activating_on (engine_of c) r a b (sym (due_is c) ∙ h) w),
      )

-- ---- from a threshold that is set
pub begins-from : (c : Cells) (e : Float) (t : Sequencer) → Sized c → t ≡ ready_to_active (engine_of (with_time c 3073 (e -ᵈ get_or c.times 3075 nan ×ᵈ halfᶠ)))
    → t ≡ ready_to_active (with_times (engine_of c) (engine_of c).time (e -ᵈ (engine_of c).sample_duration ×ᵈ halfᶠ))
begins-from c e t z p =
    p ∙ ap ready_to_active (threshold_is c _ z ∙ ap (λ (y : Float). with_times (engine_of c) (engine_of c).time (e -ᵈ y ×ᵈ halfᶠ)) (duration_in c))

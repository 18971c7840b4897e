-- Each call adds to the weight of W, S, F and G that of the number it answers, and nothing else. Assumes nothing.
use Rattle.std.specs.Prelude.{ℕ, ◌+◌, ◌≤◌, ◌≡◌, Bool, List, [], ◌∷◌, length, Float}
use Rattle.std.proofs.Math.Path.{refl, ap}
use Rattle.std.proofs.Common.{◌∙◌, zero-add, add-zero, le_refl}
use Rattle.std.proofs.Math.Bool.{true, false}
use Rattle.std.proofs.Math.Option.{Option, none, some}
use native.Mathlib.Omega.{arith}
use Rattle.std.specs.Float.Ieee.{lt, eq}
use Rattle.event.specs.declared.Event.{Event}
use Rattle.event.specs.declared.Edit.{Edit}
use Rattle.event.specs.declared.ReplayMode.{ReplayMode}
use Rattle.event.specs.declared.ReplayMode.TheVariants.{All, None}
use Rattle.floats.specs.Arithmetic.{◌+ᵈ◌, ◌-ᵈ◌, ◌×ᵈ◌, ◌<ᶠ◌, zeroᶠ, halfᶠ}
use Rattle.event.specs.Events.{new_event}
use Rattle.ledger.specs.Ledger.{Ledger}
use Rattle.ledger.specs.Calls.{Call, push, edit, tick, block, rate, reset}
use Rattle.ledger.specs.Steps.{refused_reply, cleared, enter, change, advance, stays, leaves, everything, set_rate, restart, accept, decide, step, pushed_time, span_of}
use Rattle.ledger.specs.Lists.{numbers, insert_all, start, sweep, has}
use Rattle.ledger.specs.Refusals.{refusal, tick_end, block_end, stated_end, edit_end}
use Rattle.ledger.specs.Claim.{accepted_of}
use Rattle.ledger.specs.Sums.{number_sum, weight, event_sum}
use Rattle.ledger.proofs.Sums.{number_sum_append, event_sum_append, event_sum_insert, event_sum_insert_all, event_sum_rewound, event_sum_edit, event_sum_start, event_sum_sweep, event_sum_tick, event_sum_block, number_sum_numbers}
use Rattle.ledger.specs.Conservation.{held_sum, by_number, four_sum, Adds}

-- the weight of W, S and F, by start and number
module _ (w : Float → ℕ → ℕ) where
  pub held_sum_enter : (l : Ledger) (e : Event) → held_sum w (enter l e) ≡ held_sum w l + weight w e
  unfolding enter
  held_sum_enter l e = go (lt e.start_time l.threshold) refl
    where
      go : (b : Bool) → lt e.start_time l.threshold ≡ b → held_sum w (enter l e) ≡ held_sum w l + weight w e
      go true h = rw (h, enter) (omega (arith, event_sum_append w l.sounding (e ∷ [])))
      go false h = rw (h, enter) (omega (arith, event_sum_insert w e l.waiting))

  pub held_sum_advance : (l : Ledger) (e : Float) → held_sum w (advance l e) ≡ event_sum w l.waiting + (event_sum w l.sounding + event_sum w (stays l.mode l.finished))
  unfolding advance
  held_sum_advance l e =
      let θ = e -ᵈ l.duration ×ᵈ halfᶠ in
      let k = start θ l.waiting l.sounding l.edits in
      let end = l.clock +ᵈ halfᶠ ×ᵈ l.duration in
      omega (
        arith,
        event_sum_start w θ l.waiting l.sounding l.edits,
        event_sum_sweep w (length k.sounding) end k.sounding (le_refl (length k.sounding)),
        event_sum_append w (stays l.mode l.finished) (sweep (length k.sounding) end k.sounding).finished,
      )

  pub event_sum_everything : (l : Ledger) → event_sum w (everything l) ≡ held_sum w l
  event_sum_everything l = omega (arith, event_sum_insert_all w l.sounding (insert_all l.finished l.waiting), event_sum_insert_all w l.finished l.waiting)

  pub event_sum_stays : (m : ReplayMode) (f : List Event) → event_sum w (stays m f) ≤ event_sum w f
  event_sum_stays All f = le_refl (event_sum w f)
  event_sum_stays None f = omega arith

-- a refusal gives out no number
pub refused_none : (c : Call) (k : ℕ) → accepted_of (refused_reply k c).answer ≡ []
refused_none (push kind start end fade_in fade_out curve source gain) k = refl
refused_none (edit kind n end fade_out) k = refl
refused_none (tick order pool out) k = refl
refused_none (block order n pool out scratch) k = refl
refused_none (rate r) k = refl
refused_none reset k = refl

-- the weight of W, S, F and G, by number
module _ (u : ℕ → ℕ) where
  stays-leaves : (m : ReplayMode) (f : List Event) → event_sum (by_number u) (stays m f) + number_sum u (leaves m f) ≡ event_sum (by_number u) f
  stays-leaves All f = add-zero (event_sum (by_number u) f)
  stays-leaves None f = zero-add (number_sum u (numbers f)) ∙ number_sum_numbers u f

  change-adds : (l : Ledger) (k : ℕ) (d : Edit) (a b : Bool) → Adds u l (change l k d a b)
  unfolding change
  change-adds l k d true b = omega (arith, event_sum_edit (by_number u) k d l.sounding)
  change-adds l k d false true = omega arith
  change-adds l k d false false = omega arith

  four_sum_advance : (l : Ledger) (e : Float) → four_sum u (advance l e) ≡ four_sum u l
  unfolding advance
  four_sum_advance l e =
      omega (arith, held_sum_advance (by_number u) l e, number_sum_append u l.gone (leaves l.mode l.finished), stays-leaves l.mode l.finished)

  four_sum_set_rate : (l : Ledger) (r : Float) (b : Bool) → four_sum u (set_rate l r b) ≡ four_sum u l
  unfolding set_rate
  four_sum_set_rate l r true = refl
  four_sum_set_rate l r false = omega (arith, event_sum_everything (by_number u) l)

  pub four_sum_restart : (l : Ledger) (m : ReplayMode) → four_sum u (restart l m) ≡ four_sum u l
  unfolding restart
  four_sum_restart l All = omega (arith, event_sum_rewound (by_number u) (everything l), event_sum_everything (by_number u) l)
  four_sum_restart l None = simp (number_sum_append, number_sum_numbers) (omega arith)

  pub accept-adds : (l : Ledger) (c : Call) → Adds u l (accept l c)
  unfolding accept enter
  accept-adds l (push kind start end fade_in fade_out curve source gain) =
      omega (arith, held_sum_enter (by_number u) l (new_event (pushed_time kind l.clock start) (pushed_time kind l.clock (stated_end kind start end)) fade_in fade_out curve source gain l.next))
  accept-adds l (edit kind k end fade_out) =
      change-adds l k (record { end_time = edit_end kind l.clock end; fade_out = fade_out }) (has k l.sounding) (edit_end kind l.clock end <ᶠ l.threshold)
  accept-adds l (tick order pool out) =
      let m = advance l (tick_end l) in
      omega (arith, four_sum_advance l (tick_end l), event_sum_tick (by_number u) pool l.clock m.sounding zeroᶠ)
  accept-adds l (block order n pool out scratch) =
      let m = advance l (block_end l n) in
      omega (arith, four_sum_advance l (block_end l n), event_sum_block (by_number u) pool (span_of l n) m.sounding (cleared n) [])
  accept-adds l (rate r) = omega (arith, four_sum_set_rate l r (eq l.rate r))
  accept-adds l reset = omega (arith, four_sum_restart l l.mode)

  decide-adds : (o : Option ℕ) (l : Ledger) (c : Call) → Adds u l (decide o l c)
  unfolding decide
  decide-adds (some k) l c = omega (arith, ap (number_sum u) (refused_none c k))
  decide-adds none l c = accept-adds l c

  pub step-adds : (l : Ledger) (c : Call) → Adds u l (step l c)
  unfolding step
  step-adds l c = decide-adds (refusal l c) l c

-- One push: refused, it leaves the engine as it is and has no rise; accepted, its event enters. Assumes nothing.
use Rattle.std.specs.Prelude.{◌≡◌, suc, ◌+◌, ◌≤◌, Bool, true, false, cond, ltb, ◌==◌, nat_lt, slice_set}
use Rattle.std.proofs.Math.Path.{refl}
use Rattle.std.proofs.Common.{sym, subst, add-one, ltb-true}
use native.Mathlib.Omega.{arith}
use Rattle.std.specs.Float.Ieee.{lt}
use Rattle.event.specs.declared.Event.{Event}
use Rattle.event.specs.Events.{earlier}
use Rattle.event.specs.Blank.{blank}
use Rattle.ready.specs.Levels.{levels}
use Rattle.ready.specs.Waiting.{pushed}
use Rattle.sequencer.specs.declared.Sequencer.{Sequencer}
use Rattle.sequencer.specs.declared.Pushed.{Pushed}
use Rattle.sequencer.specs.Outcomes.{refuses}
use Rattle.sequencer.specs.Parts.{with_active}
use Rattle.sequencer.specs.Moves.{pushed_ready, pushed_active, pushed_event}
use Rattle.sequencer.specs.Pushes.{pushes_to, pushes}
use Rattle.sequencer.specs.Rises.{rise_ready, rise_of, rise_to, rise_by, with_rise}
use Rattle.rises.proofs.Way.{levels_most, log2_small}
use Rattle.rises.specs.Totals.{Push, pushed_by, bound}
use Rattle.rises.specs.Single.{no_of, event_of, entered_by, n, Bounded}

module _ (s : Sequencer) (p : Push) where
  pub push-is : (b : Bool) → (no_of s p == 0) ≡ b → pushed_by s p ≡ cond b (entered_by s p) (with_rise (refuses s (no_of s p)) 0)
  unfolding pushes pushes_to rise_by rise_to
  push-is true h = rw h
  push-is false h = rw h

module _ (s : Sequencer) (e : Event) where
  pub levels_of : ltb (n s e) 256 ≡ true → rise_ready s e ≡ levels earlier blank (n s e) s.ready (n s e) e
  unfolding rise_ready
  levels_of h = rw h

  none_of : ltb (n s e) 256 ≡ false → rise_ready s e ≡ 0
  unfolding rise_ready
  none_of h = rw h

  one_more : ltb (n s e) 256 ≡ true → (pushed_ready s e).ready_len ≡ suc (n s e)
  unfolding pushed_ready pushed
  one_more h = rw h (add-one (n s e))

  as_many : ltb (n s e) 256 ≡ false → (pushed_ready s e).ready_len ≡ n s e
  unfolding pushed_ready pushed
  as_many h = rw h

  ready_bounded : (b : Bool) → nat_lt (n s e) 256 ≡ b → Bounded s e (rise_ready s e) (pushed_ready s e)
  unfolding bound
  ready_bounded true h =
      let a = levels_most earlier blank s.ready (n s e) e in
      let r = levels_of h in
      rw (one_more h) (omega (arith, a, r), omega arith)
  ready_bounded false h =
      let r = none_of h in
      rw (as_many h) (omega (arith, r), omega arith)

  active_waits : (pushed_active s e).ready_len ≡ n s e
  unfolding pushed_active
  active_waits = go (nat_lt s.active_len 256)
    where
      go : (b : Bool) → (cond b (with_active s (slice_set s.active s.active_len e) (slice_set s.active_map s.active_len e.id) (s.active_len + 1)) s).ready_len ≡ n s e
      go true = refl
      go false = refl

  pub event-bounded : Bounded s e (rise_of s e) (pushed_event s e)
  unfolding rise_of pushed_event
  event-bounded = go (lt e.start_time s.active_threshold)
    where
      go : (b : Bool) → Bounded s e (cond b 0 (rise_ready s e)) (cond b (pushed_active s e) (pushed_ready s e))
      go true = rw active_waits (omega arith, omega arith)
      go false = ready_bounded (nat_lt (n s e) 256) refl

-- no rise is above 256
levels-few : (s : Sequencer) (e : Event) → rise_of s e ≤ 256
unfolding rise_of
levels-few s e = go (lt e.start_time s.active_threshold)
  where
    ready : (b : Bool) → nat_lt s.ready_len 256 ≡ b → rise_ready s e ≤ 256
    ready true h =
        let a = levels_most earlier blank s.ready s.ready_len e in
        let c = log2_small (suc s.ready_len) in
        omega (arith, a, c, levels_of s e h, ltb-true s.ready_len 256 h)
    ready false h = omega (arith, none_of s e h)

    go : (b : Bool) → cond b 0 (rise_ready s e) ≤ 256
    go true = omega arith
    go false = ready (nat_lt s.ready_len 256) refl

pub rise_few : (s : Sequencer) (p : Push) → (pushed_by s p).rise ≤ 256
rise_few s p = subst (λ (o : Pushed). o.rise ≤ 256) (sym (push-is s p (no_of s p == 0) refl)) (go (no_of s p == 0))
  where
    go : (b : Bool) → (cond b (entered_by s p) (with_rise (refuses s (no_of s p)) 0)).rise ≤ 256
    go true = levels-few s (event_of s p)
    go false = omega arith

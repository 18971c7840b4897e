-- Document 02, Paper 13: the arrangement reaches the bound, for every n up to 256. Each new event starts before all that wait, so it rises to the top. Assumes nothing.
use Rattle.std.specs.Prelude.{◌≡◌, ℕ, zero, suc, ◌+◌, ◌-◌, ◌%◌, ◌^◌, ◌<◌, ◌≤◌, min, Bool, true, false, cond, get_or, ◌≢◌, slice_index_or, Float}
use Rattle.std.proofs.Math.Path.{refl, ap, subst}
use Rattle.std.proofs.Common.{sym, ◌∙◌}
use native.Mathlib.Omega.{arith}
use Rattle.std.specs.Float.Ieee.{lt, le, neg}
use borrow.Author.Tests.{lt-ltb, lt-leb, ne_eqb, eq-eqb}
use Rattle.event.specs.declared.Source.TheVariants.{Held}
use Rattle.event.specs.Events.{earlier}
use Rattle.event.specs.Blank.{blank}
use Rattle.floats.specs.Arithmetic.{◌-ᵈ◌, zeroᶠ, oneᶠ, whole}
use Rattle.floats.specs.Floats.{total_less, sooner}
use Rattle.ledger.specs.Calls.{absolute}
use Rattle.ledger.specs.Refusals.{within, within_end, stated_end}
use Rattle.ledger.specs.Steps.{pushed_time}
use Rattle.ready.specs.Sift.{rise}
use Rattle.ready.proofs.HeapOrder.{rise_moves, moves-length}
use Rattle.ready.specs.Waiting.{pushed, emptied}
use Rattle.refusals.specs.Refusals.{push_refusal}
use Rattle.sequencer.specs.declared.Sequencer.{Sequencer}
use Rattle.sequencer.specs.Parts.{with_ready, with_next}
use Rattle.sequencer.specs.Creation.{created, fresh_engine}
use Rattle.sequencer.specs.Moves.{pushed_ready, pushed_event}
use Rattle.sequencer.specs.Pushes.{enters, admitted}
use Rattle.sequencer.specs.Rises.{rise_of}
use Rattle.rises.specs.Way.{floor_log2}
use Rattle.rises.proofs.Way.{levels-all, rise_keeps}
use Rattle.rises.specs.Totals.{pushed_by, total_rise, accepted_of, bound}
use Rattle.rises.specs.Single.{no_of}
use Rattle.rises.proofs.Single.{push-is, levels_of}
use Rattle.rises.specs.Wholes.{whole-within, whole-positive, whole_order, whole_minus, not-below}
use Rattle.rises.specs.Arrangement.{fresh_one, kth_push, pushes_from, arrangement}
use Rattle.rises.specs.Attained.{Late, Laid, p, e, Next}

-- ---- the next one passes every check

passes : (start end lasts : Float) (held next : ℕ) → within start ≡ true → within end ≡ true → lt lasts zeroᶠ ≡ false → held < 256 → (next ≢ 0)
    → push_refusal start end lasts zeroᶠ zeroᶠ (Held oneᶠ) oneᶠ held next ≡ 0
unfolding push_refusal within_end within le lt neg whole
passes start end lasts held next a b c d e = rw (a, b, c, lt-leb 256 held d, ne_eqb next 0 e)

module _ (n m : ℕ) (small : n ≤ 256) (left : m < n) (s : Sequencer) (l : Laid n m s) where
  starts : (e n m small left s l).start_time ≡ whole (n - suc m)
  unfolding pushed_time kth_push
  starts = refl

  lasts : whole n -ᵈ whole (n - suc m) ≡ whole (suc m)
  lasts =
      let q : suc m + (n - suc m) ≡ n = omega arith in
      subst (λ (k : ℕ). whole k -ᵈ whole (n - suc m) ≡ whole (suc m)) q (whole_minus (suc m) (n - suc m) (omega arith))

  no_refusal : no_of s (p n m small left s l) ≡ 0
  unfolding kth_push stated_end
  no_refusal =
      passes (whole (n - suc m)) (whole n) (whole n -ᵈ whole (n - suc m)) (min (s.ready_len + (s.active_len + s.past_len)) 256) s.next
      (whole-within (n - suc m) (omega arith)) (whole-within n small) (rw lasts (whole-positive (suc m) (omega arith)))
      (omega (arith, l.waiting, l.sounding, l.finished)) (λ z. omega (arith, z, l.next))

  -- it waits
  waits : lt (e n m small left s l).start_time s.active_threshold ≡ false
  waits = ap (lt (e n m small left s l).start_time) l.threshold ∙ not-below (e n m small left s l).start_time

  entered : enters s (e n m small left s l) ≡ with_next (with_ready s (rise earlier blank s.ready_len s.ready s.ready_len (e n m small left s l)) (s.ready_len + 1)) ((s.next + 1) % 2 ^ 64)
  unfolding pushed_event pushed_ready pushed
  entered = rw (waits, lt-ltb s.ready_len 256 (omega (arith, l.waiting)))

  -- before all that wait
  first : (j : ℕ) → j < s.ready_len → earlier (e n m small left s l) (slice_index_or s.ready j blank) ≡ true
  unfolding sooner
  first j h =
      let k = l.late j (omega (arith, l.waiting)) in
      let t : total_less (e n m small left s l).start_time (get_or s.ready j blank).start_time ≡ true
      = ap (λ (x : Float). total_less x (get_or s.ready j blank).start_time) starts ∙ ap (total_less (whole (n - suc m))) k.1 ∙ whole_order k.0 (n - suc m) (omega (arith, k.2)) (omega (arith, k.3)) in
      rw t

  rises : rise_of s (e n m small left s l) ≡ floor_log2 (suc m)
  unfolding rise_of
  rises = rw waits (levels_of s (e n m small left s l) (lt-ltb s.ready_len 256 (omega (arith, l.waiting))) ∙ levels-all earlier blank s.ready s.ready_len (e n m small left s l) first ∙ ap (λ (k : ℕ). floor_log2 (suc k)) l.waiting)

  after : Laid n (suc m) (enters s (e n m small left s l))
  after = subst (Laid n (suc m)) (sym entered) (record {
    waiting = omega (arith, l.waiting);
    sounding = l.sounding;
    finished = l.finished;
    threshold = l.threshold;
    next = omega (arith, l.next);
    sized = moves-length earlier blank (rise_moves earlier blank s.ready_len (suc s.ready_len) s.ready s.ready_len (e n m small left s l) (omega arith)) ∙ l.sized;
    late = λ j h. rise_keeps earlier blank (Late n (suc m)) s.ready_len (suc s.ready_len) s.ready s.ready_len (e n m small left s l) (omega arith) (omega (arith, l.waiting, l.sized))
        (λ i a b. let k = l.late i (omega (arith, l.waiting)) in (k.0, k.1, omega (arith, k.2), k.3)) (n - suc m, starts, omega arith, omega arith) j (omega (arith, l.waiting));
  })

  one-push : Next n m small left s l (pushed_by s (p n m small left s l))
  unfolding admitted
  one-push = subst (Next n m small left s l) (sym (push-is s (p n m small left s l) true (eq-eqb (no_of s (p n m small left s l)) 0 no_refusal))) (refl, rises, after)

module _ (n : ℕ) (small : n ≤ 256) where
  rest : (f m : ℕ) (s : Sequencer) → m + f ≡ n → Laid n m s → (total_rise s (pushes_from n (suc m) f) + bound m ≡ bound n) × (accepted_of s (pushes_from n (suc m) f) ≡ f)
  unfolding total_rise accepted_of pushes_from bound
  rest zero m s h l = let q : m ≡ n = omega (arith, h) in (ap (λ (k : ℕ). 0 + bound k) q ∙ omega arith, refl)
  rest (suc f) m s h l =
      let k = one-push n m small (omega (arith, h)) s l in
      let r = rest f (suc m) (pushed_by s (absolute, kth_push n (suc m))).sequencer (omega (arith, h)) k.2 in
      (omega (arith, k.1, r.0), ap (λ (b : Bool). cond b 1 0 + accepted_of (pushed_by s (absolute, kth_push n (suc m))).sequencer (pushes_from n (suc (suc m)) f)) k.0 ∙ omega (arith, r.1))

  fresh-laid : Laid n 0 fresh_one
  unfolding fresh_one created fresh_engine emptied
  fresh-laid = record { waiting = refl; sounding = refl; finished = refl; threshold = refl; next = refl; sized = refl; late = λ j h. absurd (omega arith) }

  -- all n are accepted, and their rises add up to the bound
  pub attained : (total_rise fresh_one (arrangement n) ≡ bound n) × (accepted_of fresh_one (arrangement n) ≡ n)
  unfolding arrangement bound
  attained = let r = rest n 0 fresh_one (omega arith) fresh-laid in (omega (arith, r.0), r.1)

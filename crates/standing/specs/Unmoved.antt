-- A call that leaves the four counts as they were moves no clip: every number stands where it stood. So a page looks up standings only where a count has changed. Assumes nothing.
use Rattle.std.specs.Prelude.{ℕ, suc, ◌+◌, ◌≤◌, ◌≡◌, Bool, ◌||◌, cond, eqb, ltb, length, Float}
use Rattle.std.proofs.Math.Path.{refl, sym, ap}
use Rattle.std.proofs.Common.{◌∙◌, le_refl, arith, lt-ltb, length-append}
use Rattle.std.proofs.Math.Bool.{true, false}
use mathlib.Core.List.{List, [], ◌∷◌, ◌++◌}
use Rattle.std.proofs.Math.Option.{Option, none, some}
use Rattle.std.specs.Float.Ieee.{lt, eq}
use Rattle.event.specs.declared.Event.{Event}
use Rattle.event.specs.declared.Edit.{Edit}
use Rattle.event.specs.declared.StoredEdit.{StoredEdit}
use Rattle.event.specs.declared.ReplayMode.{ReplayMode}
use Rattle.event.specs.declared.ReplayMode.TheVariants.{All, None}
use Rattle.event.specs.Events.{number_of, new_event}
use Rattle.floats.specs.Arithmetic.{◌+ᵈ◌, ◌-ᵈ◌, ◌×ᵈ◌, ◌<ᶠ◌, zeroᶠ, halfᶠ}
use Rattle.ledger.specs.Ledger.{Ledger}
use Rattle.ledger.specs.Calls.{Call, push, edit, tick, block, rate, reset}
use Rattle.ledger.specs.Steps.{cleared, enter, change, advance, stays, leaves, everything, set_rate, restart, accept, decide, step, pushed_time, span_of}
use Rattle.ledger.specs.Lists.{numbers, has, start, sweep, with_edit, edit_of, drop_edit}
use Rattle.ledger.specs.Refusals.{refusal, tick_end, block_end, stated_end, edit_end}
use Rattle.ledger.specs.TickSamples.{tick_sum}
use Rattle.ledger.specs.BlockSamples.{block_sum}
use Rattle.ledger.specs.Partition.{is}
use Rattle.ledger.specs.Sums.{event_sum}
use Rattle.ledger.proofs.Sums.{event_sum_append, event_sum_rewound, event_sum_edit, event_sum_start, event_sum_sweep, event_sum_tick, event_sum_block}
use Rattle.ledger.specs.Conservation.{held_sum}
use Rattle.ledger.proofs.Conservation.{held_sum_enter, event_sum_everything}
use Rattle.standing.specs.Standings.{placed, standing_of}

-- the four counts are as they were
pub record SameCounts (l m : Ledger) : Type 0 where
  pub waiting : length m.waiting ≡ length l.waiting
  pub sounding : length m.sounding ≡ length l.sounding
  pub finished : length m.finished ≡ length l.finished
  pub gone : length m.gone ≡ length l.gone

-- ---- lists

empty_weighs_nothing : (w : Float → ℕ → ℕ) (l : List Event) → length l ≡ 0 → event_sum w l ≡ 0
empty_weighs_nothing w [] h = refl
empty_weighs_nothing w (e ∷ l) h = absurd (omega arith)

numbers-long : (l : List Event) → length (numbers l) ≡ length l
numbers-long [] = refl
numbers-long (e ∷ l) = ap suc (numbers-long l)

-- what still waits is of what waited
waits-fewer : (w : Float → ℕ → ℕ) (θ : Float) (a s : List Event) (x : List StoredEdit) → event_sum w (start θ a s x).waiting ≤ event_sum w a
unfolding start
waits-fewer w θ [] s x = le_refl 0
waits-fewer w θ (e ∷ a) s x = go (lt e.start_time θ) refl (waits-fewer w θ a (s ++ (with_edit (edit_of (number_of e) x) e ∷ [])) (drop_edit (number_of e) x))
  where
    go : (b : Bool) → lt e.start_time θ ≡ b → event_sum w (start θ a (s ++ (with_edit (edit_of (number_of e) x) e ∷ [])) (drop_edit (number_of e) x)).waiting ≤ event_sum w a
        → event_sum w (start θ (e ∷ a) s x).waiting ≤ event_sum w (e ∷ a)
    go true h r = rw (h, start) (omega (arith, r))
    go false h r = rw (h, start) (le_refl (event_sum w (e ∷ a)))

-- where no number is let go, the finished stay
stays-whole : (w : Float → ℕ → ℕ) (m : ReplayMode) (f : List Event) (g : List ℕ) → length (g ++ leaves m f) ≡ length g → event_sum w (stays m f) ≡ event_sum w f
stays-whole w All f g h = refl
stays-whole w None f g h = sym (empty_weighs_nothing w f (let a = length-append g (numbers f) in let b = numbers-long f in omega arith))

-- ---- one number: how often it stands in each list, and all others

module _ (k : ℕ) where
  abbrev this : Float → ℕ → ℕ
  this x n = is k n

  abbrev other : Float → ℕ → ℕ
  other x n = cond (eqb n k) 0 1

  all : (l : List Event) → event_sum this l + event_sum other l ≡ length l
  all [] = omega arith
  all (e ∷ l) = go (eqb (number_of e) k) (all l)
    where
      go : (b : Bool) → event_sum this l + event_sum other l ≡ length l → cond b 1 0 + event_sum this l + (cond b 0 1 + event_sum other l) ≡ suc (length l)
      go true r = omega arith
      go false r = omega arith

  had : (l : List Event) → has k l ≡ ltb 0 (event_sum this l)
  had [] = refl
  had (e ∷ l) = go (eqb (number_of e) k) (had l)
    where
      go : (b : Bool) → has k l ≡ ltb 0 (event_sum this l) → (b || has k l) ≡ ltb 0 (cond b 1 0 + event_sum this l)
      go true r = sym (lt-ltb 0 (1 + event_sum this l) (omega arith))
      go false r = r ∙ ap (ltb 0) (let z : event_sum this l ≡ 0 + event_sum this l = omega arith in z)

  record Kept (l m : Ledger) : Type 0 where
    pub waits : event_sum this m.waiting ≡ event_sum this l.waiting
    pub sounds : event_sum this m.sounding ≡ event_sum this l.sounding
    pub ends : event_sum this m.finished ≡ event_sum this l.finished

  same-has : (a b : List Event) → event_sum this a ≡ event_sum this b → has k a ≡ has k b
  same-has a b e = had a ∙ ap (ltb 0) e ∙ sym (had b)

  stands_so : (l m : Ledger) → Kept l m → standing_of m k ≡ standing_of l k
  unfolding standing_of
  stands_so l m p =
      ap (λ (b : Bool). placed b (has k m.sounding) (has k m.finished)) (same-has m.waiting l.waiting p.waits)
      ∙ ap (λ (b : Bool). placed (has k l.waiting) b (has k m.finished)) (same-has m.sounding l.sounding p.sounds)
      ∙ ap (λ (b : Bool). placed (has k l.waiting) (has k l.sounding) b) (same-has m.finished l.finished p.ends)

  -- a tick or block: none starts, so that none finishes, and none is let go
  advanced : (l : Ledger) (e : Float) → SameCounts l (advance l e) → Kept l (advance l e)
  unfolding advance
  advanced l e h =
      let θ = e -ᵈ l.duration ×ᵈ halfᶠ in
      let end = l.clock +ᵈ halfᶠ ×ᵈ l.duration in
      let w = start θ l.waiting l.sounding l.edits in
      let r = sweep (length w.sounding) end w.sounding in
      let a1 = waits-fewer this θ l.waiting l.sounding l.edits in
      let a2 = waits-fewer other θ l.waiting l.sounding l.edits in
      let b1 = event_sum_start this θ l.waiting l.sounding l.edits in
      let b2 = event_sum_start other θ l.waiting l.sounding l.edits in
      let c1 = event_sum_sweep this (length w.sounding) end w.sounding (le_refl (length w.sounding)) in
      let c2 = event_sum_sweep other (length w.sounding) end w.sounding (le_refl (length w.sounding)) in
      let waited : event_sum this w.waiting ≡ event_sum this l.waiting = omega (arith, a1, a2, all w.waiting, all l.waiting, h.waiting) in
      let others : event_sum other w.waiting ≡ event_sum other l.waiting = omega (arith, a1, a2, all w.waiting, all l.waiting, h.waiting) in
      let none-ends : event_sum this r.finished ≡ 0 = omega (arith, waited, others, b1, b2, c1, c2, all r.sounding, all l.sounding, h.sounding) in
      record {
        waits = waited;
        sounds = omega (arith, none-ends, waited, b1, c1);
        ends = omega (arith, event_sum_append this (stays l.mode l.finished) r.finished, none-ends, stays-whole this l.mode l.finished l.gone h.gone);
      }

  -- a rate or a reset that leaves none sounding and none finished: there was none
  all_wait : (l : Ledger) → length l.sounding ≡ 0 → length l.finished ≡ 0 → event_sum this (everything l) ≡ event_sum this l.waiting
  all_wait l s f = omega (arith, event_sum_everything this l, empty_weighs_nothing this l.sounding s, empty_weighs_nothing this l.finished f)

  rated : (l : Ledger) (r : Float) (same : Bool) → SameCounts l (set_rate l r same) → Kept l (set_rate l r same)
  unfolding set_rate
  rated l r true h = record { waits = refl; sounds = refl; ends = refl }
  rated l r false h = record {
    waits = all_wait l (sym h.sounding) (sym h.finished);
    sounds = sym (empty_weighs_nothing this l.sounding (sym h.sounding));
    ends = sym (empty_weighs_nothing this l.finished (sym h.finished));
  }

  restarted : (l : Ledger) (m : ReplayMode) → SameCounts l (restart l m) → Kept l (restart l m)
  unfolding restart
  restarted l All h = record {
    waits = event_sum_rewound this (everything l) ∙ all_wait l (sym h.sounding) (sym h.finished);
    sounds = sym (empty_weighs_nothing this l.sounding (sym h.sounding));
    ends = sym (empty_weighs_nothing this l.finished (sym h.finished));
  }
  restarted l None h = record {
    waits = sym (empty_weighs_nothing this l.waiting (sym h.waiting));
    sounds = sym (empty_weighs_nothing this l.sounding (sym h.sounding));
    ends = sym (empty_weighs_nothing this l.finished (sym h.finished));
  }

  changed : (l : Ledger) (n : ℕ) (d : Edit) (sounds over : Bool) → Kept l (change l n d sounds over).ledger
  unfolding change
  changed l n d true over = record { waits = refl; sounds = event_sum_edit this n d l.sounding; ends = refl }
  changed l n d false true = record { waits = refl; sounds = refl; ends = refl }
  changed l n d false false = record { waits = refl; sounds = refl; ends = refl }

  -- a push makes one more
  entered : (l : Ledger) (e : Event) → SameCounts l (enter l e) → Kept l (enter l e)
  entered l e h =
      let m = enter l e in
      let a = held_sum_enter this l e in
      let b = held_sum_enter other l e in
      absurd (one_more (eqb (number_of e) k) a b)
    where
      one_more : (c : Bool) → held_sum this (enter l e) ≡ held_sum this l + cond c 1 0 → held_sum other (enter l e) ≡ held_sum other l + cond c 0 1 → ⊥
      one_more true a b = omega (arith, a, b, all (enter l e).waiting, all (enter l e).sounding, all (enter l e).finished, all l.waiting, all l.sounding, all l.finished, h.waiting, h.sounding, h.finished)
      one_more false a b = omega (arith, a, b, all (enter l e).waiting, all (enter l e).sounding, all (enter l e).finished, all l.waiting, all l.sounding, all l.finished, h.waiting, h.sounding, h.finished)

  long : (a b : List Event) → event_sum this a ≡ event_sum this b → event_sum other a ≡ event_sum other b → length a ≡ length b
  long a b p q = omega (arith, all a, all b, p, q)

  accepts : (l : Ledger) (c : Call) → SameCounts l (accept l c).ledger → Kept l (accept l c).ledger
  unfolding accept
  accepts l (push kind start end fade_in fade_out curve source gain) h =
      entered l (new_event (pushed_time kind l.clock start) (pushed_time kind l.clock (stated_end kind start end)) fade_in fade_out curve source gain l.next) h
  accepts l (edit kind n end fade_out) h =
      changed l n (record { end_time = edit_end kind l.clock end; fade_out = fade_out }) (has n l.sounding) (edit_end kind l.clock end <ᶠ l.threshold)
  accepts l (tick order pool out) h =
      let m = advance l (tick_end l) in
      let s = (tick_sum pool l.clock m.sounding zeroᶠ).events in
      let a = event_sum_tick this pool l.clock m.sounding zeroᶠ in
      let b = event_sum_tick other pool l.clock m.sounding zeroᶠ in
      let p = advanced l (tick_end l) (record { waiting = h.waiting; sounding = sym (long s m.sounding a b) ∙ h.sounding; finished = h.finished; gone = h.gone }) in
      record { waits = p.waits; sounds = a ∙ p.sounds; ends = p.ends }
  accepts l (block order n pool out scratch) h =
      let m = advance l (block_end l n) in
      let s = (block_sum pool (span_of l n) m.sounding (cleared n) []).events in
      let a = event_sum_block this pool (span_of l n) m.sounding (cleared n) [] in
      let b = event_sum_block other pool (span_of l n) m.sounding (cleared n) [] in
      let p = advanced l (block_end l n) (record { waiting = h.waiting; sounding = sym (long s m.sounding a b) ∙ h.sounding; finished = h.finished; gone = h.gone }) in
      record { waits = p.waits; sounds = a ∙ p.sounds; ends = p.ends }
  accepts l (rate r) h = rated l r (eq l.rate r) h
  accepts l reset h = restarted l l.mode h

  decides : (o : Option ℕ) (l : Ledger) (c : Call) → SameCounts l (decide o l c).ledger → standing_of (decide o l c).ledger k ≡ standing_of l k
  unfolding decide
  decides (some n) l c h = refl
  decides none l c h = stands_so l (accept l c).ledger (accepts l c h)

-- whatever the call, accepted or refused
pub unmoved : (l : Ledger) (c : Call) → SameCounts l (step l c).ledger → (k : ℕ) → standing_of (step l c).ledger k ≡ standing_of l k
unfolding step
unmoved l c h k = decides k (refusal l c) l c h

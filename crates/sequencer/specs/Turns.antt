-- One round of each loop that moves events, and the rounds that are the last.
use Rattle.std.specs.Prelude.{◌≡◌, ℕ, zero, suc, ◌+◌, ◌-◌, ◌<◌, ◌≤◌, min, Bool, true, false, cond, ◌&&◌, List, get_or, nat_le, nat_lt, slice_index_or, slice_set, refl, Float}
use Rattle.std.proofs.Math.Bool.{and-false}
use Rattle.std.proofs.Math.Path.{sym, ap, ap₂, subst}
use Rattle.std.proofs.Common.{◌∙◌, arith}
use Rattle.std.proofs.Math.Numerals.{add-one}
use borrow.Author.Tests.{lt-ltb, le-ltb, le-leb, lt-leb}
use Rattle.std.specs.Float.Ieee.{lt, le}
use Rattle.event.specs.declared.Event.{Event}
use Rattle.event.specs.declared.EventId.{EventId}
use Rattle.event.specs.declared.Edit.{Edit}
use Rattle.event.specs.declared.ReplayMode.{ReplayMode}
use Rattle.event.specs.declared.ReplayMode.TheVariants.{All, None}
use Rattle.event.specs.Events.{edited_by, rewound}
use Rattle.event.specs.Blank.{blank}
use Rattle.floats.specs.Arithmetic.{◌+ᵈ◌, ◌-ᵈ◌, ◌×ᵈ◌, halfᶠ}
use Rattle.ready.specs.Waiting.{popped}
use Rattle.lists.specs.Index.{no_id}
use Rattle.std.specs.declared.option.Option.{Option as Found}
use Rattle.std.specs.declared.option.Option.TheVariants.{Some, None as Missing}
use Rattle.lists.specs.Edits.{found_edit, removed}
use Rattle.sequencer.specs.declared.Sequencer.{Sequencer}
use Rattle.sequencer.specs.Parts.{with_ready, with_active, with_past, with_edits, with_times, with_let_go}
use Rattle.lists.specs.Past.{gone_by, kept_by}
use Rattle.sequencer.specs.Moves.{pushed_ready, popped_ready, pushed_active, swap_removed, pushed_past, activated, activated_by, activates, ready_to_active, finishes, active_to_past, released_past, advanced, held_at, to_ready, all_to_ready}
use Rattle.sequencer.specs.Resets.{rewinds}

cond_same : {A B : Type 0} (f : A → B) (b : Bool) (x y : A) → f x ≡ f y → f (cond b x y) ≡ f y
cond_same f true x y h = h
cond_same f false x y h = refl

-- ---- events that start

pub record Activating (s r : Sequencer) : Type 0 where
  pub fuel : ℕ
  pub enough : s.ready_len ≤ fuel
  pub gives : activates fuel s ≡ r

pushed_active_len : (s : Sequencer) (e : Event) → (pushed_active s e).ready_len ≡ s.ready_len
unfolding pushed_active
pushed_active_len s e = cond_same (λ (x : Sequencer). x.ready_len) (nat_lt s.active_len 256) _ s refl

popped_len : (s : Sequencer) → 0 < s.ready_len → s.ready_len ≤ 256 → (popped_ready s).ready_len ≡ s.ready_len - 1
unfolding popped_ready popped
popped_len s p q = rw (lt-ltb 0 s.ready_len p, le-leb s.ready_len 256 q)

pub activated_len : (s : Sequencer) (e : Event) → 0 < s.ready_len → s.ready_len ≤ 256 → (activated s e).ready_len ≡ s.ready_len - 1
unfolding activated activated_by
activated_len s e p q = go (found_edit s.edit_map e.id)
  where
    go : (f : Found Edit) → (activated_by s e f).ready_len ≡ s.ready_len - 1
    go (Some d) =
        let t = with_edits s (removed s.edit_map e.id) in
        pushed_active_len (popped_ready t) (edited_by d e) ∙ popped_len t p q
    go Missing = pushed_active_len (popped_ready s) e ∙ popped_len s p q

-- whether the heap's first starts
abbrev starts : Sequencer → Bool
starts s = nat_lt 0 s.ready_len && nat_le s.ready_len 256 && lt (get_or s.ready 0 blank).start_time s.active_threshold

module _ (s r : Sequencer) where
  activated_stop : starts s ≡ false → Activating s r → s ≡ r
  unfolding activates
  activated_stop h w = go w.fuel w.gives
    where
      go : (f : ℕ) → activates f s ≡ r → s ≡ r
      go zero g = g
      go (suc f) g = rw h at g

  pub activated-none : s.ready_len ≤ 0 → Activating s r → s ≡ r
  activated-none h = activated_stop (rw (le-ltb 0 s.ready_len h))

  pub activated-beyond : 256 < s.ready_len → Activating s r → s ≡ r
  activated-beyond h = activated_stop (rw (lt-leb s.ready_len 256 h, and-false (nat_lt 0 s.ready_len)))

  pub activated-late : lt (get_or s.ready 0 blank).start_time s.active_threshold ≡ false → Activating s r → s ≡ r
  activated-late h = activated_stop (rw (h, and-false (nat_lt 0 s.ready_len && nat_le s.ready_len 256)))

  pub activating_on : 0 < s.ready_len → s.ready_len ≤ 256 → lt (get_or s.ready 0 blank).start_time s.active_threshold ≡ true
      → Activating s r → Activating (activated s (slice_index_or s.ready 0 blank)) r
  unfolding activates
  activating_on p q h w = go w.fuel w.enough w.gives
    where
      go : (f : ℕ) → s.ready_len ≤ f → activates f s ≡ r → Activating (activated s (slice_index_or s.ready 0 blank)) r
      go zero e g = absurd (omega arith)
      go (suc f) e g = record {
        fuel = f;
        enough = omega (arith, activated_len s (slice_index_or s.ready 0 blank) p q);
        gives = rw (lt-ltb 0 s.ready_len p, le-leb s.ready_len 256 q, h) at g;
      }

-- the heap's first f is to leave s: e is f with its edit, and t is s without that edit
pub record Taking (s : Sequencer) (f : Event) (t : Sequencer) (e : Event) : Type 0 where
  pub same : t ≡ with_edits s t.edit_map
  pub number : e.id ≡ f.id
  pub gives : pushed_active (popped_ready t) e ≡ activated s f

module _ {s : Sequencer} {f : Event} {t : Sequencer} {e : Event} where
  pub taking_missing : found_edit s.edit_map f.id ≡ Missing → t ≡ s → e ≡ f → Taking s f t e
  unfolding activated activated_by
  taking_missing h p q = record {
    same = p ∙ ap (λ (x : Sequencer). with_edits s x.edit_map) (sym p);
    number = ap (λ (x : Event). x.id) q;
    gives = ap₂ (λ (x : Sequencer) (y : Event). pushed_active (popped_ready x) y) p q ∙ sym (ap (activated_by s f) h);
  }

  pub taking_stored : {d : Edit} → found_edit s.edit_map f.id ≡ Some d → t ≡ with_edits s (removed s.edit_map f.id) → e ≡ edited_by d f → Taking s f t e
  unfolding activated activated_by
  taking_stored h p q = record {
    same = p ∙ ap (λ (x : Sequencer). with_edits s x.edit_map) (sym p);
    number = ap (λ (x : Event). x.id) q;
    gives = ap₂ (λ (x : Sequencer) (y : Event). pushed_active (popped_ready x) y) p q ∙ sym (ap (activated_by s f) h);
  }

-- the engine x that the event has left in its heap, and the sounding list with it
module _ (s r : Sequencer) {t x : Sequencer} {e : Event} (p : 0 < s.ready_len) (q : s.ready_len ≤ 256) (h : lt (get_or s.ready 0 blank).start_time s.active_threshold ≡ true)
    (k : Taking s (slice_index_or s.ready 0 blank) t e) (g : x ≡ popped_ready t) (w : Activating s r) where
  started : pushed_active x e ≡ activated s (slice_index_or s.ready 0 blank)
  started = ap (λ (y : Sequencer). pushed_active y e) g ∙ k.gives

  pub activating_room : {id : EventId} → id ≡ (get_or s.ready 0 blank).id → x.active_len < 256
      → Activating (with_active x (slice_set x.active x.active_len e) (slice_set x.active_map x.active_len id) (x.active_len + 1)) r
  unfolding pushed_active
  activating_room {id} i l = subst (λ (y : Sequencer). Activating y r) (sym (made ∙ started)) (activating_on s r p q h w)
    where
      made : with_active x (slice_set x.active x.active_len e) (slice_set x.active_map x.active_len id) (x.active_len + 1) ≡ pushed_active x e
      made = rw (lt-ltb x.active_len 256 l) (ap (λ (y : EventId). with_active x (slice_set x.active x.active_len e) (slice_set x.active_map x.active_len y) (x.active_len + 1)) (i ∙ sym k.number))

  pub activating_full : 256 ≤ x.active_len → Activating x r
  unfolding pushed_active
  activating_full l = subst (λ (y : Sequencer). Activating y r) (sym (made ∙ started)) (activating_on s r p q h w)
    where
      made : x ≡ pushed_active x e
      made = rw (le-ltb x.active_len 256 l)

-- ---- events that end

pub record Finishing (limit : Float) (s : Sequencer) (i : ℕ) (r : Sequencer) : Type 0 where
  pub fuel : ℕ
  pub enough : s.active_len ≤ i + fuel
  pub gives : finishes fuel limit s i ≡ r

pushed_past_len : (s : Sequencer) (e : Event) → (pushed_past s e).active_len ≡ s.active_len
unfolding pushed_past
pushed_past_len s e = cond_same (λ (x : Sequencer). x.active_len) (nat_lt s.past_len 256) _ s refl

swap-removed_len : (s : Sequencer) (i : ℕ) → i < s.active_len → s.active_len ≤ 256 → (swap_removed s i).active_len ≡ s.active_len - 1
unfolding swap_removed
swap-removed_len s i p q = rw (lt-ltb i s.active_len p, le-leb s.active_len 256 q)

pub finished_len : (s : Sequencer) (i : ℕ) (e : Event) → i < s.active_len → s.active_len ≤ 256 → (pushed_past (swap_removed s i) e).active_len ≡ s.active_len - 1
finished_len s i e p q = pushed_past_len (swap_removed s i) e ∙ swap-removed_len s i p q

-- the last fills place i of the sounding list and of its index
abbrev pub filled_by_last : Sequencer → (i : ℕ) → Sequencer
filled_by_last s i =
    let n = s.active_len - 1 in
    with_active s (slice_set s.active i (slice_index_or s.active n blank)) (slice_set s.active_map i (slice_index_or s.active_map n no_id)) n

module _ (s : Sequencer) (i : ℕ) (e : Event) (p : i < s.active_len) (q : s.active_len ≤ 256) where
  moved_past : s.past_len < 256 → pushed_past (swap_removed s i) e ≡ with_past (filled_by_last s i) (slice_set s.past s.past_len e) (s.past_len + 1)
  unfolding pushed_past swap_removed
  moved_past h = rw (lt-ltb i s.active_len p, le-leb s.active_len 256 q, lt-ltb s.past_len 256 h)

  moved_out : 256 ≤ s.past_len → pushed_past (swap_removed s i) e ≡ filled_by_last s i
  unfolding pushed_past swap_removed
  moved_out h = rw (lt-ltb i s.active_len p, le-leb s.active_len 256 q, le-ltb s.past_len 256 h)

module _ (limit : Float) (s : Sequencer) (i : ℕ) (r : Sequencer) where
  finished_stop : (nat_lt i s.active_len && nat_le s.active_len 256) ≡ false → Finishing limit s i r → s ≡ r
  unfolding finishes
  finished_stop h w = go w.fuel w.gives
    where
      go : (f : ℕ) → finishes f limit s i ≡ r → s ≡ r
      go zero g = g
      go (suc f) g = rw h at g

  pub finished_end : s.active_len ≤ i → Finishing limit s i r → s ≡ r
  finished_end h = finished_stop (rw (le-ltb i s.active_len h))

  pub finished_beyond : 256 < s.active_len → Finishing limit s i r → s ≡ r
  finished_beyond h = finished_stop (rw (lt-leb s.active_len 256 h, and-false (nat_lt i s.active_len)))

  pub finishing_on : i < s.active_len → s.active_len ≤ 256 → le (get_or s.active i blank).end_time limit ≡ false → Finishing limit s i r → Finishing limit s (i + 1) r
  unfolding finishes
  finishing_on p q h w = go w.fuel w.enough w.gives
    where
      go : (f : ℕ) → s.active_len ≤ i + f → finishes f limit s i ≡ r → Finishing limit s (i + 1) r
      go zero e g = absurd (omega arith)
      go (suc f) e g = rw add-one (record { fuel = f; enough = omega arith; gives = rw (lt-ltb i s.active_len p, le-leb s.active_len 256 q, h) at g })

  pub finishing_off : i < s.active_len → s.active_len ≤ 256 → le (get_or s.active i blank).end_time limit ≡ true → Finishing limit s i r
      → Finishing limit (pushed_past (swap_removed s i) (slice_index_or s.active i blank)) i r
  unfolding finishes
  finishing_off p q h w = go w.fuel w.enough w.gives
    where
      turn : (f : ℕ) → finishes (suc f) limit s i ≡ finishes f limit (pushed_past (swap_removed s i) (slice_index_or s.active i blank)) i
      turn f = rw (lt-ltb i s.active_len p, le-leb s.active_len 256 q, h)

      go : (f : ℕ) → s.active_len ≤ i + f → finishes f limit s i ≡ r → Finishing limit (pushed_past (swap_removed s i) (slice_index_or s.active i blank)) i r
      go zero e g = absurd (omega arith)
      go (suc f) e g = record { fuel = f; enough = omega (arith, finished_len s i (slice_index_or s.active i blank) p q); gives = sym (turn f) ∙ g }

  -- where the finished list has room, and where it has none
  pub finishing_room : i < s.active_len → s.active_len ≤ 256 → le (get_or s.active i blank).end_time limit ≡ true → s.past_len < 256 → Finishing limit s i r
      → Finishing limit (with_past (filled_by_last s i) (slice_set s.past s.past_len (slice_index_or s.active i blank)) (s.past_len + 1)) i r
  finishing_room p q h k w = subst (λ (x : Sequencer). Finishing limit x i r) (moved_past s i (slice_index_or s.active i blank) p q k) (finishing_off p q h w)

  pub finishing_full : i < s.active_len → s.active_len ≤ 256 → le (get_or s.active i blank).end_time limit ≡ true → 256 ≤ s.past_len → Finishing limit s i r
      → Finishing limit (filled_by_last s i) i r
  finishing_full p q h k w = subst (λ (x : Sequencer). Finishing limit x i r) (moved_out s i (slice_index_or s.active i blank) p q k) (finishing_off p q h w)

-- ---- the beginning of a tick or a block

pub released : (s : Sequencer) (m : ReplayMode) → with_past (with_let_go s (gone_by m s.let_go s.past_len)) s.past (kept_by m s.past_len) ≡ released_past s m
unfolding gone_by kept_by released_past
released s All = refl
released s None = refl

-- a is the engine once those that start have started, and b once those that end have ended; g were let go, and k are still finished
pub advanced_by_lem : (s : Sequencer) {a b : Sequencer} {g k : ℕ} {e : Float} → g ≡ gone_by s.mode s.let_go s.past_len → k ≡ kept_by s.mode s.past_len
    → a ≡ ready_to_active (with_times (with_past (with_let_go s g) s.past k) s.time (e -ᵈ s.sample_duration ×ᵈ halfᶠ))
    → b ≡ active_to_past a (s.time +ᵈ halfᶠ ×ᵈ s.sample_duration) → with_times b e b.active_threshold ≡ advanced s e
unfolding advanced
advanced_by_lem s {a} {b} {g} {k} {e} p q h r =
    ap (λ (x : Sequencer). with_times x e x.active_threshold)
    (r ∙ ap (λ (x : Sequencer). active_to_past x (s.time +ᵈ halfᶠ ×ᵈ s.sample_duration))
    (h ∙ ap (λ (x : Sequencer). ready_to_active (with_times x x.time (e -ᵈ s.sample_duration ×ᵈ halfᶠ)))
    (ap₂ (λ (i j : ℕ). with_past (with_let_go s i) s.past j) p q ∙ released s s.mode)))

-- ---- everything waits again

pub record Readying (n p i : ℕ) (s r : Sequencer) : Type 0 where
  pub fuel : ℕ
  pub exact : i + fuel ≡ n
  pub gives : to_ready fuel p i s ≡ r

module _ (n p i : ℕ) (s r : Sequencer) where
  pub readying_on : (e : Event) (t : Sequencer) → e ≡ held_at p s i → t ≡ pushed_ready s e → i < n → Readying n p i s r → Readying n p (i + 1) t r
  unfolding to_ready
  readying_on e t here made l w = rw (made, here) (go w.fuel w.exact w.gives)
    where
      go : (f : ℕ) → i + f ≡ n → to_ready f p i s ≡ r → Readying n p (i + 1) (pushed_ready s (held_at p s i)) r
      go zero e g = absurd (omega arith)
      go (suc f) e g = rw add-one (record { fuel = f; exact = omega arith; gives = g })

  pub readied : n ≤ i → Readying n p i s r → s ≡ r
  unfolding to_ready
  readied l w = go w.fuel w.exact w.gives
    where
      go : (f : ℕ) → i + f ≡ n → to_ready f p i s ≡ r → s ≡ r
      go zero e g = g
      go (suc f) e g = absurd (omega arith)

-- all of them wait, and both lists are empty
pub readied_all : {n p i : ℕ} {s : Sequencer} (s₀ : Sequencer) → p ≡ min s₀.past_len 256 → {a : ℕ} → a ≡ min s₀.active_len 256 → n ≡ p + a → n ≤ i → Readying n p i s (to_ready n p 0 s₀)
    → with_active (with_past s s.past 0) s.active s.active_map 0 ≡ all_to_ready s₀
unfolding all_to_ready
readied_all {n} {p} {i} {s} s₀ h k e l w =
    ap (λ (x : Sequencer). with_active (with_past x x.past 0) x.active x.active_map 0)
    (readied n p i s _ l w ∙ ap (λ (m : ℕ). to_ready m p 0 s₀) e ∙ ap₂ (λ (q b : ℕ). to_ready (q + b) q 0 s₀) h k)

-- ---- sources go back to their beginning

-- of the n events of s that wait, those before place i are rewound, which made t
pub record Rewinding (s : Sequencer) (n i : ℕ) (t : Sequencer) : Type 0 where
  pub same : t ≡ with_ready s t.ready s.ready_len
  pub fuel : ℕ
  pub exact : i + fuel ≡ n
  pub gives : rewinds fuel t.ready i ≡ rewinds n s.ready 0

module _ {s : Sequencer} {n : ℕ} where
  pub rewinding_start : Rewinding s n 0 s
  rewinding_start = record { same = refl; fuel = n; exact = omega arith; gives = refl }

  module _ {i : ℕ} {t : Sequencer} where
    pub rewinding_on : {e : Event} → e ≡ rewound (slice_index_or t.ready i blank) → i < n → Rewinding s n i t → Rewinding s n (i + 1) (with_ready t (slice_set t.ready i e) t.ready_len)
    unfolding rewinds
    rewinding_on p l w = rw p (go w.fuel w.exact w.gives)
      where
        xs : List Event
        xs = slice_set t.ready i (rewound (slice_index_or t.ready i blank))

        go : (f : ℕ) → i + f ≡ n → rewinds f t.ready i ≡ rewinds n s.ready 0 → Rewinding s n (i + 1) (with_ready t xs t.ready_len)
        go zero e g = absurd (omega arith)
        go (suc f) e g = rw add-one (record { same = ap (λ (x : Sequencer). with_ready x xs x.ready_len) w.same; fuel = f; exact = omega arith; gives = g })

    pub rewound-all : n ≤ i → Rewinding s n i t → t ≡ with_ready s (rewinds n s.ready 0) s.ready_len
    unfolding rewinds
    rewound-all l w = go w.fuel w.exact w.gives
      where
        go : (f : ℕ) → i + f ≡ n → rewinds f t.ready i ≡ rewinds n s.ready 0 → t ≡ with_ready s (rewinds n s.ready 0) s.ready_len
        go zero e g = w.same ∙ ap (λ (xs : List Event). with_ready s xs s.ready_len) g
        go (suc f) e g = absurd (omega arith)

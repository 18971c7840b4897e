-- Each call keeps the limits: at most 256 events are held, at most 256 edits are stored, one per number, and the next number is at most 2 ^ 64. Assumes nothing.
use Rattle.std.specs.Prelude.{ℕ, suc, ◌+◌, ◌^◌, ◌≤◌, ◌≡◌, refl, Bool, true, false, not, ◌&&◌, cond, List, [], ◌∷◌, ◌++◌, ◌⊎◌, T, leb, eqb, length, Float}
use Rattle.std.proofs.Common.{sym, ap, subst, inl, inr, ⊎_elim, le_refl, arith, eqb→eq}
use Rattle.std.proofs.Math.Option.{Option, none, some}
use Rattle.std.proofs.Math.Dec.{nleb→lt}
use Rattle.std.specs.Float.Ieee.{lt, eq}
use Rattle.event.specs.declared.Event.{Event}
use Rattle.event.specs.declared.Edit.{Edit}
use Rattle.event.specs.declared.ReplayMode.{ReplayMode}
use Rattle.event.specs.declared.ReplayMode.TheVariants.{All, None}
use Rattle.floats.specs.Arithmetic.{◌-ᵈ◌, ◌×ᵈ◌, ◌<ᶠ◌, zeroᶠ, halfᶠ}
use Rattle.event.specs.Events.{new_event, number_of}
use Rattle.event.specs.declared.StoredEdit.{StoredEdit}
use Rattle.ledger.specs.Calls.{Call, push, edit, tick, block, rate, reset}
use Rattle.ledger.specs.Lists.{start, with_edit, edit_of, drop_edit, store_edit, has}
use Rattle.ledger.specs.Refusals.{missing, checks, push_checks, edit_checks, refusal, tick_end, block_end, stated_end, edit_end}
use Rattle.ledger.specs.Steps.{accept, decide, step, change, set_rate, restart, everything, advance, pushed_time, span_of, cleared, enter}
use Rattle.ledger.specs.Ledger.{Ledger, create, held, fresh}
use Rattle.ledger.proofs.Sums.{event_sum_one, event_sum_rewound, event_sum_edit, event_sum_tick, event_sum_block}
use Rattle.ledger.specs.Conservation.{held_sum}
use Rattle.ledger.proofs.Conservation.{held_sum_enter, held_sum_advance, event_sum_stays, event_sum_everything}
use Rattle.ledger.specs.Partition.{is}
use Rattle.ledger.specs.Refused.{AllPass}
use Rattle.ledger.proofs.Refused.{all_pass}
use Rattle.ledger.specs.Limits.{one, edit_sum, edits_of, Limits}

pub held-is : (l : Ledger) → held l ≡ held_sum one l
held-is l = omega (arith, event_sum_one l.waiting, event_sum_one l.sounding, event_sum_one l.finished)

edit_sum-one : (x : List StoredEdit) → edit_sum (λ n. 1) x ≡ length x
edit_sum-one [] = refl
edit_sum-one (x ∷ l) = omega (arith, edit_sum-one l)

-- ---- removing edits and starting events adds none

edit_sum-drop : (u : ℕ → ℕ) (k : ℕ) (x : List StoredEdit) → edit_sum u (drop_edit k x) ≤ edit_sum u x
unfolding drop_edit
edit_sum-drop u k [] = le_refl 0
edit_sum-drop u k (x ∷ l) = go (eqb x.id.0 k) refl (edit_sum-drop u k l)
  where
    go : (b : Bool) → eqb x.id.0 k ≡ b → edit_sum u (drop_edit k l) ≤ edit_sum u l → edit_sum u (drop_edit k (x ∷ l)) ≤ edit_sum u (x ∷ l)
    go true h r = rw (h, drop_edit) (omega arith)
    go false h r = rw (h, drop_edit) (omega (arith, r))

edit_sum-start : (u : ℕ → ℕ) (θ : Float) (w s : List Event) (x : List StoredEdit) → edit_sum u (start θ w s x).edits ≤ edit_sum u x
unfolding start
edit_sum-start u θ [] s x = le_refl (edit_sum u x)
edit_sum-start u θ (e ∷ w) s x =
    go (lt e.start_time θ) refl (edit_sum-start u θ w (s ++ (with_edit (edit_of (number_of e) x) e ∷ [])) (drop_edit (number_of e) x))
  where
    s' : List Event
    s' = s ++ (with_edit (edit_of (number_of e) x) e ∷ [])

    x' : List StoredEdit
    x' = drop_edit (number_of e) x

    go : (b : Bool) → lt e.start_time θ ≡ b → edit_sum u (start θ w s' x').edits ≤ edit_sum u x' → edit_sum u (start θ (e ∷ w) s x).edits ≤ edit_sum u x
    go true h r = rw (h, start) (omega (arith, r, edit_sum-drop u (number_of e) x))
    go false h r = rw (h, start) (le_refl (edit_sum u x))

-- ---- storing an edit

-- a stored edit has the number's only place, or one where there was none
store_count : (j k : ℕ) (d : Edit) (x : List StoredEdit) → (edits_of j (store_edit k d x) ≡ edits_of j x) ⊎ ((j ≡ k) × (edits_of j x ≡ 0) × (edits_of j (store_edit k d x) ≡ 1))
unfolding store_edit
store_count j k d [] = go (eqb k j) refl
  where
    go : (b : Bool) → eqb k j ≡ b → (cond b 1 0 + 0 ≡ 0) ⊎ ((j ≡ k) × (◌≡◌ {A = ℕ} 0 0) × (cond b 1 0 + 0 ≡ 1))
    go true h = inr (sym (eqb→eq k j (subst T (sym h) tt)), refl, refl)
    go false h = inl refl
store_count j k d (x ∷ l) = go (eqb x.id.0 k) refl (store_count j k d l)
  where
    X : ℕ
    X = cond (eqb x.id.0 j) 1 0

    go : (b : Bool) → eqb x.id.0 k ≡ b
        → (edits_of j (store_edit k d l) ≡ edits_of j l) ⊎ ((j ≡ k) × (edits_of j l ≡ 0) × (edits_of j (store_edit k d l) ≡ 1))
        → (edits_of j (store_edit k d (x ∷ l)) ≡ edits_of j (x ∷ l)) ⊎ ((j ≡ k) × (edits_of j (x ∷ l) ≡ 0) × (edits_of j (store_edit k d (x ∷ l)) ≡ 1))
    go true h r = rw (h, store_edit) (inl (ap (λ (n : ℕ). cond (eqb n j) 1 0 + edits_of j l) (sym (eqb→eq x.id.0 k (subst T (sym h) tt)))))
    go false h (inl r) = rw (h, store_edit) (inl (ap (λ (n : ℕ). X + n) r))
    go false h (inr r) =
        let q : X ≡ 0 = rw (r.0, h) refl in
        rw (h, store_edit) (inr (r.0, omega (arith, q, r.1), omega (arith, q, r.2)))

store_once : (k : ℕ) (d : Edit) (x : List StoredEdit) → ((j : ℕ) → edits_of j x ≤ 1) → (j : ℕ) → edits_of j (store_edit k d x) ≤ 1
store_once k d x h j = ⊎_elim (λ r. omega (arith, r, h j)) (λ r. omega (arith, r.2)) (store_count j k d x)

pub store_length : (k : ℕ) (d : Edit) (x : List StoredEdit) → length (store_edit k d x) ≡ length x + cond (missing (edit_of k x)) 1 0
unfolding store_edit edit_of
store_length k d [] = refl
store_length k d (x ∷ l) = go (eqb x.id.0 k) refl (store_length k d l)
  where
    go : (b : Bool) → eqb x.id.0 k ≡ b → length (store_edit k d l) ≡ length l + cond (missing (edit_of k l)) 1 0
        → length (store_edit k d (x ∷ l)) ≡ suc (length l) + cond (missing (edit_of k (x ∷ l))) 1 0
    go true h r = rw (h, store_edit, edit_of) (omega arith)
    go false h r = rw (h, store_edit, edit_of) (omega arith)

room : (m : Bool) (n : ℕ) → T (not (m && leb 256 n)) → n ≤ 256 → n + cond m 1 0 ≤ 256
room true n h k = omega (arith, nleb→lt 256 n h)
room false n h k = omega arith

change-limits : (l : Ledger) (k : ℕ) (d : Edit) (a b : Bool)
    → T (not (not a && not b && missing (edit_of k l.edits) && leb 256 (length l.edits))) → Limits l → Limits (change l k d a b).ledger
unfolding change
change-limits l k d true b h g = record { events = omega (arith, event_sum_edit one k d l.sounding, g.events); edits = g.edits; once = g.once; next = g.next }
change-limits l k d false true h g = g
change-limits l k d false false h g = record {
  events = g.events;
  next = g.next;
  once = λ j. store_once k d l.edits g.once j;
  edits = omega (arith, store_length k d l.edits, room (missing (edit_of k l.edits)) (length l.edits) h g.edits);
}

advance-limits : (l : Ledger) (e : Float) → Limits l → Limits (advance l e)
unfolding advance
advance-limits l e g = record {
  events = omega (arith, held_sum_advance one l e, event_sum_stays one l.mode l.finished, g.events);
  edits =
      let x = (start (e -ᵈ l.duration ×ᵈ halfᶠ) l.waiting l.sounding l.edits).edits in
      omega (arith, edit_sum-start (λ n. 1) (e -ᵈ l.duration ×ᵈ halfᶠ) l.waiting l.sounding l.edits, edit_sum-one x, edit_sum-one l.edits, g.edits);
  once = λ k. omega (arith, edit_sum-start (is k) (e -ᵈ l.duration ×ᵈ halfᶠ) l.waiting l.sounding l.edits, g.once k);
  next = g.next;
}

set_rate-limits : (l : Ledger) (r : Float) (b : Bool) → Limits l → Limits (set_rate l r b)
unfolding set_rate
set_rate-limits l r true g = g
set_rate-limits l r false g = record { events = omega (arith, event_sum_everything one l, g.events); edits = g.edits; once = g.once; next = g.next }

restart-limits : (l : Ledger) (m : ReplayMode) → Limits l → Limits (restart l m)
unfolding restart
restart-limits l All g = record { events = omega (arith, event_sum_rewound one (everything l), event_sum_everything one l, g.events); edits = omega (arith, g.edits); once = λ k. omega (arith, g.once k); next = g.next }
restart-limits l None g = record { events = omega arith; edits = omega arith; once = λ k. omega arith; next = g.next }

accept-limits : (l : Ledger) (c : Call) → AllPass (checks l c) → Limits l → Limits (accept l c).ledger
unfolding accept checks push_checks edit_checks enter
accept-limits l (push kind start end fade_in fade_out curve source gain) h g = record {
  events = omega (
    arith,
    held_sum_enter one l (new_event (pushed_time kind l.clock start) (pushed_time kind l.clock (stated_end kind start end)) fade_in fade_out curve source gain l.next),
    held-is l,
    nleb→lt 256 (held l) h.1.1.1.1.0,
  );
  edits = g.edits;
  once = g.once;
  next = omega (arith, nleb→lt (2 ^ 64) l.next h.1.1.1.1.1.0);
}
accept-limits l (edit kind k end fade_out) h g =
    change-limits l k (record { end_time = edit_end kind l.clock end; fade_out = fade_out }) (has k l.sounding) (edit_end kind l.clock end <ᶠ l.threshold) h.1.0 g
accept-limits l (tick order pool out) h g =
    let a = advance-limits l (tick_end l) g in
    record { events = omega (arith, event_sum_tick one pool l.clock (advance l (tick_end l)).sounding zeroᶠ, a.events); edits = a.edits; once = a.once; next = a.next }
accept-limits l (block order n pool out scratch) h g =
    let a = advance-limits l (block_end l n) g in
    record {
      events = omega (arith, event_sum_block one pool (span_of l n) (advance l (block_end l n)).sounding (cleared n) [], a.events);
      edits = a.edits;
      once = a.once;
      next = a.next;
    }
accept-limits l (rate r) h g = set_rate-limits l r (eq l.rate r) g
accept-limits l reset h g = restart-limits l l.mode g

pub step-limits : (l : Ledger) (c : Call) → Limits l → Limits (step l c).ledger
unfolding step decide refusal
step-limits l c g = go (refusal l c) refl
  where
    go : (o : Option ℕ) → refusal l c ≡ o → Limits (decide o l c).ledger
    go (some k) h = g
    go none h = accept-limits l c (all_pass (checks l c) h) g

pub create-limits : (channels : ℕ) (mode : ReplayMode) (first : ℕ) → (create channels mode first).ledger.next ≤ 2 ^ 64 → Limits (create channels mode first).ledger
unfolding create fresh
create-limits channels mode first p = go (leb 1 channels && leb channels 8 && leb 1 first) refl
  where
    go : (b : Bool) → (leb 1 channels && leb channels 8 && leb 1 first) ≡ b → Limits (create channels mode first).ledger
    go true h = record { events = rw (h, create) (omega arith); edits = rw (h, create) (omega arith); once = λ k. rw (h, create) (omega arith); next = p }
    go false h = record { events = rw (h, create) (omega arith); edits = rw (h, create) (omega arith); once = λ k. rw (h, create) (omega arith); next = p }

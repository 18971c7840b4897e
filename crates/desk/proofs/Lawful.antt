-- The laws of the desk: handling a message keeps them, and so does draining the queue (that every call does: `proofs.LawfulCalls`). So no queued message is refused when it is handled, and no back call is refused after draining that was not before. Assumes nothing.
use Rattle.std.specs.Prelude.{ℕ, suc, ◌+◌, ◌*◌, ◌^◌, ◌≤◌, ◌<◌, ◌≡◌, refl, Bool, true, false, not, ◌&&◌, ◌||◌, cond, List, [], ◌∷◌, ◌++◌, map, reverse, ◌⊎◌, T, leb, eqb, length, Float}
use Rattle.std.proofs.Common.{sym, ap, ap₂, ◌∙◌, subst, inl, inr, ⊎_elim, arith, leb→le, nltb→le}
use mathlib.Core.List.Memᴰ
use Rattle.std.proofs.Math.Option.{Option, none}
use Rattle.std.proofs.Math.Dec.{not_T}
use Rattle.std.specs.Float.Ieee.{lt, le, eq}
use Rattle.std.specs.Float.Ieee.Scale.{finite}
use Rattle.event.specs.declared.Edit.{Edit}
use Rattle.event.specs.declared.ReplayMode.{ReplayMode}
use Rattle.event.specs.declared.ReplayMode.TheVariants.{All, None}
use Rattle.event.specs.Events.{new_event, rewound}
use Rattle.floats.specs.Arithmetic.{◌+ᵈ◌, ◌-ᵈ◌, ◌×ᵈ◌, ◌÷ᵈ◌, ◌<ᶠ◌, ◌≤ᶠ◌, zeroᶠ, oneᶠ, whole}
use Rattle.ledger.specs.Calls as Calls
use Rattle.ledger.specs.Lists.{numbers, has, edit_of, edit_in}
use Rattle.ledger.specs.Ledger.{Ledger, held}
use Rattle.ledger.specs.Refusals.{Check, refuses, first_of, within, within_end, finite_source, stated_end, edit_end, tick_end, block_end, missing, refusal, checks, push_checks, edit_checks}
use Rattle.ledger.specs.Steps as Steps
use Rattle.ledger.specs.Steps.{pushed_time, enter, change, everything, accept, restart}
use Rattle.ledger.specs.Refused.{AllPass}
use Rattle.ledger.proofs.Refused.{all_pass}
use Rattle.ledger.proofs.Sums.{event_sum_edit, event_sum_one, event_sum_rewound}
use Rattle.ledger.specs.Conservation.{four_sum}
use Rattle.ledger.proofs.Conservation.{held_sum_enter, event_sum_everything}
use Rattle.ledger.specs.Partition.{is}
use Rattle.ledger.proofs.Limits.{held-is, store_length}
use Rattle.ledger.proofs.Lawful as Ledgers
use Rattle.ledger.specs.Lawful.{Lawful}
use Rattle.ledger.proofs.Lawful.{lengths}
use Rattle.desk.specs.FreshEnd.{tick_within, block_within}
use Rattle.desk.proofs.LetGo.{finished_sum, restarted-sum, returned_few}
use Rattle.desk.specs.Desk.{Message, push, edit, reset, BackCall, tick, block, rate, Call, back, message_call, back_call, Desk, pushes_in, edits_in, next_number, with_back, send_finished, restarted, reset_of, drain, drained, decide, step}
use Rattle.desk.specs.Lawful.{own_checks, Passed, DeskLawful, desk_of, handled, Kept}

-- ---- checks that pass

pass_all : (l : List Check) → AllPass l → first_of l ≡ none
unfolding first_of
pass_all [] h = refl
pass_all (refuses k true ∷ l) h = absurd h.0
pass_all (refuses k false ∷ l) h = pass_all l h.1

fewer : (m n : ℕ) → n < m → T (not (leb m n))
fewer m n h = not_T (leb m n) (λ t. absurd (omega (arith, leb→le m n t, h)))

not_fourth : (a b c d : Bool) → T (not d) → T (not (a && b && c && d))
not_fourth true true true d h = h
not_fourth true true false d h = tt
not_fourth true false c d h = tt
not_fourth false b c d h = tt

pub accept_lawful : (l : Ledger) (c : Calls.Call) → refusal l c ≡ none → Lawful l → Lawful (accept l c).ledger
unfolding Steps.step Steps.decide
accept_lawful l c h w = subst (λ (o : Option ℕ). Lawful (Steps.decide o l c).ledger) h (Ledgers.step_lawful l c w)

-- ---- a queued message is not refused when it is handled

pub handled_free : (l : Ledger) (m : Message) (q : List Message) (r : List ℕ) → DeskLawful (desk_of l (m ∷ q) r) → refusal l (message_call m) ≡ none
unfolding refusal checks push_checks edit_checks
handled_free l (push kind start end fade_in fade_out curve source gain) q r w =
    let p = w.passed.0 in
    pass_all (push_checks l kind start end fade_in fade_out source gain)
    (p.0, (p.1.0, (p.1.1.0, (p.1.1.1.0, (fewer 256 (held l) (omega (arith, w.events)), (fewer (2 ^ 64) l.next (omega (arith, w.next)), tt))))))
handled_free l (edit kind k end fade_out) q r w =
    pass_all (edit_checks l kind k end fade_out) (
      w.passed.0.0,
      (
        not_fourth (not (has k l.sounding)) (not (edit_end kind l.clock end <ᶠ l.threshold)) (missing (edit_of k l.edits)) (leb 256 (length l.edits))
            (fewer 256 (length l.edits) (omega (arith, w.edits))),
        tt,
      ),
    )
handled_free l reset q r w = pass_all [] tt

abbrev same_ledger : (l : Ledger) → Kept l l
same_ledger l = record { channels = refl; mode = refl; rate = refl; duration = refl; clock = inl refl }

change-kept : (l : Ledger) (k : ℕ) (x : Edit) (a b : Bool) → Kept l (change l k x a b).ledger
unfolding change
change-kept l k x true b = record { channels = refl; mode = refl; rate = refl; duration = refl; clock = inl refl }
change-kept l k x false true = same_ledger l
change-kept l k x false false = record { channels = refl; mode = refl; rate = refl; duration = refl; clock = inl refl }

pub handled-kept : (l : Ledger) (m : Message) → Kept l (handled l m)
unfolding accept enter
handled-kept l (push kind start end fade_in fade_out curve source gain) = record { channels = refl; mode = refl; rate = refl; duration = refl; clock = inl refl }
handled-kept l (edit kind k end fade_out) =
    change-kept l k (record { end_time = edit_end kind l.clock end; fade_out = fade_out }) (has k l.sounding) (edit_end kind l.clock end <ᶠ l.threshold)
handled-kept l reset = same_ledger l

-- the duration and rate of a ledger that keeps them
keep_duration : (l m : Ledger) → Kept l m → l.duration ≡ oneᶠ ÷ᵈ l.rate → m.duration ≡ oneᶠ ÷ᵈ m.rate
keep_duration l m k h = k.duration ∙ h ∙ ap (λ (r : Float). oneᶠ ÷ᵈ r) (sym k.rate)

keep_slowest : (l m : Ledger) → Kept l m → T (oneᶠ ≤ᶠ l.rate) → T (oneᶠ ≤ᶠ m.rate)
keep_slowest l m k h = subst (λ (r : Float). T (oneᶠ ≤ᶠ r)) (sym k.rate) h

keep_fastest : (l m : Ledger) → Kept l m → T (l.rate ≤ᶠ whole 1_000_000) → T (m.rate ≤ᶠ whole 1_000_000)
keep_fastest l m k h = subst (λ (r : Float). T (r ≤ᶠ whole 1_000_000)) (sym k.rate) h

-- ---- how many are held and stored, once a message is handled

at_most_one : (b : Bool) → cond b 1 0 ≤ 1
at_most_one true = omega arith
at_most_one false = omega arith

change-holds : (l : Ledger) (k : ℕ) (x : Edit) (a b : Bool) → held (change l k x a b).ledger ≡ held l
unfolding change
change-holds l k x true b = omega (arith, event_sum_edit (λ y n. 1) k x l.sounding, event_sum_one (edit_in k x l.sounding), event_sum_one l.sounding)
change-holds l k x false true = refl
change-holds l k x false false = refl

change_stores : (l : Ledger) (k : ℕ) (x : Edit) (a b : Bool) → length (change l k x a b).ledger.edits ≤ suc (length l.edits)
unfolding change
change_stores l k x true b = omega arith
change_stores l k x false true = omega arith
change_stores l k x false false = omega (arith, store_length k x l.edits, at_most_one (missing (edit_of k l.edits)))

change-next : (l : Ledger) (k : ℕ) (x : Edit) (a b : Bool) → (change l k x a b).ledger.next ≡ l.next
unfolding change
change-next l k x true b = refl
change-next l k x false true = refl
change-next l k x false false = refl

pub handled-held : (l : Ledger) (m : Message) → held (handled l m) ≡ held l + pushes_in (m ∷ [])
unfolding accept
handled-held l (push kind start end fade_in fade_out curve source gain) =
    let e = new_event (pushed_time kind l.clock start) (pushed_time kind l.clock (stated_end kind start end)) fade_in fade_out curve source gain l.next in
    omega (arith, held_sum_enter (λ y n. 1) l e, held-is l, held-is (enter l e))
handled-held l (edit kind k end fade_out) =
    let h = change-holds l k (record { end_time = edit_end kind l.clock end; fade_out = fade_out }) (has k l.sounding) (edit_end kind l.clock end <ᶠ l.threshold) in
    omega (arith, h)
handled-held l reset = omega arith

pub handled-edits : (l : Ledger) (m : Message) → length (handled l m).edits ≤ length l.edits + edits_in (m ∷ [])
unfolding accept enter
handled-edits l (push kind start end fade_in fade_out curve source gain) = omega arith
handled-edits l (edit kind k end fade_out) =
    let h = change_stores l k (record { end_time = edit_end kind l.clock end; fade_out = fade_out }) (has k l.sounding) (edit_end kind l.clock end <ᶠ l.threshold) in
    omega (arith, h)
handled-edits l reset = omega arith

pub handled-next : (l : Ledger) (m : Message) → (handled l m).next ≡ l.next + pushes_in (m ∷ [])
unfolding accept enter
handled-next l (push kind start end fade_in fade_out curve source gain) = omega arith
handled-next l (edit kind k end fade_out) =
    let h = change-next l k (record { end_time = edit_end kind l.clock end; fade_out = fade_out }) (has k l.sounding) (edit_end kind l.clock end <ᶠ l.threshold) in
    omega (arith, h)
handled-next l reset = omega arith

pub pushes-first : (m : Message) (q : List Message) → pushes_in (m ∷ q) ≡ pushes_in (m ∷ []) + pushes_in q
pushes-first (push kind start end fade_in fade_out curve source gain) q = omega arith
pushes-first (edit kind k end fade_out) q = omega arith
pushes-first reset q = omega arith

pub edits-first : (m : Message) (q : List Message) → edits_in (m ∷ q) ≡ edits_in (m ∷ []) + edits_in q
edits-first (push kind start end fade_in fade_out curve source gain) q = omega arith
edits-first (edit kind k end fade_out) q = omega arith
edits-first reset q = omega arith

handled-back : (l : Ledger) (m : Message) → refusal l (message_call m) ≡ none → Lawful l → Lawful (handled l m)
handled-back l (push kind start end fade_in fade_out curve source gain) h w = accept_lawful l (Calls.push kind start end fade_in fade_out curve source gain) h w
handled-back l (edit kind k end fade_out) h w = accept_lawful l (Calls.edit kind k end fade_out) h w
handled-back l reset h w = w

-- ---- handling a message keeps the laws

pub handled_lawful : (l : Ledger) (m : Message) (q : List Message) (r : List ℕ) → DeskLawful (desk_of l (m ∷ q) r) → DeskLawful (desk_of (handled l m) q r)
handled_lawful l m q r w =
    let k = handled-kept l m in
    record {
      lawful = handled-back l m (handled_free l m q r w) w.lawful;
      events = omega (arith, handled-held l m, pushes-first m q, w.events);
      edits = omega (arith, handled-edits l m, edits-first m q, w.edits);
      next = omega (arith, handled-next l m, pushes-first m q, w.next);
      messages = omega (arith, w.messages);
      returns = w.returns;
      passed = w.passed.1;
      duration = keep_duration l (handled l m) k w.duration;
      slowest = keep_slowest l (handled l m) k w.slowest;
      fastest = keep_fastest l (handled l m) k w.fastest;
    }

-- ---- finished numbers go back, and a reset acts

billion_ahead : T (zeroᶠ ≤ᶠ whole 1_000_000_000)
unfolding le lt eq whole
billion_ahead = tt

finished_back : (m : ReplayMode) (d : Desk) → Lawful d.back → Lawful (send_finished m d).back
unfolding send_finished
finished_back All d w = w
finished_back None d w =
    let e = (send_finished None d).back in
    let g : (u : ℕ → ℕ) → four_sum u e ≡ four_sum u d.back = λ u. finished_sum u None d in
    let n = lengths d.back in
    let k = lengths e in
    record {
      sorted = w.sorted;
      on_time = w.on_time;
      events = omega (arith, w.events);
      edits = w.edits;
      one-edit = w.one-edit;
      positive = w.positive;
      next = w.next;
      single = λ k. omega (arith, g (is k), w.single k);
      not_yet = λ k h. omega (arith, g (is k), w.not_yet k h);
      fewer = omega (arith, g (λ x. 1), n, k, w.fewer);
      counted = omega (arith, g (λ x. 1), n, k, w.counted);
      no_nan = (w.no_nan.0, w.no_nan.1, λ x m. absurd (Memᴰ.not-nil m));
      clock = w.clock;
    }

restarted-back : (m : ReplayMode) (d : Desk) → d.back.mode ≡ m → Lawful d.back → Lawful (restarted m d).back
unfolding restarted accept refusal checks
restarted-back All d h w = subst (λ (m : ReplayMode). Lawful (restart d.back m)) h (accept_lawful d.back Calls.reset (pass_all [] tt) w)
restarted-back None d h w =
    let e = (restarted None d).back in
    let g : (u : ℕ → ℕ) → four_sum u e ≡ four_sum u d.back = λ u. restarted-sum u None d in
    let n = lengths d.back in
    let k = lengths e in
    record {
      sorted = tt;
      on_time = λ x m. absurd (Memᴰ.not-nil m);
      events = omega arith;
      edits = omega arith;
      one-edit = λ k. omega arith;
      positive = w.positive;
      next = w.next;
      single = λ k. omega (arith, g (is k), w.single k);
      not_yet = λ k h. omega (arith, g (is k), w.not_yet k h);
      fewer = omega (arith, g (λ x. 1), n, k, w.fewer);
      counted = omega (arith, g (λ x. 1), n, k, w.counted);
      no_nan = (λ x m. absurd (Memᴰ.not-nil m), λ x m. absurd (Memᴰ.not-nil m), λ x m. absurd (Memᴰ.not-nil m));
      clock = billion_ahead;
    }

-- what they keep
pub finished_kept : (m : ReplayMode) (d : Desk) → Kept d.back (send_finished m d).back
unfolding send_finished
finished_kept All d = same_ledger d.back
finished_kept None d = record { channels = refl; mode = refl; rate = refl; duration = refl; clock = inl refl }

pub restarted-kept : (m : ReplayMode) (d : Desk) → Kept d.back (restarted m d).back
unfolding restarted restart
restarted-kept All d = record { channels = refl; mode = refl; rate = refl; duration = refl; clock = inr refl }
restarted-kept None d = record { channels = refl; mode = refl; rate = refl; duration = refl; clock = inr refl }

-- no more are held or stored than before, and the queue is as it was
record Fewer (d e : Desk) : Type 0 where
  events : held e.back ≤ held d.back
  edits : length e.back.edits ≤ length d.back.edits
  next : e.back.next ≡ d.back.next
  queued : e.queued ≡ d.queued

finished_fewer : (m : ReplayMode) (d : Desk) → Fewer d (send_finished m d)
unfolding send_finished
finished_fewer All d = record { events = omega arith; edits = omega arith; next = refl; queued = refl }
finished_fewer None d = record { events = omega arith; edits = omega arith; next = refl; queued = refl }

all_held : (l : Ledger) → held (restart l All) ≡ held l
unfolding restart
all_held l =
    omega (arith, event_sum_rewound (λ y n. 1) (everything l), event_sum_everything (λ y n. 1) l, event_sum_one (map rewound (everything l)), held-is l)

restarted-fewer : (m : ReplayMode) (d : Desk) → Fewer d (restarted m d)
unfolding restarted restart
restarted-fewer All d = record { events = omega (arith, all_held d.back); edits = omega arith; next = refl; queued = refl }
restarted-fewer None d = record { events = omega arith; edits = omega arith; next = refl; queued = refl }

finished_returns : (m : ReplayMode) (d : Desk) → length d.returned ≤ 64 → length (send_finished m d).returned ≤ 64
unfolding send_finished
finished_returns All d h = h
finished_returns None d h = returned_few (d.returned ++ numbers (reverse d.back.finished))

restarted_returns : (m : ReplayMode) (d : Desk) → length d.returned ≤ 64 → length (restarted m d).returned ≤ 64
unfolding restarted
restarted_returns All d h = h
restarted_returns None d h = let l = d.back in returned_few (d.returned ++ numbers (reverse l.finished ++ (l.waiting ++ reverse l.sounding)))

keep_lawful : (d e : Desk) → Kept d.back e.back → Fewer d e → Lawful e.back → length e.returned ≤ 64 → DeskLawful d → DeskLawful e
keep_lawful d e k f l r w = record {
  lawful = l;
  events = omega (arith, f.events, ap pushes_in f.queued, w.events);
  edits = omega (arith, f.edits, ap edits_in f.queued, w.edits);
  next = omega (arith, f.next, ap pushes_in f.queued, w.next);
  messages = omega (arith, ap length f.queued, w.messages);
  returns = r;
  passed = subst Passed (sym f.queued) w.passed;
  duration = keep_duration d.back e.back k w.duration;
  slowest = keep_slowest d.back e.back k w.slowest;
  fastest = keep_fastest d.back e.back k w.fastest;
}

pub finished_lawful : (m : ReplayMode) (d : Desk) → DeskLawful d → DeskLawful (send_finished m d)
finished_lawful m d w = keep_lawful d (send_finished m d) (finished_kept m d) (finished_fewer m d) (finished_back m d w.lawful) (finished_returns m d w.returns) w

pub restarted_lawful : (d : Desk) → DeskLawful d → DeskLawful (reset_of d)
restarted_lawful d w =
    let m = d.back.mode in
    keep_lawful d (restarted m d) (restarted-kept m d) (restarted-fewer m d) (restarted-back m d refl w.lawful) (restarted_returns m d w.returns) w

-- ---- draining

kept_on : (l m n : Ledger) → Kept l m → Kept m n → Kept l n
kept_on l m n a b = record {
  channels = b.channels ∙ a.channels;
  mode = b.mode ∙ a.mode;
  rate = b.rate ∙ a.rate;
  duration = b.duration ∙ a.duration;
  clock = ⊎_elim (λ h. ⊎_elim (λ k. inl (h ∙ k)) (λ k. inr (h ∙ k)) a.clock) (λ h. inr h) b.clock;
}

pub drain_queued : (q : List Message) (d : Desk) → (drain q d).queued ≡ d.queued
unfolding drain
drain_queued [] d = refl
drain_queued (push kind start end fade_in fade_out curve source gain ∷ q) d = drain_queued q (with_back (handled d.back (push kind start end fade_in fade_out curve source gain)) d)
drain_queued (edit kind k end fade_out ∷ q) d = drain_queued q (with_back (handled d.back (edit kind k end fade_out)) d)
drain_queued (reset ∷ q) d = (restarted-fewer (drain q d).back.mode (drain q d)).queued ∙ drain_queued q d

pub drain_kept : (q : List Message) (d : Desk) → Kept d.back (drain q d).back
unfolding drain
drain_kept [] d = same_ledger d.back
drain_kept (push kind start end fade_in fade_out curve source gain ∷ q) d =
    let l = handled d.back (push kind start end fade_in fade_out curve source gain) in
    kept_on d.back l (drain q (with_back l d)).back (handled-kept d.back (push kind start end fade_in fade_out curve source gain)) (drain_kept q (with_back l d))
drain_kept (edit kind k end fade_out ∷ q) d =
    let l = handled d.back (edit kind k end fade_out) in
    kept_on d.back l (drain q (with_back l d)).back (handled-kept d.back (edit kind k end fade_out)) (drain_kept q (with_back l d))
drain_kept (reset ∷ q) d =
    let e = drain q d in
    kept_on d.back e.back (reset_of e).back (drain_kept q d) (restarted-kept e.back.mode e)

pub drain_lawful : (q : List Message) (l : Ledger) (r : List ℕ) → DeskLawful (desk_of l q r) → DeskLawful (drain q (desk_of l [] r))
unfolding drain
drain_lawful [] l r w = w
drain_lawful (push kind start end fade_in fade_out curve source gain ∷ q) l r w =
    let m = push kind start end fade_in fade_out curve source gain in
    drain_lawful q (handled l m) r (handled_lawful l m q r w)
drain_lawful (edit kind k end fade_out ∷ q) l r w =
    let m = edit kind k end fade_out in
    drain_lawful q (handled l m) r (handled_lawful l m q r w)
drain_lawful (reset ∷ q) l r w = restarted_lawful (drain q (desk_of l [] r)) (drain_lawful q l r (handled_lawful l reset q r w))

pub drained_lawful : (d : Desk) → DeskLawful d → DeskLawful (drained d)
drained_lawful d w = drain_lawful d.queued d.back d.returned w

pub drained-empty : (d : Desk) → (drained d).queued ≡ []
drained-empty d = drain_queued d.queued (desk_of d.back [] d.returned)

pub drained-kept : (d : Desk) → Kept d.back (drained d).back
drained-kept d = drain_kept d.queued (desk_of d.back [] d.returned)

-- ---- what was not refused before draining is not after it

pub not-not : (b : Bool) → T (not (not b)) → T b
not-not true h = tt
not-not false h = h

yes_not-not : (b : Bool) → T b → T (not (not b))
yes_not-not true h = tt
yes_not-not false h = h

tick_free : (l m : Ledger) → Kept l m → l.duration ≡ oneᶠ ÷ᵈ l.rate → T (oneᶠ ≤ᶠ l.rate) → T (l.rate ≤ᶠ whole 1_000_000)
    → T (tick_end l ≤ᶠ whole 1_000_000_000) → T (tick_end m ≤ᶠ whole 1_000_000_000)
unfolding tick_end
tick_free l m k u a b h =
    ⊎_elim
    (λ e. subst (λ (x : Float). T (x ≤ᶠ whole 1_000_000_000)) (sym (ap₂ (λ (x y : Float). x +ᵈ y) e k.duration)) h)
    (λ e. subst (λ (x : Float). T (x ≤ᶠ whole 1_000_000_000)) (sym (ap₂ (λ (x y : Float). x +ᵈ y) e (k.duration ∙ u))) (tick_within l.rate a b))
    k.clock

block_free : (l m : Ledger) (n : ℕ) → Kept l m → l.duration ≡ oneᶠ ÷ᵈ l.rate → T (oneᶠ ≤ᶠ l.rate) → T (l.rate ≤ᶠ whole 1_000_000) → n ≤ 64
    → T (block_end l n ≤ᶠ whole 1_000_000_000) → T (block_end m n ≤ᶠ whole 1_000_000_000)
unfolding block_end
block_free l m n k u a b p h =
    ⊎_elim
    (λ e. subst (λ (x : Float). T (x ≤ᶠ whole 1_000_000_000)) (sym (ap₂ (λ (x y : Float). x +ᵈ y ×ᵈ whole n) e k.duration)) h)
    (λ e. subst (λ (x : Float). T (x ≤ᶠ whole 1_000_000_000)) (sym (ap₂ (λ (x y : Float). x +ᵈ y ×ᵈ whole n) e (k.duration ∙ u))) (block_within l.rate n a b p))
    k.clock

kept_free : (l m : Ledger) (c : BackCall) → Kept l m → l.duration ≡ oneᶠ ÷ᵈ l.rate → T (oneᶠ ≤ᶠ l.rate) → T (l.rate ≤ᶠ whole 1_000_000)
    → AllPass (checks l (back_call c)) → AllPass (checks m (back_call c))
unfolding checks
kept_free l m (tick order pool out) k u a b h = (
  subst (λ (n : ℕ). T (not (not (eqb (length out) n)))) (sym k.channels) h.0,
  (yes_not-not (tick_end m ≤ᶠ whole 1_000_000_000) (tick_free l m k u a b (not-not (tick_end l ≤ᶠ whole 1_000_000_000) h.1.0)), tt),
)
kept_free l m (block order n pool out) k u a b h = (
  subst (λ (c : ℕ). T (not (not (eqb (length out) (64 * c) && true)))) (sym k.channels) h.0,
  (
    h.1.0,
    (yes_not-not (block_end m n ≤ᶠ whole 1_000_000_000) (block_free l m n k u a b (nltb→le 64 n h.1.0) (not-not (block_end l n ≤ᶠ whole 1_000_000_000) h.1.1.0)), tt),
  ),
)
kept_free l m (rate r) k u a b h = h
kept_free l m reset k u a b h = h

pub drained_free : (d : Desk) → DeskLawful d → (c : BackCall) → refusal d.back (back_call c) ≡ none → refusal (drained d).back (back_call c) ≡ none
unfolding refusal
drained_free d w c h =
    pass_all (checks (drained d).back (back_call c))
    (kept_free d.back (drained d).back c (drained-kept d) w.duration w.slowest w.fastest (all_pass (checks d.back (back_call c)) h))

-- After every list of calls from every creation, refused ones included: the accepted pushes are as many as W, S, F and G hold, each accepted number stands there exactly once, no other number does, and the numbers are first, first + 1, .. Assumes nothing.
use Rattle.std.specs.Prelude.{ℕ, zero, suc, ◌+◌, ◌≤◌, ◌<◌, ◌≡◌, refl, Bool, true, false, ◌&&◌, ◌||◌, cond, List, [], ◌∷◌, ◌++◌, T, leb, eqb, length, Float}
use Rattle.std.proofs.Common.{sym, ap, subst, arith, eqb→eq}
use Rattle.std.proofs.Math.Option.{Option, none, some}
use Rattle.std.specs.Float.Ieee.{eq}
use Rattle.event.specs.declared.Edit.{Edit}
use Rattle.event.specs.declared.ReplayMode.{ReplayMode}
use Rattle.event.specs.declared.ReplayMode.TheVariants.{All, None}
use Rattle.floats.specs.Arithmetic.{◌<ᶠ◌}
use Rattle.ledger.specs.Calls.{Call, push, edit, tick, block, rate, reset}
use Rattle.ledger.specs.Steps.{Outcome, accept, decide, step, run, change, set_rate, restart, enter, advance}
use Rattle.ledger.specs.Refusals.{refusal, edit_end}
use Rattle.ledger.specs.Ledger.{Ledger, create, fresh}
use Rattle.ledger.specs.Lists.{has}
use Rattle.ledger.specs.Sums.{number_sum}
use Rattle.ledger.proofs.Sums.{number_sum_append, number_sum_one, event_sum_one}
use Rattle.ledger.specs.Conservation.{four_sum}
use Rattle.ledger.proofs.Conservation.{refused_none, step-adds}
use Rattle.ledger.specs.Numbers.{up_from}
use Rattle.ledger.specs.Claim.{accepted_of, accepted, times, among}
use Rattle.ledger.specs.Partition.{Numbered, is, Partition, same, issued}

pub four_sum_run : (u : ℕ → ℕ) (cs : List Call) (l : Ledger) → four_sum u (run cs l).ledger ≡ four_sum u l + number_sum u (accepted (run cs l).replies)
unfolding run
four_sum_run u [] l = omega arith
four_sum_run u (c ∷ cs) l =
    let a = step l c in
    omega (arith, four_sum_run u cs a.ledger, step-adds u l c, number_sum_append u (accepted_of a.reply.answer) (accepted (run cs a.ledger).replies))

change-numbered : (l : Ledger) (k : ℕ) (d : Edit) (a b : Bool) → Numbered l (change l k d a b)
unfolding change
change-numbered l k d true b = same refl refl
change-numbered l k d false true = same refl refl
change-numbered l k d false false = same refl refl

set_rate-next : (l : Ledger) (r : Float) (b : Bool) → (set_rate l r b).next ≡ l.next
unfolding set_rate
set_rate-next l r true = refl
set_rate-next l r false = refl

restart-next : (l : Ledger) (m : ReplayMode) → (restart l m).next ≡ l.next
unfolding restart
restart-next l All = refl
restart-next l None = refl

accept-numbered : (l : Ledger) (c : Call) → Numbered l (accept l c)
unfolding accept enter advance
accept-numbered l (push kind start end fade_in fade_out curve source gain) = issued refl refl
accept-numbered l (edit kind k end fade_out) =
    change-numbered l k (record { end_time = edit_end kind l.clock end; fade_out = fade_out }) (has k l.sounding) (edit_end kind l.clock end <ᶠ l.threshold)
accept-numbered l (tick order pool out) = same refl refl
accept-numbered l (block order n pool out scratch) = same refl refl
accept-numbered l (rate r) = same refl (set_rate-next l r (eq l.rate r))
accept-numbered l reset = same refl (restart-next l l.mode)

decide-numbered : (o : Option ℕ) (l : Ledger) (c : Call) → Numbered l (decide o l c)
unfolding decide
decide-numbered (some k) l c = same (refused_none c k) refl
decide-numbered none l c = accept-numbered l c

pub step-numbered : (l : Ledger) (c : Call) → Numbered l (step l c)
unfolding step
step-numbered l c = decide-numbered (refusal l c) l c

pub run_up : (cs : List Call) (l : Ledger) → accepted (run cs l).replies ≡ up_from l.next (length (accepted (run cs l).replies))
unfolding run
run_up [] l = refl
run_up (c ∷ cs) l = go (step l c) (step-numbered l c) (run_up cs (step l c).ledger)
  where
    go : (o : Outcome) → Numbered l o → accepted (run cs o.ledger).replies ≡ up_from o.ledger.next (length (accepted (run cs o.ledger).replies))
        → accepted_of o.reply.answer ++ accepted (run cs o.ledger).replies ≡ up_from l.next (length (accepted_of o.reply.answer ++ accepted (run cs o.ledger).replies))
    go o (same h n) r = rw (h, ← n) r
    go o (issued h n) r = rw h (ap (λ m. l.next ∷ m) (rw (← n) r))

count_below : (k a n : ℕ) → k < a → times k (up_from a n) ≡ 0
count_below k a zero h = refl
count_below k a (suc n) h = go (eqb a k) refl (count_below k (suc a) n (omega arith))
  where
    go : (b : Bool) → eqb a k ≡ b → times k (up_from (suc a) n) ≡ 0 → cond b 1 0 + times k (up_from (suc a) n) ≡ 0
    go true e r = absurd (omega (arith, eqb→eq a k (subst T (sym e) tt)))
    go false e r = omega arith

pub count_up : (k a n : ℕ) → times k (up_from a n) ≤ 1
count_up k a zero = omega arith
count_up k a (suc n) = go (eqb a k) refl (count_up k (suc a) n)
  where
    go : (b : Bool) → eqb a k ≡ b → times k (up_from (suc a) n) ≤ 1 → cond b 1 0 + times k (up_from (suc a) n) ≤ 1
    go true e r = omega (arith, count_below k (suc a) n (omega (arith, eqb→eq a k (subst T (sym e) tt))))
    go false e r = omega arith

pub times-is : (k : ℕ) (l : List ℕ) → times k l ≡ number_sum (is k) l
times-is k [] = refl
times-is k (n ∷ l) = ap (λ m. is k n + m) (times-is k l)

pub once_or_never : (k : ℕ) (l : List ℕ) → times k l ≤ 1 → times k l ≡ cond (among k l) 1 0
once_or_never k [] h = refl
once_or_never k (n ∷ l) h = go (eqb n k) h (once_or_never k l (omega arith))
  where
    go : (b : Bool) → cond b 1 0 + times k l ≤ 1 → times k l ≡ cond (among k l) 1 0 → cond b 1 0 + times k l ≡ cond (b || among k l) 1 0
    go true h r = omega arith
    go false h r = omega (arith, r)

pub create-empty : (u : ℕ → ℕ) (channels : ℕ) (mode : ReplayMode) (first : ℕ) → four_sum u (create channels mode first).ledger ≡ 0
unfolding create fresh
create-empty u channels mode first = go (leb 1 channels && leb channels 8 && leb 1 first) refl
  where
    go : (b : Bool) → (leb 1 channels && leb channels 8 && leb 1 first) ≡ b → four_sum u (create channels mode first).ledger ≡ 0
    go true h = rw (h, create) refl
    go false h = rw (h, create) refl

run-partition : (cs : List Call) (l : Ledger) → ((u : ℕ → ℕ) → four_sum u l ≡ 0) → Partition l.next (run cs l).ledger (accepted (run cs l).replies)
run-partition cs l h = record {
  as_many = omega (
    arith,
    four_sum_run (λ n. 1) cs l,
    h (λ n. 1),
    number_sum_one (accepted (run cs l).replies),
    number_sum_one (run cs l).ledger.gone,
    event_sum_one (run cs l).ledger.waiting,
    event_sum_one (run cs l).ledger.sounding,
    event_sum_one (run cs l).ledger.finished,
  );
  once = λ k.
      let n = accepted (run cs l).replies in
      let m : times k n ≤ 1 = subst (λ n. times k n ≤ 1) (sym (run_up cs l)) (count_up k l.next (length n)) in
      omega (arith, four_sum_run (is k) cs l, h (is k), times-is k n, once_or_never k n m);
  in_order = run_up cs l;
}

pub partition : (channels : ℕ) (mode : ReplayMode) (first : ℕ) (cs : List Call)
    → Partition (create channels mode first).ledger.next (run cs (create channels mode first).ledger).ledger (accepted (run cs (create channels mode first).ledger).replies)
partition channels mode first cs = run-partition cs (create channels mode first).ledger (λ u. create-empty u channels mode first)

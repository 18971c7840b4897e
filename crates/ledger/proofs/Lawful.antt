-- The laws of the ledger: they hold at every creation, every call keeps them, and so they hold after every list of calls, refused ones included. Assumes nothing.
use Rattle.std.specs.Prelude.{ℕ, ◌+◌, ◌^◌, ◌≤◌, ◌<◌, ◌≡◌, refl, Bool, true, false, ◌&&◌, cond, ◌⊎◌, T, leb, eqb, length}
use Rattle.std.proofs.Common.{sym, ap, subst, inl, inr, ⊎_elim, arith, eqb→eq, leb→le}
use mathlib.Core.List.{List, [], ◌∷◌}
use Rattle.std.specs.Float.Ieee.{lt, is_nan}
use Rattle.event.specs.declared.Event.{Event}
use Rattle.event.specs.declared.ReplayMode.{ReplayMode}
use Rattle.ledger.specs.Calls.{Call}
use Rattle.ledger.specs.Steps.{Outcome, step, run}
use Rattle.ledger.specs.Ledger.{Ledger, held, create, fresh}
use Rattle.ledger.specs.Sums.{event_sum, number_sum}
use Rattle.ledger.proofs.Sums.{event_sum_one, number_sum_one, weight_in, weightless}
use Rattle.ledger.specs.Conservation.{four_sum}
use Rattle.ledger.proofs.Conservation.{step-adds}
use Rattle.ledger.specs.Claim.{accepted_of}
use Rattle.ledger.specs.Partition.{is, Numbered, same, issued}
use Rattle.ledger.proofs.Partition.{step-numbered, create-empty}
use Rattle.ledger.specs.Sorted.{early, nan_start}
use Rattle.ledger.proofs.Sorted.{weakly_sorted, sorted_of, one_if_no, no_one_if}
use Rattle.ledger.specs.OrderKept.{InOrder}
use Rattle.ledger.proofs.OrderKept.{step_order, create_order}
use Rattle.ledger.specs.Limits.{Limits}
use Rattle.ledger.proofs.Limits.{step-limits, create-limits}
use Rattle.ledger.specs.Lawful.{NoNanStart, Lawful, one, Counts}

pub lengths : (l : Ledger) → four_sum one l ≡ length l.gone + held l
lengths l = omega (arith, event_sum_one l.waiting, event_sum_one l.sounding, event_sum_one l.finished, number_sum_one l.gone)

-- the next number weighs 1 at itself, 0 elsewhere
is-cases : (k n : ℕ) → (is k n ≤ 1) × (n < k → is k n ≡ 0) × (is k n ≡ 0 ⊎ n ≡ k)
is-cases k n = go (eqb n k) refl
  where
    go : (b : Bool) → eqb n k ≡ b → (cond b 1 0 ≤ 1) × (n < k → ◌≡◌ {A = ℕ} (cond b 1 0) 0) × (◌≡◌ {A = ℕ} (cond b 1 0) 0 ⊎ n ≡ k)
    go true h = let q : n ≡ k = eqb→eq n k (subst T (sym h) tt) in (omega arith, λ p. absurd (omega arith), inr q)
    go false h = (omega arith, λ p. refl, inl refl)

counts_step : (l : Ledger) (o : Outcome) → ((u : ℕ → ℕ) → four_sum u o.ledger ≡ four_sum u l + number_sum u (accepted_of o.reply.answer)) → Numbered l o → Counts l → Counts o.ledger
counts_step l o t (same a n) c =
    let g : (u : ℕ → ℕ) → four_sum u o.ledger ≡ four_sum u l = λ u. omega (arith, t u, ap (number_sum u) a) in
    record {
      positive = omega (arith, n, c.positive);
      single = λ k. omega (arith, g (is k), c.single k);
      not_yet = λ k h. omega (arith, g (is k), c.not_yet k (omega (arith, n, h)));
      fewer = omega (arith, g one, c.fewer, n);
    }
counts_step l o t (issued a n) c =
    let g : (u : ℕ → ℕ) → four_sum u o.ledger ≡ four_sum u l + u l.next = λ u. omega (arith, t u, ap (number_sum u) a) in
    record {
      positive = omega (arith, n);
      single = λ k. ⊎_elim
          (λ z. omega (arith, g (is k), z, c.single k))
          (λ z. omega (arith, g (is k), (is-cases k l.next).0, c.not_yet k (omega (arith, z))))
          (is-cases k l.next).2;
      not_yet = λ k h. omega (arith, g (is k), (is-cases k l.next).1 (omega (arith, n, h)), c.not_yet k (omega (arith, n, h)));
      fewer = omega (arith, g one, c.fewer, n);
    }

-- ---- all of it

no_nan_of : (l : List Event) → event_sum nan_start l ≡ 0 → NoNanStart l
no_nan_of l h e m = no_one_if (is_nan e.start_time) (omega (arith, weight_in nan_start e l m, h))

nan_sum : (l : List Event) → NoNanStart l → event_sum nan_start l ≡ 0
nan_sum l h = weightless nan_start l (λ e m. one_if_no (is_nan e.start_time) (h e m))

lawful_of : (l : Ledger) → InOrder l → Limits l → Counts l → Lawful l
lawful_of l g b c = record {
  sorted = sorted_of l.waiting (λ k. omega (arith, c.single k)) g.sorted;
  on_time = λ e m. no_one_if (lt e.start_time l.threshold) (omega (arith, weight_in (early l.threshold) e l.waiting m, g.on_time));
  no_nan = (no_nan_of l.waiting (omega (arith, g.no_nan)), no_nan_of l.sounding (omega (arith, g.no_nan)), no_nan_of l.finished (omega (arith, g.no_nan)));
  clock = g.clocked;
  events = omega (arith, b.events, event_sum_one l.waiting, event_sum_one l.sounding, event_sum_one l.finished);
  edits = b.edits;
  one-edit = b.once;
  next = b.next;
  positive = c.positive;
  single = c.single;
  not_yet = c.not_yet;
  fewer = omega (arith, c.fewer, lengths l);
  counted = omega (arith, c.fewer, lengths l, b.next);
}

order_of_lem : (l : Ledger) → Lawful l → InOrder l
order_of_lem l w = record {
  sorted = weakly_sorted l.waiting w.sorted;
  on_time = weightless (early l.threshold) l.waiting (λ e m. one_if_no (lt e.start_time l.threshold) (w.on_time e m));
  no_nan = omega (arith, nan_sum l.waiting w.no_nan.0, nan_sum l.sounding w.no_nan.1, nan_sum l.finished w.no_nan.2);
  clocked = w.clock;
}

limits_of : (l : Ledger) → Lawful l → Limits l
limits_of l w = record {
  events = omega (arith, w.events, event_sum_one l.waiting, event_sum_one l.sounding, event_sum_one l.finished);
  edits = w.edits;
  once = w.one-edit;
  next = w.next;
}

counts_of : (l : Ledger) → Lawful l → Counts l
counts_of l w = record { positive = w.positive; single = w.single; not_yet = w.not_yet; fewer = omega (arith, w.fewer, lengths l) }

pub step_lawful : (l : Ledger) (c : Call) → Lawful l → Lawful (step l c).ledger
step_lawful l c w =
    lawful_of (step l c).ledger (step_order l c (order_of_lem l w)) (step-limits l c (limits_of l w))
    (counts_step l (step l c) (λ u. step-adds u l c) (step-numbered l c) (counts_of l w))

create-next : (channels : ℕ) (mode : ReplayMode) (first : ℕ) → first ≤ 2 ^ 64 → (0 < (create channels mode first).ledger.next) × ((create channels mode first).ledger.next ≤ 2 ^ 64)
unfolding create fresh
create-next channels mode first p = go (leb 1 channels && leb channels 8 && leb 1 first) refl
  where
    last : (a b c : Bool) → (a && b && c) ≡ true → T c
    last true true true h = tt
    last true true false h = absurd (let z : ◌≡◌ {A = ℕ} 0 1 = ap (λ (t : Bool). cond t 1 0) h in omega arith)
    last true false c h = absurd (let z : ◌≡◌ {A = ℕ} 0 1 = ap (λ (t : Bool). cond t 1 0) h in omega arith)
    last false b c h = absurd (let z : ◌≡◌ {A = ℕ} 0 1 = ap (λ (t : Bool). cond t 1 0) h in omega arith)

    go : (b : Bool) → (leb 1 channels && leb channels 8 && leb 1 first) ≡ b → (0 < (create channels mode first).ledger.next) × ((create channels mode first).ledger.next ≤ 2 ^ 64)
    go true h = rw (h, create) (omega (arith, leb→le 1 first (last (leb 1 channels) (leb channels 8) (leb 1 first) h)), p)
    go false h = rw (h, create) (omega arith, omega arith)

pub create_lawful : (channels : ℕ) (mode : ReplayMode) (first : ℕ) → first ≤ 2 ^ 64 → Lawful (create channels mode first).ledger
create_lawful channels mode first p =
    let l = (create channels mode first).ledger in
    let n = create-next channels mode first p in
    let e : (u : ℕ → ℕ) → four_sum u l ≡ 0 = λ u. create-empty u channels mode first in
    lawful_of l (create_order channels mode first) (create-limits channels mode first n.1)
    (record { positive = n.0; single = λ k. omega (arith, e (is k)); not_yet = λ k h. e (is k); fewer = omega (arith, e one, n.0) })

pub run_lawful : (cs : List Call) (l : Ledger) → Lawful l → Lawful (run cs l).ledger
unfolding run
run_lawful [] l w = w
run_lawful (c ∷ cs) l w = run_lawful cs (step l c).ledger (step_lawful l c w)

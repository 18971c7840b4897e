-- Each call keeps W's order, the threshold's and the clock's laws. Assumes nothing.
use Rattle.std.specs.Prelude.{ℕ, ◌≡◌, refl, Bool, true, false, not, ◌&&◌, [], map, T, leb, Float}
use Rattle.std.proofs.Math.Option.{Option, none, some}
use Rattle.std.proofs.Common.{arith}
use Rattle.std.specs.Float.Ieee.{lt, le, eq, is_nan}
use Rattle.std.specs.Float.Ieee.Bits.{is_false}
use Rattle.event.specs.declared.Event.{Event}
use Rattle.event.specs.declared.Edit.{Edit}
use Rattle.event.specs.declared.ReplayMode.{ReplayMode}
use Rattle.event.specs.declared.ReplayMode.TheVariants.{All, None}
use Rattle.floats.specs.Arithmetic.{◌-ᵈ◌, ◌×ᵈ◌, ◌<ᶠ◌, ◌≤ᶠ◌, zeroᶠ, halfᶠ, whole}
use Rattle.ledger.specs.Calls.{Call, push, edit, tick, block, rate, reset}
use Rattle.ledger.specs.Refusals.{checks, push_checks, edit_checks, refusal, tick_end, block_end, stated_end, within, within_end, edit_end}
use Rattle.event.specs.Events.{new_event, rewound}
use Rattle.ledger.specs.Lists.{insert_all, has}
use Rattle.ledger.specs.Steps.{enter, accept, decide, step, change, set_rate, restart, everything, advance, pushed_time, span_of, cleared}
use Rattle.ledger.specs.Ledger.{Ledger, create, fresh}
use Rattle.ledger.specs.Sums.{event_sum}
use Rattle.ledger.proofs.Sums.{event_sum_insert, event_sum_rewound, event_sum_edit, event_sum_tick, event_sum_block}
use Rattle.ledger.proofs.Conservation.{held_sum_enter, held_sum_advance, event_sum_stays, event_sum_everything}
use Rattle.ledger.specs.Sorted.{WeaklySorted, early, nan_start}
use Rattle.ledger.proofs.Sorted.{weakly_sorted-insert, weakly_sorted-insert_all, weakly_sorted-rewound, one_if_no, start_sorted, early-nothing}
use Rattle.ledger.specs.NotNan.{billion}
use Rattle.ledger.proofs.NotNan.{le-not_nan, pushed_time-not_nan}
use Rattle.ledger.specs.Refused.{AllPass}
use Rattle.ledger.proofs.Refused.{all_pass}
use Rattle.ledger.specs.OrderKept.{InOrder}

not-not : (b : Bool) → T (not (not b)) → T b
not-not true h = tt
not-not false h = h

first_of_four : (a b c d : Bool) → T (a && b && c && d) → T a
first_of_four true b c d h = tt
first_of_four false b c d h = h

-- ---- each call

enter_order : (l : Ledger) (e : Event) → T (not (is_nan e.start_time)) → InOrder l → InOrder (enter l e)
unfolding enter
enter_order l e n g = record {
  sorted = go (lt e.start_time l.threshold) refl;
  on_time = none-early (lt e.start_time l.threshold) refl;
  no_nan = omega (arith, held_sum_enter nan_start l e, g.no_nan, one_if_no (is_nan e.start_time) (is_false (is_nan e.start_time) n));
  clocked = g.clocked;
}
  where
    go : (b : Bool) → lt e.start_time l.threshold ≡ b → WeaklySorted (enter l e).waiting
    go true h = rw (h, enter) g.sorted
    go false h = rw (h, enter) (weakly_sorted-insert e l.waiting g.sorted)

    none-early : (b : Bool) → lt e.start_time l.threshold ≡ b → event_sum (early l.threshold) (enter l e).waiting ≡ 0
    none-early true h = rw (h, enter) g.on_time
    none-early false h = rw (h, enter) (omega (arith, event_sum_insert (early l.threshold) e l.waiting, g.on_time, one_if_no (lt e.start_time l.threshold) h))

change_order : (l : Ledger) (k : ℕ) (d : Edit) (a b : Bool) → InOrder l → InOrder (change l k d a b).ledger
unfolding change
change_order l k d true b g = record {
  sorted = g.sorted;
  on_time = g.on_time;
  no_nan = omega (arith, event_sum_edit nan_start k d l.sounding, g.no_nan);
  clocked = g.clocked;
}
change_order l k d false true g = g
change_order l k d false false g = record { sorted = g.sorted; on_time = g.on_time; no_nan = g.no_nan; clocked = g.clocked }

advance_order : (l : Ledger) (e : Float) → T (le e billion) → InOrder l → InOrder (advance l e)
unfolding advance
advance_order l e h g =
    let θ = e -ᵈ l.duration ×ᵈ halfᶠ in
    let w = start_sorted θ l.waiting l.sounding l.edits g.sorted (omega (arith, g.no_nan)) in
    record {
      sorted = w.0;
      on_time = w.1;
      clocked = h;
      no_nan = omega (arith, held_sum_advance nan_start l e, event_sum_stays nan_start l.mode l.finished, g.no_nan);
    }

set_rate_order : (l : Ledger) (r : Float) (b : Bool) → InOrder l → InOrder (set_rate l r b)
unfolding set_rate
set_rate_order l r true g = g
set_rate_order l r false g = record {
  sorted = weakly_sorted-insert_all l.sounding (insert_all l.finished l.waiting) (weakly_sorted-insert_all l.finished l.waiting g.sorted);
  on_time = early-nothing (everything l);
  no_nan = omega (arith, event_sum_everything nan_start l, g.no_nan);
  clocked = g.clocked;
}

restart_order : (l : Ledger) (m : ReplayMode) → InOrder l → InOrder (restart l m)
unfolding restart le lt eq whole
restart_order l All g = record {
  sorted = weakly_sorted-rewound (everything l) (weakly_sorted-insert_all l.sounding (insert_all l.finished l.waiting) (weakly_sorted-insert_all l.finished l.waiting g.sorted));
  on_time = early-nothing (map rewound (everything l));
  no_nan = omega (arith, event_sum_rewound nan_start (everything l), event_sum_everything nan_start l, g.no_nan);
  clocked = tt;
}
restart_order l None g = record { sorted = tt; on_time = refl; no_nan = refl; clocked = tt }

accept_order : (l : Ledger) (c : Call) → AllPass (checks l c) → InOrder l → InOrder (accept l c).ledger
unfolding accept checks push_checks edit_checks
accept_order l (push kind start end fade_in fade_out curve source gain) h g =
    enter_order l (new_event (pushed_time kind l.clock start) (pushed_time kind l.clock (stated_end kind start end)) fade_in fade_out curve source gain l.next)
    (pushed_time-not_nan kind l.clock start (le-not_nan l.clock billion g.clocked)
    (first_of_four (within start) (within_end end) (within fade_in) (within fade_out)
    (not-not (within start && within_end end && within fade_in && within fade_out) h.0)))
    g
accept_order l (edit kind k end fade_out) h g =
    change_order l k (record { end_time = edit_end kind l.clock end; fade_out = fade_out }) (has k l.sounding) (edit_end kind l.clock end <ᶠ l.threshold) g
accept_order l (tick order pool out) h g =
    let a = advance_order l (tick_end l) (not-not (tick_end l ≤ᶠ billion) h.1.0) g in
    let m = advance l (tick_end l) in
    record {
      sorted = a.sorted;
      on_time = a.on_time;
      clocked = a.clocked;
      no_nan = omega (arith, event_sum_tick nan_start pool l.clock m.sounding zeroᶠ, a.no_nan);
    }
accept_order l (block order n pool out scratch) h g =
    let a = advance_order l (block_end l n) (not-not (block_end l n ≤ᶠ billion) h.1.1.0) g in
    let m = advance l (block_end l n) in
    record {
      sorted = a.sorted;
      on_time = a.on_time;
      clocked = a.clocked;
      no_nan = omega (arith, event_sum_block nan_start pool (span_of l n) m.sounding (cleared n) [], a.no_nan);
    }
accept_order l (rate r) h g = set_rate_order l r (eq l.rate r) g
accept_order l reset h g = restart_order l l.mode g

pub step_order : (l : Ledger) (c : Call) → InOrder l → InOrder (step l c).ledger
unfolding step decide refusal
step_order l c g = go (refusal l c) refl
  where
    go : (o : Option ℕ) → refusal l c ≡ o → InOrder (decide o l c).ledger
    go (some k) h = g
    go none h = accept_order l c (all_pass (checks l c) h) g

pub create_order : (channels : ℕ) (mode : ReplayMode) (first : ℕ) → InOrder (create channels mode first).ledger
unfolding create le lt eq whole fresh
create_order channels mode first = go (leb 1 channels && leb channels 8 && leb 1 first) refl
  where
    go : (b : Bool) → (leb 1 channels && leb channels 8 && leb 1 first) ≡ b → InOrder (create channels mode first).ledger
    go true h = rw (h, create) (record { sorted = tt; on_time = refl; no_nan = refl; clocked = tt })
    go false h = rw (h, create) (record { sorted = tt; on_time = refl; no_nan = refl; clocked = tt })

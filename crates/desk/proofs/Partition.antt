-- After every list of calls from every creation, refused ones included: the accepted pushes are as many as the queue, W, S, F and G hold, each accepted number stands there exactly once, no other number does, and the numbers are first, first + 1, .. Assumes nothing.
use Prim.Native.Nat.{ℕ, zero, suc, ◌+◌, ◌≤◌}
use Rattle.std.specs.Prelude.{◌≡◌, refl, Bool, true, false, cond, length, Float}
use Rattle.std.proofs.Common.{sym, ap₂, ◌∙◌, subst, length-append}
use Rattle.std.proofs.Math.Path.{ap}
use mathlib.Core.List.{List, [], ◌∷◌, ◌++◌}
use Rattle.std.proofs.Math.Option.{Option, none, some}
use native.Mathlib.Omega.{arith}
use Rattle.std.specs.Float.Ieee.{eq}
use Rattle.event.specs.declared.Edit.{Edit}
use Rattle.event.specs.declared.Fade.{Fade}
use Rattle.event.specs.declared.Source.{Source}
use Rattle.event.specs.declared.ReplayMode.{ReplayMode}
use Rattle.event.specs.declared.ReplayMode.TheVariants.{All, None}
use Rattle.ledger.specs.Calls as Calls
use Rattle.floats.specs.Arithmetic.{◌<ᶠ◌}
use Rattle.ledger.specs.Lists.{numbers, has}
use Rattle.ledger.specs.Ledger.{Ledger, held, create}
use Rattle.ledger.specs.Refusals.{edit_end}
use Rattle.ledger.specs.Steps.{change, accept, advance, set_rate, restart}
use Rattle.ledger.specs.Numbers.{up_from}
use Rattle.ledger.specs.Claim as Plain
use Rattle.ledger.specs.Claim.{among, times}
use Rattle.ledger.specs.Sums.{number_sum}
use Rattle.ledger.proofs.Sums.{number_sum_append, number_sum_numbers, number_sum_one, event_sum_one}
use Rattle.ledger.specs.Conservation.{four_sum}
use Rattle.ledger.proofs.Conservation.{accept-adds}
use Rattle.ledger.proofs.Partition as Ledgers
use Rattle.ledger.specs.Partition.{is}
use Rattle.ledger.proofs.Partition.{times-is, count_up, once_or_never}
use Rattle.desk.specs.Desk.{Message, push, edit, reset, BackCall, tick, block, rate, Call, front, back, Desk, pushes_in, next_number, with_back, opened, send_finished, restarted, drain, drained, desk_refusal, Outcome, sends, acts, carried_out, decide, step, run}
use Rattle.desk.specs.Claim.{accepted_of, accepted}
use Rattle.desk.proofs.LetGo.{finished_sum, restarted-sum}
use Rattle.desk.specs.Lawful.{desk_of, handled}
use Rattle.desk.proofs.Lawful.{handled-next, drained-empty}
use Rattle.desk.proofs.LawfulCalls.{pushes-last}
use Rattle.desk.specs.Partition.{queued_numbers, DeskPartition}

-- ---- handling and draining keep the next number to be given

finished_next : (m : ReplayMode) (d : Desk) → (send_finished m d).back.next ≡ d.back.next
unfolding send_finished
finished_next All d = refl
finished_next None d = refl

finished_queued : (m : ReplayMode) (d : Desk) → (send_finished m d).queued ≡ d.queued
unfolding send_finished
finished_queued All d = refl
finished_queued None d = refl

restarted-next : (m : ReplayMode) (d : Desk) → (restarted m d).back.next ≡ d.back.next
unfolding restarted restart
restarted-next All d = refl
restarted-next None d = refl

restarted_queued : (m : ReplayMode) (d : Desk) → (restarted m d).queued ≡ d.queued
unfolding restarted
restarted_queued All d = refl
restarted_queued None d = refl

drain-next : (q : List Message) (d : Desk) → (drain q d).back.next ≡ d.back.next + pushes_in q
unfolding drain
drain-next [] d = omega arith
drain-next (push kind start end fade_in fade_out curve source gain ∷ q) d =
    let m = push kind start end fade_in fade_out curve source gain in
    let n : (handled d.back m).next ≡ d.back.next + 1 = handled-next d.back m in
    let r = drain-next q (with_back (handled d.back m) d) in
    omega (arith, n, r)
drain-next (edit kind k end fade_out ∷ q) d =
    let m = edit kind k end fade_out in
    let n : (handled d.back m).next ≡ d.back.next + 0 = handled-next d.back m in
    let r = drain-next q (with_back (handled d.back m) d) in
    omega (arith, n, r)
drain-next (reset ∷ q) d = omega (arith, restarted-next (drain q d).back.mode (drain q d), drain-next q d)

pub drained-next : (d : Desk) → (drained d).back.next ≡ next_number d
drained-next d = drain-next d.queued (desk_of d.back [] d.returned)

-- ---- the weight of the queued pushes, W, S, F and G, by number

up_from-last : (u : ℕ → ℕ) (a n : ℕ) → number_sum u (up_from a (suc n)) ≡ number_sum u (up_from a n) + u (a + n)
up_from-last u a zero = let z : a + 0 ≡ a = omega arith in rw z (omega arith)
up_from-last u a (suc n) = let z : a + suc n ≡ suc a + n = omega arith in rw z (omega (arith, up_from-last u (suc a) n))

change-answers : (l : Ledger) (k : ℕ) (x : Edit) (a b : Bool) → Plain.accepted_of (change l k x a b).reply.answer ≡ []
unfolding change
change-answers l k x true b = refl
change-answers l k x false true = refl
change-answers l k x false false = refl

module _ (u : ℕ → ℕ) where
  abbrev pub desk_sum : Desk → ℕ
  desk_sum d = four_sum u d.back + number_sum u (queued_numbers d)

  push-sum : (l : Ledger) (kind : Calls.PushKind) (start end fade_in fade_out : Float) (curve : Fade) (source : Source) (gain : Float)
      → four_sum u (accept l (Calls.push kind start end fade_in fade_out curve source gain)).ledger ≡ four_sum u l + u l.next
  unfolding accept
  push-sum l kind start end fade_in fade_out curve source gain = omega (arith, accept-adds u l (Calls.push kind start end fade_in fade_out curve source gain))

  edit-sum : (l : Ledger) (kind : Calls.EditKind) (k : ℕ) (end fade_out : Float) → four_sum u (accept l (Calls.edit kind k end fade_out)).ledger ≡ four_sum u l
  unfolding accept
  edit-sum l kind k end fade_out =
      let n = change-answers l k (record { end_time = edit_end kind l.clock end; fade_out = fade_out }) (has k l.sounding) (edit_end kind l.clock end <ᶠ l.threshold) in
      omega (arith, accept-adds u l (Calls.edit kind k end fade_out), ap (number_sum u) n)

  drain-sum : (q : List Message) (d : Desk) → four_sum u (drain q d).back ≡ four_sum u d.back + number_sum u (up_from d.back.next (pushes_in q))
  unfolding drain
  drain-sum [] d = omega arith
  drain-sum (push kind start end fade_in fade_out curve source gain ∷ q) d =
      let l = (accept d.back (Calls.push kind start end fade_in fade_out curve source gain)).ledger in
      let n : l.next ≡ suc d.back.next = omega (arith, handled-next d.back (push kind start end fade_in fade_out curve source gain)) in
      omega (
        arith,
        push-sum d.back kind start end fade_in fade_out curve source gain,
        drain-sum q (with_back l d),
        ap (λ (a : ℕ). number_sum u (up_from a (pushes_in q))) n,
      )
  drain-sum (edit kind k end fade_out ∷ q) d =
      let l = (accept d.back (Calls.edit kind k end fade_out)).ledger in
      let n : l.next ≡ d.back.next = omega (arith, handled-next d.back (edit kind k end fade_out)) in
      omega (
        arith,
        edit-sum d.back kind k end fade_out,
        drain-sum q (with_back l d),
        ap (λ (a : ℕ). number_sum u (up_from a (pushes_in q))) n,
      )
  drain-sum (reset ∷ q) d = omega (arith, restarted-sum u (drain q d).back.mode (drain q d), drain-sum q d)

  drained-sum : (d : Desk) → four_sum u (drained d).back ≡ desk_sum d
  drained-sum d = drain-sum d.queued (desk_of d.back [] d.returned)

  acts-sum : (d : Desk) (c : BackCall) → four_sum u (acts d c).desk.back ≡ four_sum u d.back
  unfolding acts accept
  acts-sum d (tick order pool out) =
      let c = Calls.tick order pool out in
      omega (arith, finished_sum u d.back.mode (with_back (accept d.back c).ledger d), accept-adds u d.back c)
  acts-sum d (block order n pool out) =
      let c = Calls.block order n pool out none in
      omega (arith, finished_sum u d.back.mode (with_back (accept d.back c).ledger d), accept-adds u d.back c)
  acts-sum d (rate r) = omega (arith, accept-adds u d.back (Calls.rate r))
  acts-sum d reset = restarted-sum u d.back.mode d

-- ---- a back call answers no number, keeps the next one and leaves the queue as it is

record Quiet (d : Desk) (o : Outcome) : Type 0 where
  answered : accepted_of o.reply.answer ≡ []
  next : o.desk.back.next ≡ d.back.next
  queued : o.desk.queued ≡ d.queued

set_rate-next : (l : Ledger) (r : Float) (b : Bool) → (set_rate l r b).next ≡ l.next
unfolding set_rate
set_rate-next l r true = refl
set_rate-next l r false = refl

acts_quiet : (d : Desk) (c : BackCall) → Quiet d (acts d c)
unfolding acts accept advance
acts_quiet d (tick order pool out) =
    let e = with_back (accept d.back (Calls.tick order pool out)).ledger d in
    record { answered = refl; next = finished_next d.back.mode e; queued = finished_queued d.back.mode e }
acts_quiet d (block order n pool out) =
    let e = with_back (accept d.back (Calls.block order n pool out none)).ledger d in
    record { answered = refl; next = finished_next d.back.mode e; queued = finished_queued d.back.mode e }
acts_quiet d (rate r) = record { answered = refl; next = set_rate-next d.back r (eq d.back.rate r); queued = refl }
acts_quiet d reset = record { answered = refl; next = restarted-next d.back.mode d; queued = restarted_queued d.back.mode d }

-- ---- each call

record Adds (d : Desk) (o : Outcome) : Type 0 where
  weighs : (u : ℕ → ℕ) → desk_sum u o.desk ≡ desk_sum u d + number_sum u (accepted_of o.reply.answer)
  counts : next_number o.desk ≡ next_number d + length (accepted_of o.reply.answer)
  in_order : accepted_of o.reply.answer ≡ up_from (next_number d) (length (accepted_of o.reply.answer))

sends-adds : (d : Desk) (m : Message) → Adds d (sends d m)
unfolding sends
sends-adds d (push kind start end fade_in fade_out curve source gain) =
    let m = push kind start end fade_in fade_out curve source gain in
    let n : pushes_in (d.queued ++ (m ∷ [])) ≡ suc (pushes_in d.queued) = omega (arith, pushes-last d.queued m) in
    record {
      weighs = λ u. omega (arith, ap (λ (k : ℕ). number_sum u (up_from d.back.next k)) n, up_from-last u d.back.next (pushes_in d.queued));
      counts = omega (arith, n);
      in_order = refl;
    }
sends-adds d (edit kind k end fade_out) =
    let m = edit kind k end fade_out in
    let n : pushes_in (d.queued ++ (m ∷ [])) ≡ pushes_in d.queued = omega (arith, pushes-last d.queued m) in
    record {
      weighs = λ u. omega (arith, ap (λ (k : ℕ). number_sum u (up_from d.back.next k)) n);
      counts = omega (arith, n);
      in_order = refl;
    }
sends-adds d reset =
    let n : pushes_in (d.queued ++ (reset ∷ [])) ≡ pushes_in d.queued = omega (arith, pushes-last d.queued reset) in
    record {
      weighs = λ u. omega (arith, ap (λ (k : ℕ). number_sum u (up_from d.back.next k)) n);
      counts = omega (arith, n);
      in_order = refl;
    }

back-adds : (d : Desk) (c : BackCall) → Adds d (acts (drained d) c)
back-adds d c =
    let o = acts (drained d) c in
    let t = acts_quiet (drained d) c in
    let q : o.desk.queued ≡ [] = t.queued ∙ drained-empty d in
    record {
      weighs = λ u. omega (
        arith,
        acts-sum u (drained d) c,
        drained-sum u d,
        ap (number_sum u) t.answered,
        ap (λ (q : List Message). number_sum u (up_from o.desk.back.next (pushes_in q))) q,
      );
      counts = omega (arith, t.next, drained-next d, ap pushes_in q, ap length t.answered);
      in_order = t.answered ∙ sym (ap (λ (l : List ℕ). up_from (next_number d) (length l)) t.answered);
    }

step-adds : (d : Desk) (c : Call) → Adds d (step d c)
unfolding step decide carried_out
step-adds d c = go (desk_refusal d c) c
  where
    go : (o : Option ℕ) (c : Call) → Adds d (decide o d c)
    go (some k) c = record { weighs = λ u. omega arith; counts = omega arith; in_order = refl }
    go none (front m) = sends-adds d m
    go none (back c) = back-adds d c

-- ---- every list of calls

pub desk_sum_run : (u : ℕ → ℕ) (cs : List Call) (d : Desk) → desk_sum u (run cs d).desk ≡ desk_sum u d + number_sum u (accepted (run cs d).replies)
unfolding run
desk_sum_run u [] d = omega arith
desk_sum_run u (c ∷ cs) d =
    let a = step d c in
    omega (arith, desk_sum_run u cs a.desk, (step-adds d c).weighs u, number_sum_append u (accepted_of a.reply.answer) (accepted (run cs a.desk).replies))

up_from-append : (a m n : ℕ) → up_from a m ++ up_from (a + m) n ≡ up_from a (m + n)
up_from-append a zero n = let z : a + 0 ≡ a = omega arith in let y : 0 + n ≡ n = omega arith in rw (z, y) refl
up_from-append a (suc m) n =
    let z : a + suc m ≡ suc a + m = omega arith in
    let y : suc m + n ≡ suc (m + n) = omega arith in
    rw (z, y) (ap (λ (l : List ℕ). a ∷ l) (up_from-append (suc a) m n))

pub run_up : (cs : List Call) (d : Desk) → accepted (run cs d).replies ≡ up_from (next_number d) (length (accepted (run cs d).replies))
unfolding run
run_up [] d = refl
run_up (c ∷ cs) d =
    let o = step d c in
    join (accepted_of o.reply.answer) (accepted (run cs o.desk).replies) (next_number d) (next_number o.desk) (step-adds d c).counts (step-adds d c).in_order (run_up cs o.desk)
  where
    join : (x y : List ℕ) (a b : ℕ) → b ≡ a + length x → x ≡ up_from a (length x) → y ≡ up_from b (length y) → x ++ y ≡ up_from a (length (x ++ y))
    join x y a b h p q =
        ap₂ (λ (x y : List ℕ). x ++ y) p (q ∙ ap (λ (n : ℕ). up_from n (length y)) h)
        ∙ up_from-append a (length x) (length y)
        ∙ ap (up_from a) (sym (length-append x y))

pub length-up_from : (a n : ℕ) → length (up_from a n) ≡ n
length-up_from a zero = refl
length-up_from a (suc n) = ap suc (length-up_from (suc a) n)

pub times-sum : (k : ℕ) (d : Desk)
    → times k (queued_numbers d ++ (numbers d.back.waiting ++ (numbers d.back.sounding ++ (numbers d.back.finished ++ d.back.gone)))) ≡ desk_sum (is k) d
times-sum k d = simp (times-is, number_sum_append, number_sum_numbers) (omega arith)

run-partition : (cs : List Call) (d : Desk) → ((u : ℕ → ℕ) → desk_sum u d ≡ 0) → DeskPartition (next_number d) (run cs d).desk (accepted (run cs d).replies)
run-partition cs d h =
    let e = (run cs d).desk in
    let n = accepted (run cs d).replies in
    record {
      as_many = omega (
        arith,
        desk_sum_run (λ n. 1) cs d,
        h (λ n. 1),
        number_sum_one n,
        number_sum_one e.back.gone,
        number_sum_one (queued_numbers e),
        length-up_from e.back.next (pushes_in e.queued),
        event_sum_one e.back.waiting,
        event_sum_one e.back.sounding,
        event_sum_one e.back.finished,
      );
      once = λ k.
          let m : times k n ≤ 1 = subst (λ n. times k n ≤ 1) (sym (run_up cs d)) (count_up k (next_number d) (length n)) in
          omega (arith, times-sum k e, desk_sum_run (is k) cs d, h (is k), times-is k n, once_or_never k n m);
      in_order = run_up cs d;
    }

pub desk-partition : (channels : ℕ) (mode : ReplayMode) (first : ℕ) (cs : List Call) → let d : Desk = opened (create channels mode first).ledger in
    DeskPartition (next_number d) (run cs d).desk (accepted (run cs d).replies)
desk-partition channels mode first cs =
    run-partition cs (opened (create channels mode first).ledger) (λ u. omega (arith, Ledgers.create-empty u channels mode first))

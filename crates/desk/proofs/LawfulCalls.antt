-- Every call keeps the laws of the desk, and a desk that is opened over any creation has them. Assumes nothing.
use Rattle.std.specs.Prelude.{ℕ, ◌+◌, ◌^◌, ◌≤◌, ◌<◌, ◌≡◌, refl, Bool, true, false, ◌&&◌, List, [], ◌∷◌, ◌++◌, T, leb, length, Float}
use Rattle.std.proofs.Common.{sym, ap, ◌∙◌, subst, arith, length-append}
use Rattle.std.proofs.Math.Option.{Option, none, some}
use Rattle.std.proofs.Math.Dec.{nleb→lt}
use Rattle.std.specs.Float.Ieee.{lt, le, eq, div}
use Rattle.event.specs.declared.ReplayMode.{ReplayMode}
use Rattle.floats.specs.Arithmetic.{◌÷ᵈ◌, ◌≤ᶠ◌, ◌≈ᶠ◌, oneᶠ, whole}
use Rattle.ledger.specs.Calls as Calls
use Rattle.ledger.specs.Ledger.{Ledger, held, create, fresh}
use Rattle.ledger.specs.Refusals.{first_of, refusal, checks}
use Rattle.ledger.specs.Steps.{advance, set_rate, accept}
use Rattle.ledger.specs.Refused.{AllPass}
use Rattle.ledger.proofs.Refused.{all_pass}
use Rattle.ledger.proofs.Lawful as Ledgers
use Rattle.ledger.specs.Lawful.{Lawful}
use Rattle.desk.specs.Desk.{Message, push, edit, reset, BackCall, tick, block, rate, Call, front, back, back_call, Desk, pushes_in, edits_in, next_number, with_back, opened, drained, front_checks, desk_refusal, sends, acts, carried_out, decide, step, run}
use Rattle.desk.specs.Lawful.{own_checks, Passed, DeskLawful, desk_of}
use Rattle.desk.proofs.Lawful.{not-not, accept_lawful, pushes-first, edits-first, finished_lawful, restarted_lawful, drained_lawful, drained-empty, drained_free}

-- ---- a desk with an empty queue

pub empty_lawful : (l : Ledger) (q : List Message) (r : List ℕ) → q ≡ [] → Lawful l → length r ≤ 64
    → l.duration ≡ oneᶠ ÷ᵈ l.rate → T (oneᶠ ≤ᶠ l.rate) → T (l.rate ≤ᶠ whole 1_000_000) → DeskLawful (desk_of l q r)
empty_lawful l q r e w n u a b = subst (λ (q : List Message). DeskLawful (desk_of l q r)) (sym e) (record {
  lawful = w;
  events = omega (arith, w.events);
  edits = omega (arith, w.edits);
  next = omega (arith, w.next);
  messages = omega arith;
  returns = n;
  passed = tt;
  duration = u;
  slowest = a;
  fastest = b;
})

fresh-rate : T (oneᶠ ≤ᶠ whole 44_100) × T (whole 44_100 ≤ᶠ whole 1_000_000)
unfolding le lt eq whole
fresh-rate = (tt, tt)

create-rate : (channels : ℕ) (mode : ReplayMode) (first : ℕ) → (create channels mode first).ledger.rate ≡ whole 44_100
unfolding create whole fresh
create-rate channels mode first = go (leb 1 channels && leb channels 8 && leb 1 first) refl
  where
    go : (b : Bool) → (leb 1 channels && leb channels 8 && leb 1 first) ≡ b → (create channels mode first).ledger.rate ≡ whole 44_100
    go true h = rw (h, create) refl
    go false h = rw (h, create) refl

create_duration : (channels : ℕ) (mode : ReplayMode) (first : ℕ) → (create channels mode first).ledger.duration ≡ oneᶠ ÷ᵈ whole 44_100
unfolding create div fresh
create_duration channels mode first = go (leb 1 channels && leb channels 8 && leb 1 first) refl
  where
    go : (b : Bool) → (leb 1 channels && leb channels 8 && leb 1 first) ≡ b → (create channels mode first).ledger.duration ≡ oneᶠ ÷ᵈ whole 44_100
    go true h = rw (h, create) refl
    go false h = rw (h, create) refl

pub opened_lawful : (channels : ℕ) (mode : ReplayMode) (first : ℕ) → first ≤ 2 ^ 64 → DeskLawful (opened (create channels mode first).ledger)
opened_lawful channels mode first p =
    let l = (create channels mode first).ledger in
    let r = create-rate channels mode first in
    empty_lawful l [] [] refl (Ledgers.create_lawful channels mode first p) (omega arith)
    (create_duration channels mode first ∙ ap (λ (x : Float). oneᶠ ÷ᵈ x) (sym r))
    (subst (λ (x : Float). T (oneᶠ ≤ᶠ x)) (sym r) fresh-rate.0)
    (subst (λ (x : Float). T (x ≤ᶠ whole 1_000_000)) (sym r) fresh-rate.1)

-- ---- the back, once the queue is empty

both : (a b : Bool) → T (a && b) → T a × T b
both true true h = (tt, tt)
both true false h = absurd h
both false b h = absurd h

set_rate_lawful : (l : Ledger) (x : Float) (b : Bool) (q : List Message) (r : List ℕ) → q ≡ [] → Lawful (set_rate l x b) → length r ≤ 64
    → l.duration ≡ oneᶠ ÷ᵈ l.rate → T (oneᶠ ≤ᶠ l.rate) → T (l.rate ≤ᶠ whole 1_000_000) → T (oneᶠ ≤ᶠ x) → T (x ≤ᶠ whole 1_000_000)
    → DeskLawful (desk_of (set_rate l x b) q r)
unfolding set_rate
set_rate_lawful l x true q r e w n u a b a' b' = empty_lawful l q r e w n u a b
set_rate_lawful l x false q r e w n u a b a' b' = empty_lawful (set_rate l x false) q r e w n refl a' b'

pub acts_lawful : (d : Desk) (c : BackCall) → d.queued ≡ [] → refusal d.back (back_call c) ≡ none → DeskLawful d → DeskLawful (acts d c).desk
unfolding acts accept advance refusal checks
acts_lawful d (tick order pool out) e h w =
    let l = (accept d.back (Calls.tick order pool out)).ledger in
    finished_lawful d.back.mode (with_back l d)
    (empty_lawful l d.queued d.returned e (accept_lawful d.back (Calls.tick order pool out) h w.lawful) w.returns w.duration w.slowest w.fastest)
acts_lawful d (block order n pool out) e h w =
    let l = (accept d.back (Calls.block order n pool out none)).ledger in
    finished_lawful d.back.mode (with_back l d)
    (empty_lawful l d.queued d.returned e (accept_lawful d.back (Calls.block order n pool out none) h w.lawful) w.returns w.duration w.slowest w.fastest)
acts_lawful d (rate r) e h w =
    let p = all_pass (checks d.back (Calls.rate r)) h in
    let q = both (oneᶠ ≤ᶠ r) (r ≤ᶠ whole 1_000_000) (not-not (oneᶠ ≤ᶠ r && r ≤ᶠ whole 1_000_000) p.0) in
    set_rate_lawful d.back r (d.back.rate ≈ᶠ r) d.queued d.returned e (accept_lawful d.back (Calls.rate r) h w.lawful)
    w.returns w.duration w.slowest w.fastest q.0 q.1
acts_lawful d reset e h w = restarted_lawful d w

-- ---- the front

pub pushes-last : (q : List Message) (m : Message) → pushes_in (q ++ (m ∷ [])) ≡ pushes_in q + pushes_in (m ∷ [])
pushes-last [] m = omega arith
pushes-last (n ∷ q) m = omega (arith, pushes-first n (q ++ (m ∷ [])), pushes-first n q, pushes-last q m)

pub edits-last : (q : List Message) (m : Message) → edits_in (q ++ (m ∷ [])) ≡ edits_in q + edits_in (m ∷ [])
edits-last [] m = omega arith
edits-last (n ∷ q) m = omega (arith, edits-first n (q ++ (m ∷ [])), edits-first n q, edits-last q m)

passed-last : (q : List Message) (m : Message) → Passed q → AllPass (own_checks m) → Passed (q ++ (m ∷ []))
passed-last [] m p h = (h, tt)
passed-last (n ∷ q) m p h = (p.0, passed-last q m p.1 h)

-- what a message that is queued has passed, with what is queued before it
record Room (d : Desk) (m : Message) : Type 0 where
  own : AllPass (own_checks m)
  events : held d.back + (pushes_in d.queued + pushes_in (m ∷ [])) ≤ 256
  edits : length d.back.edits + (edits_in d.queued + edits_in (m ∷ [])) ≤ 256
  next : next_number d + pushes_in (m ∷ []) ≤ 2 ^ 64
  messages : length d.queued < 64

room : (d : Desk) (m : Message) → DeskLawful d → AllPass (front_checks d m) → Room d m
unfolding front_checks
room d (push kind start end fade_in fade_out curve source gain) w h = record {
  own = (h.0, (h.1.0, (h.1.1.0, (h.1.1.1.0, tt))));
  events = omega (arith, nleb→lt 256 (held d.back + pushes_in d.queued) h.1.1.1.1.0);
  edits = omega (arith, w.edits);
  next = omega (arith, nleb→lt (2 ^ 64) (next_number d) h.1.1.1.1.1.0);
  messages = nleb→lt 64 (length d.queued) h.1.1.1.1.1.1.0;
}
room d (edit kind k end fade_out) w h = record {
  own = (h.0, tt);
  events = omega (arith, w.events);
  edits = omega (arith, nleb→lt 256 (length d.back.edits + edits_in d.queued) h.1.0);
  next = omega (arith, w.next);
  messages = nleb→lt 64 (length d.queued) h.1.1.0;
}
room d reset w h = record {
  own = tt;
  events = omega (arith, w.events);
  edits = omega (arith, w.edits);
  next = omega (arith, w.next);
  messages = nleb→lt 64 (length d.queued) h.0;
}

pub sends_lawful : (d : Desk) (m : Message) → first_of (front_checks d m) ≡ none → DeskLawful d → DeskLawful (sends d m).desk
unfolding sends
sends_lawful d m h w =
    let r = room d m w (all_pass (front_checks d m) h) in
    record {
      lawful = w.lawful;
      events = omega (arith, pushes-last d.queued m, r.events);
      edits = omega (arith, edits-last d.queued m, r.edits);
      next = omega (arith, pushes-last d.queued m, r.next);
      messages = omega (arith, length-append d.queued (m ∷ []), r.messages);
      returns = omega arith;
      passed = passed-last d.queued m w.passed r.own;
      duration = w.duration;
      slowest = w.slowest;
      fastest = w.fastest;
    }

-- ---- every call

carried_out_lawful : (d : Desk) (c : Call) → desk_refusal d c ≡ none → DeskLawful d → DeskLawful (carried_out d c).desk
unfolding carried_out desk_refusal
carried_out_lawful d (front m) h w = sends_lawful d m h w
carried_out_lawful d (back c) h w = acts_lawful (drained d) c (drained-empty d) (drained_free d w c h) (drained_lawful d w)

pub step_lawful : (d : Desk) (c : Call) → DeskLawful d → DeskLawful (step d c).desk
unfolding step decide
step_lawful d c w = go (desk_refusal d c) refl
  where
    go : (o : Option ℕ) → desk_refusal d c ≡ o → DeskLawful (decide o d c).desk
    go (some k) h = w
    go none h = carried_out_lawful d c h w

pub run_lawful : (cs : List Call) (d : Desk) → DeskLawful d → DeskLawful (run cs d).desk
unfolding run
run_lawful [] d w = w
run_lawful (c ∷ cs) d w = run_lawful cs (step d c).desk (step_lawful d c w)

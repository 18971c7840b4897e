-- What a page draws is the plain ledger's, after any list of calls from any creation, refused ones included: the engine's standing of a number is the ledger's, each number that a push was answered with stands in exactly one of W, S, F and G, and 'let go' is drawn
-- exactly where G has the number. The sum at the foot is the claim's. Assumes nothing.
use Rattle.std.specs.Prelude.{ℕ, ◌+◌, ◌^◌, ◌≤◌, ◌<◌, ◌≡◌, Bool, true, false, ◌||◌, List, [], ◌∷◌, ◌++◌, eqb}
use Rattle.std.proofs.Math.Path.{refl, ap}
use Rattle.std.proofs.Common.{sym, ◌∙◌, arith}
use Rattle.std.proofs.Math.Bool.{cond}
use Rattle.event.specs.declared.Event.{Event}
use Rattle.event.specs.declared.ReplayMode.{ReplayMode}
use Rattle.event.specs.Events.{number_of}
use Rattle.ledger.specs.Calls.{Call}
use Rattle.ledger.specs.Lists.{has, numbers}
use Rattle.ledger.specs.Ledger.{Ledger}
use Rattle.ledger.proofs.Sums.{number_sum_append, number_sum_numbers, event_sum_perm}
use Rattle.ledger.specs.Conservation.{by_number}
use Rattle.ledger.specs.Claim.{accepted, among, times, SameState, AllLend, engine_after, ledger_after}
use Rattle.ledger.specs.Partition.{is}
use Rattle.ledger.proofs.Partition.{times-is, once_or_never}
use Rattle.sequencer.specs.declared.Sequencer.{Sequencer}
use Rattle.claim.specs.View.{view_of}
use Rattle.claim.specs.EngineCalls.{engine}
use Rattle.claim.specs.CarriedOut.{after}
use Rattle.claim.proofs.Theorem.{claim}
use Rattle.standing.specs.Theorem.{lists, is_let_go, Drawn}
use Rattle.standing.specs.Standings.{placed, standing_in, standing_of}

-- ---- a number that stands at most once

has-among : (k : ℕ) (l : List Event) → has k l ≡ among k (numbers l)
has-among k [] = refl
has-among k (e ∷ l) = ap (λ b. eqb (number_of e) k || b) (has-among k l)

has-times : (k : ℕ) (l : List Event) → times k (numbers l) ≤ 1 → times k (numbers l) ≡ cond (has k l) 1 0
has-times k l h = once_or_never k (numbers l) h ∙ ap (λ b. cond b 1 0) (sym (has-among k l))

times-append : (k : ℕ) (a b : List ℕ) → times k (a ++ b) ≡ times k a + times k b
times-append k a b = simp (times-is) (number_sum_append (is k) a b)

weigh : (a b : Bool) → ◌≡◌ {A = ℕ} (cond a 1 0) (cond b 1 0) → a ≡ b
weigh true true h = refl
weigh true false h = absurd (omega (arith, h))
weigh false true h = absurd (omega (arith, h))
weigh false false h = refl

four : (w s f g : Bool) → cond w 1 0 + (cond s 1 0 + (cond f 1 0 + cond g 1 0)) ≡ 1 → is_let_go (placed w s f) ≡ g
four true s f true h = absurd (omega (arith, h))
four true s f false h = refl
four false true f true h = absurd (omega (arith, h))
four false true f false h = refl
four false false true true h = absurd (omega (arith, h))
four false false true false h = refl
four false false false true h = refl
four false false false false h = absurd (omega (arith, h))

few : (b : Bool) → cond b 1 0 ≤ 1
few true = omega arith
few false = omega arith

-- ---- an engine that holds a ledger's state

module _ (s : Sequencer) (l : Ledger) (v : SameState (view_of s) l) (answered : List ℕ)
    (once : (k : ℕ) → times k (numbers (view_of s).heap ++ (numbers (view_of s).sounding ++ (numbers (view_of s).finished ++ l.gone))) ≡ cond (among k answered) 1 0) (k : ℕ) where
  heap_times : times k (numbers (view_of s).heap) ≡ times k (numbers l.waiting)
  heap_times = simp (times-is, number_sum_numbers) (event_sum_perm (by_number (is k)) v.heap)

  parts : times k (numbers l.waiting) + (times k (numbers l.sounding) + (times k (numbers l.finished) + times k l.gone)) ≡ cond (among k answered) 1 0
  parts =
      let a = numbers (view_of s).heap in
      let b = numbers (view_of s).sounding in
      let c = numbers (view_of s).finished in
      omega (
        arith,
        once k,
        times-append k a (b ++ (c ++ l.gone)),
        times-append k b (c ++ l.gone),
        times-append k c l.gone,
        heap_times,
        ap (λ m. times k (numbers m)) v.sounding,
        ap (λ m. times k (numbers m)) v.finished,
      )

  pub one_of : lists l k ≡ cond (among k answered) 1 0
  one_of =
      let n = few (among k answered) in
      let p = parts in
      omega (
        arith,
        p,
        has-times k l.waiting (omega (arith, n, p)),
        has-times k l.sounding (omega (arith, n, p)),
        has-times k l.finished (omega (arith, n, p)),
        once_or_never k l.gone (omega (arith, n, p)),
      )

  waits-same : has k (view_of s).heap ≡ has k l.waiting
  waits-same =
      let n = few (among k answered) in
      let p = parts in
      let t = heap_times in
      weigh _ _ (sym (has-times k (view_of s).heap (omega (arith, n, p, t))) ∙ t ∙ has-times k l.waiting (omega (arith, n, p)))

  pub same_of : standing_in s k ≡ standing_of l k
  unfolding standing_in standing_of
  same_of = rw (waits-same, ap (has k) v.sounding, ap (has k) v.finished) refl

  pub gone_of : among k answered ≡ true → is_let_go (standing_of l k) ≡ among k l.gone
  unfolding standing_of
  gone_of h = four (has k l.waiting) (has k l.sounding) (has k l.finished) (among k l.gone) (one_of ∙ ap (λ b. cond b 1 0) h)

-- ---- after any list of calls from any creation

pub drawn : (channels : ℕ) (mode : ReplayMode) (first : ℕ) (cs : List Call) → first < 2 ^ 64 → AllLend engine.lends cs
    → Drawn (after channels mode first cs) (ledger_after channels mode first cs).ledger (accepted (engine_after engine channels mode first cs).replies)
drawn channels mode first cs f h =
    let c = claim channels mode first cs f h in
    let s = after channels mode first cs in
    let l = (ledger_after channels mode first cs).ledger in
    let n = accepted (engine_after engine channels mode first cs).replies in
    record {
      same = same_of s l c.state n c.once;
      one = one_of s l c.state n c.once;
      gone = gone_of s l c.state n c.once;
      foot = c.counted;
    }

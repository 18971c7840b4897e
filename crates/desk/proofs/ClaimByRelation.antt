-- The way to the desk's claim: a relation between the engine's states and desks that holds at creation, that each call keeps with equal replies, and that shows equal states. Assumes nothing.
use Rattle.std.specs.Prelude.{ℕ, suc, ◌+◌, ◌^◌, ◌%◌, ◌<◌, ◌≡◌, refl, false, cond, length, Float}
use Rattle.std.proofs.Common.{sym, ap, ◌∙◌, subst, arith}
use Rattle.std.proofs.Math.Path.{ap₂}
use Rattle.std.proofs.Math.Bool.{Bool-set}
use mathlib.Core.List.Perm
use mathlib.Core.List.{List, [], ◌∷◌, ◌++◌, Memᴰ}
use Rattle.std.proofs.Math.Logic.{∥∥₁_elim}
use Rattle.floats.specs.Arithmetic.{◌<ᶠ◌}
use Rattle.event.specs.declared.Event.{Event}
use Rattle.event.specs.declared.ReplayMode.{ReplayMode}
use Rattle.ledger.specs.Lists.{numbers}
use Rattle.ledger.specs.Ledger.{create}
use Rattle.ledger.specs.Numbers.{up_from}
use Rattle.ledger.specs.Claim.{among, times, Counts, counts_of, SameState, IndexGivesPlaces}
use Rattle.ledger.specs.Sums.{event_sum, number_sum}
use Rattle.ledger.proofs.Sums.{number_sum_append, number_sum_numbers, event_sum_one, event_sum_perm}
use Rattle.ledger.specs.Conservation.{by_number}
use Rattle.ledger.specs.Partition.{is}
use Rattle.ledger.proofs.Partition.{times-is}
use Rattle.ledger.specs.Lawful.{Lawful}
use Rattle.desk.specs.Desk.{Message, push, edit, reset, Call, Reply, Desk, pushes_in, next_number, opened, step, run}
use Rattle.desk.specs.Claim.{DeskView, DeskEngine, calls, engine_after, sent_from, sent_numbers, accepted, DeskClaim}
use Rattle.desk.specs.Lawful.{DeskLawful}
use Rattle.desk.proofs.LawfulCalls.{opened_lawful, step_lawful}
use Rattle.desk.specs.Partition.{queued_numbers, DeskPartition}
use Rattle.desk.proofs.Partition.{length-up_from, times-sum, desk-partition}

-- ---- the numbers of queued pushes

pub sent-numbers : (k : ℕ) (q : List Message) → sent_numbers (sent_from k q) ≡ up_from k (pushes_in q)
sent-numbers k [] = refl
sent-numbers k (push kind start end fade_in fade_out curve source gain ∷ q) = ap (λ (l : List ℕ). k ∷ l) (sent-numbers (suc k) q)
sent-numbers k (edit kind n end fade_out ∷ q) = sent-numbers k q
sent-numbers k (reset ∷ q) = sent-numbers k q

-- ---- what equal states say

module _ (v : DeskView) (d : Desk) (s : SameState v.back d.back) (q : v.queued ≡ sent_from d.back.next d.queued) where
  sent_is : sent_numbers v.queued ≡ queued_numbers d
  sent_is = ap sent_numbers q ∙ sent-numbers d.back.next d.queued

  counted_of : (first : ℕ) (answered : List ℕ) → DeskPartition first d answered
      → let c = v.back.counts in length answered ≡ length (sent_numbers v.queued) + c.waiting + c.sounding + c.finished + c.gone
  counted_of first answered p =
      let told : (f : Counts → ℕ) → f v.back.counts ≡ f (counts_of d.back) = λ f. ap f s.counts in
      omega (
        arith,
        p.as_many,
        ap length sent_is,
        length-up_from d.back.next (pushes_in d.queued),
        told (λ c. c.waiting),
        told (λ c. c.sounding),
        told (λ c. c.finished),
        told (λ c. c.gone),
      )

  once_of : (first : ℕ) (answered : List ℕ) → DeskPartition first d answered → (k : ℕ)
      → times k (sent_numbers v.queued ++ (numbers v.back.heap ++ (numbers v.back.sounding ++ (numbers v.back.finished ++ d.back.gone)))) ≡ cond (among k answered) 1 0
  once_of first answered p k =
      let w : Float → ℕ → ℕ = by_number (is k) in
      simp (times-is, number_sum_append, number_sum_numbers) (omega (
        arith,
        p.once k,
        times-sum k d,
        ap (number_sum (is k)) sent_is,
        event_sum_perm w s.heap,
        ap (event_sum w) s.sounding,
        ap (event_sum w) s.finished,
      ))

  on_time_of : Lawful d.back → (x : Event) → Memᴰ x v.back.heap → (x.start_time <ᶠ v.back.threshold) ≡ false
  on_time_of w x m =
      rw s.threshold (∥∥₁_elim (Perm.subset s.heap x ∣ m ∣₁) (Bool-set _ _) (λ d. w.on_time x d))

-- ---- every list of calls

module _ (E : DeskEngine) (R : E.State → Desk → Type 0)
    (start : (channels : ℕ) (mode : ReplayMode) (first : ℕ) → first < 2 ^ 64
    → ((E.new channels mode first).1 ≡ (create channels mode first).answer) × R (E.new channels mode first).0 (opened (create channels mode first).ledger))
    (keep : (s : E.State) (d : Desk) (c : Call) → DeskLawful d → R s d
    → R (E.call s c).0 (step d c).desk × ((E.call s c).1 ≡ (step d c).reply))
    (shows : (s : E.State) (d : Desk) → DeskLawful d → R s d
    → SameState (E.view s).back d.back × IndexGivesPlaces (E.view s).back × ((E.view s).queued ≡ sent_from d.back.next d.queued) × ((E.view s).returned ≡ d.returned)
    × ((E.view s).back.next ≡ next_number d % 2 ^ 64)) where
  keep_all : (cs : List Call) (s : E.State) (d : Desk) → DeskLawful d → R s d
      → R (calls E cs s).0 (run cs d).desk × DeskLawful (run cs d).desk × ((calls E cs s).1 ≡ (run cs d).replies)
  unfolding calls run
  keep_all [] s d w r = (r, w, refl)
  keep_all (c ∷ cs) s d w r =
      let k = keep s d c w r in
      let m = keep_all cs (E.call s c).0 (step d c).desk (step_lawful d c w) k.0 in
      (m.0, m.1, ap₂ (λ (a : Reply) (l : List Reply). a ∷ l) k.1 m.2)

  -- after any list of calls the relation holds, and the desk is lawful
  pub reached : (channels : ℕ) (mode : ReplayMode) (first : ℕ) (cs : List Call) → first < 2 ^ 64
      → (let d = (run cs (opened (create channels mode first).ledger)).desk in R (calls E cs (E.new channels mode first).0).0 d × DeskLawful d)
  reached channels mode first cs f =
      let k = keep_all cs (E.new channels mode first).0 (opened (create channels mode first).ledger) (opened_lawful channels mode first (omega arith)) (start channels mode first f).1 in
      (k.0, k.1)

  pub desk-claim_by_relation : DeskClaim E
  desk-claim_by_relation channels mode first cs f =
      let new = opened (create channels mode first).ledger in
      let d = (run cs new).desk in
      let made = start channels mode first f in
      let k = keep_all cs (E.new channels mode first).0 new (opened_lawful channels mode first (omega arith)) made.1 in
      let e = engine_after E channels mode first cs in
      let s = shows (calls E cs (E.new channels mode first).0).0 d k.1 k.0 in
      let p : DeskPartition (next_number new) d (accepted e.replies)
      = subst (λ (l : List Reply). DeskPartition (next_number new) d (accepted l)) (sym k.2) (desk-partition channels mode first cs) in
      record {
        counted = counted_of e.view d s.0 s.2 (next_number new) (accepted e.replies) p;
        once = once_of e.view d s.0 s.2 (next_number new) (accepted e.replies) p;
        index = s.1;
        on_time = on_time_of e.view d s.0 s.2 k.1.lawful;
        state = s.0;
        next = s.4;
        queues = (s.2, s.3);
        created = made.0;
        replies = k.2;
      }

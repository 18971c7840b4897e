-- The way to demand 3's claim: a relation between the engine's states and ledgers that holds at creation, that each call keeps with equal replies, and that shows equal states. Assumes nothing.
use Rattle.std.specs.Prelude.{ℕ, ◌+◌, ◌^◌, ◌%◌, ◌<◌, ◌≡◌, refl, false, cond, length, Float}
use Rattle.std.proofs.Common.{sym, ap, ap₂, subst, arith}
use Rattle.std.proofs.Math.Bool.{Bool-set}
use mathlib.Core.List.Perm
use mathlib.Core.List.{List, [], ◌∷◌, ◌++◌, Memᴰ}
use Rattle.std.proofs.Math.Logic.{∥∥₁_elim}
use Rattle.floats.specs.Arithmetic.{◌<ᶠ◌}
use Rattle.event.specs.declared.Event.{Event}
use Rattle.event.specs.declared.ReplayMode.{ReplayMode}
use Rattle.ledger.specs.Calls.{Call, Reply}
use Rattle.ledger.specs.Lists.{numbers}
use Rattle.ledger.specs.Ledger.{Ledger, held, create}
use Rattle.ledger.specs.Steps.{step, run}
use Rattle.ledger.specs.Sums.{event_sum}
use Rattle.ledger.proofs.Sums.{number_sum_append, number_sum_numbers, event_sum_one, event_sum_perm}
use Rattle.ledger.specs.Conservation.{by_number}
use Rattle.ledger.specs.Claim.{accepted_of, accepted, among, times, Counts, counts_of, View, Engine, calls, engine_after, SameState, SameReply, SameReplies, IndexGivesPlaces, Lends, AllLend, Claim}
use Rattle.ledger.specs.Partition.{Partition, is}
use Rattle.ledger.proofs.Partition.{partition, times-is}
use Rattle.ledger.specs.Lawful.{Lawful}
use Rattle.ledger.proofs.Lawful.{create_lawful, step_lawful}

-- ---- what equal replies and equal states say

accepted-same : (a b : List Reply) → SameReplies a b → accepted b ≡ accepted a
accepted-same [] [] h = refl
accepted-same [] (b ∷ m) h = absurd h
accepted-same (a ∷ l) [] h = absurd h
accepted-same (a ∷ l) (b ∷ m) h = ap₂ (λ x y. accepted_of x ++ y) (sym h.0.answer) (accepted-same l m h.1)

module _ (v : View) (l : Ledger) (s : SameState v l) where
  counted_of : (n : ℕ) → n ≡ held l + length l.gone → let c = v.counts in n ≡ c.waiting + c.sounding + c.finished + c.gone
  counted_of n h =
      let told : (f : Counts → ℕ) → f v.counts ≡ f (counts_of l) = λ f. ap f s.counts in
      omega (arith, told (λ c. c.waiting), told (λ c. c.sounding), told (λ c. c.finished), told (λ c. c.gone))

  once_of : (first : ℕ) (answered : List ℕ) → Partition first l answered → (k : ℕ)
      → times k (numbers v.heap ++ (numbers v.sounding ++ (numbers v.finished ++ l.gone))) ≡ cond (among k answered) 1 0
  once_of first answered p k =
      let w : Float → ℕ → ℕ = by_number (is k) in
      simp (times-is, number_sum_append, number_sum_numbers) (omega (arith, p.once k, event_sum_perm w s.heap, ap (event_sum w) s.sounding, ap (event_sum w) s.finished))

  on_time_of : Lawful l → (x : Event) → Memᴰ x v.heap → (x.start_time <ᶠ v.threshold) ≡ false
  on_time_of w x m =
      rw s.threshold (∥∥₁_elim (Perm.subset s.heap x ∣ m ∣₁) (Bool-set _ _) (λ d. w.on_time x d))

-- ---- every list of calls

module _ (E : Engine) (R : E.State → Ledger → Type 0)
    (start : (channels : ℕ) (mode : ReplayMode) (first : ℕ) → first < 2 ^ 64
    → ((E.new channels mode first).1 ≡ (create channels mode first).answer) × R (E.new channels mode first).0 (create channels mode first).ledger)
    (keep : (s : E.State) (l : Ledger) (c : Call) → Lends E.lends c → Lawful l → R s l
    → R (E.call s c).0 (step l c).ledger × SameReply (E.call s c).1 (step l c).reply)
    (shows : (s : E.State) (l : Ledger) → Lawful l → R s l → SameState (E.view s) l × IndexGivesPlaces (E.view s) × ((E.view s).next ≡ l.next % 2 ^ 64)) where
  keep_all : (cs : List Call) (s : E.State) (l : Ledger) → AllLend E.lends cs → Lawful l → R s l
      → R (calls E cs s).0 (run cs l).ledger × Lawful (run cs l).ledger × SameReplies (calls E cs s).1 (run cs l).replies
  unfolding calls run
  keep_all [] s l h w r = (r, w, tt)
  keep_all (c ∷ cs) s l h w r =
      let k = keep s l c h.0 w r in
      let m = keep_all cs (E.call s c).0 (step l c).ledger h.1 (step_lawful l c w) k.0 in
      (m.0, m.1, (k.1, m.2))

  -- after any list of calls the relation holds, and the ledger is lawful
  pub reached : (channels : ℕ) (mode : ReplayMode) (first : ℕ) (cs : List Call) → first < 2 ^ 64 → AllLend E.lends cs
      → R (calls E cs (E.new channels mode first).0).0 (run cs (create channels mode first).ledger).ledger × Lawful (run cs (create channels mode first).ledger).ledger
  reached channels mode first cs f h =
      let k = keep_all cs (E.new channels mode first).0 (create channels mode first).ledger h (create_lawful channels mode first (omega arith)) (start channels mode first f).1 in
      (k.0, k.1)

  pub claim_by_relation : Claim E
  claim_by_relation channels mode first cs f h =
      let new = (create channels mode first).ledger in
      let l = (run cs new).ledger in
      let made = start channels mode first f in
      let k = keep_all cs (E.new channels mode first).0 new h (create_lawful channels mode first (omega arith)) made.1 in
      let e = engine_after E channels mode first cs in
      let s = shows (calls E cs (E.new channels mode first).0).0 l k.1 k.0 in
      let p : Partition new.next l (accepted e.replies)
      = subst (λ n. Partition new.next l n) (accepted-same e.replies (run cs new).replies k.2) (partition channels mode first cs) in
      record {
        counted = counted_of e.view l s.0 (length (accepted e.replies)) p.as_many;
        once = once_of e.view l s.0 new.next (accepted e.replies) p;
        index = s.1;
        on_time = on_time_of e.view l s.0 k.1;
        state = s.0;
        next = s.2;
        created = made.0;
        replies = k.2;
      }

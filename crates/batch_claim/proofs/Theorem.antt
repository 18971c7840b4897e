-- Demand 3 with document 02's Paper 1 (WithBatches.antt): after any list of calls with runs of push records among them the engine, every answer, every number
-- and every sample are the plain ledger's. It is demand 3's claim about the single calls that the list is; nothing here looks at what a call is.
-- Assumes nothing.
use Rattle.std.specs.Prelude.{ℕ, zero, suc, ◌^◌, ◌<◌, Bool, true, false, cond, ◌≡◌, refl, List, [], ◌∷◌, ◌++◌, eqb, length, drop}
use Rattle.std.proofs.Common.{sym, ap, ap₂, ◌∙◌, subst, arith}
use Rattle.event.specs.declared.ReplayMode.{ReplayMode}
use Rattle.ledger.specs.Calls.{Call, Answer}
use Rattle.ledger.specs.Ledger.{Ledger, create}
use Rattle.ledger.specs.Steps.{step, run}
use Rattle.ledger.specs.Lawful.{Lawful}
use Rattle.ledger.proofs.Lawful.{create_lawful, step_lawful}
use Rattle.ledger.specs.Claim.{accepted_of, accepted, calls, engine_after, ledger_after, SameReply, AllLend}
use Rattle.sequencer.specs.declared.Sequencer.{Sequencer}
use Rattle.claim.specs.Related.{Related}
use Rattle.claim.specs.Creating.{related_creation}
use Rattle.claim.specs.EngineCalls.{engine_new, engine}
use Rattle.claim.proofs.Steps.{keep}
use Rattle.claim.specs.CarriedOut.{after}
use Rattle.claim.proofs.Theorem.{claim}
use Rattle.tape.specs.Tape.{kind_of, size_of}
use Rattle.batch.specs.Records.{beyond, stop_of, call_of}
use Rattle.apply.specs.RecordCalls.{refusal_of}
use Rattle.batch.specs.Run.{Pushed, ends, behind, push_run, push_all, written}
use Rattle.batch_claim.specs.Singles.{reading, up_to_refused, singles}
use Rattle.batch_claim.specs.Lists.{Item, single, batch, items, flat, all_numbers, ItemsLend}
use Rattle.batch_claim.proofs.ListsProof.{items-flat, lend_reading, lend_flat, parts_whole, numbers-by-item, numbers-flat}
use Rattle.batch_claim.specs.WithBatches.{plain, single_calls, engine_then, ledger_then, replies_then, WithBatches}
use Rattle.batch_claim.specs.Theorem.{Alike, ledger_call, Follows}

module _ (n : ℕ) (bs : List ℕ) (s : Sequencer) (l : Ledger) (w : Lawful l) (r : Related s l) where
  -- a record, where the rest is known
  one_more : (let c = call_of bs in let rest = drop (size_of (kind_of bs)) bs in
      (Related (engine.call s c).0 (step l c).ledger → Lawful (step l c).ledger
      → Alike (push_run engine.call n rest (engine.call s c).0) (push_run ledger_call n rest (step l c).ledger)))
      → Alike (push_run engine.call (suc n) bs s) (push_run ledger_call (suc n) bs l)
  unfolding push_run call_of
  one_more next = go (eqb (stop_of bs) 0)
    where
      c : Call
      c = call_of bs

      k : Related (engine.call s c).0 (step l c).ledger × SameReply (engine.call s c).1 (step l c).reply
      k = keep s l c tt w r

      a : Answer
      a = (engine.call s c).1.answer

      b : Answer
      b = (step l c).reply.answer

      rest : List ℕ
      rest = drop (size_of (kind_of bs)) bs

      rest_alike : Alike (push_run engine.call n rest (engine.call s c).0) (push_run ledger_call n rest (step l c).ledger)
      rest_alike = next k.0 (step_lawful l c w)

      on_engine : (accepted : Bool) → Pushed Sequencer
      on_engine t = cond t (behind (accepted_of a) (push_run engine.call n rest (engine.call s c).0)) (ends (engine.call s c).0 (refusal_of a))

      on_ledger : (accepted : Bool) → Pushed Ledger
      on_ledger t = cond t (behind (accepted_of b) (push_run ledger_call n rest (step l c).ledger)) (ends (step l c).ledger (refusal_of b))

      accept : (t : Bool) → Alike (on_engine t) (on_ledger t)
      accept true = record {
        related = rest_alike.related;
        lawful = rest_alike.lawful;
        numbers = ap₂ (λ (y : Answer) (ns : List ℕ). accepted_of y ++ ns) k.1.answer rest_alike.numbers;
        ended = rest_alike.ended;
      }
      accept false = record { related = k.0; lawful = step_lawful l c w; numbers = refl; ended = ap refusal_of k.1.answer }

      go : (t : Bool) → Alike (cond t (on_engine (eqb (refusal_of a) 0)) (ends s (stop_of bs))) (cond t (on_ledger (eqb (refusal_of b) 0)) (ends l (stop_of bs)))
      go true =
          subst (λ (u : Bool). Alike (on_engine (eqb (refusal_of a) 0)) (on_ledger u)) (ap (λ (y : Answer). eqb (refusal_of y) 0) k.1.answer)
          (accept (eqb (refusal_of a) 0))
      go false = record { related = r; lawful = w; numbers = refl; ended = refl }

run_alike : (n : ℕ) (bs : List ℕ) (s : Sequencer) (l : Ledger) → Lawful l → Related s l → Alike (push_run engine.call n bs s) (push_run ledger_call n bs l)
unfolding push_run
run_alike zero bs s l w r = record { related = r; lawful = w; numbers = refl; ended = refl }
run_alike (suc n) bs s l w r =
    one_more n bs s l w r (λ q v. run_alike n (drop (size_of (kind_of bs)) bs) (engine.call s (call_of bs)).0 (step l (call_of bs)).ledger v q)

all_alike : (bs : List ℕ) (n : ℕ) (slice : List ℕ) (s : Sequencer) (l : Ledger) → Lawful l → Related s l
    → Alike (push_all engine.call bs n slice s) (push_all ledger_call bs n slice l)
unfolding push_all
all_alike bs n slice s l w r = go (beyond n (length slice))
  where
    go : (t : Bool) → Alike (cond t (ends s 16) (push_run engine.call n bs s)) (cond t (ends l 16) (push_run ledger_call n bs l))
    go true = record { related = r; lawful = w; numbers = refl; ended = refl }
    go false = run_alike n bs s l w r

-- ---- the list

-- the single calls are the same by the engine and by the ledger
made_alike : (cs : List Call) → AllLend false cs → (s : Sequencer) (l : Ledger) → Lawful l → Related s l
    → up_to_refused engine.call cs s ≡ up_to_refused ledger_call cs l
unfolding up_to_refused
made_alike [] h s l w r = refl
made_alike (c ∷ cs) h s l w r =
    let k = keep s l c h.0 w r in
    let ih = made_alike cs h.1 (engine.call s c).0 (step l c).ledger (step_lawful l c w) k.0 in
    ap₂ (λ (a : Answer) (ds : List Call). c ∷ cond (eqb (refusal_of a) 0) ds []) k.1.answer ih

singles_alike : (bs : List ℕ) (n : ℕ) (slice : List ℕ) (s : Sequencer) (l : Ledger) → Lawful l → Related s l
    → singles engine.call bs n slice s ≡ singles ledger_call bs n slice l
unfolding singles
singles_alike bs n slice s l w r = ap (cond (beyond n (length slice)) []) (made_alike (reading n bs).calls (lend_reading false n bs) s l w r)

follows : (is : List Item) (s : Sequencer) (l : Ledger) → ItemsLend false is → Lawful l → Related s l → Follows is s l
unfolding items flat
follows [] s l h w r = record { calls_same = refl; replies-same = tt }
follows (single c ∷ is) s l h w r =
    let k = keep s l c h.0 w r in
    let f = follows is (engine.call s c).0 (step l c).ledger h.1 (step_lawful l c w) k.0 in
    record { calls_same = ap (λ (ds : List Call). c ∷ ds) f.calls_same; replies-same = (k.1, f.replies-same) }
follows (batch bs n slice ∷ is) s l h w r =
    let k = all_alike bs n slice s l w r in
    let f = follows is (push_all engine.call bs n slice s).state (push_all ledger_call bs n slice l).state h k.lawful k.related in
    record {
      calls_same = ap₂ (λ (ds es : List Call). ds ++ es) (singles_alike bs n slice s l w r) f.calls_same;
      replies-same = ((ap length k.numbers, k.ended, ap (λ (ns : List ℕ). written ns slice) k.numbers), f.replies-same);
    }

run-calls : (cs : List Call) (l : Ledger) → (calls plain cs l).0 ≡ (run cs l).ledger
unfolding calls run
run-calls [] l = refl
run-calls (c ∷ cs) l = run-calls cs (step l c).ledger

-- From any fresh engine (a first number is a u64), after any list of calls and runs of records; blocks are lent no scratch.
pub with_batches : (channels : ℕ) (mode : ReplayMode) (first : ℕ) (is : List Item) → first < 2 ^ 64 → ItemsLend engine.lends is
    → WithBatches channels mode first is
with_batches channels mode first is b h =
    let s = (engine_new channels mode first).0 in
    let l = (create channels mode first).ledger in
    let made = related_creation channels mode first b in
    let f = follows is s l h (create_lawful channels mode first (omega arith)) made.0 in
    record {
      state = items-flat engine is s ∙ ap (λ (cs : List Call). (calls engine cs s).0) f.calls_same;
      ledger = items-flat plain is l ∙ run-calls (flat plain is l) l;
      lent = lend_flat false plain is l h;
      claimed = claim channels mode first (flat plain is l) b (lend_flat false plain is l h);
      replies = f.replies-same;
      numbers = numbers-flat engine is s ∙ ap (λ (cs : List Call). accepted (calls engine cs s).1) f.calls_same;
      slices = numbers-by-item engine is s;
      parted = parts_whole engine is s ∙ ap (λ (cs : List Call). (calls engine cs s).1) f.calls_same;
    }

-- So every theorem about lists of calls is one about lists with runs: what holds of the engine, the ledger and the numbers issued after each list of single
-- calls holds after each list with runs.
pub with_runs : (P : Sequencer → Ledger → (numbers : List ℕ) → Type 0) (channels : ℕ) (mode : ReplayMode) (first : ℕ) → first < 2 ^ 64
    → ((cs : List Call) → AllLend engine.lends cs
    → P (after channels mode first cs) (ledger_after channels mode first cs).ledger (accepted (engine_after engine channels mode first cs).replies))
    → (is : List Item) → ItemsLend engine.lends is
    → P (engine_then channels mode first is) (ledger_then channels mode first is) (all_numbers (replies_then channels mode first is))
with_runs P channels mode first b holds is h =
    let w = with_batches channels mode first is b h in
    let cs = single_calls channels mode first is in
    let ns = all_numbers (replies_then channels mode first is) in
    subst (λ (s : Sequencer). P s (ledger_then channels mode first is) ns) (sym w.state)
    (subst (λ (l : Ledger). P (after channels mode first cs) l ns) (sym w.ledger)
    (subst (P (after channels mode first cs) (ledger_after channels mode first cs).ledger) (sym w.numbers) (holds cs w.lent)))

-- The loop of `push_records`: after each record what is left to do gives what the definition gives. Assumes nothing.
use Prim.Native.Nat.{ℕ, zero, suc, ◌+◌, ◌-◌, min, ◌≤◌, ◌<◌}
use mathlib.Core.Bool.{Bool, true, false, not, ◌||◌, cond, true≢false}
use mathlib.Core.List.{List, [], ◌∷◌, ◌++◌, append_assoc, append-nil}
use mathlib.Core.Path.{◌≡◌, refl, sym, ap, ap₂, ◌∙◌, subst}
use native.Mathlib.Numerals.{add-one}
use native.Mathlib.Omega.{arith}
use borrow.Author.Tests.{eqb-true, ltb-false}
use lib.Dec.{ltb, eqb}
use lib.ListN.{length, take, drop, set, get_or, length-append, length-drop}
use native.Mathlib.Nat.{le_of_eq}
use lib.Seq.{take_all, drop-drop, drop-cons, append_snoc, set_at}
use Rattle.ledger.specs.Calls.{Call, Reply, PushKind, number, refused}
use Rattle.ledger.specs.Steps.{answers}
use Rattle.ledger.specs.Claim.{accepted_of}
use Rattle.ledger.specs.Refusals.{stated_end}
use Rattle.floats.specs.Arithmetic.{◌-ᵈ◌}
use Rattle.refusals.specs.Refusals.{push_refusal}
use Rattle.tape.specs.declared.reader.PushRecord.{PushRecord}
use Rattle.tape.specs.Tape.{kind_of, size_of, push_of, push_kind, unknown_push}
use Rattle.sequencer.specs.declared.Sequencer.{Sequencer}
use Rattle.sequencer.specs.declared.Answer.{Answer}
use Rattle.sequencer.specs.declared.Outcome.{Outcome}
use Rattle.sequencer.specs.Pushes.{admitted, pushes_to, pushes}
use Rattle.memory.specs.Memory.{Cells, engine_of}
use Rattle.claim.specs.EngineCalls.{engine_call}
use Rattle.apply.specs.Applying as Applying
use Rattle.apply.specs.Applying.{pushed}
use Rattle.apply.specs.RecordCalls.{refusal_of}
use Rattle.batch.specs.declared.Batch.{Batch}
use Rattle.batch.specs.Records.{beyond, stop_of, kind_at, call_of}
use Rattle.batch.specs.Run.{Pushed, ends, behind, push_run, push_all, written}
use Rattle.batch.specs.Contract.{batch_of, push_records, numbers_after}

-- ---- one record of the definition

module _ {S : Type 0} (call : S → Call → S × Reply) (n : ℕ) (bs : List ℕ) (s : S) where
  run-stops : eqb (stop_of bs) 0 ≡ false → push_run call (suc n) bs s ≡ ends s (stop_of bs)
  unfolding push_run
  run-stops h = rw h

  run-refused : eqb (stop_of bs) 0 ≡ true → (t : S) (r : Reply) → call s (call_of bs) ≡ (t, r) → eqb (refusal_of r.answer) 0 ≡ false
      → push_run call (suc n) bs s ≡ ends t (refusal_of r.answer)
  unfolding push_run
  run-refused h t r q k = rw (h, q, k)

  run_on : eqb (stop_of bs) 0 ≡ true → (t : S) (r : Reply) → call s (call_of bs) ≡ (t, r) → eqb (refusal_of r.answer) 0 ≡ true
      → push_run call (suc n) bs s ≡ behind (accepted_of r.answer) (push_run call n (drop (size_of (kind_of bs)) bs) t)
  unfolding push_run
  run_on h t r q k = rw (h, q, k)

-- ---- one push of the engine

abbrev pub refusal_at : Sequencer → PushKind → PushRecord → ℕ
refusal_at s kind p =
    let start = p.start_time in
    push_refusal start p.end_time (stated_end kind start p.end_time -ᵈ start) p.fade_in p.fade_out p.source p.gain
    (min (s.ready_len + (s.active_len + s.past_len)) 256) s.next

module _ (s : Sequencer) (bs : List ℕ) where
  abbrev refusal_on : ℕ
  refusal_on = refusal_at s (kind_at bs) (push_of bs)

  abbrev outcome : Outcome
  outcome = pushed (kind_at bs) s (push_of bs)

  engine-refuses : eqb refusal_on 0 ≡ false → engine_call s (call_of bs) ≡ (s, answers (refused refusal_on))
  unfolding call_of pushes pushes_to
  engine-refuses h = rw h

  engine-accepts : eqb refusal_on 0 ≡ true → engine_call s (call_of bs) ≡ (outcome.sequencer, answers (number s.next))
  unfolding call_of pushes pushes_to admitted
  engine-accepts h = rw h

  outcome-refused : eqb refusal_on 0 ≡ false → (outcome.sequencer ≡ s) × (Applying.refusal_of outcome.answer ≡ refusal_on)
  unfolding pushes pushes_to
  outcome-refused h = (rw h, rw h)

  outcome-accepted : eqb refusal_on 0 ≡ true → Applying.refusal_of outcome.answer ≡ 0
  unfolding pushes pushes_to admitted
  outcome-accepted h = rw h

-- ---- the record that begins the bytes, as a run of one

not_short : (a b c d : Bool) → ◌≡◌ {A = ℕ} (cond a 15 (cond b 14 (cond c 14 (cond d 15 0)))) 0 → d ≡ false
not_short true b c d h = absurd (omega arith)
not_short false true c d h = absurd (omega arith)
not_short false false true d h = absurd (omega arith)
not_short false false false true h = absurd (omega arith)
not_short false false false false h = refl

-- a record that does not stop the run is there whole
whole_there : (bs : List ℕ) → stop_of bs ≡ 0 → size_of (kind_of bs) ≤ length bs
unfolding stop_of
whole_there bs h =
    ltb-false (length bs) (size_of (kind_of bs))
    (not_short (eqb (length bs) 0) (not (push_kind (kind_of bs))) (unknown_push bs) (ltb (length bs) (size_of (kind_of bs))) h)

-- a run that one more record ends, by x: the engine is then t
abbrev pub Ends : List ℕ → Sequencer → Sequencer → (x : ℕ) → Type 0
Ends bs s t x = (n : ℕ) → push_run engine_call (suc n) bs s ≡ ends t x

-- a record that is pushed: it is there whole, and the run goes on after it, on the engine t
pub record Goes (bs : List ℕ) (s t : Sequencer) : Type 0 where
  pub whole : size_of (kind_of bs) ≤ length bs
  pub on : (n : ℕ) → push_run engine_call (suc n) bs s ≡ behind (s.next ∷ []) (push_run engine_call n (drop (size_of (kind_of bs)) bs) t)

-- what a run of one says of every run: x ended it, or the engine goes on, if x is 0
abbrev pub Says : List ℕ → Sequencer → Sequencer → (x : ℕ) → Type 0
Says bs s t x = (eqb x 0 ≡ false → Ends bs s t x) × (eqb x 0 ≡ true → Goes bs s t)

module _ (bs : List ℕ) (s : Sequencer) where
  abbrev one : Pushed Sequencer
  one = push_run engine_call 1 bs s

  one-stopped : eqb (stop_of bs) 0 ≡ false → one ≡ ends s (stop_of bs)
  one-stopped h = run-stops engine_call 0 bs s h

  one-refused : eqb (stop_of bs) 0 ≡ true → eqb (refusal_on s bs) 0 ≡ false → one ≡ ends s (refusal_on s bs)
  one-refused h k = run-refused engine_call 0 bs s h _ _ (engine-refuses s bs k) k

  one-pushed : eqb (stop_of bs) 0 ≡ true → eqb (refusal_on s bs) 0 ≡ true → one ≡ behind (s.next ∷ []) (ends (outcome s bs).sequencer 0)
  unfolding push_run
  one-pushed h k = run_on engine_call 0 bs s h _ _ (engine-accepts s bs k) refl

  says : Says bs s one.state one.ended
  says = go (eqb (stop_of bs) 0) refl (eqb (refusal_on s bs) 0) refl
    where
      go : (b : Bool) → eqb (stop_of bs) 0 ≡ b → (c : Bool) → eqb (refusal_on s bs) 0 ≡ c → Says bs s one.state one.ended
      go false h c k =
          subst (λ (p : Pushed Sequencer). Says bs s p.state p.ended) (sym (one-stopped h))
          (λ e n. run-stops engine_call n bs s h, λ e. absurd (true≢false (sym e ∙ h)))
      go true h false k =
          subst (λ (p : Pushed Sequencer). Says bs s p.state p.ended) (sym (one-refused h k))
          (λ e n. run-refused engine_call n bs s h _ _ (engine-refuses s bs k) k, λ e. absurd (true≢false (sym e ∙ k)))
      go true h true k =
          subst (λ (p : Pushed Sequencer). Says bs s p.state p.ended) (sym (one-pushed h k)) (
            λ e. absurd (true≢false e),
            λ e. record {
              whole = whole_there bs (eqb-true (stop_of bs) 0 h);
              on = λ n. run_on engine_call n bs s h _ _ (engine-accepts s bs k) refl;
            },
          )

  -- a record that stops the run
  pub stops-one : eqb (stop_of bs) 0 ≡ false → (s ≡ one.state) × (stop_of bs ≡ one.ended)
  stops-one h = (ap (λ (p : Pushed Sequencer). p.state) (sym (one-stopped h)), ap (λ (p : Pushed Sequencer). p.ended) (sym (one-stopped h)))

  -- any other is a push
  pub pushes-one : eqb (stop_of bs) 0 ≡ true → ((outcome s bs).sequencer ≡ one.state) × (Applying.refusal_of (outcome s bs).answer ≡ one.ended)
  pushes-one h = go (eqb (refusal_on s bs) 0) refl
    where
      go : (c : Bool) → eqb (refusal_on s bs) 0 ≡ c → ((outcome s bs).sequencer ≡ one.state) × (Applying.refusal_of (outcome s bs).answer ≡ one.ended)
      go false k = (
        (outcome-refused s bs k).0 ∙ ap (λ (p : Pushed Sequencer). p.state) (sym (one-refused h k)),
        (outcome-refused s bs k).1 ∙ ap (λ (p : Pushed Sequencer). p.ended) (sym (one-refused h k)),
      )
      go true k = (
        ap (λ (p : Pushed Sequencer). p.state) (sym (one-pushed h k)),
        outcome-accepted s bs k ∙ ap (λ (p : Pushed Sequencer). p.ended) (sym (one-pushed h k)),
      )

-- what the code has of such a record: its kind and its arguments, read by parts
pub pushed-one : (bs : List ℕ) (s t : Sequencer) (a : Answer) (kind : PushKind) (p : PushRecord) (x : ℕ) → eqb (stop_of bs) 0 ≡ true
    → kind ≡ kind_at bs → p ≡ push_of bs → t ≡ (pushed kind s p).sequencer → a ≡ (pushed kind s p).answer
    → x ≡ Applying.refusal_of a → (t ≡ (push_run engine_call 1 bs s).state) × (x ≡ (push_run engine_call 1 bs s).ended)
pushed-one bs s t a kind p x h k q e f g = (
  e ∙ ap₂ (λ (z : PushKind) (y : PushRecord). (pushed z s y).sequencer) k q ∙ (pushes-one bs s h).0,
  g ∙ ap Applying.refusal_of (f ∙ ap₂ (λ (z : PushKind) (y : PushRecord). (pushed z s y).answer) k q) ∙ (pushes-one bs s h).1,
)

-- the part of the bytes that the code was lent is all of them from the place on
abbrev pub part : (bs : List ℕ) → (at : ℕ) → List ℕ
part bs at = take (length bs - at) (drop at bs)

pub part-all : (bs : List ℕ) (at : ℕ) → part bs at ≡ drop at bs
part-all bs at = take_all (length bs - at) (drop at bs) (le_of_eq (length-drop at bs))

-- what the record at a place means for the run
pub found : (bs : List ℕ) (at : ℕ) (s t : Sequencer) (x : ℕ) → t ≡ (push_run engine_call 1 (part bs at) s).state → x ≡ (push_run engine_call 1 (part bs at) s).ended
    → Says (drop at bs) s t x
found bs at s t x e f =
    subst (λ (u : Sequencer). Says (drop at bs) s u x) (sym (e ∙ ap (λ (z : List ℕ). (push_run engine_call 1 z s).state) (part-all bs at)))
    (subst (λ (y : ℕ). Says (drop at bs) s (push_run engine_call 1 (drop at bs) s).state y)
    (sym (f ∙ ap (λ (z : List ℕ). (push_run engine_call 1 z s).ended) (part-all bs at))) (says (drop at bs) s))

-- the next number of the engine that the cells hold
pub next_in : (c : Cells) → get_or c.numbers 1286 0 ≡ (engine_of c).next
unfolding engine_of
next_in c = refl

-- ---- the loop

-- the engine, what the code gives back and the slice are the definition's
abbrev pub Result : (count : ℕ) → (bs : List ℕ) → (s₀ : Sequencer) → (xs₀ : List ℕ) → (k : ℕ) → (s : Sequencer) → (xs : List ℕ) → (by : ℕ) → Type 0
Result count bs s₀ xs₀ k s xs x =
    (s ≡ (push_records s₀ bs count xs₀).state) × ((◌≡◌ {A = Batch} (record { pushed = k; ended = x }) (batch_of (push_records s₀ bs count xs₀))) × (xs ≡ numbers_after s₀ bs count xs₀))

-- After k pushes: the bytes from `at` on are not read yet, s is the engine and xs the lent slice.
pub record Running (count : ℕ) (bs : List ℕ) (s₀ : Sequencer) (xs₀ : List ℕ) (k at : ℕ) (s : Sequencer) (xs : List ℕ) : Type 0 where
  pub issued : List ℕ
  pub left : ℕ
  pub many : length issued ≡ k
  pub total : k + left ≡ count
  pub few : count ≤ 32
  pub long : length xs₀ ≡ 32
  pub inside : at ≤ length bs
  pub slice : xs ≡ issued ++ drop k xs₀
  pub gives : push_all engine_call bs count xs₀ s₀ ≡ behind issued (push_run engine_call left (drop at bs) s)

-- the place after a record that is there whole is in the bytes
pub place_inside : (bs : List ℕ) (at size : ℕ) → at ≤ length bs → size ≤ length (drop at bs) → at + size ≤ length bs
place_inside bs at size h k = omega (arith, h, length-drop at bs, k)

-- what the tests of 16 say
within-limits : (count n : ℕ) → beyond count n ≡ false → (count ≤ 32) × (n ≡ 32)
unfolding beyond
within-limits count n h = go (ltb 32 count) (eqb n 32) refl refl h
  where
    go : (a b : Bool) → ltb 32 count ≡ a → eqb n 32 ≡ b → (a || not b) ≡ false → (count ≤ 32) × (n ≡ 32)
    go true b p q h = absurd (true≢false h)
    go false true p q h = (ltb-false 32 count p, eqb-true n 32 q)
    go false false p q h = absurd (true≢false h)

-- refused as 16
pub all-refused : (count : ℕ) (bs : List ℕ) (s₀ : Sequencer) (xs₀ : List ℕ) → beyond count (length xs₀) ≡ true → Result count bs s₀ xs₀ 0 s₀ xs₀ 16
unfolding push_all
all-refused count bs s₀ xs₀ h = (rw h, (rw h, rw h))

module _ {count : ℕ} {bs : List ℕ} {s₀ : Sequencer} {xs₀ : List ℕ} where
  -- before the first round
  pub running : beyond count (length xs₀) ≡ false → Running count bs s₀ xs₀ 0 0 s₀ xs₀
  unfolding push_all
  running h = record {
    issued = [];
    left = count;
    many = refl;
    total = omega arith;
    few = (within-limits count (length xs₀) h).0;
    long = (within-limits count (length xs₀) h).1;
    inside = omega arith;
    slice = refl;
    gives = rw h;
  }

  module _ {k at : ℕ} {s : Sequencer} {xs : List ℕ} where
    pub slice-length : Running count bs s₀ xs₀ k at s xs → length xs ≡ length xs₀
    slice-length w = ap length w.slice ∙ omega (arith, length-append w.issued (drop k xs₀), length-drop k xs₀, w.many, w.total, w.few, w.long)

    -- a record that is pushed, of this size: t is the engine with its event
    pub running_on : (t : Sequencer) (size y : ℕ) → k < count → Goes (drop at bs) s t → size ≡ size_of (kind_of (drop at bs)) → y ≡ s.next
        → Running count bs s₀ xs₀ k at s xs → Running count bs s₀ xs₀ (k + 1) (at + size) t (set xs k y)
    running_on t size y l p q v w = go w.left refl
      where
        rest : ℕ → Pushed Sequencer
        rest n = push_run engine_call n (drop (at + size) bs) t

        once : (n : ℕ) → push_run engine_call (suc n) (drop at bs) s ≡ behind (y ∷ []) (rest n)
        once n =
            p.on n ∙ ap (λ (z : ℕ). behind (s.next ∷ []) (push_run engine_call n (drop z (drop at bs)) t)) (sym q)
            ∙ ap₂ (λ (z : ℕ) (b : List ℕ). behind (z ∷ []) (push_run engine_call n b t)) (sym v) (drop-drop size at bs)

        stored : set xs k y ≡ (w.issued ++ (y ∷ [])) ++ drop (k + 1) xs₀
        stored =
            ap (λ (ys : List ℕ). set ys k y) (w.slice ∙ ap (λ (ys : List ℕ). w.issued ++ ys) (drop-cons xs₀ k 0 (omega (arith, w.few, w.long))))
            ∙ set_at w.issued _ (drop (suc k) xs₀) y k w.many
            ∙ sym (append_snoc w.issued y (drop (suc k) xs₀))
            ∙ ap (λ (j : ℕ). (w.issued ++ (y ∷ [])) ++ drop j xs₀) (sym (add-one k))

        go : (n : ℕ) → w.left ≡ n → Running count bs s₀ xs₀ (k + 1) (at + size) t (set xs k y)
        go zero z = absurd (omega (arith, w.total, z, l))
        go (suc n) z = record {
          issued = w.issued ++ (y ∷ []);
          left = n;
          many = omega (arith, length-append w.issued (y ∷ []), w.many);
          total = omega (arith, w.total, z);
          few = w.few;
          long = w.long;
          inside = place_inside bs at size w.inside (omega (arith, p.whole, q));
          slice = stored;
          gives =
              w.gives ∙ ap (λ (m : ℕ). behind w.issued (push_run engine_call m (drop at bs) s)) z ∙ ap (behind w.issued) (once n)
              ∙ ap (λ (ns : List ℕ). record { state = (rest n).state; numbers = ns; ended = (rest n).ended })
              (sym (append_assoc w.issued (y ∷ []) (rest n).numbers));
        }

    -- ---- how it ends

    result : (t : Sequencer) (x : ℕ) (w : Running count bs s₀ xs₀ k at s xs) → push_run engine_call w.left (drop at bs) s ≡ ends t x
        → Result count bs s₀ xs₀ k t xs x
    result t x w h = (
      ap (λ (p : Pushed Sequencer). p.state) (sym all),
      (
        ap (λ (n : ℕ). record { pushed = n; ended = x }) (sym w.many ∙ ap length (sym (append-nil w.issued))) ∙ ap batch_of (sym all),
        w.slice ∙ ap₂ (λ (ns : List ℕ) (n : ℕ). ns ++ drop n xs₀) (sym (append-nil w.issued)) (sym w.many ∙ ap length (sym (append-nil w.issued)))
            ∙ ap (λ (p : Pushed Sequencer). written p.numbers xs₀) (sym all),
      ),
    )
      where
        all : push_all engine_call bs count xs₀ s₀ ≡ behind w.issued (ends t x)
        all = w.gives ∙ ap (behind w.issued) h

    -- every record is done
    pub run_done : count ≤ k → Running count bs s₀ xs₀ k at s xs → Result count bs s₀ xs₀ count s xs 0
    unfolding push_run
    run_done l w =
        let q : w.left ≡ 0 = omega (arith, w.total, l) in
        let e : k ≡ count = omega (arith, w.total, l) in
        subst (λ (j : ℕ). Result count bs s₀ xs₀ j s xs 0) e (result s 0 w (ap (λ (m : ℕ). push_run engine_call m (drop at bs) s) q))

    -- a record, or its refusal, ends it
    pub run-ended : (t : Sequencer) (x : ℕ) → k < count → Ends (drop at bs) s t x → Running count bs s₀ xs₀ k at s xs → Result count bs s₀ xs₀ k t xs x
    run-ended t x l m w = go w.left refl
      where
        go : (n : ℕ) → w.left ≡ n → Result count bs s₀ xs₀ k t xs x
        go zero q = absurd (omega (arith, w.total, q, l))
        go (suc n) q = result t x w (ap (λ (i : ℕ). push_run engine_call i (drop at bs) s) q ∙ m n)

-- A run of push records is its single pushes (Singles.antt): what it leaves, its numbers and what ended it. Refused as 16 it is none. Assumes nothing.
use Prim.Native.Nat.{ℕ, zero, suc}
use Rattle.std.specs.Prelude.{Bool, cond, ◌≡◌, eqb, length, drop}
use Rattle.std.proofs.Math.Bool.{true, false}
use Rattle.std.proofs.Common.{true≢false, ap, ◌∙◌}
use Rattle.std.proofs.Math.Path.{refl}
use mathlib.Core.List.{List, [], ◌∷◌, ◌++◌}
use Rattle.ledger.specs.Calls.{Call, Answer, number, applied, past, stored, done, rendered, refused, Reply}
use Rattle.ledger.specs.Claim.{accepted_of, accepted, Engine, calls}
use Rattle.tape.specs.Tape.{kind_of, size_of}
use Rattle.apply.specs.RecordCalls.{refusal_of}
use Rattle.batch.specs.Records.{beyond, stop_of, call_of}
use Rattle.batch.specs.Run.{Pushed, ends, behind, push_run, push_all, written}
use Rattle.batch_claim.specs.Singles.{Reading, reading, up_to_refused, first_refusal, singles, stopped, AsSingles}

-- a refused call issues no number
refused_none : (a : Answer) → eqb (refusal_of a) 0 ≡ false → accepted_of a ≡ []
refused_none (number k) h = absurd (true≢false h)
refused_none applied h = refl
refused_none past h = refl
refused_none stored h = refl
refused_none done h = refl
refused_none (rendered c) h = refl
refused_none (refused k) h = refl

module _ (E : Engine) (n : ℕ) (bs : List ℕ) (s : E.State) where
  -- a record, where the rest is told
  one_more : (let a = E.call s (call_of bs) in let rest = drop (size_of (kind_of bs)) bs in
      AsSingles E (up_to_refused E.call (reading n rest).calls a.0) (reading n rest).stop a.0 (push_run E.call n rest a.0))
      → AsSingles E (up_to_refused E.call (reading (suc n) bs).calls s) (reading (suc n) bs).stop s (push_run E.call (suc n) bs s)
  unfolding push_run reading up_to_refused calls first_refusal
  one_more next = go (eqb (stop_of bs) 0)
    where
      a : E.State × Reply
      a = E.call s (call_of bs)

      no : ℕ
      no = refusal_of a.1.answer

      rest : List ℕ
      rest = drop (size_of (kind_of bs)) bs

      told : Bool → Reading
      told b = cond b (record { calls = call_of bs ∷ (reading n rest).calls; stop = (reading n rest).stop }) (record { calls = []; stop = stop_of bs })

      does : (b c : Bool) → Pushed E.State
      does b c = cond b (cond c (behind (accepted_of a.1.answer) (push_run E.call n rest a.0)) (ends a.0 no)) (ends s (stop_of bs))

      accept : (c : Bool) → eqb no 0 ≡ c → AsSingles E (up_to_refused E.call (told true).calls s) (told true).stop s (does true c)
      accept true e = rw e (record {
        state = next.state;
        numbers = ap (λ (ns : List ℕ). accepted_of a.1.answer ++ ns) next.numbers;
        ended = next.ended ∙ rw e;
      })
      accept false e = rw e (record { state = refl; numbers = rw (refused_none a.1.answer e); ended = rw e })

      go : (b : Bool) → AsSingles E (up_to_refused E.call (told b).calls s) (told b).stop s (does b (eqb no 0))
      go false = record { state = refl; numbers = refl; ended = refl }
      go true = accept (eqb no 0) refl

module _ (E : Engine) where
  run-singles : (n : ℕ) (bs : List ℕ) (s : E.State)
      → AsSingles E (up_to_refused E.call (reading n bs).calls s) (reading n bs).stop s (push_run E.call n bs s)
  unfolding push_run reading up_to_refused calls first_refusal
  run-singles zero bs s = record { state = refl; numbers = refl; ended = refl }
  run-singles (suc n) bs s = one_more E n bs s (run-singles n (drop (size_of (kind_of bs)) bs) (E.call s (call_of bs)).0)

  -- a whole call is its single pushes
  pub as_singles : (bs : List ℕ) (count : ℕ) (slice : List ℕ) (s : E.State)
      → AsSingles E (singles E.call bs count slice s) (stopped bs count slice) s (push_all E.call bs count slice s)
  unfolding push_all singles stopped calls first_refusal
  as_singles bs count slice s = go (beyond count (length slice))
    where
      go : (b : Bool)
          → AsSingles E (cond b [] (up_to_refused E.call (reading count bs).calls s)) (cond b 16 (reading count bs).stop) s
          (cond b (ends s 16) (push_run E.call count bs s))
      go true = record { state = refl; numbers = refl; ended = refl }
      go false = run-singles count bs s

-- "only 16 refuses the whole call": nothing held or lent changes, whatever the records are
pub refused-whole : {S : Type 0} (call : S → Call → S × Reply) (bs : List ℕ) (count : ℕ) (slice : List ℕ) (s : S) → beyond count (length slice) ≡ true
    → (push_all call bs count slice s ≡ ends s 16) × (written (push_all call bs count slice s).numbers slice ≡ slice)
unfolding push_all
refused-whole call bs count slice s h = (rw h, rw h)

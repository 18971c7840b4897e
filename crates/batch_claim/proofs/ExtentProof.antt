-- "reads no further": the result of a run, and of the whole call, depends on the bytes that it reads alone (Extent.antt). Assumes nothing.
use Prim.Native.Nat.{ℕ, zero, suc, ◌+◌, ◌-◌, ◌≤◌, ◌<◌}
use Rattle.std.specs.Prelude.{Bool, not, ◌&&◌, ◌≡◌, List, [], ◌∷◌, ◌++◌, ltb, leb, eqb, length, get_or, drop}
use Rattle.std.proofs.Math.Bool.{true, false, cond}
use Rattle.std.proofs.Common.{true≢false, sym, ap, ◌∙◌, subst, arith, lt-ltb, le-ltb, ltb-true, ltb-false, leb-true, eq-eqb, ne_eqb, eqb-true, lit<, lit≤, length-take, get_or-take, take-take}
use Rattle.std.proofs.Math.Path.{refl}
use Rattle.std.proofs.Math.ListN.{take}
use Rattle.std.proofs.Math.Seq.{take-nil}
use Rattle.std.proofs.lemmas.List.{take-append-le}
use Rattle.ledger.specs.Calls.{Call, Reply}
use Rattle.ledger.specs.Claim.{accepted_of}
use Rattle.tape.specs.Fields.{field, from_little_endian}
use Rattle.tape.specs.Tape.{kind_of, gain_kind, push_kind, unknown_push, sizes, size_of, source_of, push_of}
use Rattle.floats.specs.Arithmetic.{oneᶠ}
use Rattle.std.specs.Float.{binary32}
use Rattle.std.specs.Float.Ieee.{of_bits}
use Rattle.batch.specs.Records.{beyond, stop_of, call_of}
use Rattle.apply.specs.RecordCalls.{refusal_of}
use Rattle.batch.specs.Run.{Pushed, ends, behind, push_run, push_all, written}
use Rattle.batch.specs.Contract.{push_records, numbers_after}
use Rattle.sequencer.specs.declared.Sequencer.{Sequencer}
use Rattle.claim.specs.EngineCalls.{engine_call}
use Rattle.batch_claim.specs.Extent.{reach, bytes_read, call_reads}
use Rattle.batch_claim.specs.ExtentProof.{length_ok, Alone}

all_ok : ℕ → List ℕ → Bool
all_ok k [] = true
all_ok k (x ∷ l) = length_ok k x && all_ok (suc k) l

and_left : (a b : Bool) → (a && b) ≡ true → a ≡ true
and_left true b h = refl
and_left false b h = h

and_right : (a b : Bool) → (a && b) ≡ true → b ≡ true
and_right true b h = h
and_right false b h = absurd (true≢false (sym h))

ok_at : (l : List ℕ) (k i : ℕ) → all_ok k l ≡ true → i < length l → length_ok (k + i) (get_or l i 0) ≡ true
unfolding all_ok
ok_at [] k i h b = absurd (omega arith)
ok_at (x ∷ l) k zero h b = let q : k + 0 ≡ k = omega arith in ap (λ (j : ℕ). length_ok j x) q ∙ and_left (length_ok k x) (all_ok (suc k) l) h
ok_at (x ∷ l) k (suc i) h b =
    let q : k + suc i ≡ suc k + i = omega arith in
    ap (λ (j : ℕ). length_ok j (get_or l i 0)) q ∙ ok_at l (suc k) i (and_right (length_ok k x) (all_ok (suc k) l) h) (omega arith)

no_push : (k : ℕ) → 13 ≤ k → push_kind k ≡ false
unfolding push_kind
no_push k h = rw (lt-ltb 9 k (omega arith), le-ltb k 13 h, lt-ltb 0 k (omega arith), le-ltb k 4 (omega arith))

all_ok_lem : all_ok 0 sizes ≡ true
unfolding all_ok sizes push_kind
all_ok_lem = refl

size_ok : (k : ℕ) → push_kind k ≡ true → length_ok k (size_of k) ≡ true
unfolding size_of sizes
size_ok k p = go (ltb k 13) refl
  where
    go : (b : Bool) → ltb k 13 ≡ b → length_ok k (size_of k) ≡ true
    go true e = let q : 0 + k ≡ k = omega arith in subst (λ (j : ℕ). length_ok j (get_or sizes k 0) ≡ true) q (ok_at sizes 0 k all_ok_lem (ltb-true k 13 e))
    go false e = absurd (true≢false (sym p ∙ no_push k (ltb-false k 13 e)))

push_size : (k : ℕ) → push_kind k ≡ true → (43 ≤ size_of k) × (gain_kind k ≡ true → 47 ≤ size_of k)
push_size k p = (
  leb-true 43 (size_of k) (and_left _ (cond (gain_kind k) (leb 47 (size_of k)) true) ok),
  λ g. leb-true 47 (size_of k) (sym (rw g) ∙ and_right (leb 43 (size_of k)) _ ok),
)
  where
    ok : (leb 43 (size_of k) && cond (gain_kind k) (leb 47 (size_of k)) true) ≡ true
    ok = rw p at (size_ok k p)

-- ---- parts of the first bytes

-- behind the first n of the first n + m
drop-take : (n m k : ℕ) (l : List ℕ) → k ≡ n + m → drop n (take k l) ≡ take m (drop n l)
drop-take zero m k l q = let e : k ≡ m = omega arith in ap (λ (j : ℕ). take j l) e
drop-take (suc n) m zero l q = absurd (omega arith)
drop-take (suc n) m (suc k) [] q = sym (take-nil m)
drop-take (suc n) m (suc k) (x ∷ l) q = drop-take n m k l (omega arith)

part_same : (m at w : ℕ) (bs : List ℕ) → at + w ≤ m → field (take m bs) at w ≡ field bs at w
unfolding field
part_same m at w bs h = ap from_little_endian (ap (take w) (drop-take at (m - at) m bs (omega arith)) ∙ take-take w (m - at) (drop at bs) (omega arith))

-- ---- the record that begins the bytes, by its first m bytes

module _ (m : ℕ) (bs : List ℕ) (h : reach bs ≤ m) where
  far : push_kind (kind_of bs) ≡ true → size_of (kind_of bs) ≤ m
  far p = rw p at h

  positive : 1 ≤ m
  positive = go (push_kind (kind_of bs)) refl
    where
      go : (b : Bool) → push_kind (kind_of bs) ≡ b → 1 ≤ m
      go true p = omega (arith, far p, (push_size (kind_of bs) p).0)
      go false p = rw p at h

  kind_same : kind_of (take m bs) ≡ kind_of bs
  kind_same = get_or-take m bs 0 0 positive

  empty-same : eqb (length (take m bs)) 0 ≡ eqb (length bs) 0
  empty-same = go (eqb (length bs) 0) refl
    where
      go : (b : Bool) → eqb (length bs) 0 ≡ b → eqb (length (take m bs)) 0 ≡ b
      go true e = eq-eqb (length (take m bs)) 0 (omega (arith, length-take m bs, eqb-true (length bs) 0 e))
      go false e = ne_eqb (length (take m bs)) 0 (λ z. absurd (true≢false (sym (eq-eqb (length bs) 0 (omega (arith, length-take m bs, z, positive))) ∙ e)))

  module _ (p : push_kind (kind_of bs) ≡ true) where
    near : (i : ℕ) → i < 43 → get_or (take m bs) i 0 ≡ get_or bs i 0
    near i b = get_or-take m bs i 0 (omega (arith, far p, (push_size (kind_of bs) p).0))

    part : (at w : ℕ) → at + w ≤ 43 → field (take m bs) at w ≡ field bs at w
    part at w b = part_same m at w bs (omega (arith, far p, (push_size (kind_of bs) p).0))

    unknown-same : unknown_push (take m bs) ≡ unknown_push bs
    unfolding unknown_push
    unknown-same = simp (near 33 (lit< tt), near 34 (lit< tt))

    short-same : ltb (length (take m bs)) (size_of (kind_of bs)) ≡ ltb (length bs) (size_of (kind_of bs))
    short-same = go (ltb (length bs) (size_of (kind_of bs))) refl
      where
        go : (b : Bool) → ltb (length bs) (size_of (kind_of bs)) ≡ b → ltb (length (take m bs)) (size_of (kind_of bs)) ≡ b
        go true e = lt-ltb (length (take m bs)) (size_of (kind_of bs)) (omega (arith, length-take m bs, ltb-true (length bs) (size_of (kind_of bs)) e))
        go false e = le-ltb (length (take m bs)) (size_of (kind_of bs)) (omega (arith, length-take m bs, ltb-false (length bs) (size_of (kind_of bs)) e, far p))

    gain_same : cond (gain_kind (kind_of bs)) (of_bits binary32 (field (take m bs) 43 4)) oneᶠ ≡ cond (gain_kind (kind_of bs)) (of_bits binary32 (field bs 43 4)) oneᶠ
    gain_same = go (gain_kind (kind_of bs)) refl
      where
        go : (g : Bool) → gain_kind (kind_of bs) ≡ g → cond g (of_bits binary32 (field (take m bs) 43 4)) oneᶠ ≡ cond g (of_bits binary32 (field bs 43 4)) oneᶠ
        go true e = ap (of_bits binary32) (part_same m 43 4 bs (omega (arith, far p, (push_size (kind_of bs) p).1 e)))
        go false e = refl

    source_same : source_of (take m bs) ≡ source_of bs
    unfolding source_of
    source_same = simp (near 34 (lit< tt), part 35 4 (lit≤ tt), part 39 4 (lit≤ tt))

    push-same : push_of (take m bs) ≡ push_of bs
    unfolding push_of
    push-same = simp (part 1 8 (lit≤ tt), part 9 8 (lit≤ tt), part 17 8 (lit≤ tt), part 25 8 (lit≤ tt), near 33 (lit< tt), source_same, kind_same, gain_same)

    call_same : call_of (take m bs) ≡ call_of bs
    unfolding call_of
    call_same = simp (kind_same, push-same)

  stop_same : stop_of (take m bs) ≡ stop_of bs
  unfolding stop_of
  stop_same = go (push_kind (kind_of bs)) refl
    where
      go : (b : Bool) → push_kind (kind_of bs) ≡ b → stop_of (take m bs) ≡ stop_of bs
      go true p = simp (empty-same, kind_same, unknown-same p, short-same p)
      go false p = simp (empty-same, kind_same, p)

-- ---- the run

is-push : (a b : Bool) (k : ℕ) → ◌≡◌ {A = ℕ} (cond a 15 (cond (not b) 14 k)) 0 → b ≡ true
is-push true b k h = absurd (omega arith)
is-push false true k h = refl
is-push false false k h = absurd (omega arith)

-- a record that does not stop the run is a push
push_there : (bs : List ℕ) → stop_of bs ≡ 0 → push_kind (kind_of bs) ≡ true
unfolding stop_of
push_there bs h = is-push (eqb (length bs) 0) (push_kind (kind_of bs)) (cond (unknown_push bs) 14 (cond (ltb (length bs) (size_of (kind_of bs))) 15 0)) h

-- the same first m bytes
module _ (m : ℕ) (bs cs : List ℕ) (r : reach bs ≤ m) (h : take m bs ≡ take m cs) where
  same_kind : kind_of cs ≡ kind_of bs
  same_kind = sym (get_or-take m cs 0 0 (positive m bs r)) ∙ ap kind_of (sym h) ∙ kind_same m bs r

  within : reach cs ≤ m
  within = subst (λ (k : ℕ). cond (push_kind k) (size_of k) 1 ≤ m) (sym same_kind) r

  same_stop : stop_of cs ≡ stop_of bs
  same_stop = sym (stop_same m cs within) ∙ ap stop_of (sym h) ∙ stop_same m bs r

  same-call : push_kind (kind_of bs) ≡ true → call_of cs ≡ call_of bs
  same-call p = sym (call_same m cs within (ap push_kind same_kind ∙ p)) ∙ ap call_of (sym h) ∙ call_same m bs r p

module _ {S : Type 0} (call : S → Call → S × Reply) where
  one-read : (n : ℕ) → Alone call n → Alone call (suc n)
  unfolding push_run bytes_read
  one-read n ih bs cs s h = go (eqb (stop_of bs) 0) refl
    where
      a : S × Reply
      a = call s (call_of bs)

      no : ℕ
      no = refusal_of a.1.answer

      size : ℕ
      size = size_of (kind_of bs)

      more : ℕ
      more = bytes_read call n (drop size bs) a.0

      all : ℕ
      all = reach bs + cond (eqb (stop_of bs) 0) (cond (eqb no 0) more 0) 0

      r : reach bs ≤ all
      r = omega arith

      stops : stop_of cs ≡ stop_of bs
      stops = same_stop all bs cs r h

      goes : stop_of bs ≡ 0 → eqb (stop_of bs) 0 ≡ true → call_of cs ≡ call_of bs → (c : Bool) → eqb no 0 ≡ c
          → push_run call (suc n) bs s ≡ push_run call (suc n) cs s
      goes z e q false f =
          let left : push_run call (suc n) bs s ≡ ends a.0 no = rw (e, f) in
          let right : push_run call (suc n) cs s ≡ ends a.0 no = rw (stops, e, q, f) in
          left ∙ sym right
      goes z e q true f =
          let left : push_run call (suc n) bs s ≡ behind (accepted_of a.1.answer) (push_run call n (drop size bs) a.0) = rw (e, f) in
          let k = same_kind all bs cs r h in
          let right : push_run call (suc n) cs s ≡ behind (accepted_of a.1.answer) (push_run call n (drop size cs) a.0) = rw (stops, e, q, k, f) in
          let long : all ≡ size + more = rw (e, f, push_there bs z) in
          let rest : take more (drop size bs) ≡ take more (drop size cs) =
          sym (drop-take size more all bs long) ∙ ap (drop size) h ∙ drop-take size more all cs long in
          left ∙ ap (behind (accepted_of a.1.answer)) (ih (drop size bs) (drop size cs) a.0 rest) ∙ sym right

      go : (b : Bool) → eqb (stop_of bs) 0 ≡ b → push_run call (suc n) bs s ≡ push_run call (suc n) cs s
      go false e =
          let left : push_run call (suc n) bs s ≡ ends s (stop_of bs) = rw e in
          let right : push_run call (suc n) cs s ≡ ends s (stop_of bs) = rw (stops, e) in
          left ∙ sym right
      go true e =
          let z = eqb-true (stop_of bs) 0 e in
          goes z e (same-call all bs cs r h (push_there bs z)) (eqb no 0) refl

  -- the result depends on the bytes that are read alone
  pub reads_alone : (n : ℕ) → Alone call n
  unfolding push_run
  reads_alone zero bs cs s h = refl
  reads_alone (suc n) bs cs s h = one-read n (reads_alone n) bs cs s h

  -- bytes behind the last that is read change nothing
  pub reads_no_further : (n : ℕ) (bs more : List ℕ) (s : S) → bytes_read call n bs s ≤ length bs → push_run call n (bs ++ more) s ≡ push_run call n bs s
  reads_no_further n bs more s h = sym (reads_alone n bs (bs ++ more) s (sym (take-append-le (bytes_read call n bs s) bs more h)))

  -- ---- the whole call

  pub call-reads_alone : (bs cs : List ℕ) (count : ℕ) (slice : List ℕ) (s : S)
      → take (call_reads call bs count slice s) bs ≡ take (call_reads call bs count slice s) cs → push_all call bs count slice s ≡ push_all call cs count slice s
  unfolding push_all call_reads
  call-reads_alone bs cs count slice s = go (beyond count (length slice))
    where
      go : (b : Bool) → take (cond b 0 (bytes_read call count bs s)) bs ≡ take (cond b 0 (bytes_read call count bs s)) cs
          → cond b (ends s 16) (push_run call count bs s) ≡ cond b (ends s 16) (push_run call count cs s)
      go true h = refl
      go false h = reads_alone count bs cs s h

  pub call-reads_no_further : (bs more : List ℕ) (count : ℕ) (slice : List ℕ) (s : S) → call_reads call bs count slice s ≤ length bs
      → push_all call (bs ++ more) count slice s ≡ push_all call bs count slice s
  call-reads_no_further bs more count slice s h =
      sym (call-reads_alone bs (bs ++ more) count slice s (sym (take-append-le (call_reads call bs count slice s) bs more h)))

-- and so with the engine that `push_records` leaves, what it gives back, and the lent slice, on every engine
module _ (s : Sequencer) (bs cs : List ℕ) (count : ℕ) (slice : List ℕ)
    (h : take (call_reads engine_call bs count slice s) bs ≡ take (call_reads engine_call bs count slice s) cs) where
  pub records_alone : push_records s bs count slice ≡ push_records s cs count slice
  records_alone = call-reads_alone engine_call bs cs count slice s h

  pub numbers_alone : numbers_after s bs count slice ≡ numbers_after s cs count slice
  numbers_alone = ap (λ (p : Pushed Sequencer). written p.numbers slice) (call-reads_alone engine_call bs cs count slice s h)

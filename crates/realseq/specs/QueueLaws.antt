-- Laws of the two queues: each is a list, messages first in first out, returned numbers at most 64.
use Rattle.std.specs.Prelude.{◌≡◌, ℕ, zero, suc, ◌+◌, ◌-◌, ◌%◌, ◌<◌, ◌≤◌, min, Bool, true, false, cond, ◌==◌, refl}
use Rattle.std.proofs.Common.{add-one, arith, eqb-true}
use Rattle.realseq.specs.declared.queues.Message.{Message}
use Rattle.realseq.specs.declared.queues.Messages.{Messages}
use Rattle.realseq.specs.Queues.{at, popped, kind_of, counted, tally_from, tallied}

-- ---- how many of a kind

one_more : (k i : ℕ) (q : Messages) (n : ℕ) → tally_from (suc k) i q n ≡ counted (at q i) n + tally_from k (i + 1) q n
unfolding tally_from
one_more k i q n = rw add-one

pub tally_on : (m i : ℕ) (q : Messages) (n : ℕ) → i < m → tally_from (m - i) i q n ≡ counted (at q i) n + tally_from (m - (i + 1)) (i + 1) q n
tally_on m i q n h =
    let e : m - i ≡ suc (m - (i + 1)) = omega arith in
    rw e (one_more (m - (i + 1)) i q n)

pub tally-none : (m i : ℕ) (q : Messages) (n : ℕ) → m ≤ i → tally_from (m - i) i q n ≡ 0
unfolding tally_from
tally-none m i q n h =
    let e : m - i ≡ 0 = omega arith in
    rw e refl

pub tally-start : (q : Messages) (n : ℕ) → 0 + tally_from (min q.count 64 - 0) 0 q n ≡ tallied q n
unfolding tallied
tally-start q n =
    let e : min q.count 64 - 0 ≡ min q.count 64 = omega arith in
    rw e (omega arith)

pub counted-le : (m : Message) (k : ℕ) → counted m k ≤ 1
counted-le m k = go (kind_of m == k)
  where
    go : (b : Bool) → cond b 1 0 ≤ 1
    go true = omega arith
    go false = omega arith

tally_from-le : (n i : ℕ) (q : Messages) (k : ℕ) → tally_from n i q k ≤ n
unfolding tally_from
tally_from-le zero i q k = omega arith
tally_from-le (suc n) i q k = omega (arith, counted-le (at q i) k, tally_from-le n (suc i) q k)

pub tallied-le : (q : Messages) (k : ℕ) → tallied q k ≤ 64
unfolding tallied
tallied-le q k = omega (arith, tally_from-le (min q.count 64) 0 q k)

-- ---- the messages as a list

pub popped_count : (q : Messages) → (popped q).count ≡ q.count - 1
unfolding popped
popped_count q = go (q.count == 0) refl
  where
    go : (b : Bool) → (q.count == 0) ≡ b → (cond b q (record { slots = q.slots; first = (q.first % 64 + 1) % 64; count = q.count - 1 })).count ≡ q.count - 1
    go true e = let h : q.count ≡ 0 = eqb-true _ _ e in omega arith
    go false e = refl

-- ---- the slots stay 64

pub popped_slots : (q : Messages) → (popped q).slots ≡ q.slots
unfolding popped
popped_slots q = go (q.count == 0)
  where
    go : (b : Bool) → (cond b q (record { slots = q.slots; first = (q.first % 64 + 1) % 64; count = q.count - 1 })).slots ≡ q.slots
    go true = refl
    go false = refl

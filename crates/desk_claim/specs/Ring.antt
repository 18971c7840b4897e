-- The message queue is a list, first in first out: push appends, peek is the first, pop drops it, and a tally counts the list's. Assumes nothing.
use Rattle.std.specs.Prelude.{◌≡◌, refl, Bool, cond, List, [], ◌∷◌, ◌++◌, ℕ, zero, suc, ◌+◌, ◌-◌, ◌%◌, ◌≤◌, ◌<◌, min, get_or, set, length}
use Rattle.std.proofs.Common.{sym, ◌∙◌, arith, length-set, length-append, get_or-set_same, get_or-set_other, lt-ltb, ne_eqb}
use Rattle.std.proofs.Math.Path.{ap}
use Rattle.realseq.specs.declared.queues.Message.{Message}
use Rattle.realseq.specs.declared.queues.Slot.{Slot}
use Rattle.realseq.specs.declared.queues.Messages.{Messages}
use Rattle.realseq.specs.Queues.{blank_slot, no_messages, at, peeked, pushed, popped, counted, tally_from, tallied}

-- n messages from place i on
unfoldable pub listed_from : (n i : ℕ) → Messages → List Message
listed_from zero i q = []
listed_from (suc n) i q = at q i ∷ listed_from n (suc i) q

unfoldable pub listed : Messages → List Message
unfolding listed_from
listed q = listed_from q.count 0 q

-- two queues that agree from i on, and from j on
agree : (n i j : ℕ) (q r : Messages) → ((k : ℕ) → k < n → at q (i + k) ≡ at r (j + k)) → listed_from n i q ≡ listed_from n j r
unfolding listed_from
agree zero i j q r h = refl
agree (suc n) i j q r h =
    let a : at q i ≡ at r j = ap (λ (k : ℕ). at q k) (omega arith) ∙ h 0 (omega arith) ∙ ap (λ (k : ℕ). at r k) (omega arith) in
    let b : listed_from n (suc i) q ≡ listed_from n (suc j) r =
    agree n (suc i) (suc j) q r (λ k l. ap (λ (x : ℕ). at q x) (omega arith) ∙ h (suc k) (omega arith) ∙ ap (λ (x : ℕ). at r x) (omega arith)) in
    ap (λ (x : Message). x ∷ listed_from n (suc i) q) a ∙ ap (λ (l : List Message). at r j ∷ l) b

last_one : (n i : ℕ) (q : Messages) → listed_from (suc n) i q ≡ listed_from n i q ++ (at q (i + n) ∷ [])
unfolding listed_from
last_one zero i q = ap (λ (k : ℕ). at q k ∷ []) (omega arith)
last_one (suc n) i q = ap (λ (l : List Message). at q i ∷ l) (last_one n (suc i) q ∙ ap (λ (k : ℕ). listed_from n (suc i) q ++ (at q k ∷ [])) (omega arith))

first-listed : (n : ℕ) (q : Messages) → q.count ≡ suc n → listed q ≡ peeked q ∷ listed (popped q)
unfolding listed listed_from popped peeked
first-listed n q e =
    let r : Messages = record { slots = q.slots; first = (q.first % 64 + 1) % 64; count = q.count - 1 } in
    let p : popped q ≡ r = ap (λ (b : Bool). cond b q r) (ne_eqb q.count 0 (λ z. omega arith)) in
    let h : at q 0 ≡ peeked q = ap (λ (k : ℕ). (get_or q.slots k blank_slot).message) (omega arith) in
    let t : listed_from n 1 q ≡ listed_from n 0 r = agree n 1 0 q r (λ k l. ap (λ (x : ℕ). (get_or q.slots x blank_slot).message) (omega arith)) in
    let c : n ≡ q.count - 1 = omega arith in
    ap (λ (k : ℕ). listed_from k 0 q) e ∙ ap (λ (m : Message). m ∷ listed_from n 1 q) h
    ∙ ap (λ (l : List Message). peeked q ∷ l) (t ∙ ap (λ (k : ℕ). listed_from k 0 r) c ∙ ap listed (sym p))

pushed-listed : (q : Messages) (m : Message) → q.count < 64 → length q.slots ≡ 64 → listed (pushed q m) ≡ listed q ++ (m ∷ [])
unfolding listed pushed
pushed-listed q m l e =
    let w = (q.first % 64 + q.count) % 64 in
    let r : Messages = record { slots = set q.slots w (record { message = m }); first = q.first; count = q.count + 1 } in
    let p : pushed q m ≡ r = ap (λ (b : Bool). cond b r q) (lt-ltb q.count 64 l) in
    let s : at r (0 + q.count) ≡ m =
    ap (λ (k : ℕ). (get_or r.slots k blank_slot).message) {y = w} (omega arith) ∙ ap (λ (x : Slot). x.message) (get_or-set_same q.slots w (record { message = m }) blank_slot (omega arith)) in
    let o : listed_from q.count 0 r ≡ listed_from q.count 0 q =
    agree q.count 0 0 r q (λ k h. ap (λ (x : Slot). x.message) (get_or-set_other q.slots w ((q.first % 64 + (0 + k)) % 64) (record { message = m }) blank_slot (λ z. omega arith))) in
    let c : r.count ≡ suc q.count = omega arith in
    ap listed p ∙ ap (λ (k : ℕ). listed_from k 0 r) c ∙ last_one q.count 0 r ∙ ap (λ (t : List Message). t ++ (at r (0 + q.count) ∷ [])) o
    ∙ ap (λ (x : Message). listed_from q.count 0 q ++ (x ∷ [])) s

listed-length : (n i : ℕ) (q : Messages) → length (listed_from n i q) ≡ n
unfolding listed_from
listed-length zero i q = refl
listed-length (suc n) i q = ap suc (listed-length n (suc i) q)

-- ---- a queue that holds a list

pub record Queued (q : Messages) (l : List Message) : Type 0 where
  pub sized : length q.slots ≡ 64
  pub few : length l ≤ 64
  pub lists : listed q ≡ l

pub queued_count : {q : Messages} {l : List Message} → Queued q l → q.count ≡ length l
unfolding listed
queued_count {q} h = sym (listed-length q.count 0 q) ∙ ap length h.lists

pub queued_none : Queued no_messages []
unfolding no_messages listed listed_from
queued_none = record { sized = refl; few = omega arith; lists = refl }

pub queued_push : (q : Messages) (l : List Message) (m : Message) → length l < 64 → Queued q l → Queued (pushed q m) (l ++ (m ∷ []))
unfolding pushed
queued_push q l m p h = record {
  sized = rw (lt-ltb q.count 64 room) (length-set q.slots ((q.first % 64 + q.count) % 64) (record { message = m }) ∙ h.sized);
  few = omega (arith, length-append l (m ∷ []));
  lists = pushed-listed q m room h.sized ∙ ap (λ (x : List Message). x ++ (m ∷ [])) h.lists;
}
  where
    room : q.count < 64
    room = omega (arith, queued_count h)

-- ---- the first

abbrev head_or : Message → List Message → Message
head_or m [] = m
head_or m (x ∷ l) = x

abbrev tail_of : List Message → List Message
tail_of [] = []
tail_of (x ∷ l) = l

module _ (q : Messages) (m : Message) (l : List Message) (h : Queued q (m ∷ l)) where
  count_is : q.count ≡ suc (length l)
  count_is = queued_count h

  both : peeked q ∷ listed (popped q) ≡ m ∷ l
  both = sym (first-listed (length l) q count_is) ∙ h.lists

  pub queued_first : peeked q ≡ m
  queued_first = ap (head_or m) both

  pub queued_rest : Queued (popped q) l
  unfolding popped
  queued_rest = record { sized = rw (ne_eqb q.count 0 (λ z. omega (arith, count_is))) h.sized; few = omega (arith, h.few); lists = ap tail_of both }

-- ---- how many of a kind

abbrev pub tally_of : (kind : ℕ) → List Message → ℕ
tally_of k [] = 0
tally_of k (m ∷ l) = counted m k + tally_of k l

tally-listed : (k n i : ℕ) (q : Messages) → tally_from n i q k ≡ tally_of k (listed_from n i q)
unfolding tally_from listed_from
tally-listed k zero i q = refl
tally-listed k (suc n) i q = ap (λ (x : ℕ). counted (at q i) k + x) (tally-listed k n (suc i) q)

pub queued_tally : (k : ℕ) {q : Messages} {l : List Message} → Queued q l → tallied q k ≡ tally_of k l
unfolding tallied listed
queued_tally k {q} h =
    let n : min q.count 64 ≡ q.count = omega (arith, queued_count h, h.few) in
    ap (λ (m : ℕ). tally_from m 0 q k) n ∙ tally-listed k q.count 0 q ∙ ap (tally_of k) h.lists

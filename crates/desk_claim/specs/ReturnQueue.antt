-- The return queue is a list of at most 64 numbers: what finds 64 there is lost. Sending an array's events from the end, or the heap's in order, appends their numbers. Assumes nothing.
use Rattle.std.specs.Prelude.{◌≡◌, refl, List, [], ◌∷◌, ◌++◌, map, reverse, ℕ, zero, suc, ◌+◌, ◌≤◌, ◌<◌, min, get_or, set, length, take}
use Rattle.std.proofs.Common.{sym, ap, ◌∙◌, subst, append_assoc, append-nil, arith, add-one, length-set, length-append, take-suc, take-suc-set, take_all, length-take-le, lt-ltb, le-ltb}
use Rattle.std.proofs.lemmas.List.{reverse-append, length-map, take-append-le}
use Rattle.std.proofs.Math.Decide.{dec_lt}
use Rattle.event.specs.declared.Event.{Event}
use Rattle.event.specs.declared.EventId.{EventId}
use Rattle.event.specs.Blank.{blank}
use Rattle.ledger.specs.Lists.{numbers}
use Rattle.ledger.specs.Sorted.{Sorted}
use Rattle.ready.specs.declared.Ready.{Ready}
use Rattle.ready.proofs.Waits.{waits_pop, waits-length}
use Rattle.ready.specs.Waits.{Waits}
use Rattle.ready.specs.Waiting as Waiting
use Rattle.lists.specs.Holds.{Holds}
use Rattle.realseq.specs.declared.queues.Returned.{Returned}
use Rattle.realseq.specs.Queues.{no_returned, emptied, sent}
use Rattle.realseq.specs.Handling.{sent_down, sent_ready}

-- ---- lists

take_again : (n : ℕ) (a b : List ℕ) → take n (take n a ++ b) ≡ take n (a ++ b)
take_again zero a b = refl
take_again (suc n) [] b = refl
take_again (suc n) (x ∷ a) b = ap (λ (l : List ℕ). x ∷ l) (take_again n a b)

-- what is sent after what was sent
pub sent_on : (l a b : List ℕ) → take 64 (take 64 (l ++ a) ++ b) ≡ take 64 (l ++ (a ++ b))
sent_on l a b = take_again 64 (l ++ a) b ∙ ap (take 64) (append_assoc l a b)

pub numbers-append : (a b : List Event) → numbers (a ++ b) ≡ numbers a ++ numbers b
numbers-append [] b = refl
numbers-append (e ∷ a) b = ap (λ (l : List ℕ). e.id.0 ∷ l) (numbers-append a b)

map-append : (f : EventId → ℕ) (a b : List EventId) → map f (a ++ b) ≡ map f a ++ map f b
map-append f [] b = refl
map-append f (x ∷ a) b = ap (λ (l : List ℕ). f x ∷ l) (map-append f a b)

-- ---- a queue that holds numbers

abbrev pub number_in : EventId → ℕ
number_in k = k.0

abbrev pub in_queue : Returned → List ℕ
in_queue r = map number_in (take r.count r.ids)

pub record Returns (r : Returned) (l : List ℕ) : Type 0 where
  pub sized : length r.ids ≡ 64
  pub few : r.count ≤ 64
  pub lists : in_queue r ≡ l

pub returns_to : {r : Returned} {l m : List ℕ} → l ≡ m → Returns r l → Returns r m
returns_to q h = record { sized = h.sized; few = h.few; lists = h.lists ∙ q }

pub returns-none : Returns no_returned []
unfolding no_returned
returns-none = record { sized = refl; few = omega arith; lists = refl }

pub returns-emptied : {r : Returned} {l : List ℕ} → Returns r l → Returns (emptied r) []
returns-emptied h = record { sized = h.sized; few = omega arith; lists = refl }

returns-length : {r : Returned} {l : List ℕ} → Returns r l → length l ≡ r.count
returns-length {r} h = ap length (sym h.lists) ∙ length-map (take r.count r.ids) number_in ∙ length-take-le r.count r.ids (omega (arith, h.sized, h.few))

-- ---- one number

returns-sent : (r : Returned) (k : EventId) (l : List ℕ) → Returns r l → Returns (sent r k) (take 64 (l ++ (k.0 ∷ [])))
unfolding sent
returns-sent r k l h = go (dec_lt r.count 64)
  where
    n : length l ≡ r.count
    n = returns-length h

    go : Dec (r.count < 64) → Returns (sent r k) (take 64 (l ++ (k.0 ∷ [])))
    go (yes p) =
        rw (lt-ltb r.count 64 p)
        (record {
          sized = length-set r.ids r.count k ∙ h.sized;
          few = omega arith;
          lists =
              ap (λ (m : ℕ). map number_in (take m (set r.ids r.count k))) (add-one r.count)
              ∙ ap (map number_in) (take-suc-set r.ids r.count k (omega (arith, h.sized)))
              ∙ map-append number_in (take r.count r.ids) (k ∷ [])
              ∙ ap (λ (m : List ℕ). m ++ (k.0 ∷ [])) h.lists
              ∙ sym (take_all 64 (l ++ (k.0 ∷ [])) (omega (arith, length-append l (k.0 ∷ []), n)));
        })
    go (no p) =
        rw (le-ltb r.count 64 (omega arith))
        (returns_to (sym (take-append-le 64 l (k.0 ∷ []) (omega (arith, n)) ∙ take_all 64 l (omega (arith, n, h.few)))) h)

-- none
returns-same : {r : Returned} {l : List ℕ} → Returns r l → Returns r (take 64 (l ++ []))
returns-same {r} {l} h = returns_to (sym (ap (take 64) (append-nil l) ∙ take_all 64 l (omega (arith, returns-length h, h.few)))) h

-- ---- an array's events, from the end

down : (n : ℕ) (xs : List Event) → n < length xs → numbers (reverse (take (suc n) xs)) ≡ (get_or xs n blank).id.0 ∷ numbers (reverse (take n xs))
down n xs p = ap (λ (l : List Event). numbers (reverse l)) (take-suc xs n blank p) ∙ ap numbers (reverse-append (take n xs) (get_or xs n blank ∷ []))

returns-down : (n : ℕ) (xs : List Event) (r : Returned) (l : List ℕ) → n ≤ length xs → Returns r l → Returns (sent_down n xs r) (take 64 (l ++ numbers (reverse (take n xs))))
unfolding sent_down
returns-down zero xs r l p h = returns-same h
returns-down (suc n) xs r l p h =
    let k = (get_or xs n blank).id in
    returns_to (sent_on l (k.0 ∷ []) (numbers (reverse (take n xs))) ∙ ap (λ (m : List ℕ). take 64 (l ++ m)) (sym (down n xs (omega arith))))
    (returns-down n xs (sent r k) (take 64 (l ++ (k.0 ∷ []))) (omega arith) (returns-sent r k l h))

-- a list that an array holds
pub returns-list : (xs : List Event) (n : ℕ) (f : List Event) (r : Returned) (l : List ℕ) → Holds xs n f → Returns r l → Returns (sent_down (min n 256) xs r) (take 64 (l ++ numbers (reverse f)))
returns-list xs n f r l q h =
    let m : n ≡ min n 256 = omega (arith, q.fits) in
    subst (λ (k : ℕ). Returns (sent_down k xs r) (take 64 (l ++ numbers (reverse f)))) m
    (returns_to (ap (λ (g : List Event). take 64 (l ++ numbers (reverse g))) q.front) (returns-down n xs r l (omega (arith, q.sized, q.fits)) h))

-- ---- the heap's events, in order

returns-ready : (w : List Event) (x : Ready) (r : Returned) (l : List ℕ) → Sorted w → Waits x w → Returns r l → Returns (sent_ready (length w) x r) (take 64 (l ++ numbers w))
unfolding sent_ready
returns-ready [] x r l s q h = returns-same h
returns-ready (e ∷ w) x r l s q h =
    let p = waits_pop x e w s q in
    let k = (Waiting.peeked x).id in
    returns_to (sent_on l (k.0 ∷ []) (numbers w) ∙ ap (λ (f : Event). take 64 (l ++ (f.id.0 ∷ numbers w))) p.0)
    (returns-ready w (Waiting.popped x) (sent r k) (take 64 (l ++ (k.0 ∷ []))) s.1 p.1 (returns-sent r k l h))

pub returns-heap : (x : Ready) (w : List Event) (r : Returned) (l : List ℕ) → Sorted w → Waits x w → Returns r l → Returns (sent_ready (min x.len 256) x r) (take 64 (l ++ numbers w))
returns-heap x w r l s q h =
    let m : length w ≡ min x.len 256 = omega (arith, waits-length q, q.sized, q.stands.fits) in
    subst (λ (k : ℕ). Returns (sent_ready k x r) (take 64 (l ++ numbers w))) m (returns-ready w x r l s q h)

-- ---- all three: F from the end, W in order, S from the end

pub three-sent : (l : List ℕ) (f w s : List Event)
    → take 64 (take 64 (take 64 (l ++ numbers f) ++ numbers w) ++ numbers s) ≡ take 64 (l ++ numbers (f ++ (w ++ s)))
three-sent l f w s =
    ap (λ (m : List ℕ). take 64 (m ++ numbers s)) (sent_on l (numbers f) (numbers w))
    ∙ sent_on l (numbers f ++ numbers w) (numbers s)
    ∙ ap (λ (m : List ℕ). take 64 (l ++ m)) (append_assoc (numbers f) (numbers w) (numbers s) ∙ sym (numbers-append f (w ++ s) ∙ ap (λ (m : List ℕ). numbers f ++ m) (numbers-append w s)))

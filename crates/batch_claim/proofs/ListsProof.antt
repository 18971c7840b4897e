-- A list with runs is its single calls (Lists.antt): it leaves the same, hands out the same numbers, and is lent what they are lent. Assumes nothing.
use Rattle.std.specs.Prelude.{ℕ, zero, suc, Bool, true, false, cond, ◌≡◌, refl, eqb, length, take, drop}
use Rattle.std.proofs.Common.{sym, ap, ap₂, ◌∙◌}
use mathlib.Core.List.{List, [], ◌∷◌, ◌++◌, append_assoc, append-nil, map, flatten}
use Rattle.std.proofs.Math.Seq.{take-append_seam}
use Rattle.ledger.specs.Calls.{Call, Reply}
use Rattle.ledger.specs.Claim.{accepted_of, accepted, Engine, calls, AllLend}
use Rattle.tape.specs.Tape.{kind_of, size_of}
use Rattle.apply.specs.RecordCalls.{refusal_of}
use Rattle.batch.specs.Records.{beyond, stop_of, call_of}
use Rattle.batch.specs.Run.{Pushed, push_all, written}
use Rattle.batch_claim.specs.Singles.{Reading, reading, up_to_refused, singles}
use Rattle.batch_claim.proofs.SinglesProof.{as_singles}
use Rattle.batch_claim.specs.Lists.{Item, single, batch, ItemReply, replied, answered, answer_of, items, flat, parts, numbers_of, all_numbers, ItemsLend}

-- ---- they leave the same

calls-append : (E : Engine) (ds bs : List Call) (s : E.State) → (calls E (ds ++ bs) s).0 ≡ (calls E bs (calls E ds s).0).0
unfolding calls
calls-append E [] bs s = refl
calls-append E (c ∷ ds) bs s = calls-append E ds bs (E.call s c).0

pub items-flat : (E : Engine) (is : List Item) (s : E.State) → (items E is s).0 ≡ (calls E (flat E is s) s).0
unfolding items flat calls
items-flat E [] s = refl
items-flat E (single c ∷ is) s = items-flat E is (E.call s c).0
items-flat E (batch bs n slice ∷ is) s =
    let p = push_all E.call bs n slice s in
    let cs = singles E.call bs n slice s in
    items-flat E is p.state ∙ ap (λ (t : E.State). (calls E (flat E is p.state) t).0) (as_singles E bs n slice s).state
    ∙ sym (calls-append E cs (flat E is p.state) s)

-- ---- they hand out the same numbers

replies-append : (E : Engine) (ds bs : List Call) (s : E.State) → (calls E (ds ++ bs) s).1 ≡ (calls E ds s).1 ++ (calls E bs (calls E ds s).0).1
unfolding calls
replies-append E [] bs s = refl
replies-append E (c ∷ ds) bs s = ap (λ (l : List Reply). (E.call s c).1 ∷ l) (replies-append E ds bs (E.call s c).0)

accepted-append : (a b : List Reply) → accepted (a ++ b) ≡ accepted a ++ accepted b
accepted-append [] b = refl
accepted-append (r ∷ a) b =
    ap (λ (ns : List ℕ). accepted_of r.answer ++ ns) (accepted-append a b)
    ∙ sym (append_assoc (accepted_of r.answer) (accepted a) (accepted b))

-- the parts are all the replies
pub parts_whole : (E : Engine) (is : List Item) (s : E.State) → flatten (parts E is s) ≡ (calls E (flat E is s) s).1
unfolding parts flat calls flatten
parts_whole E [] s = refl
parts_whole E (single c ∷ is) s = ap (λ (l : List Reply). (E.call s c).1 ∷ l) (parts_whole E is (E.call s c).0)
parts_whole E (batch bs n slice ∷ is) s =
    let p = push_all E.call bs n slice s in
    let cs = singles E.call bs n slice s in
    ap (λ (l : List Reply). (calls E cs s).1 ++ l)
    (parts_whole E is p.state ∙ ap (λ (t : E.State). (calls E (flat E is p.state) t).1) (as_singles E bs n slice s).state)
    ∙ sym (replies-append E cs (flat E is p.state) s)

-- the numbers put into a run's slice are those that its pushes are answered with
pub slice-numbers : (E : Engine) (bs : List ℕ) (n : ℕ) (slice : List ℕ) (s : E.State)
    → numbers_of (answer_of (push_all E.call bs n slice s) slice) ≡ accepted (calls E (singles E.call bs n slice s) s).1
slice-numbers E bs n slice s =
    let ns = (push_all E.call bs n slice s).numbers in
    take-append_seam ns (drop (length ns) slice) ∙ (as_singles E bs n slice s).numbers

pub numbers-by-item : (E : Engine) (is : List Item) (s : E.State) → map numbers_of (items E is s).1 ≡ map accepted (parts E is s)
unfolding items parts
numbers-by-item E [] s = refl
numbers-by-item E (single c ∷ is) s =
    ap₂ (λ (ns : List ℕ) (l : List (List ℕ)). ns ∷ l) (sym (append-nil (accepted_of (E.call s c).1.answer)))
    (numbers-by-item E is (E.call s c).0)
numbers-by-item E (batch bs n slice ∷ is) s =
    ap₂ (λ (ns : List ℕ) (l : List (List ℕ)). ns ∷ l) (slice-numbers E bs n slice s) (numbers-by-item E is (push_all E.call bs n slice s).state)

-- over the whole list
all-flat : (l : List ItemReply) → all_numbers l ≡ flatten (map numbers_of l)
unfolding flatten
all-flat [] = refl
all-flat (r ∷ l) = ap (λ (ns : List ℕ). numbers_of r ++ ns) (all-flat l)

accepted-flat : (l : List (List Reply)) → flatten (map accepted l) ≡ accepted (flatten l)
unfolding flatten
accepted-flat [] = refl
accepted-flat (a ∷ l) = ap (λ (ns : List ℕ). accepted a ++ ns) (accepted-flat l) ∙ sym (accepted-append a (flatten l))

pub numbers-flat : (E : Engine) (is : List Item) (s : E.State) → all_numbers (items E is s).1 ≡ accepted (calls E (flat E is s) s).1
numbers-flat E is s =
    all-flat (items E is s).1 ∙ ap flatten (numbers-by-item E is s) ∙ accepted-flat (parts E is s) ∙ ap accepted (parts_whole E is s)

-- ---- what is lent: a run's pushes are lent nothing

lend_append : (b : Bool) (ds bs : List Call) → AllLend b ds → AllLend b bs → AllLend b (ds ++ bs)
lend_append b [] bs h k = k
lend_append b (c ∷ ds) bs h k = (h.0, lend_append b ds bs h.1 k)

pub lend_reading : (b : Bool) (n : ℕ) (bs : List ℕ) → AllLend b (reading n bs).calls
unfolding reading call_of
lend_reading b zero bs = tt
lend_reading b (suc n) bs = go (eqb (stop_of bs) 0) (lend_reading b n (drop (size_of (kind_of bs)) bs))
  where
    rest : Reading
    rest = reading n (drop (size_of (kind_of bs)) bs)

    go : (t : Bool) → AllLend b rest.calls
        → AllLend b (cond {A = Reading} t (record { calls = call_of bs ∷ rest.calls; stop = rest.stop }) (record { calls = []; stop = stop_of bs })).calls
    go true ih = (tt, ih)
    go false ih = tt

lend_made : {S : Type 0} (call : S → Call → S × Reply) (b : Bool) (cs : List Call) (s : S) → AllLend b cs → AllLend b (up_to_refused call cs s)
unfolding up_to_refused
lend_made call b [] s h = tt
lend_made call b (c ∷ cs) s h = (h.0, go (eqb (refusal_of (call s c).1.answer) 0) (lend_made call b cs (call s c).0 h.1))
  where
    go : (t : Bool) → AllLend b (up_to_refused call cs (call s c).0) → AllLend b (cond t (up_to_refused call cs (call s c).0) [])
    go true ih = ih
    go false ih = tt

lend_singles : {S : Type 0} (call : S → Call → S × Reply) (b : Bool) (bs : List ℕ) (n : ℕ) (slice : List ℕ) (s : S) → AllLend b (singles call bs n slice s)
unfolding singles
lend_singles call b bs n slice s = go (beyond n (length slice))
  where
    go : (t : Bool) → AllLend b (cond t [] (up_to_refused call (reading n bs).calls s))
    go true = tt
    go false = lend_made call b (reading n bs).calls s (lend_reading b n bs)

pub lend_flat : (b : Bool) (E : Engine) (is : List Item) (s : E.State) → ItemsLend b is → AllLend b (flat E is s)
unfolding flat
lend_flat b E [] s h = tt
lend_flat b E (single c ∷ is) s h = (h.0, lend_flat b E is (E.call s c).0 h.1)
lend_flat b E (batch bs n slice ∷ is) s h =
    let t = (push_all E.call bs n slice s).state in
    lend_append b (singles E.call bs n slice s) (flat E is t) (lend_singles E.call b bs n slice s) (lend_flat b E is t h)

-- Lists of calls with runs of push records among them, on anything that has calls; the single calls that such a list is; and the numbers that it hands out.
use Rattle.std.specs.Prelude.{ℕ, Bool, ◌≡◌, List, [], ◌∷◌, ◌++◌, length, take}
use Rattle.ledger.specs.Calls.{Call, Reply}
use Rattle.ledger.specs.Claim.{accepted_of, Engine, calls, SameReply, Lends}
use Rattle.batch.specs.Run.{Pushed, push_all, written}
use Rattle.batch_claim.specs.Singles.{singles}

-- a call of the plain ledger, or a run of push records with their count and the slice lent for the numbers
pub data Item : Type 0 where
  single : Call → Item
  batch : (records : List ℕ) → (count : ℕ) → (slice : List ℕ) → Item

-- what it gives back: of a run "how many were laid and what ended it", and the slice
pub data ItemReply : Type 0 where
  replied : Reply → ItemReply
  answered : (pushed ended : ℕ) → (slice : List ℕ) → ItemReply

abbrev pub answer_of : {S : Type 0} → Pushed S → (slice : List ℕ) → ItemReply
answer_of p slice = answered (length p.numbers) p.ended (written p.numbers slice)

unfoldable pub items : (E : Engine) → List Item → E.State → E.State × List ItemReply
unfolding push_all
items E [] s = (s, [])
items E (single c ∷ is) s =
    let a = E.call s c in
    let r = items E is a.0 in
    (r.0, replied a.1 ∷ r.1)
items E (batch bs n slice ∷ is) s =
    let p = push_all E.call bs n slice s in
    let r = items E is p.state in
    (r.0, answer_of p slice ∷ r.1)

-- the single calls, run by run up to what ended it
unfoldable pub flat : (E : Engine) → List Item → E.State → List Call
unfolding push_all singles
flat E [] s = []
flat E (single c ∷ is) s = c ∷ flat E is (E.call s c).0
flat E (batch bs n slice ∷ is) s = singles E.call bs n slice s ++ flat E is (push_all E.call bs n slice s).state

-- their replies, item by item: of a run those of its single pushes
unfoldable pub parts : (E : Engine) → List Item → E.State → List (List Reply)
unfolding push_all singles calls
parts E [] s = []
parts E (single c ∷ is) s = ((E.call s c).1 ∷ []) ∷ parts E is (E.call s c).0
parts E (batch bs n slice ∷ is) s = (calls E (singles E.call bs n slice s) s).1 ∷ parts E is (push_all E.call bs n slice s).state

-- ---- the numbers handed out: of a single call those of its answer, of a run those that were put into its slice

abbrev pub numbers_of : ItemReply → List ℕ
numbers_of (replied r) = accepted_of r.answer
numbers_of (answered pushed ended slice) = take pushed slice

abbrev pub all_numbers : List ItemReply → List ℕ
all_numbers [] = []
all_numbers (r ∷ l) = numbers_of r ++ all_numbers l

-- ---- what is lent: a run's pushes are lent nothing

abbrev pub ItemsLend : (lends : Bool) → List Item → Type 0
ItemsLend b [] = Unit {0}
ItemsLend b (single c ∷ is) = Lends b c × ItemsLend b is
ItemsLend b (batch bs n slice ∷ is) = ItemsLend b is

-- ---- equal replies

abbrev pub SameItem : (a b : ItemReply) → Type 0
SameItem (replied a) (replied b) = SameReply a b
SameItem (replied a) (answered p e xs) = ⊥
SameItem (answered p e xs) (replied b) = ⊥
SameItem (answered p e xs) (answered q f ys) = (p ≡ q) × (e ≡ f) × (xs ≡ ys)

abbrev pub SameItems : (a b : List ItemReply) → Type 0
SameItems [] [] = Unit {0}
SameItems [] (b ∷ m) = ⊥
SameItems (a ∷ l) [] = ⊥
SameItems (a ∷ l) (b ∷ m) = SameItem a b × SameItems l m

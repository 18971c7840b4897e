-- Demand 3's claim about an engine, given by its creation, its calls and its view: one claim about every list of calls, with any arguments, refused ones included, and whatever is lent. It has no proof here: `specs.ClaimByRelation` has the way to one.
use Rattle.std.specs.Prelude.{ℕ, ◌+◌, ◌*◌, ◌^◌, ◌%◌, ◌<◌, ◌≡◌, Bool, true, false, ◌||◌, cond, eqb, length, get_or, Float}
use mathlib.Core.List.{List, [], ◌∷◌, ◌++◌, Memᴰ, Perm}
use Rattle.std.proofs.Math.Option.{Option, none, some}
use Rattle.floats.specs.Arithmetic.{◌<ᶠ◌, zeroᶠ}
use Rattle.event.specs.declared.Event.{Event}
use Rattle.event.specs.declared.StoredEdit.{StoredEdit}
use Rattle.event.specs.declared.ReplayMode.{ReplayMode}
use Rattle.ledger.specs.Calls.{Call, push, edit, tick, block, rate, reset, Answer, number, applied, past, stored, done, rendered, refused, Reply}
use Rattle.ledger.specs.Lists.{numbers, place_of}
use Rattle.ledger.specs.Ledger.{Ledger, create}
use Rattle.ledger.specs.Steps.{run}

-- ---- an engine

-- how many events wait, sound, are finished and were let go
pub record Counts : Type 0 where
  pub waiting : ℕ
  pub sounding : ℕ
  pub finished : ℕ
  pub gone : ℕ

-- what it holds: its arrays up to their counts, the four counts that it tells, the place that its index gives for a number, or none, and all else
pub record View : Type 0 where
  pub heap : List Event
  pub sounding : List Event
  pub finished : List Event
  pub counts : Counts
  pub index : (number : ℕ) → Option ℕ
  pub edits : List StoredEdit
  pub clock : Float
  pub threshold : Float
  pub rate : Float
  pub duration : Float
  pub channels : ℕ
  pub mode : ReplayMode
  pub next : ℕ  -- the next number, 0 once 2 ^ 64 - 1 has been given

pub record Engine : Type 1 where
  pub State : Type 0
  pub lends : Bool  -- whether its blocks are lent a scratch
  pub new : (channels : ℕ) → ReplayMode → (first : ℕ) → State × Answer
  pub call : State → Call → State × Reply
  pub view : State → View

-- any list of calls
unfoldable pub calls : (E : Engine) → List Call → E.State → E.State × List Reply
calls E [] s = (s, [])
calls E (c ∷ cs) s =
    let a = E.call s c in
    let r = calls E cs a.0 in
    (r.0, a.1 ∷ r.1)

-- ---- an engine, and the ledger, after a creation and a list of calls

pub record EngineAfter : Type 0 where
  pub created : Answer
  pub view : View
  pub replies : List Reply

abbrev pub engine_after : Engine → (channels : ℕ) → ReplayMode → (first : ℕ) → List Call → EngineAfter
engine_after E channels mode first cs =
    let new = E.new channels mode first in
    let r = calls E cs new.0 in
    record { created = new.1; view = E.view r.0; replies = r.1 }

pub record LedgerAfter : Type 0 where
  pub created : Answer
  pub ledger : Ledger
  pub replies : List Reply

abbrev pub ledger_after : (channels : ℕ) → ReplayMode → (first : ℕ) → List Call → LedgerAfter
ledger_after channels mode first cs =
    let new = create channels mode first in
    let r = run cs new.ledger in
    record { created = new.answer; ledger = r.ledger; replies = r.replies }

-- ---- what they have in common

abbrev pub counts_of : Ledger → Counts
counts_of l = record { waiting = length l.waiting; sounding = length l.sounding; finished = length l.finished; gone = length l.gone }

-- The heap holds W's events, each once; the lists are S and F in order, every field and source place equal; let-go count, clock, threshold and edits are L, t, θ and E; and so with the counts, the rate, d, the channels and the mode.
pub record SameState (v : View) (l : Ledger) : Type 0 where
  pub heap : Perm v.heap l.waiting
  pub sounding : v.sounding ≡ l.sounding
  pub finished : v.finished ≡ l.finished
  pub counts : v.counts ≡ counts_of l
  pub clock : v.clock ≡ l.clock
  pub threshold : v.threshold ≡ l.threshold
  pub edits : v.edits ≡ l.edits
  pub rate : v.rate ≡ l.rate
  pub duration : v.duration ≡ l.duration
  pub channels : v.channels ≡ l.channels
  pub mode : v.mode ≡ l.mode

-- a lent scratch: its length and its first k places
abbrev pub SameScratch : (k : ℕ) → (a b : Option (List Float)) → Type 0
SameScratch k none none = Unit {0}
SameScratch k none (some b) = ⊥
SameScratch k (some a) none = ⊥
SameScratch k (some a) (some b) = (length a ≡ length b) × ((j : ℕ) → j < k → get_or a j zeroᶠ ≡ get_or b j zeroᶠ)

-- the answer or refusal, the whole output lent back, and a lent scratch up to the samples given, NaN bits aside: the logic has one NaN
-- "a refused call leaves it and all that is lent unchanged": of such a call `filled` is the scratch's length
pub record SameReply (a b : Reply) : Type 0 where
  pub answer : a.answer ≡ b.answer
  pub out : a.out ≡ b.out
  pub scratch : SameScratch b.filled a.scratch b.scratch

abbrev pub SameReplies : (a b : List Reply) → Type 0
SameReplies [] [] = Unit {0}
SameReplies [] (b ∷ m) = ⊥
SameReplies (a ∷ l) [] = ⊥
SameReplies (a ∷ l) (b ∷ m) = SameReply a b × SameReplies l m

-- the index gives a number's place in the sounding list, or none
abbrev pub IndexGivesPlaces : View → Type 0
IndexGivesPlaces v = (k : ℕ) → v.index k ≡ place_of k v.sounding

-- ---- the numbers that pushes are answered with, and how a number stands in a list of them

-- A push is accepted when its answer is an event number.
abbrev pub accepted_of : Answer → List ℕ
accepted_of (number k) = k ∷ []
accepted_of applied = []
accepted_of past = []
accepted_of stored = []
accepted_of done = []
accepted_of (rendered c) = []
accepted_of (refused k) = []

-- the numbers of a list of replies, in order
abbrev pub accepted : List Reply → List ℕ
accepted [] = []
accepted (r ∷ l) = accepted_of r.answer ++ accepted l

-- how often a number stands in a list, and whether it does
abbrev pub times : ℕ → List ℕ → ℕ
times k [] = 0
times k (n ∷ l) = cond (eqb n k) 1 0 + times k l

abbrev pub among : ℕ → List ℕ → Bool
among k [] = false
among k (n ∷ l) = eqb n k || among k l

-- ---- the claim, sentence by sentence

pub record ClaimAt (e : EngineAfter) (l : LedgerAfter) : Type 0 where
  -- accepted pushes = waiting + sounding + finished + let go, by the counts that the engine tells
  pub counted : let c = e.view.counts in length (accepted e.replies) ≡ c.waiting + c.sounding + c.finished + c.gone
  -- each accepted event is in exactly one: its number stands once in the heap, the sounding list, the finished list and G, and a number that no push was answered with stands there nowhere
  pub once : (k : ℕ) → times k (numbers e.view.heap ++ (numbers e.view.sounding ++ (numbers e.view.finished ++ l.ledger.gone))) ≡ cond (among k (accepted e.replies)) 1 0
  -- the index gives a number's place exactly when it is sounding
  pub index : IndexGivesPlaces e.view
  -- no waiting event starts before the threshold
  pub on_time : (x : Event) → Memᴰ x e.view.heap → (x.start_time <ᶠ e.view.threshold) ≡ false
  -- the four are the plain ledger's, their counts too, and with them clock, threshold, edits, rate, channels and mode
  pub state : SameState e.view l.ledger
  pub next : e.view.next ≡ l.ledger.next % 2 ^ 64
  -- every answer and every sample are the plain ledger's, the creation's answer first
  pub created : e.created ≡ l.created
  pub replies : SameReplies e.replies l.replies

-- a block is lent a scratch if the engine takes one, else none
abbrev pub is_lent : Option (List Float) → Bool
is_lent none = false
is_lent (some l) = true

abbrev pub Lends : (lends : Bool) → Call → Type 0
Lends b (push kind start end fade_in fade_out curve source gain) = Unit {0}
Lends b (edit kind k end fade_out) = Unit {0}
Lends b (tick order pool out) = Unit {0}
Lends b (block order n pool out scratch) = is_lent scratch ≡ b
Lends b (rate r) = Unit {0}
Lends b reset = Unit {0}

abbrev pub AllLend : (lends : Bool) → List Call → Type 0
AllLend b [] = Unit {0}
AllLend b (c ∷ cs) = Lends b c × AllLend b cs

-- From any fresh engine (a first number is a u64), after any list of calls.
abbrev pub Claim : Engine → Type 0
Claim E =
    (channels : ℕ) (mode : ReplayMode) (first : ℕ) (cs : List Call) → first < 2 ^ 64 → AllLend E.lends cs
    → ClaimAt (engine_after E channels mode first cs) (ledger_after channels mode first cs)

-- The claim about a desk with an engine, given by its creation, its calls and its view: one claim about every list of front and back calls, with any arguments, refused ones included, and whatever is lent. It has no proof here: `proofs.ClaimByRelation` has the way to one.
use Rattle.std.specs.Prelude.{ℕ, suc, ◌+◌, ◌^◌, ◌%◌, ◌<◌, ◌≡◌, Bool, true, false, cond, length}
use mathlib.Core.List.{List, [], ◌∷◌, ◌++◌, Memᴰ}
use Rattle.event.specs.declared.Edit.{Edit}
use Rattle.event.specs.declared.Event.{Event}
use Rattle.event.specs.declared.ReplayMode.{ReplayMode}
use Rattle.floats.specs.Arithmetic.{◌<ᶠ◌}
use Rattle.event.specs.Events.{new_event}
use Rattle.ledger.specs.Calls as Calls
use Rattle.desk.specs.Relative.{is_relative, end_relative}
use Rattle.ledger.specs.Lists.{numbers}
use Rattle.ledger.specs.Ledger.{create}
use Rattle.ledger.specs.Refusals.{stated_end}
use Rattle.ledger.specs.Claim.{among, times, View, SameState, IndexGivesPlaces}
use Rattle.desk.specs.Desk.{Message, push, edit, reset, Call, front, back, Answer, number, queued, done, rendered, refused, Reply, Desk, next_number, opened, run}

-- ---- a desk with an engine

-- a message as an engine's queue holds it: an event with its number, whose times may be relative; an edit, whose end may be; a reset
pub data Sent : Type 0 where
  event : (relative : Bool) → Event → Sent
  change : (relative : Bool) → (number : ℕ) → Edit → Sent
  restart : Sent

pub record DeskView : Type 0 where
  pub back : View
  pub queued : List Sent
  pub returned : List ℕ

pub record DeskEngine : Type 1 where
  pub State : Type 0
  pub new : (channels : ℕ) → ReplayMode → (first : ℕ) → State × Calls.Answer
  pub call : State → Call → State × Reply
  pub view : State → DeskView

unfoldable pub calls : (E : DeskEngine) → List Call → E.State → E.State × List Reply
calls E [] s = (s, [])
calls E (c ∷ cs) s =
    let a = E.call s c in
    let r = calls E cs a.0 in
    (r.0, a.1 ∷ r.1)

-- ---- an engine's desk, and the ledger's, after a creation and a list of calls

pub record DeskEngineAfter : Type 0 where
  pub created : Calls.Answer
  pub view : DeskView
  pub replies : List Reply

abbrev pub engine_after : DeskEngine → (channels : ℕ) → ReplayMode → (first : ℕ) → List Call → DeskEngineAfter
engine_after E channels mode first cs =
    let new = E.new channels mode first in
    let r = calls E cs new.0 in
    record { created = new.1; view = E.view r.0; replies = r.1 }

pub record DeskAfter : Type 0 where
  pub created : Calls.Answer
  pub desk : Desk
  pub replies : List Reply

abbrev pub desk_after : (channels : ℕ) → ReplayMode → (first : ℕ) → List Call → DeskAfter
desk_after channels mode first cs =
    let new = create channels mode first in
    let r = run cs (opened new.ledger) in
    record { created = new.answer; desk = r.desk; replies = r.replies }

-- ---- what they have in common

-- A queued push's times, an edit's end, may be relative to the clock at handling; by duration, the end is stated at queuing.

-- the queued messages, the pushes numbered from k on
abbrev pub sent_from : (k : ℕ) → List Message → List Sent
sent_from k [] = []
sent_from k (push kind start end fade_in fade_out curve source gain ∷ q) =
    event (is_relative kind) (new_event start (stated_end kind start end) fade_in fade_out curve source gain k) ∷ sent_from (suc k) q
sent_from k (edit kind n end fade_out ∷ q) = change (end_relative kind) n (record { end_time = end; fade_out = fade_out }) ∷ sent_from k q
sent_from k (reset ∷ q) = restart ∷ sent_from k q

-- the numbers of queued pushes
abbrev pub sent_numbers : List Sent → List ℕ
sent_numbers [] = []
sent_numbers (event r e ∷ q) = e.id.0 ∷ sent_numbers q
sent_numbers (change r n d ∷ q) = sent_numbers q
sent_numbers (restart ∷ q) = sent_numbers q

-- the numbers that pushes were answered with, in order
abbrev pub accepted_of : Answer → List ℕ
accepted_of (number k) = k ∷ []
accepted_of queued = []
accepted_of done = []
accepted_of (rendered c) = []
accepted_of (refused k) = []

abbrev pub accepted : List Reply → List ℕ
accepted [] = []
accepted (r ∷ l) = accepted_of r.answer ++ accepted l

-- ---- the claim

pub record DeskClaimAt (e : DeskEngineAfter) (d : DeskAfter) : Type 0 where
  -- accepted pushes = queued + waiting + sounding + finished + let go, by the counts that the back tells
  pub counted : let c = e.view.back.counts in
      length (accepted e.replies) ≡ length (sent_numbers e.view.queued) + c.waiting + c.sounding + c.finished + c.gone
  -- each accepted push is in exactly one of them, and a number that no push was answered with is in none
  pub once : (k : ℕ)
      → times k (sent_numbers e.view.queued ++ (numbers e.view.back.heap ++ (numbers e.view.back.sounding ++ (numbers e.view.back.finished ++ d.desk.back.gone))))
      ≡ cond (among k (accepted e.replies)) 1 0
  -- the index gives a number's place exactly when it is sounding
  pub index : IndexGivesPlaces e.view.back
  -- no waiting event starts before the threshold
  pub on_time : (x : Event) → Memᴰ x e.view.back.heap → (x.start_time <ᶠ e.view.back.threshold) ≡ false
  -- the lists and counts, clock, threshold, edits, rate, channels and mode are the desk ledger's
  pub state : SameState e.view.back d.desk.back
  pub next : e.view.back.next ≡ next_number d.desk % 2 ^ 64
  -- and both queues
  pub queues : (e.view.queued ≡ sent_from d.desk.back.next d.desk.queued) × (e.view.returned ≡ d.desk.returned)
  -- every answer and every sample are the desk ledger's, the creation's answer first
  pub created : e.created ≡ d.created
  pub replies : e.replies ≡ d.replies

-- From any fresh engine (a first number is a u64), after any list of calls.
abbrev pub DeskClaim : DeskEngine → Type 0
DeskClaim E =
    (channels : ℕ) (mode : ReplayMode) (first : ℕ) (cs : List Call) → first < 2 ^ 64
    → DeskClaimAt (engine_after E channels mode first cs) (desk_after channels mode first cs)

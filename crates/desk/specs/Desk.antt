-- Document 01, "The desk": the plain ledger with two queues, as lists. The front queues; the back drains the queue before each of its calls. It runs.
use Rattle.std.specs.Prelude.{ℕ, suc, ◌+◌, not, ◌&&◌, List, [], ◌∷◌, ◌++◌, reverse, leb, length, take, Float}
use Rattle.std.proofs.Math.Option.{Option, none, some}
use Rattle.event.specs.declared.Fade.{Fade}
use Rattle.event.specs.declared.MixOrder.{MixOrder}
use Rattle.event.specs.declared.Placings.{Placings}
use Rattle.event.specs.declared.Source.{Source}
use Rattle.event.specs.declared.ReplayMode.{ReplayMode}
use Rattle.event.specs.declared.ReplayMode.TheVariants.{All, None}
use Rattle.floats.specs.Arithmetic.{zeroᶠ, -∞}
use Rattle.ledger.specs.Calls as Calls
use Rattle.ledger.specs.Calls.{PushKind, EditKind}
use Rattle.ledger.specs.Lists.{numbers}
use Rattle.ledger.specs.Ledger.{Ledger, held}
use Rattle.ledger.specs.Refusals.{Check, refuses, first_of, within, within_end, stated_end, push_checks_at, refusal}
use Rattle.ledger.specs.Computes as Ledgers
use Rattle.ledger.specs.Steps.{with_lists, accept, restart, block_places}

-- ---- calls and answers

-- what the front queues
pub data Message : Type 0 where
  push : PushKind → (start end fade_in fade_out : Float) → Fade → Source → (gain : Float) → Message
  edit : EditKind → (number : ℕ) → (end fade_out : Float) → Message
  reset : Message

-- what the back is called with; its blocks are lent no scratch
pub data BackCall : Type 0 where
  tick : MixOrder → (pool out : List Float) → BackCall
  block : MixOrder → (size : ℕ) → (pool out : List Float) → BackCall
  rate : Float → BackCall
  reset : BackCall

pub data Call : Type 0 where
  front : Message → Call
  back : BackCall → Call

pub data Answer : Type 0 where
  number : ℕ → Answer
  queued done : Answer
  rendered : Placings → Answer
  refused : ℕ → Answer

-- what a call gives back: its answer, and the output that it was lent
pub record Reply : Type 0 where
  pub answer : Answer
  pub out : List Float

-- the plain ledger's calls
abbrev pub message_call : Message → Calls.Call
message_call (push kind start end fade_in fade_out curve source gain) = Calls.push kind start end fade_in fade_out curve source gain
message_call (edit kind k end fade_out) = Calls.edit kind k end fade_out
message_call reset = Calls.reset

abbrev pub back_call : BackCall → Calls.Call
back_call (tick order pool out) = Calls.tick order pool out
back_call (block order n pool out) = Calls.block order n pool out none
back_call (rate r) = Calls.rate r
back_call reset = Calls.reset

-- ---- the desk

pub record Desk : Type 0 where
  pub back : Ledger  -- its next number is that of the first queued push, or the next to be given
  pub queued : List Message  -- at most 64, first in first out
  pub returned : List ℕ  -- at most 64 numbers

abbrev pub pushes_in : List Message → ℕ
pushes_in [] = 0
pushes_in (push kind start end fade_in fade_out curve source gain ∷ q) = suc (pushes_in q)
pushes_in (edit kind k end fade_out ∷ q) = pushes_in q
pushes_in (reset ∷ q) = pushes_in q

abbrev pub edits_in : List Message → ℕ
edits_in [] = 0
edits_in (push kind start end fade_in fade_out curve source gain ∷ q) = edits_in q
edits_in (edit kind k end fade_out ∷ q) = suc (edits_in q)
edits_in (reset ∷ q) = edits_in q

-- a number is taken when a push is queued
abbrev pub next_number : Desk → ℕ
next_number d = d.back.next + pushes_in d.queued

abbrev pub with_back : Ledger → Desk → Desk
with_back l d = record { back = l; queued = d.queued; returned = d.returned }

-- a desk starts from a fresh engine, both queues empty
abbrev pub opened : Ledger → Desk
opened l = record { back = l; queued = []; returned = [] }

-- ---- what is let go: returned, or lost where 64 are there

abbrev pub send_back : List ℕ → Ledger → Desk → Desk
send_back ks l d = record {
  back = with_lists l l.waiting l.sounding l.finished l.edits l.clock l.threshold (l.gone ++ ks);
  queued = d.queued;
  returned = take 64 (d.returned ++ ks);
}

-- after a tick or block: in mode None finished numbers go to the return queue, taken from F's end
unfoldable pub send_finished : ReplayMode → Desk → Desk
send_finished All d = d
send_finished None d =
    let l = d.back in
    send_back (numbers (reverse l.finished)) (with_lists l l.waiting l.sounding [] l.edits l.clock l.threshold l.gone) d

-- a reset acts: in mode None F goes back from the end, W in order, S from the end
unfoldable pub restarted : ReplayMode → Desk → Desk
restarted All d = with_back (restart d.back All) d
restarted None d =
    let l = d.back in
    send_back (numbers (reverse l.finished ++ (l.waiting ++ reverse l.sounding))) (with_lists l [] [] [] [] zeroᶠ -∞ l.gone) d

-- ---- the queued messages, first to last: handling a reset calls reset, and reset handles the messages behind it before it acts

abbrev pub reset_of : Desk → Desk
reset_of d = restarted d.back.mode d

unfoldable pub drain : List Message → Desk → Desk
drain [] d = d
drain (push kind start end fade_in fade_out curve source gain ∷ q) d = drain q (with_back (accept d.back (Calls.push kind start end fade_in fade_out curve source gain)).ledger d)
drain (edit kind k end fade_out ∷ q) d = drain q (with_back (accept d.back (Calls.edit kind k end fade_out)).ledger d)
drain (reset ∷ q) d = reset_of (drain q d)

abbrev pub drained : Desk → Desk
drained d = drain d.queued (record { back = d.back; queued = []; returned = d.returned })

-- ---- refusals

-- 13: 64 messages are queued
abbrev pub full : Desk → Check
full d = refuses 13 (leb 64 (length d.queued))

-- 6 and 7 count queued pushes too; 9 counts queued edits, for any edit
unfoldable pub front_checks : Desk → Message → List Check
front_checks d (push kind start end fade_in fade_out curve source gain) =
    push_checks_at (held d.back + pushes_in d.queued) (next_number d) kind start end fade_in fade_out source gain ++ (full d ∷ [])
front_checks d (edit kind k end fade_out) =
    refuses 8 (not (within_end end && within fade_out))
    ∷ refuses 9 (leb 256 (length d.back.edits + edits_in d.queued))
    ∷ full d ∷ []
front_checks d reset = full d ∷ []

-- a back call's refusals are the plain ledger's, before draining
unfoldable pub desk_refusal : Desk → Call → Option ℕ
desk_refusal d (front m) = first_of (front_checks d m)
desk_refusal d (back c) = refusal d.back (back_call c)

-- ---- calls that no refusal names

pub record Outcome : Type 0 where
  pub desk : Desk
  pub reply : Reply

-- the front empties the return queue and queues the message; a push answers its number
unfoldable pub sends : Desk → Message → Outcome
sends d m = record {
  desk = record { back = d.back; queued = d.queued ++ (m ∷ []); returned = [] };
  reply = record { answer = answer_to m; out = [] };
}
  where
    answer_to : Message → Answer
    answer_to (push kind start end fade_in fade_out curve source gain) = number (next_number d)
    answer_to (edit kind k end fade_out) = queued
    answer_to reset = queued

-- the back, once the messages are drained
unfoldable pub acts : Desk → BackCall → Outcome
acts d (tick order pool out) =
    let o = accept d.back (Calls.tick order pool out) in
    record { desk = send_finished d.back.mode (with_back o.ledger d); reply = record { answer = done; out = o.reply.out } }
acts d (block order n pool out) =
    let o = accept d.back (Calls.block order n pool out none) in
    record { desk = send_finished d.back.mode (with_back o.ledger d); reply = record { answer = rendered (block_places d.back n); out = o.reply.out } }
acts d (rate r) = record { desk = with_back (accept d.back (Calls.rate r)).ledger d; reply = record { answer = done; out = [] } }
acts d reset = record { desk = reset_of d; reply = record { answer = done; out = [] } }

unfoldable pub carried_out : Desk → Call → Outcome
carried_out d (front m) = sends d m
carried_out d (back c) = acts (drained d) c

-- ---- a refused call drains neither queue and changes nothing

abbrev pub lent_out : Call → List Float
lent_out (front m) = []
lent_out (back (tick order pool out)) = out
lent_out (back (block order n pool out)) = out
lent_out (back (rate r)) = []
lent_out (back reset) = []

unfoldable pub decide : Option ℕ → Desk → Call → Outcome
decide (some k) d c = record { desk = d; reply = record { answer = refused k; out = lent_out c } }
decide none d c = carried_out d c

unfoldable pub step : Desk → Call → Outcome
step d c = decide (desk_refusal d c) d c

-- ---- any list of calls

pub record Run : Type 0 where
  pub desk : Desk
  pub replies : List Reply

unfoldable pub run : List Call → Desk → Run
run [] d = record { desk = d; replies = [] }
run (c ∷ cs) d =
    let a = step d c in
    let r = run cs a.desk in
    record { desk = r.desk; replies = a.reply ∷ r.replies }

-- What a case that computes must unfold.
unfoldable pub computes : Unit {0}
unfolding Ledgers.computes send_finished restarted drain front_checks desk_refusal sends acts carried_out decide step run
computes = tt

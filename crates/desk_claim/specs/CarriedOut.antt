-- What the desk claim's sentence about a call that no refusal names says: the desk after a list of calls, what it shows, and what it does. Assumes nothing.
use Rattle.std.specs.Prelude.{ℕ, ◌^◌, ◌%◌, ◌≡◌, List}
use Rattle.event.specs.declared.ReplayMode.{ReplayMode}
use Rattle.ledger.specs.Claim.{SameState, IndexGivesPlaces}
use Rattle.desk.specs.Desk.{Call, Desk, Outcome, next_number}
use Rattle.desk.specs.Claim.{calls, sent_from}
use Rattle.realseq.specs.declared.SequencerBackend.{SequencerBackend}
use Rattle.desk_claim.specs.EngineCalls.{desk_new, desk_call, desk_view, desk_engine}

-- the back's state; its index; both queues; the next number
abbrev pub Shows : SequencerBackend → Desk → Type 0
Shows d D =
    SameState (desk_view d).back D.back
    × IndexGivesPlaces (desk_view d).back
    × ((desk_view d).queued ≡ sent_from D.back.next D.queued)
    × ((desk_view d).returned ≡ D.returned)
    × ((desk_view d).back.next ≡ next_number D % 2 ^ 64)

-- the desk after a creation and a list of calls
abbrev pub after : (channels : ℕ) → ReplayMode → (first : ℕ) → List Call → SequencerBackend
after channels mode first cs = (calls desk_engine cs (desk_new channels mode first).0).0

-- a call's reply and what it leaves are those of an outcome of the desk ledger
abbrev pub Does : SequencerBackend → Call → Outcome → Type 0
Does d c o = ((desk_call d c).1 ≡ o.reply) × Shows (desk_call d c).0 o.desk

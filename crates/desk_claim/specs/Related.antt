-- The relation between the desk and the desk ledger: the engine up to its next number, that number, and both queues. Assumes nothing.
use Rattle.std.specs.Prelude.{◌≡◌, true, false, List, [], ◌∷◌, ℕ, ◌+◌, ◌^◌, ◌%◌}
use Rattle.event.specs.Events.{new_event}
use Rattle.ledger.specs.Ledger.{Ledger}
use Rattle.ledger.specs.Refusals.{stated_end}
use Rattle.sequencer.specs.declared.Sequencer.{Sequencer}
use Rattle.sequencer.specs.Parts.{with_next}
use Rattle.claim.specs.Related.{Related}
use Rattle.desk.specs.Desk as Plain
use Rattle.desk.specs.Desk.{push, edit, reset, Desk, pushes_in, next_number}
use Rattle.desk.specs.Claim.{Sent, event, change, restart}
use Rattle.desk.specs.Relative.{is_relative, end_relative}
use Rattle.realseq.specs.declared.SequencerBackend.{SequencerBackend}
use Rattle.realseq.specs.declared.queues.Message.{Message}
use Rattle.realseq.specs.declared.queues.Message.TheVariants.{Reset, Push, PushRelative, Edit as Amend, EditRelative}
use Rattle.realseq.specs.Fronts.{push_message, edit_message}
use Rattle.desk_claim.specs.Ring.{Queued}
use Rattle.desk_claim.specs.ReturnQueue.{Returns}

-- ---- messages: as the desk ledger queues them, as the engine's desk does, and as the claim shows them

-- k is the next number
abbrev pub message_of : (k : ℕ) → Plain.Message → Message
message_of k (push kind start end fade_in fade_out curve source gain) = push_message (is_relative kind) (new_event start (stated_end kind start end) fade_in fade_out curve source gain k)
message_of k (edit kind n end fade_out) = edit_message (end_relative kind) (record { 0 = n }) (record { end_time = end; fade_out = fade_out })
message_of k reset = Reset

abbrev pub messages_from : (k : ℕ) → List Plain.Message → List Message
messages_from k [] = []
messages_from k (m ∷ q) = message_of k m ∷ messages_from (k + pushes_in (m ∷ [])) q

abbrev pub shown : Message → Sent
shown Reset = restart
shown (Push e) = event false e
shown (PushRelative e) = event true e
shown (Amend k d) = change false k.0 d
shown (EditRelative k d) = change true k.0 d

-- ---- the relation

-- the engine, were its next number the back's
abbrev pub Backed : Sequencer → Ledger → Type 0
Backed s l = Related (with_next s (l.next % 2 ^ 64)) l

pub record DeskRelated (d : SequencerBackend) (D : Desk) : Type 0 where
  pub engine : Backed d.sequencer D.back
  pub next : d.sequencer.next ≡ next_number D % 2 ^ 64
  pub queue : Queued d.messages (messages_from D.back.next D.queued)
  pub returns : Returns d.returned D.returned

-- The desk's two queues, on every value: what the functions of src/queues.rt make of them.
use Rattle.std.specs.Prelude.{ℕ, zero, suc, ◌+◌, ◌-◌, ◌%◌, min, Bool, true, false, cond, replicate, ◌==◌, nat_lt, slice_index_or, slice_set}
use Rattle.event.specs.declared.EventId.{EventId}
use Rattle.sequencer.specs.declared.Sequencer.{Sequencer}
use Rattle.realseq.specs.declared.SequencerBackend.{SequencerBackend}
use Rattle.realseq.specs.declared.queues.Message.{Message}
use Rattle.realseq.specs.declared.queues.Message.TheVariants.{Reset, Push, PushRelative, Edit, EditRelative}
use Rattle.realseq.specs.declared.queues.Kind.{Kind}
use Rattle.realseq.specs.declared.queues.Kind.TheVariants as Kinds
use Rattle.realseq.specs.declared.queues.Slot.{Slot}
use Rattle.realseq.specs.declared.queues.Messages.{Messages}
use Rattle.realseq.specs.declared.queues.Returned.{Returned}

-- ---- messages, first in first out, around the array

abbrev pub blank_slot : Slot
blank_slot = record { message = Reset }

unfoldable pub no_messages : Messages
no_messages = record { slots = replicate 64 blank_slot; first = 0; count = 0 }

abbrev pub is_reset : Message → Bool
is_reset Reset = true
is_reset (Push e) = false
is_reset (PushRelative e) = false
is_reset (Edit k d) = false
is_reset (EditRelative k d) = false

-- the message at place i of the queue
abbrev pub at : Messages → ℕ → Message
at q i = (slice_index_or q.slots ((q.first % 64 + i) % 64) blank_slot).message

unfoldable pub peeked : Messages → Message
peeked q = (slice_index_or q.slots (q.first % 64) blank_slot).message

unfoldable pub pushed : Messages → Message → Messages
pushed q m = cond (nat_lt q.count 64) (record { slots = slice_set q.slots ((q.first % 64 + q.count) % 64) (record { message = m }); first = q.first; count = q.count + 1 }) q

unfoldable pub popped : Messages → Messages
popped q = cond (q.count == 0) q (record { slots = q.slots; first = (q.first % 64 + 1) % 64; count = q.count - 1 })

-- 0: a reset, 1: a push, 2: an edit
abbrev pub kind_number : Kind → ℕ
kind_number Kinds.Reset = 0
kind_number Kinds.Push = 1
kind_number Kinds.Edit = 2

abbrev pub kind_of : Message → ℕ
kind_of Reset = 0
kind_of (Push e) = 1
kind_of (PushRelative e) = 1
kind_of (Edit k d) = 2
kind_of (EditRelative k d) = 2

abbrev pub counted : Message → (kind : ℕ) → ℕ
counted m k = cond (kind_of m == k) 1 0

-- how many of n messages, from place i on, are of the kind
unfoldable pub tally_from : (n i : ℕ) → Messages → (kind : ℕ) → ℕ
tally_from zero i q k = 0
tally_from (suc n) i q k = counted (at q i) k + tally_from n (suc i) q k

unfoldable pub tallied : Messages → (kind : ℕ) → ℕ
unfolding tally_from
tallied q k = tally_from (min q.count 64) 0 q k

-- ---- returned numbers, oldest first

unfoldable pub no_returned : Returned
no_returned = record { ids = replicate 64 (record { 0 = 0 }); count = 0 }

abbrev pub emptied : Returned → Returned
emptied r = record { ids = r.ids; count = 0 }

-- lost where 64 are there
unfoldable pub sent : Returned → EventId → Returned
sent r k = cond (nat_lt r.count 64) (record { ids = slice_set r.ids r.count k; count = r.count + 1 }) r

-- ---- both queues empty

unfoldable pub opened : Sequencer → SequencerBackend
unfolding no_messages no_returned
opened s = record { sequencer = s; messages = no_messages; returned = no_returned }

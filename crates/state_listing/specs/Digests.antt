-- Digests of an engine's and a desk's parts: every number and every float's bits go into one number of 64 bits. Assumes nothing.
use Rattle.std.specs.Prelude.{ℕ, zero, suc, ◌+◌, ◌%◌, ◌^◌, min, List, [], ◌∷◌, get_or, slice_index_or, to_bits, Float}
use Rattle.std.specs.Float.{binary32, binary64}
use Rattle.digests.specs.Digests.{mixed, mixed_all}
use Rattle.event.specs.declared.Event.{Event}
use Rattle.event.specs.declared.EventId.{EventId}
use Rattle.event.specs.declared.Edit.{Edit}
use Rattle.event.specs.declared.StoredEdit.{StoredEdit}
use Rattle.event.specs.declared.Source.{Source}
use Rattle.event.specs.declared.Source.TheVariants.{Held, Ramp, Clip}
use Rattle.event.specs.declared.Unit.{Unit}
use Rattle.event.specs.Events.{number_of}
use Rattle.event.specs.Blank.{blank}
use Rattle.event.specs.Numbers.{curve_number, source_number, first_word, second_word}
use Rattle.lists.specs.declared.EditMap.{EditMap}
use Rattle.lists.specs.Index.{no_id}
use Rattle.lists.specs.Edits.{no_edit}
use Rattle.realseq.specs.declared.queues.Message.{Message}
use Rattle.realseq.specs.declared.queues.Message.TheVariants.{Reset, Push, PushRelative, Edit as edit, EditRelative}
use Rattle.realseq.specs.declared.queues.Messages.{Messages}
use Rattle.realseq.specs.declared.queues.Returned.{Returned}
use Rattle.realseq.specs.Queues.{at}

-- n things from place i on, each by f
unfoldable pub each : (f : (i digest : ℕ) → ℕ) → (n i digest : ℕ) → ℕ
each f zero i d = d
each f (suc n) i d = each f n (suc i) (f i d)

-- ---- what is digested of each thing

-- a ramp's next value, and a clip's place
abbrev pub moved : Source → Unit → List ℕ
moved (Held level) u = 0 ∷ 0 ∷ []
moved (Ramp value step) u = to_bits binary32 u.value ∷ 0 ∷ []
moved (Clip offset length) u = 0 ∷ u.place ∷ []

unfoldable pub unit_words : Unit → List ℕ
unit_words u = source_number u.source ∷ first_word u.source ∷ second_word u.source ∷ moved u.source u

unfoldable pub event_words : Event → List ℕ
unfolding unit_words
event_words e =
    number_of e ∷ to_bits binary64 e.start_time ∷ to_bits binary64 e.end_time ∷ to_bits binary64 e.fade_in ∷ to_bits binary64 e.fade_out ∷ to_bits binary32 e.gain ∷ curve_number e.fade_ease
    ∷ unit_words e.unit

abbrev pub edit_words : EventId → Edit → List ℕ
edit_words k d = k.0 ∷ to_bits binary64 d.end_time ∷ to_bits binary64 d.fade_out ∷ []

unfoldable pub message_words : Message → List ℕ
unfolding event_words
message_words Reset = 0 ∷ []
message_words (Push e) = 1 ∷ event_words e
message_words (PushRelative e) = 2 ∷ event_words e
message_words (edit k d) = 3 ∷ edit_words k d
message_words (EditRelative k d) = 4 ∷ edit_words k d

-- ---- the first n of an array: in order, or as a set, whose order does not matter

unfoldable pub ordered_events : List Event → (n : ℕ) → ℕ
unfolding mixed_all event_words each
ordered_events es n = each (λ i d. mixed_all d (event_words (slice_index_or es i blank))) (min n 256) 0 0

unfoldable pub unordered_events : List Event → (n : ℕ) → ℕ
unfolding mixed_all event_words each
unordered_events es n = each (λ i d. (d + mixed_all 0 (event_words (slice_index_or es i blank))) % 2 ^ 64) (min n 256) 0 0

unfoldable pub index_digest : List EventId → (n : ℕ) → ℕ
unfolding mixed each
index_digest ids n = each (λ i d. mixed d (get_or ids i no_id).0) (min n 256) 0 0

unfoldable pub edits_digest : EditMap → ℕ
unfolding mixed_all each
edits_digest m = each (λ i d. (d + mixed_all 0 (edit_words (get_or m.items i no_edit).id (get_or m.items i no_edit).edit)) % 2 ^ 64) (min m.len 256) 0 0

-- ---- the queues, the oldest first

unfoldable pub messages_digest : Messages → ℕ
unfolding mixed_all message_words each
messages_digest q = each (λ i d. mixed_all d (message_words (at q i))) (min q.count 64) 0 0

unfoldable pub returned_digest : Returned → ℕ
unfolding mixed each
returned_digest r = each (λ i d. mixed d (get_or r.ids i no_id).0) (min r.count 64) 0 0

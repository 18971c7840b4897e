-- The line of a record: its kind, its answer, and every part of the state under its name. A list is its count and a digest, a float its bits. Assumes nothing.
use Rattle.std.specs.Prelude.{ℕ, List, [], ◌∷◌, ◌++◌, to_bits, Float}
use Prim.Native.String.{String}
use Rattle.std.specs.Float.{binary64}
use Rattle.event.specs.declared.Placings.{Placings}
use Rattle.sequencer.specs.declared.Sequencer.{Sequencer}
use Rattle.sequencer.specs.declared.Answer.{Answer}
use Rattle.sequencer.specs.declared.Answer.TheVariants as Engine
use Rattle.realseq.specs.declared.SequencerBackend.{SequencerBackend}
use Rattle.realseq.specs.declared.Answer as Desk
use Rattle.realseq.specs.declared.Answer.TheVariants as Back
use Rattle.listing.specs.Text.{digits, decimal}
use Rattle.listing.specs.Ascii.{ascii}
use Rattle.state_listing.specs.Digests.{ordered_events, unordered_events, index_digest, edits_digest, messages_digest, returned_digest}

-- ---- a part: its name, and its value

abbrev pub hex : ℕ → List ℕ
hex n = digits 16 16 n

abbrev pub number_part : List ℕ → ℕ → List (List ℕ)
number_part name n = name ∷ decimal n ∷ []

abbrev pub list_part : List ℕ → (count digest : ℕ) → List (List ℕ)
list_part name n d = name ∷ decimal n ∷ ascii ":" ∷ hex d ∷ []

abbrev pub time_part : List ℕ → Float → List (List ℕ)
time_part name x = name ∷ hex (to_bits binary64 x) ∷ []

-- ---- answers

-- how a block's places came: kept, forced, at an edge
abbrev pub places_part : Placings → List (List ℕ)
places_part c = number_part (ascii " answer=rendered:") c.kept ++ (number_part (ascii ":") c.forced ++ number_part (ascii ":") c.edge)

unfoldable pub answer_part : Answer → List (List ℕ)
answer_part (Engine.Number k) = number_part (ascii " answer=number:") k.0
answer_part Engine.Applied = ascii " answer=applied" ∷ []
answer_part Engine.Past = ascii " answer=past" ∷ []
answer_part Engine.Stored = ascii " answer=stored" ∷ []
answer_part Engine.Done = ascii " answer=done" ∷ []
answer_part (Engine.Rendered c) = places_part c
answer_part (Engine.Refused n) = number_part (ascii " answer=refused:") n

unfoldable pub desk_answer_part : Desk.Answer → List (List ℕ)
desk_answer_part (Back.Number k) = number_part (ascii " answer=number:") k.0
desk_answer_part Back.Queued = ascii " answer=queued" ∷ []
desk_answer_part Back.Done = ascii " answer=done" ∷ []
desk_answer_part (Back.Rendered c) = places_part c
desk_answer_part (Back.Refused n) = number_part (ascii " answer=refused:") n

-- ---- the state

unfoldable pub list_parts : Sequencer → List (List ℕ)
list_parts s =
    list_part (ascii " waiting=") s.ready_len (unordered_events s.ready s.ready_len)
    ++ (list_part (ascii " sounding=") s.active_len (ordered_events s.active s.active_len)
    ++ (list_part (ascii " finished=") s.past_len (ordered_events s.past s.past_len)
    ++ (list_part (ascii " edits=") s.edit_map.len (edits_digest s.edit_map)
    ++ list_part (ascii " index=") s.active_len (index_digest s.active_map s.active_len))))

unfoldable pub time_parts : Sequencer → List (List ℕ)
time_parts s =
    time_part (ascii " clock=") s.time ++ (time_part (ascii " threshold=") s.active_threshold ++ (time_part (ascii " rate=") s.sample_rate ++ time_part (ascii " duration=") s.sample_duration))

unfoldable pub number_parts : Sequencer → List (List ℕ)
number_parts s = number_part (ascii " channels=") s.outputs ++ (number_part (ascii " next=") s.next ++ number_part (ascii " gone=") s.let_go)

unfoldable pub queue_parts : SequencerBackend → List (List ℕ)
queue_parts d =
    list_part (ascii " messages=") d.messages.count (messages_digest d.messages) ++ list_part (ascii " returned=") d.returned.count (returned_digest d.returned)

unfoldable pub state_parts : Sequencer → List (List ℕ)
unfolding list_parts time_parts number_parts
state_parts s = list_parts s ++ (time_parts s ++ number_parts s)

-- ---- the lines

unfoldable pub engine_line : (kind : ℕ) → Answer → Sequencer → List (List ℕ)
unfolding answer_part state_parts
engine_line k a s = digits 16 2 k ∷ answer_part a ++ (state_parts s ++ (ascii "\n" ∷ []))

-- a desk: the back's state, then the queues
unfoldable pub desk_line : (kind : ℕ) → Desk.Answer → SequencerBackend → List (List ℕ)
unfolding desk_answer_part state_parts queue_parts
desk_line k a d = digits 16 2 k ∷ desk_answer_part a ++ (state_parts d.sequencer ++ (queue_parts d ++ (ascii "\n" ∷ [])))

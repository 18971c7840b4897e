-- What a record leaves in the output, in either form: its samples as bytes, or its lines of document 01's listing. Assumes nothing.
use Rattle.std.specs.Prelude.{◌≡◌, ℕ, zero, suc, ◌+◌, ◌≤◌, Bool, true, false, cond, List, [], ◌∷◌, ◌++◌, Float, length, take, drop, replicate}
use Rattle.std.proofs.lemmas.List.Edits.{sets}
use Rattle.sequencer.specs.declared.readers.Counts.{Counts}
use Rattle.listing.specs.Pieces.{joined}
use Rattle.listing.specs.Text.{counts_line, samples_line}
use Rattle.record_output.specs.declared.Left.{Left}
use Rattle.record_output.specs.declared.Form.{Form}
use Rattle.record_output.specs.declared.Form.TheVariants.{Bytes, Lines}
use Rattle.record_output.specs.Bytes.{bytes_of, channels_of}

-- "its kind, refusal or 0, waiting, sounding, finished, let go"
abbrev pub record_line : (kind refusal : ℕ) → Counts → List ℕ
record_line kind refusal n = counts_line kind refusal n.waiting n.sounding n.finished n.let_go

-- "a line per channel": the first n samples of each of c channels; the channels begin w places apart
unfoldable pub channel_lines : (c n w : ℕ) → List Float → List ℕ
channel_lines zero n w out = []
channel_lines (suc c) n w out = samples_line (take n out) ++ channel_lines c n w (drop w out)

-- a record with c channels of n samples
unfoldable pub leaves : Form → (kind refusal : ℕ) → Counts → (c n w : ℕ) → (samples : List Float) → List ℕ
unfolding channel_lines
leaves Bytes kind refusal counts c n w samples = bytes_of (channels_of c n w samples)
leaves Lines kind refusal counts c n w samples = record_line kind refusal counts ++ channel_lines c n w samples

-- the room that must be there for what a record leaves: of lines, as much as any record's may take, a line of 108 bytes and eight of 576
abbrev pub room_for : Form → List ℕ → ℕ
room_for Bytes bytes = length bytes
room_for Lines lines = 4716

-- ---- the last record, whose part is still to be put

abbrev pub none_left : Left
none_left = record { any = false; kind = 0; refusal = 0; channels = 0; each = 0 }

abbrev pub silent_left : (kind : ℕ) → Left
silent_left kind = record { any = true; kind = kind; refusal = 0; channels = 0; each = 0 }

-- what a channel leaves: its samples as bytes, or its line
abbrev pub row_piece : Form → (row : List Float) → List ℕ
row_piece Bytes row = bytes_of row
row_piece Lines row = samples_line row

-- in pieces: all channels are equal, and each of them is the first of the row
abbrev pub pieces : Form → Left → Counts → (row : List Float) → List (List ℕ)
pieces Bytes l counts row = replicate l.channels (bytes_of (take l.each row))
pieces Lines l counts row = record_line l.kind l.refusal counts ∷ replicate l.channels (samples_line (take l.each row))

abbrev pub pieces_in : Form → Left → Counts → (row : List Float) → List (List ℕ)
pieces_in form l counts row = cond l.any (pieces form l counts row) []

abbrev pub left_in : Form → Left → Counts → (row : List Float) → List ℕ
left_in form l counts row = joined (pieces_in form l counts row)

abbrev pub needed_in : Form → Left → Counts → (row : List Float) → ℕ
needed_in form l counts row = cond l.any (room_for form (joined (pieces form l counts row))) 0

-- there is room for it, from a place on in so many bytes
abbrev pub Fits : Form → Left → Counts → (row : List Float) → (at size : ℕ) → Type 0
Fits form l counts row at size = (l.each ≤ 64) × ((l.channels ≤ 8) × (at + needed_in form l counts row ≤ size))

-- all of it stands there, and ends before `to`
abbrev pub Stands : Form → Left → Counts → (row : List Float) → (before : List ℕ) → (at : ℕ) → (out : List ℕ) → (to : ℕ) → Type 0
Stands form l counts row before at out to = (out ≡ sets before at (left_in form l counts row)) × ((to ≡ at + length (left_in form l counts row)) × (to ≤ length before))

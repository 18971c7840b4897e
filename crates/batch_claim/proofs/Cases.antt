-- Lists with runs, their single calls, and the bytes that a run reads, computed on the plain ledger; the values are Paper 1's, by hand. Assumes nothing.
use Rattle.std.specs.Prelude.{ℕ, ◌≡◌, refl, List, [], ◌∷◌, ◌++◌, map, length, drop, replicate}
use Rattle.event.specs.declared.ReplayMode.TheVariants.{All}
use Rattle.ledger.specs.Calls.{Call, reset}
use Rattle.ledger.specs.Ledger.{Ledger, create}
use Rattle.ledger.specs.Claim.{accepted, calls}
use Rattle.ledger.specs.Computes.{computes}
use Rattle.tape.specs.Fields.{field, from_little_endian}
use Rattle.tape.specs.Tape.{push_kind, unknown_push, size_of, sizes, push_of, source_of}
use Rattle.batch.specs.Records.{beyond, stop_of, call_of}
use Rattle.batch.specs.Run.{push_run, push_all}
use Rattle.batch.specs.Cases.{clip, too_late, call}
use Rattle.batch_claim.specs.Singles.{reading, up_to_refused, first_refusal, singles, stopped}
use Rattle.batch_claim.specs.Lists.{Item, single, batch, ItemReply, replied, answered, items, flat, parts, numbers_of, all_numbers}
use Rattle.batch_claim.specs.WithBatches.{plain}
use Rattle.batch_claim.specs.Extent.{bytes_read, call_reads}

-- a ledger with this first number
abbrev from : ℕ → Ledger
from first = (create 1 All first).ledger

-- the last number but one, and the last
abbrev last_two : ℕ
last_two = 0xFFFFFFFFFFFFFFFE

abbrev last : ℕ
last = 0xFFFFFFFFFFFFFFFF

abbrev slice : List ℕ
slice = replicate 32 9

-- the clip with gain bytes, 1.0
abbrev loud : List ℕ
loud = 0x0A ∷ (drop 1 clip ++ (0 ∷ 0 ∷ 0x80 ∷ 0x3F ∷ []))

-- ---- "reads no further"

unfoldable read : (first count : ℕ) → (records : List ℕ) → ℕ
unfolding call_reads computes beyond bytes_read stop_of push_kind unknown_push size_of sizes call_of push_of source_of field from_little_endian
read first count bs = call_reads call bs count slice (from first)

-- the counted records, of 43 bytes, or 47 with gain bytes, whatever follows
read-counted : (read 1 2 (clip ++ (clip ++ clip)) ≡ 86) × (read 1 2 (loud ++ (clip ++ clip)) ≡ 90) × (read 1 0 clip ≡ 0)
unfolding read
read-counted = (refl, refl, refl)

-- to the end of the refused record: 4, or 7 where the numbers have run out; of one that is no push the kind byte; 16 reads none
read_to_what_ends : (read 1 3 (clip ++ (too_late ++ clip)) ≡ 86) × (read last 3 (clip ++ (clip ++ clip)) ≡ 86) × (read 1 3 (clip ++ (0x04 ∷ clip)) ≡ 44)
    × (read 1 33 clip ≡ 0)
unfolding read
read_to_what_ends = (refl, refl, refl, refl)

-- ---- a run's single pushes

-- what stops it if none of them is refused: nothing; no push; a missing record; 16
stops : (stopped (clip ++ clip) 2 slice ≡ 0) × (stopped (clip ++ (too_late ++ (0xFF ∷ []))) 3 slice ≡ 14)
    × (stopped clip 2 slice ≡ 15) × (stopped clip 33 slice ≡ 16)
unfolding stopped reading beyond stop_of push_kind unknown_push size_of sizes
stops = (refl, refl, refl, refl)

unfoldable ended : (records : List ℕ) → (by : ℕ) → ℕ
unfolding first_refusal calls singles reading up_to_refused beyond computes stop_of push_kind unknown_push size_of sizes call_of push_of source_of field from_little_endian
ended bs k = first_refusal (calls plain (singles plain.call bs 3 slice (from 1)) (from 1)).1 k

-- "the first refused one ends it", else what stopped it
first_ends : (ended (clip ++ (too_late ++ (0xFF ∷ []))) 14 ≡ 4) × (ended (clip ++ (0xFF ∷ [])) 14 ≡ 14)
unfolding ended
first_ends = (refl, refl)

-- ---- a list: a push, a run of two, a reset, a run refused as 16, one whose second push is refused

abbrev mixed : List Item
mixed = single (call_of clip) ∷ batch (clip ++ clip) 2 slice ∷ single reset ∷ batch clip 33 slice ∷ batch (clip ++ (too_late ++ clip)) 3 slice ∷ []

-- what a run gives back: how many, what ended it, its slice
told : ItemReply → List ℕ
told (replied r) = []
told (answered pushed ended xs) = pushed ∷ ended ∷ xs

told_of_mixed : map told (items plain mixed (from 1)).1 ≡ [] ∷ (2 ∷ 0 ∷ 2 ∷ 3 ∷ replicate 30 9) ∷ [] ∷ (0 ∷ 16 ∷ slice) ∷ (1 ∷ 4 ∷ 4 ∷ replicate 31 9) ∷ []
unfolding told items push_all push_run beyond computes stop_of push_kind unknown_push size_of sizes call_of push_of source_of field from_little_endian
told_of_mixed = refl

-- "puts the numbers issued into a lent slice": 1 by the push, 2 and 3 in the first slice, 4 in the last; so over the whole list, and the next is 5
numbers_of_mixed : (map numbers_of (items plain mixed (from 1)).1 ≡ (1 ∷ []) ∷ (2 ∷ 3 ∷ []) ∷ [] ∷ [] ∷ (4 ∷ []) ∷ [])
    × (all_numbers (items plain mixed (from 1)).1 ≡ 1 ∷ 2 ∷ 3 ∷ 4 ∷ []) × ((items plain mixed (from 1)).0.next ≡ 5)
unfolding items push_all push_run beyond computes stop_of push_kind unknown_push size_of sizes call_of push_of source_of field from_little_endian
numbers_of_mixed = (refl, refl, refl)

-- the single calls are six, the refused push among them, and so are the numbers of their replies
singles_of_mixed : (length (flat plain mixed (from 1)) ≡ 6) × (map accepted (parts plain mixed (from 1)) ≡ (1 ∷ []) ∷ (2 ∷ 3 ∷ []) ∷ [] ∷ [] ∷ (4 ∷ []) ∷ [])
unfolding flat parts calls singles reading up_to_refused push_all push_run beyond computes stop_of push_kind unknown_push size_of sizes call_of push_of source_of field
    from_little_endian
singles_of_mixed = (refl, refl)

-- each on what the one before it left: 7 ends the run where the numbers have run out
on_what_is-left : (length (flat plain (single (call_of clip) ∷ batch (clip ++ clip) 2 slice ∷ []) (from last)) ≡ 2)
    × (length (flat plain (batch (clip ++ clip) 2 slice ∷ batch (clip ++ clip) 2 slice ∷ []) (from last_two)) ≡ 3)
    × (length (flat plain (batch (clip ++ (clip ++ clip)) 3 slice ∷ []) (from last)) ≡ 2)
unfolding flat singles reading up_to_refused push_all push_run beyond computes stop_of push_kind unknown_push size_of sizes call_of push_of source_of field
    from_little_endian
on_what_is-left = (refl, refl, refl)

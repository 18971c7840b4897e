-- A few numbers and edits through the definitions, computed.
use Rattle.std.specs.Prelude.{◌≡◌, ℕ, [], ◌∷◌, refl}
use Rattle.floats.specs.Arithmetic.{zeroᶠ, oneᶠ, halfᶠ}
use Rattle.event.specs.declared.EventId.{EventId}
use Rattle.event.specs.declared.Edit.{Edit}
use Rattle.lists.specs.declared.ActiveMap.{ActiveMap}
use Rattle.lists.specs.declared.EditMap.{EditMap}
use Rattle.std.specs.declared.option.Option.TheVariants.{Some, None}
use Rattle.lists.specs.Search.{seek, shift}
use Rattle.lists.specs.Index.{found_id}
use Rattle.lists.specs.Edits.{emptied, placed, found_edit, stored, removed}

abbrev id : ℕ → EventId
id n = record { 0 = n }

-- ---- the index

abbrev ids : ℕ → ActiveMap
ids n = record { ids = id 5 ∷ id 7 ∷ id 9 ∷ []; len = n }

found-second : found_id (ids 3) (id 7) ≡ Some 1
unfolding found_id seek
found-second = refl

-- what stands behind the count is not found
behind_the_count : found_id (ids 2) (id 9) ≡ None
unfolding found_id seek
behind_the_count = refl

corrupt-index : found_id (ids 257) (id 7) ≡ None
unfolding found_id
corrupt-index = refl

-- ---- the edits: 5, 7, and 5 again, which is replaced in its place

abbrev first : Edit
first = record { end_time = oneᶠ; fade_out = zeroᶠ }

abbrev second : Edit
second = record { end_time = halfᶠ; fade_out = oneᶠ }

abbrev two : EditMap
two = stored (stored (stored emptied (id 5) first) (id 7) first) (id 5) second

replaced : found_edit two (id 5) ≡ Some second
unfolding found_edit placed stored emptied seek
replaced = refl

one_each : two.len ≡ 2
unfolding placed stored emptied seek
one_each = refl

taken_out : found_edit (removed two (id 5)) (id 5) ≡ None
unfolding found_edit removed placed stored emptied seek shift
taken_out = refl

others_stay : found_edit (removed two (id 5)) (id 7) ≡ Some first
unfolding found_edit removed placed stored emptied seek shift
others_stay = refl

-- a count above 256 is corrupt: nothing is found, and nothing changes
abbrev corrupt : EditMap
corrupt = record { items = emptied.items; len = 257 }

corrupt_find : found_edit corrupt (id 0) ≡ None
unfolding found_edit placed
corrupt_find = refl

corrupt-insert : stored corrupt (id 0) second ≡ corrupt
unfolding stored placed
corrupt-insert = refl

corrupt_remove : removed corrupt (id 0) ≡ corrupt
unfolding removed placed
corrupt_remove = refl

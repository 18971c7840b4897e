-- What the calls of the edit map give, for every map. A count above 256 is corrupt: nothing is found, and nothing changes.
use Rattle.std.specs.Prelude.{ℕ, ◌+◌, ◌-◌, Bool, cond, replicate, ◌==◌, nat_le, nat_lt, slice_index_or, slice_set}
use Rattle.std.specs.Float.{nan}
use Rattle.floats.specs.Arithmetic.{zeroᶠ}
use Rattle.event.specs.declared.EventId.{EventId}
use Rattle.event.specs.declared.Edit.{Edit}
use Rattle.event.specs.declared.StoredEdit.{StoredEdit}
use Rattle.lists.specs.declared.EditMap.{EditMap}
use Rattle.std.specs.declared.option.Option.{Option}
use Rattle.std.specs.declared.option.Option.TheVariants.{Some, None}
use Rattle.lists.specs.Search.{seek, shift}
use Rattle.lists.specs.Index.{no_id}

-- what the logic reads past the end of an array of edits
abbrev pub no_edit : StoredEdit
no_edit = record { id = no_id; edit = record { end_time = nan; fade_out = nan } }

abbrev pub is_edit : EventId → StoredEdit → Bool
is_edit k x = x.id.0 == k.0

unfoldable pub emptied : EditMap
emptied = record { items = replicate 256 (record { id = record { 0 = 0 }; edit = record { end_time = zeroᶠ; fade_out = zeroᶠ } }); len = 0 }

unfoldable pub placed : EditMap → EventId → Option ℕ
unfolding seek
placed a k = cond (nat_le a.len 256) (seek no_edit (is_edit k) a.len a.items 0) None

-- ---- by the place of the number

abbrev pub found_at : EditMap → Option ℕ → Option Edit
found_at a (Some i) = Some (slice_index_or a.items i no_edit).edit
found_at a None = None

abbrev pub stored_at : EditMap → StoredEdit → Option ℕ → EditMap
stored_at a x (Some i) = record { items = slice_set a.items i x; len = a.len }
stored_at a x None = cond (nat_lt a.len 256) (record { items = slice_set a.items a.len x; len = a.len + 1 }) a

abbrev pub removed_at : EditMap → Option ℕ → EditMap
removed_at a (Some i) = record { items = shift no_edit (a.len - 1 - i) a.items i; len = a.len - 1 }
removed_at a None = a

-- ---- by the number

unfoldable pub found_edit : EditMap → EventId → Option Edit
unfolding placed
found_edit a k = found_at a (placed a k)

unfoldable pub stored : EditMap → EventId → Edit → EditMap
unfolding placed
stored a k d = stored_at a (record { id = k; edit = d }) (placed a k)

unfoldable pub removed : EditMap → EventId → EditMap
unfolding placed
removed a k = removed_at a (placed a k)

-- What a search in the index gives, for every index. A count above 256 is corrupt, and nothing is found.
use Rattle.std.specs.Prelude.{ℕ, Bool, cond, ◌==◌, nat_le}
use Rattle.event.specs.declared.EventId.{EventId}
use Rattle.lists.specs.declared.ActiveMap.{ActiveMap}
use Rattle.std.specs.declared.option.Option.{Option}
use Rattle.std.specs.declared.option.Option.TheVariants.{None}
use Rattle.lists.specs.Search.{seek}

-- what the logic reads past the end of an array of numbers
abbrev pub no_id : EventId
no_id = record { 0 = 0 }

abbrev pub is_id : EventId → EventId → Bool
is_id k x = x.0 == k.0

unfoldable pub found_id : ActiveMap → EventId → Option ℕ
unfolding seek
found_id a k = cond (nat_le a.len 256) (seek no_id (is_id k) a.len a.ids 0) None

-- Whether the times of a push or an edit count from the clock.
use Rattle.std.specs.Prelude.{Bool, true, false}
use Rattle.ledger.specs.Calls.{PushKind, absolute, relative, by_duration, EditKind, absolute_end, relative_end}

abbrev pub is_relative : PushKind → Bool
is_relative absolute = false
is_relative relative = true
is_relative by_duration = false

abbrev pub end_relative : EditKind → Bool
end_relative absolute_end = false
end_relative relative_end = true

use Rattle.std.proofs.Common.{◌≡◌, ◌-◌, length}
use Rattle.pool_file.specs.Pools.{data_from, place_of}
use Rattle.pool_file.proofs.find_samples.Given as goal

abbrev pub invariant-loop : goal.invariant-loop
invariant-loop l = data_from (length l.head - l.counter) l.head l.at l.known ≡ place_of l.head

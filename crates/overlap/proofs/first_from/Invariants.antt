-- The loop's invariant is `Best` of those seen.
use Rattle.std.proofs.Common.{◌≡◌, List, take, min}
use Rattle.event.specs.declared.Event.{Event}
use Rattle.memory.specs.Memory.{Cells, cells_of, engine_of}
use Rattle.overlap.specs.Stretch.{starts_from}
use Rattle.overlap.proofs.Scanning.{Best, seen}
use Rattle.overlap.proofs.first_from.Given as goal

-- those that wait, as the heap's array has them
abbrev pub heap : Cells → List Event
heap c = take (engine_of c).ready_len (engine_of c).ready

abbrev pub invariant-loop-i : goal.invariant-loop-i
invariant-loop-i l =
    let c = cells_of l.times l.levels l.marks l.numbers in
    (l.n ≡ min (engine_of c).ready_len 256) × Best l.first (seen (starts_from l.time) (heap c) l.i)

-- The loop's invariant is `Gathering`.
use Rattle.std.proofs.Common.{◌≡◌, ◌≤◌, length}
use Rattle.memory.specs.Memory.{cells_of, engine_of}
use Rattle.overlap.specs.Stretch.{in_stretch}
use Rattle.overlap.specs.Reading.{held_in}
use Rattle.overlap.proofs.Gathering.{Gathering, Ends}
use Rattle.overlap.proofs.gather.Given as goal

abbrev pub invariant-loop-i : goal.invariant-loop-i
invariant-loop-i l =
    Ends (engine_of (cells_of l.times l.levels l.marks l.numbers)) l.waiting l.sounding l.held × (l.held ≤ 768) × (length l.keys ≡ 768)
    × Gathering (in_stretch l.from l.to) (held_in (engine_of (cells_of l.times l.levels l.marks l.numbers))) l.i l.count l.keys

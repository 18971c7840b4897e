-- `live::readers::time` meets its contract.
use Rattle.memory.specs.Memory.{cells_of}
use Rattle.memory.specs.Clock.{clock_in}
use Rattle.live.proofs.readers.time.Goals as goal

pub returns : goal.returns
returns c = let a = c.args in clock_in (cells_of a.times.now a.levels.now a.marks.now a.numbers.now)

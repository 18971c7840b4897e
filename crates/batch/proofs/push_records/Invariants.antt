-- `batch::push_records` meets its contract. The loop keeps what the definition gives from the next record on.
use borrow.Author.Rules.{rules}
use borrow.Author.Tests.{eq-eqb, ne_eqb}
use native.Mathlib.Omega.{arith}
use Prim.Native.Nat.{ℕ, ◌+◌, ◌-◌, ◌≤◌, ◌<◌}
use mathlib.Core.Path.{◌≡◌, sym, ap, ◌∙◌}
use mathlib.Core.List.{List}
use lib.ListN.{drop}
use Rattle.memory.specs.Memory.{Cells, cells_of, engine_of}
use Rattle.tape.specs.Tape.{kind_of, size_of}
use Rattle.batch.proofs.Running.{Running, found, all-refused, running, running_on, run-ended, run_done, place_inside, slice-length, next_in, part-all}
use Rattle.batch.proofs.push_records.Given as goal

abbrev pub invariant-loop-pushed : goal.invariant-loop-pushed
invariant-loop-pushed l =
    Running l.count l.records (engine_of (cells_of l.initial.times l.initial.levels l.initial.marks l.initial.numbers)) l.initial.given l.pushed l.at (engine_of (cells_of l.times l.levels l.marks l.numbers)) l.given

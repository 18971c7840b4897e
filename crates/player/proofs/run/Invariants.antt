-- `player::run` meets its contract: the loop's invariant is `Rolling`, of which each way out cites one lemma.
use borrow.Author.Rules.{rules}
use mathlib.Core.Path.{◌≡◌, refl, sym, ◌∙◌}
use mathlib.Core.Bool.{false}
use mathlib.Core.Logic.{⊎_elim}
use mathlib.Core.List.{[], ◌∷◌}
use Prim.Native.Nat.{◌-◌}
use native.Mathlib.Omega.{arith}
use lib.ListN.{length}
use denote.Enum.Declared.{tag_of}
use types.Run.{OneOf}
use Rattle.tape.specs.declared.reader.Read.{Read}
use Rattle.tape.specs.declared.reader.Read.TheVariants.{Record, Refused, End}
use Rattle.tape.specs.contracts.reader.Read.{the_type}
use Rattle.tape.specs.Cursors.{is_record, moves}
use Rattle.record_output.specs.Endings.{ending}
use Rattle.memory.specs.Memory.{cells_of, engine_of}
use Rattle.player.proofs.Rolling.{Rolling, start, answered, inside, same_rest, same_sets, same-put, ends-short, ends_unread, ends-full, ends-refused, goes_on}
use Rattle.player.proofs.run.Given as goal

abbrev pub invariant-loop-form : goal.invariant-loop-form
invariant-loop-form l =
    Rolling l.form l.pool l.tape l.whole (engine_of (cells_of l.initial.times l.initial.levels l.initial.marks l.initial.numbers)) l.initial.cursor l.initial.out l.out (engine_of (cells_of l.times l.levels l.marks l.numbers)) l.cursor l.samples l.at

abbrev pub decreases-loop-form : goal.decreases-loop-form
decreases-loop-form l = length l.tape - l.cursor.at

-- `record_output::is_full` meets its contract. Assumes nothing.
use mathlib.Core.Path.{◌≡◌, sym, ap, ◌∙◌}
use mathlib.Core.List.{[]}
use native.Mathlib.Omega.{arith}
use borrow.Author.Tests.{le-ltb}
use lib.Dec.{ltb}
use Rattle.record_output.specs.Lines.{room_for}
use Rattle.record_output.specs.declared.Form.{Form}
use borrow.Author.Rules.{rules}
use Rattle.record_output.proofs.is_full.Goals as goal

pub returns-in-Bytes : goal.returns-in-Bytes
returns-in-Bytes c = sym (ap (λ (f : Form). ltb c.args.room (room_for f [])) c.in-Bytes.is ∙ le-ltb c.args.room 0 (omega arith))

pub returns-in-Lines : goal.returns-in-Lines
returns-in-Lines c = sym (ap (λ (f : Form). ltb c.args.room (room_for f [])) c.in-Lines.is)

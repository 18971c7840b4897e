-- `batch::size_at` meets its contract.
use mathlib.Core.Path.{◌≡◌, ap, ◌∙◌}
use Prim.Native.Nat.{ℕ}
use Rattle.tape.specs.Tape.{size_of}
use borrow.Author.Rules.{rules}
use Rattle.batch.proofs.size_at.Goals as goal

pub returns : goal.returns
returns c = c.size_of.ensures ∙ ap (λ (k : ℕ). size_of k) c.byte.ensures

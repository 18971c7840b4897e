-- Which place of the ledger an answer of the index is.
use Rattle.std.specs.Prelude.{ℕ}
use Rattle.std.proofs.Math.Option.{Option, none, some}
use Rattle.std.specs.declared.option.Option.{Option as Found}
use Rattle.std.specs.declared.option.Option.TheVariants.{Some, None}

abbrev pub place_found : Found ℕ → Option ℕ
place_found (Some i) = some i
place_found None = none

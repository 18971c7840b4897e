-- The words for what is no text, and for an argument that could not be had.
use Rattle.std.specs.Prelude.{ℕ, ℤ, pos, List, [], ◌∷◌}
use Rattle.std.specs.declared.env.FillError.{FillError}
use Rattle.std.specs.declared.env.FillError.TheVariants.{NotPresent, TooLong}

-- `?`
abbrev pub no_text : List ℕ
no_text = 63 ∷ []

-- the system's number
abbrev pub code_of : FillError → ℤ
code_of NotPresent = pos 22
code_of TooLong = pos 36

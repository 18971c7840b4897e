-- Document 02, Paper 12: how many places of a block were "kept as rounded", "forced", and "set at an edge without the index step".
use Rattle.std.specs.Prelude.{◌+◌, List, [], ◌∷◌}
use Rattle.event.specs.declared.Placing.{Placing}
use Rattle.event.specs.declared.Placing.TheVariants.{Kept, Forced, Edge}
use Rattle.event.specs.declared.Placings.{Placings}

abbrev pub no_placings : Placings
no_placings = record { kept = 0; forced = 0; edge = 0 }

-- ---- how many of a list came each way
abbrev pub counted : Placing → Placings → Placings
counted Kept c = record { kept = c.kept + 1; forced = c.forced; edge = c.edge }
counted Forced c = record { kept = c.kept; forced = c.forced + 1; edge = c.edge }
counted Edge c = record { kept = c.kept; forced = c.forced; edge = c.edge + 1 }

abbrev pub tally : List Placing → Placings
tally [] = no_placings
tally (p ∷ l) = counted p (tally l)

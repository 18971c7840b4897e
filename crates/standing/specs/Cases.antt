-- Where a number stands, by computation. Assumes nothing.
use Rattle.std.specs.Prelude.{◌≡◌, refl, true, false, [], ◌∷◌}
use Rattle.standing.specs.declared.Standing.TheVariants.{Waiting, Sounding, Finished, LetGo}
use Rattle.standing.specs.Standings.{placed}

-- in W, in S, in F, in none of them
pub places : placed true false false ∷ placed false true false ∷ placed false false true ∷ placed false false false ∷ [] ≡ Waiting ∷ Sounding ∷ Finished ∷ LetGo ∷ []
places = refl

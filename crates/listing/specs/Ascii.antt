-- Texts as bytes: each character's code, which for ASCII is its byte. Assumes nothing.
use Rattle.std.specs.Prelude.{ℕ, ◌≡◌, refl, List, [], ◌∷◌}
use Prim.Native.Char.{code}
use Prim.Native.String.{[] as none, ◌∷◌ as ◌and◌}
use Prim.Native.String.{String}

abbrev pub ascii : String → List ℕ
ascii none = []
ascii (◌and◌ c s) = code c ∷ ascii s

pub letters : ascii " az=" ≡ 32 ∷ 97 ∷ 122 ∷ 61 ∷ []
letters = refl

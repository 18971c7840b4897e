-- The table, by computation: its ends, and numbers that are no refusal. Assumes nothing.
use Rattle.std.specs.Prelude.{◌≡◌, refl, [], ◌∷◌, map}
use Rattle.listing.specs.Ascii.{ascii}
use Rattle.refusal_texts.specs.Texts.{text_of, texts}

pub ends_of_table : map text_of (0 ∷ 1 ∷ 24 ∷ 25 ∷ []) ≡ ascii "no refusal" ∷ ascii "the channels are not 1 to 8, or the first number is 0" ∷ ascii "a preview's first entry is above 1,024" ∷ ascii "no refusal" ∷ []
unfolding text_of texts
ends_of_table = refl

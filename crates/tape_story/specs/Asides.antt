-- What a line says only where there is something to say, as pieces. They run.
use Rattle.std.specs.Prelude.{ℕ, Option, None, Some, List, [], ◌∷◌}
use Rattle.listing.specs.Ascii.{ascii}
use Rattle.listing.specs.Text.{decimal}
use Rattle.tape_words.specs.Words.{peak_text, refusal_text}
use Rattle.tape_story.specs.declared.Samples.{Samples}

-- a refusal behind its call
unfoldable pub refused_text : (refusal : Option ℕ) → List (List ℕ)
unfolding refusal_text
refused_text None = []
refused_text (Some refusal) = ascii ": " ∷ refusal_text refusal

-- how many samples of each channel were heard, and the first channel's peak
unfoldable pub samples_text : (heard : Option Samples) → List (List ℕ)
unfolding peak_text
samples_text None = []
samples_text (Some s) = ascii "; " ∷ decimal s.each ∷ ascii " samples, peak " ∷ peak_text s.peak

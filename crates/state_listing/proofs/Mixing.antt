-- Numbers that go into a digest one after the other. Assumes nothing.
use Rattle.std.proofs.Common.{◌≡◌, ℕ, List, ◌∷◌, ap, ◌∙◌}
use Rattle.digests.specs.Digests.{mixed}
use Rattle.event.specs.declared.Source.{Source}
use Rattle.event.specs.declared.Unit.{Unit}
use Rattle.event.specs.Numbers.{source_number, first_word, second_word}
use Rattle.state_listing.specs.Digests.{moved, unit_words}

pub after : {d d' v v' m : ℕ} → d ≡ d' → v ≡ v' → m ≡ mixed d v → m ≡ mixed d' v'
after {d} {d'} {v} {v'} {m} p q e = e ∙ ap (λ (x : ℕ). mixed x v) p ∙ ap (mixed d') q

-- the words of a unit whose source is known
abbrev pub sourced : Unit → Source → List ℕ
sourced u s = source_number s ∷ first_word s ∷ second_word s ∷ moved s u

pub words_of : (u : Unit) {s : Source} → u.source ≡ s → unit_words u ≡ sourced u s
unfolding unit_words
words_of u e = ap (sourced u) e

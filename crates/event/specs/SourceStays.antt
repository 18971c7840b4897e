-- Moving on changes a source's place alone, so a reset finds the beginning again.
use Rattle.std.specs.Prelude.{◌≡◌, ℕ, zero, suc, ◌+◌, Bool, true, false, cond, nat_lt, refl}
use Rattle.std.proofs.Common.{◌∙◌}
use Rattle.event.specs.Sources.{steps, advanced_at, advanced, advanced_by}
use Rattle.event.specs.declared.Source.{Source}
use Rattle.event.specs.declared.Source.TheVariants.{Held, Ramp, Clip}
use Rattle.event.specs.declared.Unit.{Unit}

same_source : (s : Source) (u : Unit) → (advanced_at s u).source ≡ u.source
same_source (Held level) u = refl
same_source (Ramp first step) u = refl
same_source (Clip offset length) u = go (nat_lt u.place length)
  where
    go : (b : Bool) → (cond b (record { source = u.source; value = u.value; place = u.place + 1 }) u).source ≡ u.source
    go true = refl
    go false = refl

pub source_stays : (u : Unit) (k : ℕ) → (advanced_by u k).source ≡ u.source
unfolding steps
source_stays u zero = refl
source_stays u (suc k) = source_stays (advanced u) k ∙ same_source u.source u

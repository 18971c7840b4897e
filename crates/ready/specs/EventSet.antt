-- Two events are equal or not, so that any two proofs of their equality agree. Assumes nothing.
use Rattle.std.specs.Prelude.{Bool, true, false, ◌≡◌, refl, ℕ, ℤ, pos, Float}
use Rattle.std.proofs.Math.Bool.{Bool-discrete}
use Rattle.std.proofs.Common.{sym, ap, ◌∙◌}
use mathlib.Core.HLevel.{hedberg, ×_discrete}
use Rattle.std.proofs.Math.Decide.{ℕ_discrete}
use Rattle.std.proofs.Math.IntN.{ℤ_discrete}
use Rattle.std.specs.Float.{nan, inf, fin}
use Rattle.event.specs.declared.Event.{Event}
use Rattle.event.specs.declared.Fade.{Fade}
use Rattle.event.specs.declared.Fade.TheVariants.{Power, Smooth}
use Rattle.event.specs.declared.Source.{Source}
use Rattle.event.specs.declared.Source.TheVariants.{Held, Ramp, Clip}

-- what a code can be read back from is decided by the code
coded : {A B : Type 0} → (f : A → B) (g : B → A) → ((a : A) → g (f a) ≡ a) → Discrete B → Discrete A
coded {A} f g s d x y = go (d (f x) (f y))
  where
    go : Dec (f x ≡ f y) → Dec (x ≡ y)
    go (yes p) = yes (sym (s x) ∙ ap g p ∙ s y)
    go (no n) = no (λ p. n (ap f p))

abbrev Code : Type 0
Code = Bool × (Bool × (Bool × (ℕ × ℤ)))

float_code : Float → Code
float_code nan = (false, (false, (false, (0, pos 0))))
float_code (inf s) = (false, (true, (s, (0, pos 0))))
float_code (fin s m e) = (true, (true, (s, (m, e))))

float_of : Code → Float
float_of (false, (false, (s, (m, e)))) = nan
float_of (false, (true, (s, (m, e)))) = inf s
float_of (true, (k, (s, (m, e)))) = fin s m e

float_back : (x : Float) → float_of (float_code x) ≡ x
unfolding float_code float_of
float_back nan = refl
float_back (inf s) = refl
float_back (fin s m e) = refl

pub Float_discrete : Discrete Float
Float_discrete = coded float_code float_of float_back (×_discrete Bool-discrete (×_discrete Bool-discrete (×_discrete Bool-discrete (×_discrete ℕ_discrete ℤ_discrete))))

abbrev Source_code : Type 0
Source_code = Bool × (Bool × (Float × (Float × (ℕ × ℕ))))

source_code : Source → Source_code
source_code (Held x) = (false, (false, (x, (nan, (0, 0)))))
source_code (Ramp x d) = (false, (true, (x, (d, (0, 0)))))
source_code (Clip o l) = (true, (true, (nan, (nan, (o, l)))))

source_of : Source_code → Source
source_of (false, (false, (x, (d, (o, l))))) = Held x
source_of (false, (true, (x, (d, (o, l))))) = Ramp x d
source_of (true, (k, (x, (d, (o, l))))) = Clip o l

source_back : (s : Source) → source_of (source_code s) ≡ s
unfolding source_code source_of
source_back (Held x) = refl
source_back (Ramp x d) = refl
source_back (Clip o l) = refl

pub Source_discrete : Discrete Source
Source_discrete =
    coded source_code source_of source_back
    (×_discrete Bool-discrete (×_discrete Bool-discrete (×_discrete Float_discrete (×_discrete Float_discrete (×_discrete ℕ_discrete ℕ_discrete)))))

fade_code : Fade → Bool
fade_code Power = true
fade_code Smooth = false

fade_of : Bool → Fade
fade_of true = Power
fade_of false = Smooth

fade-back : (f : Fade) → fade_of (fade_code f) ≡ f
unfolding fade_code fade_of
fade-back Power = refl
fade-back Smooth = refl

pub Event_discrete : Discrete Event
Event_discrete =
    coded {B = Float × (Float × (Float × (Float × (Fade × (Source × (Float × (ℕ × (Float × ℕ))))))))} (λ x. (x.start_time, (x.end_time, (x.fade_in, (x.fade_out, (x.fade_ease, (x.unit.source, (x.unit.value, (x.unit.place, (x.gain, x.id.0))))))))))
    (λ t. record { start_time = t.0; end_time = t.1.0; fade_in = t.1.1.0; fade_out = t.1.1.1.0; fade_ease = t.1.1.1.1.0; unit = record { source = t.1.1.1.1.1.0; value = t.1.1.1.1.1.1.0; place = t.1.1.1.1.1.1.1.0 }; gain = t.1.1.1.1.1.1.1.1.0; id = record { 0 = t.1.1.1.1.1.1.1.1.1 } })
    (λ x. refl)
    (×_discrete Float_discrete (×_discrete Float_discrete (×_discrete Float_discrete (×_discrete Float_discrete (×_discrete (coded fade_code fade_of fade-back Bool-discrete) (×_discrete Source_discrete (×_discrete Float_discrete (×_discrete ℕ_discrete (×_discrete Float_discrete ℕ_discrete)))))))))

pub Event_set : IsSet Event
Event_set = hedberg Event_discrete

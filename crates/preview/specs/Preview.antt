-- Paper 14, "The standard fade from a printed table": "The layout preview draws only the house fade, 1,024 samples, smooth."
use Rattle.std.specs.Prelude.{◌≡◌, Bool, true, false, cond, List, ℕ, ◌+◌, ◌-◌, ◌<◌, leb, Float, length, get_or, Result, Ok, Err}
use Rattle.std.specs.Float.{nan, binary32}
use Rattle.std.specs.Float.Ieee.{round}
use Rattle.floats.specs.Arithmetic.{◌×ˢ◌, zeroᶠ, oneᶠ}
use Rattle.math.specs.Curves.{smooth}
use Rattle.runs.specs.Walk.{walk}
use Rattle.preview.specs.declared.Refused.{Refused}

-- the f32 k/1024, which is exact (`phase-exact` of specs.FadeIn)
abbrev pub phase : ℕ → Float
phase k = round binary32 false k 1024

-- "a table of 1,025 gains whose entry k is smooth5 at k/1024"
abbrev pub entry : ℕ → Float
entry k = smooth (phase k)

pub record IsTable (l : List Float) : Type 0 where
  pub long : length l ≡ 1025
  pub at : (k : ℕ) → k < 1025 → get_or l k nan ≡ entry k

-- "rising, or falling (by entry 1,024 - k); samples after the last entry are multiplied by 1.0 when rising and 0.0 when falling"
abbrev pub gain_at : (gains : List Float) → (rising : Bool) → ℕ → Float
gain_at gains true k = cond (leb k 1024) (get_or gains k nan) oneᶠ
gain_at gains false k = cond (leb k 1024) (get_or gains (1024 - k) nan) zeroᶠ

-- "multiplies a lent run by the entries from any k on"
abbrev pub multiplied : (gains : List Float) → (rising : Bool) → (k : ℕ) → List Float → List Float
multiplied gains rising k l = walk (λ j a. a ×ˢ gain_at gains rising j) (λ j. j + 1) k l

-- "A first entry above 1,024 is refused as 24, and the run is left as it came."
abbrev pub refusal : ℕ → ℕ
refusal k = cond (leb k 1024) 0 24

-- the number of a refusal, and of an answer; 0 of one that refuses nothing
abbrev pub number_of : Refused → ℕ
number_of r = 24

abbrev pub refusal_in : Result (Unit {0}) Refused → ℕ
refusal_in (Ok u) = 0
refusal_in (Err r) = number_of r

abbrev pub previewed : (gains : List Float) → (rising : Bool) → (k : ℕ) → List Float → List Float
previewed gains rising k l = cond (leb k 1024) (multiplied gains rising k l) l

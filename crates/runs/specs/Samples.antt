-- What the private sample loops do.
use Rattle.std.specs.Prelude.{◌≡◌, ℕ, ◌+◌, ◌-◌, min, Bool, cond, List, ◌++◌, Float, take, drop, replicate}
use Rattle.std.proofs.Math.ListN as List
use Rattle.event.specs.declared.Fade.{Fade}
use Rattle.event.specs.Fades.{curve}
use Rattle.event.specs.Sources.{made}
use Rattle.floats.specs.Arithmetic.{◌+ˢ◌, ◌-ˢ◌, ◌×ˢ◌, zeroᶠ, oneᶠ}
use Rattle.ledger.specs.BlockSamples.{gained}
use Rattle.runs.specs.declared.ClipPart.{ClipPart}
use Rattle.runs.specs.Walk.{zipped}

-- what the calls of a closure give is h of the sample that they take
abbrev pub Maps : (post : Float → Float → Type 0) → (h : Float → Float) → Type 0
Maps post h = (a x : Float) → post a x → x ≡ h a

-- and h of the two samples
abbrev pub Joins : (post : Float → Float → Float → Type 0) → (h : Float → Float → Float) → Type 0
Joins post h = (a y x : Float) → post a y x → x ≡ h a y

-- x, x + step, ..
abbrev pub chain : (step x : Float) → ℕ → List Float
chain step x k = made (λ y. y) (λ y. y +ˢ step) x k

-- a rising fade takes the curve at the phase, a falling one at 1 - phase
abbrev pub facing : (rising : Bool) → Float → Float
facing rising phase = cond rising phase (oneᶠ -ˢ phase)

-- where a fade takes its curve
abbrev pub phases_of : (rising : Bool) → (phase step : Float) → ℕ → List Float
phases_of rising phase step k = made (facing rising) (λ y. y +ˢ step) phase k

-- sample k times the curve at xs k
abbrev pub shaped : Fade → (xs l : List Float) → List Float
shaped c xs l = zipped (λ a y. a ×ˢ curve c y) xs l

-- how many of a clip's next k samples the clip and the pool have, and the samples: 0 past these
abbrev pub clip_has : (pool : List Float) → (offset length place k : ℕ) → ℕ
clip_has pool offset length place k = min (min k (length - place)) (List.length pool - (offset + place))

abbrev pub clip_run : (pool : List Float) → (offset length place k : ℕ) → List Float
clip_run pool offset length place k =
    let m = clip_has pool offset length place k in
    take m (drop (offset + place) pool) ++ replicate (k - m) zeroᶠ

-- the same as the code decides it, of a pool with so many samples
abbrev pub clip_part : (k pool offset length place : ℕ) → ClipPart
clip_part k pool offset length place =
    let left = min k (length - place) in
    record { left = left; has = min left (pool - (offset + place)); from = min (offset + place) pool }

-- a run at a gain is added
abbrev pub added : (gain : Float) → (run l : List Float) → List Float
added gain run l = zipped (λ a y. a +ˢ y) (gained gain run) l

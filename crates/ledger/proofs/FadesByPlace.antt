-- Document 02, Paper 3: "a fade belongs to the clip". Which samples a fade multiplies is decided by their places in the block, whatever the place s at which the clip begins there. Assumes nothing.
-- A phase is that of the fade's first place in the block and, from there on, a sum in f32: at that place itself it is the phase of the place, so a block that is cut gives the second part's first place its own phase.
use Prim.Native.Nat.{ℕ, zero, suc, ◌+◌, ◌-◌, ◌≤◌, ◌<◌, max}
use Rattle.std.specs.Prelude.{◌≡◌, Bool, true, false, ◌&&◌, cond, ltb, leb, length, take, drop, get_or}
use Rattle.std.proofs.Math.Path.{refl, ap}
use Rattle.std.proofs.Common.{sym, ◌∙◌, arith, ltb-true, ltb-false, leb-true, leb-false, length-append, take-append-drop}
use mathlib.Core.List.{List, [], ◌∷◌, ◌++◌}
use Rattle.std.specs.Float.Ieee.{Float}
use Rattle.std.proofs.Math.ListN.{length-drop, get_or-map}
use Rattle.std.proofs.lemmas.List.{length-map}
use Rattle.floats.specs.Arithmetic.{◌+ᵈ◌, ◌-ᵈ◌, ◌+ˢ◌, ◌-ˢ◌, ◌×ˢ◌, ◌<ᶠ◌, zeroᶠ, oneᶠ}
use Rattle.event.specs.declared.Event.{Event}
use Rattle.event.specs.declared.Fade.{Fade}
use Rattle.event.specs.Fades.{curve}
use Rattle.event.specs.Runs.{length_made, get_or_in}
use Rattle.event.specs.Sources.{steps, next_samples, sample_of, advanced}
use Rattle.ledger.specs.BlockSamples.{Span, faded_all, faded, fade_in_place, fade_out_place, phase_at, phase_step, gained, run_faded_in, run_faded_out, faded_run}
use Rattle.ledger.specs.FadesByPlace.{faded_in_at, faded_out_at, factor}

-- ---- a faded run, place by place

-- a list's first f, and then others
before : (f : ℕ) (l r : List Float) (k : ℕ) → k < f → k < length l → get_or (take f l ++ r) k zeroᶠ ≡ get_or l k zeroᶠ
before zero l r k h n = absurd (omega arith)
before (suc f) [] r k h n = absurd (omega arith)
before (suc f) (x ∷ l) r zero h n = refl
before (suc f) (x ∷ l) r (suc k) h n = before f l r k (omega arith) (omega arith)

after : (f : ℕ) (l r : List Float) (k : ℕ) → f ≤ k → k < length l → get_or (take f l ++ r) k zeroᶠ ≡ get_or r (k - f) zeroᶠ
after zero l r k h n = ap (λ (j : ℕ). get_or r j zeroᶠ) (omega arith)
after (suc f) [] r k h n = absurd (omega arith)
after (suc f) (x ∷ l) r zero h n = absurd (omega arith)
after (suc f) (x ∷ l) r (suc k) h n = after f l r k (omega arith) (omega arith) ∙ ap (λ (j : ℕ). get_or r j zeroᶠ) (omega arith)

dropped : (f : ℕ) (l : List Float) (k : ℕ) → f ≤ k → get_or (drop f l) (k - f) zeroᶠ ≡ get_or l k zeroᶠ
dropped zero l k h = ap (λ (j : ℕ). get_or l j zeroᶠ) (omega arith)
dropped (suc f) [] k h = refl
dropped (suc f) (x ∷ l) zero h = absurd (omega arith)
dropped (suc f) (x ∷ l) (suc k) h = ap (λ (j : ℕ). get_or (drop f l) j zeroᶠ) (omega arith) ∙ dropped f l k (omega arith)

-- the factor after k steps
module _ (c : Fade) (rising : Bool) (step : Float) where
  inside : (phase : Float) (l : List Float) (m k : ℕ) → k < m → k < length l → get_or (faded_all c rising phase step (take m l) ++ drop m l) k zeroᶠ ≡ get_or l k zeroᶠ ×ˢ factor c rising step phase k
  unfolding faded_all factor steps
  inside phase [] m k h n = absurd (omega arith)
  inside phase (x ∷ l) zero k h n = absurd (omega arith)
  inside phase (x ∷ l) (suc m) zero h n = refl
  inside phase (x ∷ l) (suc m) (suc k) h n = inside (phase +ˢ step) l m k (omega arith) (omega arith)

  behind : (phase : Float) (l : List Float) (m k : ℕ) → m ≤ k → get_or (faded_all c rising phase step (take m l) ++ drop m l) k zeroᶠ ≡ get_or l k zeroᶠ
  unfolding faded_all
  behind phase l zero k h = refl
  behind phase [] (suc m) k h = refl
  behind phase (x ∷ l) (suc m) zero h = absurd (omega arith)
  behind phase (x ∷ l) (suc m) (suc k) h = behind (phase +ˢ step) l m k (omega arith)

  faded-before : (from to : ℕ) (phase : Float) (l : List Float) (k : ℕ) → k < from → k < length l → get_or (faded c rising from to phase step l) k zeroᶠ ≡ get_or l k zeroᶠ
  unfolding faded
  faded-before from to phase l k h n = before from l _ k h n

  faded-inside : (from to : ℕ) (phase : Float) (l : List Float) (k : ℕ) → from ≤ k → k < to → k < length l
      → get_or (faded c rising from to phase step l) k zeroᶠ ≡ get_or l k zeroᶠ ×ˢ factor c rising step phase (k - from)
  unfolding faded
  faded-inside from to phase l k f h n =
      after from l _ k f n
      ∙ inside phase (drop from l) (to - from) (k - from) (omega arith) (omega (arith, length-drop from l))
      ∙ ap (λ (x : Float). x ×ˢ factor c rising step phase (k - from)) (dropped from l k f)

  faded-behind : (from to : ℕ) (phase : Float) (l : List Float) (k : ℕ) → from ≤ k → to ≤ k → k < length l → get_or (faded c rising from to phase step l) k zeroᶠ ≡ get_or l k zeroᶠ
  unfolding faded
  faded-behind from to phase l k f h n = after from l _ k f n ∙ behind phase (drop from l) (to - from) (k - from) (omega arith) ∙ dropped from l k f

-- ---- the law

fade_in_by_place : (b : Span) (s z : ℕ) (e : Event) (l : List Float) (k : ℕ) → k < length l → get_or (run_faded_in b s z e l) k zeroᶠ ≡ faded_in_at b s z (s + k) e (get_or l k zeroᶠ)
unfolding run_faded_in factor
fade_in_by_place b s z e l k n = go (zeroᶠ <ᶠ e.fade_in && b.clock <ᶠ top)
  where
    top : Float
    top = e.start_time +ᵈ e.fade_in

    phase : Float
    phase = phase_at b s e.start_time top

    step : Float
    step = phase_step b e.fade_in

    x : Float
    x = get_or l k zeroᶠ

    within : (t : Bool) → ltb (s + k) (fade_in_place b z e) ≡ t → get_or (faded e.fade_ease true 0 (fade_in_place b z e - s) phase step l) k zeroᶠ ≡ cond t (x ×ˢ curve e.fade_ease (steps (λ y. y +ˢ step) phase (s + k - s))) x
    within true h =
        let p = ltb-true (s + k) (fade_in_place b z e) h in
        faded-inside e.fade_ease true step 0 (fade_in_place b z e - s) phase l k (omega arith) (omega arith) n
        ∙ ap (λ (j : ℕ). x ×ˢ curve e.fade_ease (steps (λ y. y +ˢ step) phase j)) (omega arith)
    within false h =
        let p = ltb-false (s + k) (fade_in_place b z e) h in
        faded-behind e.fade_ease true step 0 (fade_in_place b z e - s) phase l k (omega arith) (omega arith) n

    go : (t : Bool) → get_or (cond t (faded e.fade_ease true 0 (fade_in_place b z e - s) phase step l) l) k zeroᶠ
        ≡ cond t (cond (ltb (s + k) (fade_in_place b z e)) (x ×ˢ curve e.fade_ease (steps (λ y. y +ˢ step) phase (s + k - s))) x) x
    go true = within (ltb (s + k) (fade_in_place b z e)) refl
    go false = refl

fade_out_by_place : (b : Span) (s z : ℕ) (e : Event) (l : List Float) (k : ℕ) → k < length l → s + k < z → get_or (run_faded_out b s z e l) k zeroᶠ ≡ faded_out_at b s (s + k) e (get_or l k zeroᶠ)
unfolding run_faded_out factor
fade_out_by_place b s z e l k n m = go (zeroᶠ <ᶠ e.fade_out && bottom <ᶠ b.upto)
  where
    bottom : Float
    bottom = e.end_time -ᵈ e.fade_out

    place : ℕ
    place = fade_out_place b e

    phase : Float
    phase = phase_at b (max place s) bottom e.end_time

    step : Float
    step = phase_step b e.fade_out

    x : Float
    x = get_or l k zeroᶠ

    run : List Float
    run = faded e.fade_ease false (max place s - s) (z - s) phase step l

    -- x times the curve, j steps on
    times : (j : ℕ) → Float
    times j = x ×ˢ curve e.fade_ease (oneᶠ -ˢ steps (λ y. y +ˢ step) phase j)

    within : (t : Bool) → leb place (s + k) ≡ t → get_or run k zeroᶠ ≡ cond t (times (s + k - max place s)) x
    within true h =
        let p = leb-true place (s + k) h in
        faded-inside e.fade_ease false step (max place s - s) (z - s) phase l k (omega arith) (omega arith) n ∙ ap times (omega arith)
    within false h =
        let p = leb-false place (s + k) h in
        faded-before e.fade_ease false step (max place s - s) (z - s) phase l k (omega arith) n

    go : (t : Bool) → get_or (cond t run l) k zeroᶠ ≡ cond t (cond (leb place (s + k)) (times (s + k - max place s)) x) x
    go true = within (leb place (s + k)) refl
    go false = refl

length-faded : (c : Fade) (rising : Bool) (from to : ℕ) (phase step : Float) (l : List Float) → length (faded c rising from to phase step l) ≡ length l
unfolding faded faded_all
length-faded c rising from to phase step l =
    length-append (take from l) _
    ∙ ap (λ (n : ℕ). length (take from l) + n) (length-append (faded_all c rising phase step (take (to - from) (drop from l))) _ ∙ ap (λ (n : ℕ). n + length (drop (to - from) (drop from l))) (length-all phase (take (to - from) (drop from l))) ∙ sym (length-append (take (to - from) (drop from l)) _) ∙ ap length (take-append-drop (to - from) (drop from l)))
    ∙ sym (length-append (take from l) _)
    ∙ ap length (take-append-drop from l)
  where
    length-all : (phase : Float) (l : List Float) → length (faded_all c rising phase step l) ≡ length l
    length-all phase [] = refl
    length-all phase (x ∷ l) = ap suc (length-all (phase +ˢ step) l)

module _ (b : Span) (s z : ℕ) (e : Event) (l : List Float) where
  length-faded_in : length (run_faded_in b s z e l) ≡ length l
  unfolding run_faded_in
  length-faded_in = go (zeroᶠ <ᶠ e.fade_in && b.clock <ᶠ top)
    where
      top : Float
      top = e.start_time +ᵈ e.fade_in

      go : (t : Bool) → length (cond t (faded e.fade_ease true 0 (fade_in_place b z e - s) (phase_at b s e.start_time top) (phase_step b e.fade_in) l) l) ≡ length l
      go true = length-faded e.fade_ease true 0 (fade_in_place b z e - s) _ _ l
      go false = refl

  length-faded_out : length (run_faded_out b s z e l) ≡ length l
  unfolding run_faded_out
  length-faded_out = go (zeroᶠ <ᶠ e.fade_out && bottom <ᶠ b.upto)
    where
      bottom : Float
      bottom = e.end_time -ᵈ e.fade_out

      i : ℕ
      i = max (fade_out_place b e) s

      go : (t : Bool) → length (cond t (faded e.fade_ease false (i - s) (z - s) (phase_at b i bottom e.end_time) (phase_step b e.fade_out) l) l) ≡ length l
      go true = length-faded e.fade_ease false (i - s) (z - s) _ _ l
      go false = refl

-- a run has z - s samples
pub length-faded-run : (pool : List Float) (b : Span) (s z : ℕ) (e : Event) → length (faded_run pool b s z e) ≡ z - s
length-faded-run pool b s z e =
    let us : List Float = next_samples pool e.unit (z - s) in
    let xs : List Float = gained e.gain us in
    length-faded_out b s z e (run_faded_in b s z e xs) ∙ length-faded_in b s z e xs ∙ length-map us (λ x. x ×ˢ e.gain) ∙ length_made (sample_of pool) advanced e.unit (z - s)

-- The sample at scratch place k, which is block place s + k: the source's times the gain (Paper 5), then the fades.
pub fades_by_place : (pool : List Float) (b : Span) (s z : ℕ) (e : Event) (k : ℕ) → s + k < z
    → get_or (faded_run pool b s z e) k zeroᶠ ≡ faded_out_at b s (s + k) e (faded_in_at b s z (s + k) e (get_or (next_samples pool e.unit (z - s)) k zeroᶠ ×ˢ e.gain))
fades_by_place pool b s z e k h =
    let us : List Float = next_samples pool e.unit (z - s) in
    let at : Float → Float = λ x. x ×ˢ e.gain in
    let xs : List Float = gained e.gain us in
    let n : k < length xs = omega (arith, length-map us at, length_made (sample_of pool) advanced e.unit (z - s)) in
    fade_out_by_place b s z e (run_faded_in b s z e xs) k (omega (arith, length-faded_in b s z e xs)) h
    ∙ ap (faded_out_at b s (s + k) e) (fade_in_by_place b s z e xs k n ∙ ap (faded_in_at b s z (s + k) e) (get_or_in xs k zeroᶠ (at zeroᶠ) n ∙ get_or-map at us k zeroᶠ))

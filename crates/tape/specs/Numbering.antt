-- A mode, curve or source byte is known exactly if it is the number of a case (event/specs/Numbers), and is read as that case. Assumes nothing.
use Rattle.std.specs.Prelude.{◌≡◌, ℕ, ◌≤◌, Bool, true, false, cond, T, List, ◌==◌, ◌≢◌, refl}
use Rattle.std.proofs.Common.{arith, ltb-false, eqb-true}
use Rattle.std.proofs.lemmas.Bool.{eqb-false}
use Rattle.std.specs.Float.{binary32}
use Rattle.std.specs.Float.Ieee.{fits}
use Rattle.std.specs.Float.Ieee.Bits.{of_bits-to_bits}
use Rattle.event.specs.declared.Fade.{Fade}
use Rattle.event.specs.declared.Fade.TheVariants.{Power, Smooth}
use Rattle.event.specs.declared.ReplayMode.{ReplayMode}
use Rattle.event.specs.declared.ReplayMode.TheVariants.{All, None}
use Rattle.event.specs.declared.Source.{Source}
use Rattle.event.specs.declared.Source.TheVariants.{Held, Ramp, Clip}
use Rattle.event.specs.Numbers.{mode_number, curve_number, source_number, first_word, second_word}
use Rattle.tape.specs.Fields.{field}
use Rattle.tape.specs.Tape.{source_byte, unknown_mode, unknown_curve, unknown_source, f32_at, mode_of, curve_of, source_of}

-- ---- the number of a case is read as that case
pub mode_read : (m : ReplayMode) → mode_of (mode_number m) ≡ m
mode_read All = refl
mode_read None = refl

pub curve-read : (c : Fade) → curve_of (curve_number c) ≡ c
curve-read Power = refl
curve-read Smooth = refl

-- a source's floats are f32 values
abbrev pub InF32 : Source → Type 0
InF32 (Held level) = T (fits binary32 level)
InF32 (Ramp value step) = T (fits binary32 value) × T (fits binary32 step)
InF32 (Clip offset length) = Unit {0}

-- with its two words behind it
pub source_read : (bs : List ℕ) (s : Source) → InF32 s → source_byte bs ≡ source_number s → field bs 35 4 ≡ first_word s → field bs 39 4 ≡ second_word s → source_of bs ≡ s
unfolding source_of
source_read bs (Held level) h b x y = simp (b, x, of_bits-to_bits binary32 level h)
source_read bs (Ramp value step) h b x y = simp (b, x, y, of_bits-to_bits binary32 value h.0, of_bits-to_bits binary32 step h.1)
source_read bs (Clip offset length) h b x y = simp (b, x, y)

one : (b : ℕ) → b ≤ 1 → (b ≢ 0) → b ≡ 1
one b h n = omega arith

two : (b : ℕ) → b ≤ 2 → (b ≢ 0) → (b ≢ 1) → b ≡ 2
two b h n m = omega arith

-- ---- a byte that is not unknown is the number of the case that is read
pub mode_known : (b : ℕ) → unknown_mode b ≡ false → b ≡ mode_number (mode_of b)
mode_known b h = go (b == 0) (eqb-true b 0) (eqb-false b 0)
  where
    go : (t : Bool) → (t ≡ true → b ≡ 0) → (t ≡ false → b ≢ 0) → b ≡ mode_number (cond t All None)
    go true p q = p refl
    go false p q = one b (ltb-false _ _ h) (q refl)

pub curve-known : (b : ℕ) → unknown_curve b ≡ false → b ≡ curve_number (curve_of b)
curve-known b h = go (b == 0) (eqb-true b 0) (eqb-false b 0)
  where
    go : (t : Bool) → (t ≡ true → b ≡ 0) → (t ≡ false → b ≢ 0) → b ≡ curve_number (cond t Power Smooth)
    go true p q = p refl
    go false p q = one b (ltb-false _ _ h) (q refl)

pub source_known : (bs : List ℕ) → unknown_source (source_byte bs) ≡ false → source_byte bs ≡ source_number (source_of bs)
unfolding source_of
source_known bs h = go (b == 0) (eqb-true b 0) (eqb-false b 0) (b == 1) (eqb-true b 1) (eqb-false b 1)
  where
    b : ℕ
    b = source_byte bs

    go : (t : Bool) → (t ≡ true → b ≡ 0) → (t ≡ false → b ≢ 0) → (u : Bool) → (u ≡ true → b ≡ 1) → (u ≡ false → b ≢ 1)
        → b ≡ source_number (cond t (Held (f32_at bs 35)) (cond u (Ramp (f32_at bs 35) (f32_at bs 39)) (Clip (field bs 35 4) (field bs 39 4))))
    go true p q u r s = p refl
    go false p q true r s = r refl
    go false p q false r s = two b (ltb-false _ _ h) (q refl) (s refl)

-- ---- no case's number is unknown
pub mode_not-unknown : (m : ReplayMode) → unknown_mode (mode_number m) ≡ false
mode_not-unknown All = refl
mode_not-unknown None = refl

pub curve-not-unknown : (c : Fade) → unknown_curve (curve_number c) ≡ false
curve-not-unknown Power = refl
curve-not-unknown Smooth = refl

pub source_not-unknown : (s : Source) → unknown_source (source_number s) ≡ false
source_not-unknown (Held level) = refl
source_not-unknown (Ramp value step) = refl
source_not-unknown (Clip offset length) = refl

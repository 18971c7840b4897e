-- "For phases k/1024 and a step of 1/1024, the rising preview of entries below 1,024 and the fade-in's multiplication give equal samples": the running f32 phase is exact. Assumes nothing.
use Rattle.std.specs.Prelude.{◌≡◌, Bool, true, false, ℕ, zero, suc, ◌+◌, ◌*◌, ◌^◌, ◌≤◌, ◌<◌, length, Float}
use Rattle.std.proofs.Math.Path.{refl}
use Rattle.std.proofs.Common.{sym, ap, ◌∙◌, le_of_eq, lt_of_le_of_lt, mul_assoc, mul_comm, mul_right_comm, mul-le-mul_left, mul-pos, add-mul, arith, le-leb, lit<}
use mathlib.Core.List.{List, [], ◌∷◌, append-nil}
use Rattle.std.proofs.Math.Seq.{take-length, drop-length}
use Rattle.std.proofs.Math.Nat.{sub-zero}
use Rattle.std.specs.Float.{nan, inf, fin, Format, binary32}
use Rattle.std.specs.Float.Ieee.{up, down, round, sum, add, of_bits}
use Rattle.std.specs.Float.Ieee.Exact.{HasValue, round_exact}
use Rattle.std.specs.Float.Ieee.Fits.{down_pos}
use Rattle.std.specs.Float.Ieee.Scale.{round_same}
use Rattle.event.specs.declared.Fade.TheVariants.{Smooth}
use Rattle.event.specs.Fades.{curve}
use Rattle.event.specs.Sources.{steps}
use Rattle.floats.specs.Arithmetic.{◌+ˢ◌}
use Rattle.ledger.specs.BlockSamples.{faded_all, faded}
use Rattle.runs.specs.Walk.{walk}
use Rattle.preview.specs.FadeIn.{step}
use Rattle.preview.specs.Preview.{phase, entry, IsTable, gain_at, multiplied, previewed}

-- ---- the phases
pub phase-exact : (k : ℕ) → k ≤ 1024 → HasValue (phase k) false k 1024
phase-exact k h =
    round_exact binary32 false k 1024 k 139 (lit< tt) (omega arith)
    (lt_of_le_of_lt (le_of_eq (mul_comm k (2 ^ 139))) (lt_of_le_of_lt (mul-le-mul_left (2 ^ 139) h) (lit< tt)))
    (sym (mul_assoc k (2 ^ 139) 1024))

-- the sum of a / c and b / c, neither negative
add_at : (f : Format) (x y : Float) (a b c : ℕ) → 0 < c → HasValue x false a c → HasValue y false b c → add f x y ≡ round f false (a + b) c
unfolding add sum
add_at f nan y a b c C p q = absurd p
add_at f (inf s) y a b c C p q = absurd p
add_at f (fin s m e) nan a b c C p q = absurd q
add_at f (fin s m e) (inf t) a b c C p q = absurd q
add_at f (fin s m e) (fin t n d) a b c C p q =
    let M = m * up e * down d in
    let N = n * up d * down e in
    let x : M * c ≡ a * (down e * down d) = mul_right_comm (m * up e) (down d) c ∙ ap (λ (z : ℕ). z * down d) p.1 ∙ mul_assoc a (down e) (down d) in
    let y : N * c ≡ b * (down e * down d) = mul_right_comm (n * up d) (down e) c ∙ ap (λ (z : ℕ). z * down e) q.1 ∙ mul_right_comm b (down d) (down e) ∙ mul_assoc b (down e) (down d) in
    ap (λ (z : Bool). sum f z M t N (down e * down d)) p.0
    ∙ ap (λ (z : Bool). sum f false M z N (down e * down d)) q.0
    ∙ round_same f false (M + N) (down e * down d) (a + b) c (mul-pos (down_pos e) (down_pos d)) C (rw (add-mul M N c, add-mul a b (down e * down d), x, y))

pub phase-step : (k : ℕ) → k ≤ 1024 → phase k +ˢ step ≡ phase (k + 1)
unfolding of_bits
phase-step k h = add_at binary32 (phase k) step k 1 1024 (lit< tt) (phase-exact k h) (refl, refl)

-- after j steps from k/1024 the phase is (k + j)/1024
pub running_phase : (j k : ℕ) → k + j ≤ 1024 → steps (λ y. y +ˢ step) (phase k) j ≡ phase (k + j)
unfolding steps
running_phase zero k h = let e : k ≡ k + 0 = omega arith in ap phase e
running_phase (suc j) k h = let e : k + 1 + j ≡ k + suc j = omega arith in ap (λ (y : Float). steps (λ y. y +ˢ step) y j) (phase-step k (omega arith)) ∙ running_phase j (k + 1) (omega arith) ∙ ap phase e

-- ---- the samples
-- the fade-in's multiplication of a whole run
faded-each : (x : Float) (l : List Float) → faded Smooth true 0 (length l) x step l ≡ faded_all Smooth true x step l
unfolding faded
faded-each x l = rw (sub-zero, take-length l, drop-length l, append-nil (faded_all Smooth true x step l))

module _ (gains : List Float) (t : IsTable gains) where
  pub gain_entry : (k : ℕ) → k ≤ 1024 → gain_at gains true k ≡ entry k
  gain_entry k h = rw (le-leb k 1024 h) (t.at k (omega arith))

  each : (l : List Float) (k : ℕ) → k + length l ≤ 1024 → multiplied gains true k l ≡ faded_all Smooth true (phase k) step l
  unfolding faded_all curve walk
  each [] k h = refl
  each (a ∷ l) k h = rw (gain_entry k (omega arith), phase-step k (omega arith), each l (k + 1) (omega arith))

  pub rising-is-fade_in : (l : List Float) (k : ℕ) → k + length l ≤ 1024 → previewed gains true k l ≡ faded Smooth true 0 (length l) (phase k) step l
  rising-is-fade_in l k h = rw (le-leb k 1024 (omega arith)) (each l k h ∙ sym (faded-each (phase k) l))

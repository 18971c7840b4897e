-- A run added to a channel, and a run written over every channel. Assumes nothing.
use mathlib.Core.Path.{◌≡◌, refl, sym, ap, ◌∙◌}
use mathlib.Core.List.{List, [], ◌∷◌, ◌++◌, append_assoc}
use Prim.Native.Nat.{ℕ, zero, suc, ◌+◌, ◌*◌, ◌-◌, ◌/◌, ◌%◌, min, ◌<◌, ◌≤◌}
use native.Mathlib.Nat.{add-sub_cancel_left, div-add-mod', mod-lt}
use native.Mathlib.Omega.{arith}
use lib.Ieee.{Float}
use lib.ListN.{length, take, drop, length-append, length-drop, take-append-drop}
use lib.Seq.{take-nil, drop-nil, take_at, drop_at, length-take-le}
use borrow.Rule.Slice.PartMut.{same_len_mid}
use Rattle.floats.specs.Arithmetic.{◌+ˢ◌}
use Rattle.ledger.specs.BlockSamples.{add_at, overlay}
use Rattle.runs.specs.Walk.{zipped, front, after}
use Rattle.runs.proofs.Walks.{front_cut}

-- ---- adding

-- the others reach as far as they do
zipped_front : {A B : Type 0} (h : A → B → A) (xs : List B) (l : List A) → front (length xs) (zipped h xs) l ≡ zipped h xs l
unfolding zipped
zipped_front h xs [] = rw (take-nil, drop-nil)
zipped_front h [] (a ∷ l) = refl
zipped_front h (x ∷ xs) (a ∷ l) = ap (λ (r : List _). h a x ∷ r) (zipped_front h xs l)

add_zipped : (run l : List Float) → zipped (λ a y. a +ˢ y) run l ≡ add_at 0 run l
unfolding zipped add_at
add_zipped run [] = refl
add_zipped [] (x ∷ l) = refl
add_zipped (y ∷ run) (x ∷ l) = ap (λ (r : List Float). (x +ˢ y) ∷ r) (add_zipped run l)

add-after : (s : ℕ) (run l : List Float) → after s (add_at 0 run) l ≡ add_at s run l
unfolding add_at
add-after zero run l = refl
add-after (suc s) run [] = refl
add-after (suc s) run (x ∷ l) = ap (λ (r : List Float). x ∷ r) (add-after s run l)

-- adding in the places that are there
pub add_there : (s m : ℕ) (run l : List Float) → m ≡ min (length run) (length (drop s l)) → after s (front m (zipped (λ a y. a +ˢ y) run)) l ≡ add_at s run l
add_there s m run l e =
    ap (λ (r : List Float). take s l ++ r) (front_cut (zipped (λ a y. a +ˢ y) run) (length run) m (drop s l) e ∙ zipped_front (λ a y. a +ˢ y) run (drop s l) ∙ add_zipped run (drop s l))
    ∙ add-after s run l

pub add_past : (s : ℕ) (run l : List Float) → length l ≤ s → l ≡ add_at s run l
unfolding add_at
add_past s run [] h = refl
add_past zero run (x ∷ l) h = absurd (omega arith)
add_past (suc s) run (x ∷ l) h = ap (λ (r : List Float). x ∷ r) (add_past s run l (omega arith))

-- ---- What a loop over channels of 64 has done where it comes to place `at`.
module _ (run l₀ : List Float) where
  pub record Rows (at : ℕ) (l : List Float) : Type 0 where
    pub left : ℕ
    pub long : length l ≡ length l₀
    pub within : at + 64 * left ≤ length l
    pub tail : length l < at + 64 * left + 64
    pub rest : take at l ++ overlay left run (drop at l) ≡ overlay (length l₀ / 64) run l₀

  pub rows_start : Rows 0 l₀
  rows_start =
      let e : length l₀ / 64 * 64 + length l₀ % 64 ≡ length l₀ = div-add-mod' (length l₀) 64 in
      let b : length l₀ % 64 < 64 = mod-lt (length l₀) (omega arith) in
      record { left = length l₀ / 64; long = refl; within = omega arith; tail = omega arith; rest = refl }

  -- a turn puts ys, the channel at `at` with its first places written over, in its place
  pub rows-turn : {at : ℕ} {l : List Float} (ys : List Float) → Rows at l → at + 64 ≤ length l
      → ys ≡ run ++ drop (length run) (take (at + 64 - at) (drop at l)) → length ys ≡ length (take (at + 64 - at) (drop at l))
      → Rows (at + 64) (take at l ++ (ys ++ drop (at + 64 - at) (drop at l)))
  unfolding overlay
  rows-turn {at} {l} ys t h e k = step t.left t.within t.tail t.rest
    where
      step : (m : ℕ) → at + 64 * m ≤ length l → length l < at + 64 * m + 64 → take at l ++ overlay m run (drop at l) ≡ overlay (length l₀ / 64) run l₀
          → Rows (at + 64) (take at l ++ (ys ++ drop (at + 64 - at) (drop at l)))
      step zero w b r = absurd (omega arith)
      step (suc m) w b r =
          let p : List Float = take at l ++ ys in
          let q : List Float = drop (at + 64 - at) (drop at l) in
          let u : length (take at l) ≡ at = length-take-le at l (omega arith) in
          let v : length ys ≡ 64 = rw add-sub_cancel_left at k ∙ length-take-le 64 (drop at l) (simp length-drop (omega arith)) in
          let z : length p ≡ at + 64 = simp (length-append, u, v) in
          let same : length (take at l ++ (ys ++ q)) ≡ length l = same_len_mid at (at + 64 - at) l ys k in
          let j : take at l ++ (ys ++ q) ≡ p ++ q = sym (append_assoc (take at l) ys q) in
          record {
            left = m;
            long = same ∙ t.long;
            within = omega arith;
            tail = omega arith;
            rest = rw (j, take_at p q (at + 64) z, drop_at p q (at + 64) z, append_assoc, e, add-sub_cancel_left, append_assoc) r;
          }

  pub rows_done : {at : ℕ} {l : List Float} → Rows at l → length l < at + 64 → l ≡ overlay (length l₀ / 64) run l₀
  unfolding overlay
  rows_done {at} {l} t h = step t.left t.within t.rest
    where
      step : (m : ℕ) → at + 64 * m ≤ length l → take at l ++ overlay m run (drop at l) ≡ overlay (length l₀ / 64) run l₀ → l ≡ overlay (length l₀ / 64) run l₀
      step zero w r = rw take-append-drop at r
      step (suc m) w r = absurd (omega arith)

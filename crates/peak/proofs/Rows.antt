-- The two loops: suffix maxima from the end, and a run of samples.
use mathlib.Core.Path.{◌≡◌, refl, sym, ap, ◌∙◌, subst}
use mathlib.Core.Bool.{true, false}
use mathlib.Core.List.{List, [], ◌∷◌, ◌++◌, map}
use Prim.Native.Nat.{ℕ, suc, ◌+◌, ◌-◌, max, ◌≤◌, ◌<◌}
use native.Mathlib.Nat.{le_antisymm}
use native.Mathlib.Numerals.{add-one}
use native.Mathlib.Omega.{arith}
use lib.ListN.{length, get_or, set, take, drop, length-take, length-set, take-append-drop, drop_of_length-le}
use lib.Seq.{drop-cons, get_or-take, length-take-le, take-suc, append_snoc, set_at, get_or_at, drop-length}
use lib.Ieee.{Float, nan}
use Rattle.peak.specs.Peaks.{magnitude, greatest}
use Rattle.peak.specs.Steps.{State, suffix_maxima, suffix_maxima_to, serves, advanced, fed_all}
use Rattle.peak.proofs.Turns.{taken, left_alone, next}

module _ (w : ℕ) (l₀ : List ℕ) where
  -- the places from i up to w have their maxima, `most` is the last one written
  pub record Rising (i most : ℕ) (l : List ℕ) : Type 0 where
    pub within : i ≤ w
    pub inside : w ≤ length l₀
    pub long : length l ≡ length l₀
    pub shape : l ≡ take i l₀ ++ (suffix_maxima (drop i (take w l₀)) ++ drop w l₀)
    pub most_is : most ≡ greatest (drop i (take w l₀))

  pub rising-start : w ≤ length l₀ → Rising w 0 l₀
  unfolding greatest suffix_maxima
  rising-start h =
      let e : drop w (take w l₀) ≡ [] = drop_of_length-le (take w l₀) {i = w} (simp length-take (omega arith)) in
      record {
        within = omega arith;
        inside = h;
        long = refl;
        shape = rw e (sym (take-append-drop w l₀));
        most_is = rw e refl;
      }

  turn : (j most : ℕ) (l : List ℕ) → Rising (suc j) most l → Rising j (max (get_or l j 0) most) (set l j (max (get_or l j 0) most))
  unfolding greatest suffix_maxima
  turn j most l t =
      let a = t.within in
      let b = t.inside in
      let x = get_or l₀ j 0 in
      let rest = drop (suc j) (take w l₀) in
      let back = suffix_maxima rest ++ drop w l₀ in
      let d : drop j (take w l₀) ≡ x ∷ rest = drop-cons (take w l₀) j 0 (simp length-take (omega arith)) ∙ rw (get_or-take w l₀ j 0 (omega arith)) refl in
      let n : length (take j l₀) ≡ j = length-take-le j l₀ (omega arith) in
      let s : l ≡ take j l₀ ++ x ∷ back = t.shape ∙ rw (take-suc l₀ j 0 (omega arith)) (append_snoc (take j l₀) x back) in
      let g : get_or l j 0 ≡ x = rw s (get_or_at (take j l₀) x back 0 j n) in
      let m : max (get_or l j 0) most ≡ max x (greatest rest) = rw (g, t.most_is) refl in
      record {
        within = omega arith;
        inside = b;
        long = length-set l j (max (get_or l j 0) most) ∙ t.long;
        shape = rw (m, s, d) (set_at (take j l₀) x back (max x (greatest rest)) j n);
        most_is = rw (m, d) refl;
      }

  pub rising-turn : {i most : ℕ} {l : List ℕ} → Rising i most l → 0 < i → Rising (i - 1) (max (get_or l (i - 1) 0) most) (set l (i - 1) (max (get_or l (i - 1) 0) most))
  rising-turn {i} {most} {l} t h = let e : i ≡ suc (i - 1) = omega arith in turn (i - 1) most l (subst (λ (k : ℕ). Rising k most l) e t)

  pub rising_done : {most : ℕ} {l : List ℕ} → Rising 0 most l → l ≡ suffix_maxima_to w l₀
  rising_done t = t.shape

-- what is fed and what is left give what the whole gives; the row serves all the way
module _ (s₀ : State) (xs : List Float) where
  pub record Feeding (i : ℕ) (s : State) : Type 0 where
    pub within : i ≤ length xs
    pub long : length s.row ≡ length s₀.row
    pub serving : serves s.peak (length s.row) ≡ true
    pub rest : fed_all s (map magnitude (drop i xs)) ≡ fed_all s₀ (map magnitude xs)

  pub feeding_start : serves s₀.peak (length s₀.row) ≡ true → Feeding 0 s₀
  feeding_start h = record { within = omega arith; long = refl; serving = h; rest = refl }

  pub feeding_turn : {i : ℕ} {s : State} (t : State) → Feeding i s → i < length xs → t ≡ advanced s (magnitude (get_or xs i nan)) → Feeding (i + 1) t
  feeding_turn {i} {s} t f h e =
      let m = magnitude (get_or xs i nan) in
      let n = next s m f.serving in
      record {
        within = omega arith;
        long = ap (λ (z : State). length z.row) e ∙ n.long ∙ f.long;
        serving = rw e n.serving;
        rest = rw (add-one, e, ← taken s m f.serving) (rw (drop-cons xs i nan h) at f.rest);
      }

  pub feeding_done : {i : ℕ} {s : State} → Feeding i s → length xs ≤ i → s ≡ fed_all s₀ (map magnitude xs)
  feeding_done {i} {s} f h = let e : i ≡ length xs = le_antisymm f.within h in rw (e, drop-length) at f.rest

-- a run that is refused changes nothing
pub none-fed : (s : State) (ms : List ℕ) → serves s.peak (length s.row) ≡ false → s ≡ fed_all s ms
none-fed s [] h = refl
none-fed s (m ∷ ms) h = rw (left_alone s m h) (none-fed s ms h)

-- The facts behind Theorem.antt: what `orderly` and `first_from` say of each window. Assumes nothing.
use Rattle.std.specs.Prelude.{◌≡◌, refl, Bool, true, false, ◌&&◌, cond, ℕ, zero, suc, ◌+◌, max, ◌≤◌, ◌<◌, leb, ltb, length, get_or, Some, None}
use Rattle.std.proofs.Common.{sym, ap, subst, true≢false, ⊎_elim, arith, ltb-true, leb-true, leb-false, lt-ltb, le-leb}
use mathlib.Core.List.Memᴰ
use mathlib.Core.List.{List, [], ◌∷◌, Memᴰ}
use Rattle.lodge.specs.declared.Window.{Window}
use Rattle.lodge.specs.Search.{orderly, first_from}
use Rattle.lodge.specs.Hours.{none, Lawful}

and_left : (a b : Bool) → a && b ≡ true → a ≡ true
and_left true b h = refl
and_left false b h = h

and_right : (a b : Bool) → a && b ≡ true → b ≡ true
and_right true b h = h
and_right false b h = absurd (true≢false (sym h))

-- the parts of the test at one window
record Parts (last : ℕ) (w : Window) (ws : List Window) : Type 0 where
  pub after : last ≤ w.opens
  pub filled : w.opens < w.closes
  pub inside : w.closes ≤ 10080
  pub rest : orderly w.closes ws ≡ true

parts : (last : ℕ) (w : Window) (ws : List Window) → orderly last (w ∷ ws) ≡ true → Parts last w ws
unfolding orderly
parts last w ws h =
    let a = leb last w.opens in
    let b = ltb w.opens w.closes in
    let d = leb w.closes 10080 in
    let r = orderly w.closes ws in
    let h₁ : b && (d && r) ≡ true = and_right a (b && (d && r)) h in
    let h₂ : d && r ≡ true = and_right b (d && r) h₁ in
    record {
      after = leb-true last w.opens (and_left a (b && (d && r)) h);
      filled = ltb-true w.opens w.closes (and_left b (d && r) h₁);
      inside = leb-true w.closes 10080 (and_left d r h₂);
      rest = and_right d r h₂;
    }

pub record Sits (last : ℕ) (w : Window) : Type 0 where
  pub after : last ≤ w.opens
  pub filled : w.opens < w.closes
  pub inside : w.closes ≤ 10080

-- each window of an orderly list sits in the week, not before `last`
pub sits : (last : ℕ) (ws : List Window) → orderly last ws ≡ true → (w : Window) → Memᴰ w ws → Sits last w
sits last [] h w m = absurd (Memᴰ.not-nil m)
sits last (v ∷ ws) h w m =
    let p = parts last v ws h in
    ⊎_elim
    (λ e. subst (λ (x : Window). Sits last x) (sym e) (record { after = p.after; filled = p.filled; inside = p.inside }))
    (λ k. let s = sits v.closes ws p.rest w k in record { after = omega arith; filled = s.filled; inside = s.inside })
    (Memᴰ.cases_cons m)

pub at_mem : (ws : List Window) (i : ℕ) → i < length ws → Memᴰ (get_or ws i none) ws
at_mem [] i h = absurd (omega arith)
at_mem (w ∷ ws) zero h = Memᴰ.head refl
at_mem (w ∷ ws) (suc i) h = Memᴰ.tail (at_mem ws i (omega arith))

ordered : (last : ℕ) (ws : List Window) → orderly last ws ≡ true → (i j : ℕ) → i < j → j < length ws → (get_or ws i none).closes ≤ (get_or ws j none).opens
ordered last [] h i j a b = absurd (omega arith)
ordered last (w ∷ ws) h i zero a b = absurd (omega arith)
ordered last (w ∷ ws) h zero (suc j) a b = (sits w.closes ws (parts last w ws h).rest (get_or ws j none) (at_mem ws j (omega arith))).after
ordered last (w ∷ ws) h (suc i) (suc j) a b = ordered w.closes ws (parts last w ws h).rest i j (omega arith) (omega arith)

pub orderly_lawful : (last : ℕ) (ws : List Window) → orderly last ws ≡ true → Lawful ws
orderly_lawful last ws h = record {
  filled = λ w m. (sits last ws h w m).filled;
  inside = λ w m. (sits last ws h w m).inside;
  apart = ordered last ws h;
}

-- what is lawful is orderly from any minute that its first window does not open before
pub lawful_orderly : (last : ℕ) (ws : List Window) → Lawful ws → (0 < length ws → last ≤ (get_or ws 0 none).opens) → orderly last ws ≡ true
unfolding orderly
lawful_orderly last [] l h = refl
lawful_orderly last (w ∷ ws) l h =
    let rest : orderly w.closes ws ≡ true = lawful_orderly w.closes ws
    (record {
      filled = λ v m. l.filled v (Memᴰ.tail m);
      inside = λ v m. l.inside v (Memᴰ.tail m);
      apart = λ i j a b. l.apart (suc i) (suc j) (omega arith) (omega arith);
    })
    (λ k. l.apart 0 1 (omega arith) (omega arith)) in
    rw (le-leb last w.opens (h (omega arith)), lt-ltb w.opens w.closes (l.filled w (Memᴰ.head refl)), le-leb w.closes 10080 (l.inside w (Memᴰ.head refl))) rest

pub record Room (from n t : ℕ) (ws : List Window) : Type 0 where
  pub window : Window
  pub given : Memᴰ window ws
  pub opened : window.opens ≤ t
  pub from_on : from ≤ t
  pub open_still : t + n ≤ window.closes

-- what is found has room
pub found-room : (from n : ℕ) (ws : List Window) (t : ℕ) → first_from from n ws ≡ Some t → Room from n t ws
unfolding first_from
found-room from n [] t e = let z : ◌≡◌ {A = ℕ} 0 1 = cc in absurd (omega arith)
found-room from n (w ∷ ws) t e = go (leb (max w.opens from + n) w.closes) refl e (found-room from n ws t)
  where
    go : (b : Bool) → leb (max w.opens from + n) w.closes ≡ b → cond b (Some (max w.opens from)) (first_from from n ws) ≡ Some t
        → (first_from from n ws ≡ Some t → Room from n t ws) → Room from n t (w ∷ ws)
    go true q e r =
        let k : max w.opens from ≡ t = cc in
        let l : max w.opens from + n ≤ w.closes = leb-true (max w.opens from + n) w.closes q in
        record { window = w; given = Memᴰ.head refl; opened = omega arith; from_on = omega arith; open_still = omega arith }
    go false q e r =
        let s = r e in
        record { window = s.window; given = Memᴰ.tail s.given; opened = s.opened; from_on = s.from_on; open_still = s.open_still }

-- and no window with room has it earlier
pub found-least : (last from n : ℕ) (ws : List Window) (t : ℕ) → orderly last ws ≡ true → first_from from n ws ≡ Some t
    → (v : Window) → Memᴰ v ws → max v.opens from + n ≤ v.closes → t ≤ max v.opens from
unfolding first_from
found-least last from n [] t o e v m k = absurd (Memᴰ.not-nil m)
found-least last from n (w ∷ ws) t o e v m k =
    let p = parts last w ws o in
    go (leb (max w.opens from + n) w.closes) refl e p (found-least w.closes from n ws t p.rest)
  where
    go : (b : Bool) → leb (max w.opens from + n) w.closes ≡ b → cond b (Some (max w.opens from)) (first_from from n ws) ≡ Some t
        → Parts last w ws
        → (first_from from n ws ≡ Some t → (v : Window) → Memᴰ v ws → max v.opens from + n ≤ v.closes → t ≤ max v.opens from)
        → t ≤ max v.opens from
    go true q e p r =
        let z : max w.opens from ≡ t = cc in
        ⊎_elim
        (λ h. let y : v.opens ≡ w.opens = ap (λ (x : Window). x.opens) h in omega arith)
        (λ h. let s = sits w.closes ws p.rest v h in let a = s.after in let b = p.filled in omega arith)
        (Memᴰ.cases_cons m)
    go false q e p r =
        ⊎_elim
        (λ h. let y : v.opens ≡ w.opens = ap (λ (x : Window). x.opens) h in
        let x : v.closes ≡ w.closes = ap (λ (x : Window). x.closes) h in
        let l : w.closes < max w.opens from + n = leb-false (max w.opens from + n) w.closes q in
        let j : max v.opens from ≡ max w.opens from = ap (λ (x : ℕ). max x from) y in
        absurd (omega arith))
        (λ h. r e v h k)
        (Memᴰ.cases_cons m)

-- nothing found: no window has room
pub none_found : (from n : ℕ) (ws : List Window) → first_from from n ws ≡ None → (v : Window) → Memᴰ v ws → v.closes < max v.opens from + n
unfolding first_from
none_found from n [] e v m = absurd (Memᴰ.not-nil m)
none_found from n (w ∷ ws) e v m = go (leb (max w.opens from + n) w.closes) refl e (none_found from n ws)
  where
    go : (b : Bool) → leb (max w.opens from + n) w.closes ≡ b → cond b (Some (max w.opens from)) (first_from from n ws) ≡ None
        → (first_from from n ws ≡ None → (v : Window) → Memᴰ v ws → v.closes < max v.opens from + n)
        → v.closes < max v.opens from + n
    go true q e r = let z : ◌≡◌ {A = ℕ} 0 1 = cc in absurd (omega arith)
    go false q e r =
        ⊎_elim
        (λ h. subst (λ (x : Window). x.closes < max x.opens from + n) (sym h) (leb-false (max w.opens from + n) w.closes q))
        (λ h. r e v h)
        (Memᴰ.cases_cons m)

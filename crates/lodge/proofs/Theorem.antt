-- Every answer is right (`right`). Before that, the branches by which the code comes to its answer. Assumes nothing.
use Rattle.std.specs.Prelude.{◌≡◌, refl, Bool, true, false, cond, ◌⊎◌, ℕ, ◌+◌, ◌-◌, ◌*◌, ◌/◌, ◌%◌, ◌≤◌, ◌<◌, ltb, eqb, Option, Some, None, Ok, Err}
use Rattle.std.proofs.Common.{sym, ap, ◌∙◌, subst, true≢false, inl, inr, ⊎_elim, div-add-mod', mod-lt, arith}
use mathlib.Core.List.{List}
use borrow.Author.Tests.{ltb-true, ltb-false, eqb-true, eqb-false, lt-ltb, le-ltb, eq-eqb, ne_eqb}
use Rattle.lodge.specs.declared.Window.{Window}
use Rattle.lodge.specs.declared.Hours.{Hours}
use Rattle.lodge.specs.declared.Refusal.TheVariants.{Improper, TooLong}
use Rattle.lodge.specs.Refusals.{Answer, refusal_number}
use Rattle.lodge.specs.Hours.{in_use, Proper, Fits, Short, Right}
use Rattle.lodge.specs.Search.{orderly, first_from, searched, answered}
use Rattle.lodge.specs.Firsts.{sits, orderly_lawful, lawful_orderly, found-room, found-least, none_found}
use Rattle.lodge.specs.Theorem.{Outcome, Ending, refused, made, now, then, never}

-- The branches, as the code takes them.
module _ (h : Hours) (m n : ℕ) where
  too_many : 16 < h.count → Err Improper ≡ answered h m n
  unfolding answered
  too_many a = rw (lt-ltb 16 h.count a)

  too_late_lem : h.count ≤ 16 → 4294967295 < m → Err Improper ≡ answered h m n
  unfolding answered
  too_late_lem a b = rw (le-ltb 16 h.count a, lt-ltb 4294967295 m b)

  no_length : h.count ≤ 16 → m ≤ 4294967295 → n ≡ 0 → Err Improper ≡ answered h m n
  unfolding answered
  no_length a b d = rw (le-ltb 16 h.count a, le-ltb 4294967295 m b, eq-eqb n 0 d)

  -- the code's tests, in their order
  pub not_proper : (16 < h.count) ⊎ (((h.count ≤ 16) × (4294967295 < m)) ⊎ ((h.count ≤ 16) × (m ≤ 4294967295) × (n ≡ 0))) → Err Improper ≡ answered h m n
  not_proper x = ⊎_elim too_many (⊎_elim (λ y. too_late_lem y.0 y.1) (λ y. no_length y.0 y.1 y.2)) x

  pub tested : h.count ≤ 16 → m ≤ 4294967295 → (n ≡ 0 → ⊥) → answered h m n ≡ cond (orderly 0 (in_use h)) (searched (in_use h) m n) (Err Improper)
  unfolding answered
  tested a b d = rw (le-ltb 16 h.count a, le-ltb 4294967295 m b, ne_eqb n 0 d)

  pub unordered : h.count ≤ 16 → m ≤ 4294967295 → (n ≡ 0 → ⊥) → orderly 0 (in_use h) ≡ false → Err Improper ≡ answered h m n
  unordered a b d e = sym (tested a b d ∙ rw e)

  pub searching : h.count ≤ 16 → m ≤ 4294967295 → (n ≡ 0 → ⊥) → orderly 0 (in_use h) ≡ true → answered h m n ≡ searched (in_use h) m n
  searching a b d e = tested a b d ∙ rw e

module _ (ws : List Window) (m n : ℕ) where
  pub this_week_lem : (t : ℕ) → first_from (m % 10080) n ws ≡ Some t → Ok (m - m % 10080 + t) ≡ searched ws m n
  this_week_lem t e = rw e

  pub next_week_lem : (t : ℕ) → first_from (m % 10080) n ws ≡ None → first_from 0 n ws ≡ Some t → Ok (m - m % 10080 + 10080 + t) ≡ searched ws m n
  next_week_lem t e k = rw (e, k)

  pub no_week : first_from (m % 10080) n ws ≡ None → first_from 0 n ws ≡ None → Err TooLong ≡ searched ws m n
  no_week e k = rw (e, k)

-- what is found ends within the week
pub found_inside : (from n : ℕ) (ws : List Window) (t : ℕ) → orderly 0 ws ≡ true → first_from from n ws ≡ Some t → t + n ≤ 10080
found_inside from n ws t o e =
    let r = found-room from n ws t e in
    let s = (sits 0 ws o r.window r.given).inside in
    let k = r.open_still in
    omega arith

pub outcome : (h : Hours) (m n : ℕ) → Outcome h m n (answered h m n)
outcome h m n = one (ltb 16 h.count) refl
  where
    four : h.count ≤ 16 → m ≤ 4294967295 → (n ≡ 0 → ⊥) → (b : Bool) → orderly 0 (in_use h) ≡ b → Outcome h m n (answered h m n)
    four x y z true e = made (record { few = x; lawful = orderly_lawful 0 (in_use h) e; soon = omega arith; some = omega (arith, z) }) e (searching h m n x y z e)
    four x y z false e = refused (λ p. true≢false (sym (lawful_orderly 0 (in_use h) p.lawful (λ _. omega arith)) ∙ e)) (sym (unordered h m n x y z e))

    three : h.count ≤ 16 → m ≤ 4294967295 → (b : Bool) → eqb n 0 ≡ b → Outcome h m n (answered h m n)
    three x y true e = let k = eqb-true n 0 e in refused (λ p. let s = p.some in omega arith) (sym (no_length h m n x y k))
    three x y false e = four x y (eqb-false n 0 e) (orderly 0 (in_use h)) refl

    two : h.count ≤ 16 → (b : Bool) → ltb 4294967295 m ≡ b → Outcome h m n (answered h m n)
    two x true e = let k = ltb-true 4294967295 m e in refused (λ p. let s = p.soon in omega arith) (sym (too_late_lem h m n x k))
    two x false e = three x (ltb-false 4294967295 m e) (eqb n 0) refl

    one : (b : Bool) → ltb 16 h.count ≡ b → Outcome h m n (answered h m n)
    one true e = let k = ltb-true 16 h.count e in refused (λ p. let s = p.few in omega arith) (sym (too_many h m n k))
    one false e = two (ltb-false 16 h.count e) (ltb 4294967295 m) refl

pub ending : (ws : List Window) (m n : ℕ) → Ending ws m n (searched ws m n)
ending ws m n = one (first_from (m % 10080) n ws) refl
  where
    two : first_from (m % 10080) n ws ≡ None → (f : Option ℕ) → first_from 0 n ws ≡ f → Ending ws m n (searched ws m n)
    two e (Some t) k = then t e k (sym (next_week_lem ws m n t e k))
    two e None k = never k (sym (no_week ws m n e k))

    one : (f : Option ℕ) → first_from (m % 10080) n ws ≡ f → Ending ws m n (searched ws m n)
    one (Some t) e = now t e (sym (this_week_lem ws m n t e))
    one None e = two e (first_from 0 n ws) refl

tri : (a b : ℕ) → (a < b) ⊎ ((a ≡ b) ⊎ (b < a))
tri a b = go (ltb a b) refl (ltb b a) refl
  where
    go : (x : Bool) → ltb a b ≡ x → (y : Bool) → ltb b a ≡ y → (a < b) ⊎ ((a ≡ b) ⊎ (b < a))
    go true e y f = inl (ltb-true a b e)
    go false e true f = inr (inr (ltb-true b a f))
    go false e false f = let p = ltb-false a b e in let q = ltb-false b a f in inr (inl (omega arith))

-- the given minute is m: its week begins at m / 10080 * 10080
begins : (m : ℕ) → m - m % 10080 ≡ m / 10080 * 10080
begins m = let e = div-add-mod' m 10080 in omega arith

-- where the length fits, a window is not shorter
pub fits-long : (h : Hours) (n t : ℕ) → Fits (in_use h) n t → Short (in_use h) n → ⊥
fits-long h n t f k = let x = f.opened in let y = f.open_still in let z = k f.window f.given in omega arith

module _ (h : Hours) (m n : ℕ) (p : Proper h m n) (o : orderly 0 (in_use h) ≡ true) where
  pub now_later : (t : ℕ) → first_from (m % 10080) n (in_use h) ≡ Some t → m ≤ m - m % 10080 + t
  now_later t e = let k = (found-room (m % 10080) n (in_use h) t e).from_on in omega arith

  pub now_fits : (t : ℕ) → first_from (m % 10080) n (in_use h) ≡ Some t → Fits (in_use h) n (m - m % 10080 + t)
  now_fits t e =
      let r = found-room (m % 10080) n (in_use h) t e in
      let b = begins m in
      let x = r.opened in
      let y = r.open_still in
      record { week = m / 10080; window = r.window; given = r.given; opened = omega arith; open_still = omega arith }

  pub now_least : (t : ℕ) → first_from (m % 10080) n (in_use h) ≡ Some t → (u : ℕ) → m ≤ u → Fits (in_use h) n u → m - m % 10080 + t ≤ u
  now_least t e u l f =
      let b = begins m in
      let d = div-add-mod' m 10080 in
      let x = f.opened in
      let y = f.open_still in
      let z = (sits 0 (in_use h) o f.window f.given).inside in
      let s = p.some in
      let i = found_inside (m % 10080) n (in_use h) t o e in
      ⊎_elim
      (λ k. absurd (omega arith))
      (⊎_elim
      (λ k. let g = found-least 0 (m % 10080) n (in_use h) t o e f.window f.given (omega arith) in omega arith)
      (λ k. omega arith))
      (tri f.week (m / 10080))

  pub then-later : (t : ℕ) → m ≤ m - m % 10080 + 10080 + t
  then-later t = let d = div-add-mod' m 10080 in let k : m % 10080 < 10080 = mod-lt m (omega arith) in omega arith

  pub then-fits : (t : ℕ) → first_from 0 n (in_use h) ≡ Some t → Fits (in_use h) n (m - m % 10080 + 10080 + t)
  then-fits t e =
      let r = found-room 0 n (in_use h) t e in
      let b = begins m in
      let x = r.opened in
      let y = r.open_still in
      record { week = m / 10080 + 1; window = r.window; given = r.given; opened = omega arith; open_still = omega arith }

  pub then-least : (t : ℕ) → first_from (m % 10080) n (in_use h) ≡ None → first_from 0 n (in_use h) ≡ Some t
      → (u : ℕ) → m ≤ u → Fits (in_use h) n u → m - m % 10080 + 10080 + t ≤ u
  then-least t q e u l f =
      let b = begins m in
      let d = div-add-mod' m 10080 in
      let x = f.opened in
      let y = f.open_still in
      let z = (sits 0 (in_use h) o f.window f.given).inside in
      let s = p.some in
      ⊎_elim
      (λ k. absurd (omega arith))
      (⊎_elim
      (λ k. let g = none_found (m % 10080) n (in_use h) q f.window f.given in absurd (omega arith))
      (λ k. let g = found-least 0 0 n (in_use h) t o e f.window f.given (omega arith) in omega arith))
      (tri f.week (m / 10080))

  pub all_short : first_from 0 n (in_use h) ≡ None → Short (in_use h) n
  all_short e w g = let k = none_found 0 n (in_use h) e w g in let s = p.some in omega arith

no_both : (a : Answer) (t n : ℕ) → a ≡ Ok t → refusal_number a ≡ n + 1 → ⊥
no_both a t n p q = let z : refusal_number a ≡ 0 = ap refusal_number p in omega arith

same_at : (a : Answer) (t u : ℕ) → a ≡ Ok t → a ≡ Ok u → t ≡ u
same_at a t u p q = cc

one-refusal : (n : ℕ) → n ≡ 21 → n ≡ 22 → ⊥
one-refusal n p q = omega arith

module _ (h : Hours) (m n : ℕ) (a : Answer) where
  -- an earliest minute is right
  right-at : Proper h m n → (t : ℕ) → a ≡ Ok t → m ≤ t → Fits (in_use h) n t → ((u : ℕ) → m ≤ u → Fits (in_use h) n u → t ≤ u) → Right h m n a
  right-at p t k l f e = record {
    wrong = λ x. absurd (x p);
    proper = λ _ x. no_both a t 20 k x;
    too_long = λ _ x. absurd (fits-long h n t f x);
    short = λ x. absurd (no_both a t 21 k x);
    never = λ _ x. absurd (x t f);
    nowhere = λ x. absurd (no_both a t 21 k x);
    answers = λ _ _. (t, k);
    later = λ u x. subst (λ (v : ℕ). m ≤ v) (same_at a t u k x) l;
    fits = λ u x. subst (λ (v : ℕ). Fits (in_use h) n v) (same_at a t u k x) f;
    earliest = λ u x v y g. let z = same_at a t u k x in let i = e v y g in omega arith;
  }

  -- a search that ended is right
  right_made : Proper h m n → orderly 0 (in_use h) ≡ true → Ending (in_use h) m n a → Right h m n a
  right_made p o (now t e k) = right-at p (m - m % 10080 + t) k (now_later h m n p o t e) (now_fits h m n p o t e) (now_least h m n p o t e)
  right_made p o (then t q e k) = right-at p (m - m % 10080 + 10080 + t) k (then-later h m n p o t) (then-fits h m n p o t e) (then-least h m n p o t q e)
  right_made p o (never e k) =
      let s = all_short h m n p o e in
      let q : refusal_number a ≡ 22 = ap refusal_number k in
      record {
        wrong = λ x. absurd (x p);
        proper = λ _ x. one-refusal (refusal_number a) x q;
        too_long = λ _ _. q;
        short = λ _. s;
        never = λ _ _. q;
        nowhere = λ _ t f. fits-long h n t f s;
        answers = λ _ x. absurd (x (λ w g. let k = s w g in omega arith));
        later = λ u x. absurd (no_both a u 21 x q);
        fits = λ u x. absurd (no_both a u 21 x q);
        earliest = λ u x. absurd (no_both a u 21 x q);
      }

  right-ended : Outcome h m n a → Right h m n a
  right-ended (refused x k) =
      let q : refusal_number a ≡ 21 = ap refusal_number k in
      record {
        wrong = λ _. q;
        proper = λ p _. x p;
        too_long = λ p _. absurd (x p);
        short = λ y. absurd (one-refusal (refusal_number a) q y);
        never = λ p _. absurd (x p);
        nowhere = λ y. absurd (one-refusal (refusal_number a) q y);
        answers = λ p _. absurd (x p);
        later = λ u y. absurd (no_both a u 20 y q);
        fits = λ u y. absurd (no_both a u 20 y q);
        earliest = λ u y. absurd (no_both a u 20 y q);
      }
  right-ended (made p o k) = right_made p o (subst (λ (b : Answer). Ending (in_use h) m n b) (sym k) (ending (in_use h) m n))

-- every answer is right, whatever is asked
pub right : (h : Hours) (m n : ℕ) → Right h m n (answered h m n)
right h m n = right-ended h m n (answered h m n) (outcome h m n)

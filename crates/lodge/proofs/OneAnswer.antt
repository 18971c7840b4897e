-- `Right` has one answer: two that are right for the same hours, minute and length are equal.
use Rattle.std.specs.Prelude.{◌≡◌, refl, true, ℕ, ◌+◌, ◌-◌, ◌%◌, ◌≤◌, Ok, Err}
use Rattle.std.proofs.Common.{sym, ap, ◌∙◌, arith}
use Rattle.lodge.specs.declared.Hours.{Hours}
use Rattle.lodge.specs.declared.Refusal.TheVariants.{Improper, TooLong}
use Rattle.lodge.specs.Refusals.{Answer, refusal_number}
use Rattle.lodge.specs.Hours.{in_use, Proper, Fits, Right}
use Rattle.lodge.specs.Search.{orderly, searched, answered}
use Rattle.lodge.specs.Theorem.{Outcome, refused, made, Ending, now, then, never}
use Rattle.lodge.proofs.Theorem.{outcome, ending, fits-long, all_short}
use Rattle.lodge.proofs.Theorem.{now_later, now_fits, now_least, then-later, then-fits, then-least}

-- a number is one refusal's
improper : (a : Answer) → refusal_number a ≡ 21 → a ≡ Err Improper
improper (Ok t) e = absurd (omega (arith, e))
improper (Err Improper) e = refl
improper (Err TooLong) e = absurd (omega (arith, e))

too_long_lem : (a : Answer) → refusal_number a ≡ 22 → a ≡ Err TooLong
too_long_lem (Ok t) e = absurd (omega (arith, e))
too_long_lem (Err Improper) e = absurd (omega (arith, e))
too_long_lem (Err TooLong) e = refl

module _ (h : Hours) (m n : ℕ) (a : Answer) (r : Right h m n a) where
  -- where t is the earliest minute, the answer is t
  is_earliest : Proper h m n → (t : ℕ) → m ≤ t → Fits (in_use h) n t → ((u : ℕ) → m ≤ u → Fits (in_use h) n u → t ≤ u) → a ≡ Ok t
  is_earliest p t l f e =
      let x = r.answers p (fits-long h n t f) in
      let u = x.0 in
      let q : a ≡ Ok u = x.1 in
      let y = r.earliest u q t l f in
      let z = e u (r.later u q) (r.fits u q) in
      let w : u ≡ t = omega arith in
      q ∙ ap Ok w

  is-searched : Proper h m n → orderly 0 (in_use h) ≡ true → (b : Answer) → Ending (in_use h) m n b → a ≡ b
  is-searched p o b (now t e k) =
      is_earliest p (m - m % 10080 + t) (now_later h m n p o t e) (now_fits h m n p o t e) (now_least h m n p o t e) ∙ sym k
  is-searched p o b (then t q e k) =
      is_earliest p (m - m % 10080 + 10080 + t) (then-later h m n p o t) (then-fits h m n p o t e) (then-least h m n p o t q e) ∙ sym k
  is-searched p o b (never e k) = too_long_lem a (r.too_long p (all_short h m n p o e)) ∙ sym k

  -- it is the code's
  pub is-answered : a ≡ answered h m n
  is-answered = go (outcome h m n)
    where
      go : Outcome h m n (answered h m n) → a ≡ answered h m n
      go (refused x k) = improper a (r.wrong x) ∙ sym k
      go (made p o k) = is-searched p o (searched (in_use h) m n) (ending (in_use h) m n) ∙ sym k

pub one_answer : (h : Hours) (m n : ℕ) (a b : Answer) → Right h m n a → Right h m n b → a ≡ b
one_answer h m n a b r s = is-answered h m n a r ∙ sym (is-answered h m n b s)

-- What the test of n says.
use Rattle.std.proofs.Common.{◌≡◌, ℕ, ◌≤◌, Bool, true, false, ◌&&◌, ltb, leb, List, ap, leb-true, Ok, Err}
use mathlib.Core.Bool.{false≢true}
use Rattle.rises.specs.declared.Refusal.TheVariants.{Size}
use Rattle.rises.specs.Totals.{bound, total_rise}
use Rattle.rises.specs.Arrangement.{fresh_one, arrangement}
use Rattle.rises.specs.Answers.{is_size, greatest_total, arranged_total, lay_answer, tape_laid}

pub size_most : (n : ℕ) → is_size n ≡ true → n ≤ 256
unfolding is_size
size_most n h = go (ltb 0 n) h
  where
    go : (b : Bool) → (b && leb n 256) ≡ true → n ≤ 256
    go true h = leb-true n 256 h
    go false h = absurd (false≢true h)

-- ---- the answers by the test

module _ (n : ℕ) where
  pub greatest-refused : is_size n ≡ false → Err Size ≡ greatest_total n
  unfolding greatest_total
  greatest-refused h = rw h

  pub greatest_given : is_size n ≡ true → (k : ℕ) → k ≡ bound n → Ok k ≡ greatest_total n
  unfolding greatest_total
  greatest_given h k e = rw h (ap Ok e)

  pub arranged-refused : is_size n ≡ false → Err Size ≡ arranged_total n
  unfolding arranged_total
  arranged-refused h = rw h

  pub arranged_given : is_size n ≡ true → (k : ℕ) → k ≡ total_rise fresh_one (arrangement n) → Ok k ≡ arranged_total n
  unfolding arranged_total
  arranged_given h k e = rw h (ap Ok e)

  pub lay_refused : is_size n ≡ false → (buf : List ℕ) → (Err Size ≡ lay_answer n buf) × (buf ≡ tape_laid n buf)
  unfolding lay_answer tape_laid
  lay_refused h buf = (rw h, rw h)

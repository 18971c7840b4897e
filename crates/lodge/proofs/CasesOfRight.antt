-- Document 02, Paper 11: what is right and what is not, for one window of Monday from 9 to 12 (540 to 720), by hand.
use Rattle.std.specs.Prelude.{◌≡◌, refl, ℕ, zero, suc, ◌+◌, ◌*◌, ◌≤◌, ◌<◌, get_or, Ok, Err}
use Rattle.std.proofs.Common.{sym, ap, ⊎_elim, arith}
use mathlib.Core.List.Memᴰ
use mathlib.Core.List.{List, [], ◌∷◌, Memᴰ}
use Rattle.lodge.specs.declared.Window.{Window}
use Rattle.lodge.specs.declared.Refusal.{Refusal}
use Rattle.lodge.specs.declared.Refusal.TheVariants.{Improper, TooLong}
use Rattle.lodge.specs.Refusals.{Answer}
use Rattle.lodge.specs.Hours.{none, Lawful, Proper, Fits, Short, Right}
use Rattle.lodge.specs.Cases.{window, hours}

abbrev morning : List Window
morning = window 540 720 ∷ []

record Morning (w : Window) : Type 0 where
  opens : w.opens ≡ 540
  closes : w.closes ≡ 720

-- no other window is given
is-morning : (w : Window) → Memᴰ w morning → Morning w
is-morning w m =
    ⊎_elim
    (λ e. record { opens = ap (λ (v : Window). v.opens) e; closes = ap (λ (v : Window). v.closes) e })
    (λ k. absurd (Memᴰ.not-nil k))
    (Memᴰ.cases_cons m)

-- ---- where the length fits
abbrev fits-at : (week n t : ℕ) → week * 10080 + 540 ≤ t → t + n ≤ week * 10080 + 720 → Fits morning n t
fits-at week n t a b = record { week = week; window = window 540 720; given = Memᴰ.head refl; opened = a; open_still = b }

-- the whole window in the first week and in the third, and its last minute
fits : Fits morning 180 540 × Fits morning 180 20700 × Fits morning 1 719
fits = (fits-at 0 180 540 (omega arith) (omega arith), fits-at 2 180 20700 (omega arith) (omega arith), fits-at 0 1 719 (omega arith) (omega arith))

-- where it fits, it does so in that window of one week
record Within (n t : ℕ) : Type 0 where
  week : ℕ
  opened : week * 10080 + 540 ≤ t
  open_still : t + n ≤ week * 10080 + 720

within : (n t : ℕ) → Fits morning n t → Within n t
within n t f =
    let m = is-morning f.window f.given in
    let o = f.opened in
    let c = f.open_still in
    record { week = f.week; opened = omega arith; open_still = omega arith }

-- a minute early, a minute late, one minute too many, the closing minute, and the week's last
fits_not : (Fits morning 180 539 → ⊥) × (Fits morning 180 541 → ⊥) × (Fits morning 181 540 → ⊥) × (Fits morning 1 720 → ⊥) × (Fits morning 180 10079 → ⊥)
fits_not = (
  (λ f. let k = within 180 539 f in omega arith),
  (λ f. let k = within 180 541 f in omega arith),
  (λ f. let k = within 181 540 f in omega arith),
  (λ f. let k = within 1 720 f in omega arith),
  (λ f. let k = within 180 10079 f in omega arith),
)

-- 180 minutes are shorter than 181, and not than 180
short : Short morning 181
short w m = let k = is-morning w m in let x = k.opens in let y = k.closes in omega arith

short-not : Short morning 180 → ⊥
short-not s = let k = s (window 540 720) (Memᴰ.head refl) in omega arith

-- ---- which windows are good: touching ones, and one that closes at 10,080
abbrev two : List Window
two = window 540 720 ∷ window 720 10080 ∷ []

good : Lawful two
good = record { filled = filled; inside = inside; apart = apart }
  where
    filled : (w : Window) → Memᴰ w two → w.opens < w.closes
    filled w m =
        ⊎_elim
        (λ e. let x : w.opens ≡ 540 = ap (λ (v : Window). v.opens) e in let y : w.closes ≡ 720 = ap (λ (v : Window). v.closes) e in omega arith)
        (λ k. ⊎_elim
        (λ e. let x : w.opens ≡ 720 = ap (λ (v : Window). v.opens) e in let y : w.closes ≡ 10080 = ap (λ (v : Window). v.closes) e in omega arith)
        (λ l. absurd (Memᴰ.not-nil l))
        (Memᴰ.cases_cons k))
        (Memᴰ.cases_cons m)

    inside : (w : Window) → Memᴰ w two → w.closes ≤ 10080
    inside w m =
        ⊎_elim
        (λ e. let y : w.closes ≡ 720 = ap (λ (v : Window). v.closes) e in omega arith)
        (λ k. ⊎_elim
        (λ e. let y : w.closes ≡ 10080 = ap (λ (v : Window). v.closes) e in omega arith)
        (λ l. absurd (Memᴰ.not-nil l))
        (Memᴰ.cases_cons k))
        (Memᴰ.cases_cons m)

    apart : (i j : ℕ) → i < j → j < 2 → (get_or two i none).closes ≤ (get_or two j none).opens
    apart i zero a b = absurd (omega arith)
    apart zero (suc zero) a b = omega arith
    apart (suc i) (suc zero) a b = absurd (omega arith)
    apart i (suc (suc j)) a b = absurd (omega arith)

-- an empty one, one past the week, and two that overlap in one minute
good-not : (Lawful (window 540 540 ∷ []) → ⊥) × (Lawful (window 540 10081 ∷ []) → ⊥) × (Lawful (window 540 720 ∷ window 719 780 ∷ []) → ⊥)
good-not = (
  (λ l. let k = l.filled (window 540 540) (Memᴰ.head refl) in omega arith),
  (λ l. let k = l.inside (window 540 10081) (Memᴰ.head refl) in omega arith),
  (λ l. let k = l.apart 0 1 (omega arith) (omega arith) in omega arith),
)

-- 16 windows, minute 2^32 - 1 and a length of 1 are good; 17, 2^32 and 0 are not
proper : Proper (record { windows = two; count = 16 }) 4294967295 1
proper = record { lawful = good; few = omega arith; soon = omega arith; some = omega arith }

proper-not : (Proper (record { windows = two; count = 17 }) 0 1 → ⊥) × (Proper (hours two) 4294967296 1 → ⊥) × (Proper (hours two) 0 0 → ⊥)
proper-not = ((λ p. let k = p.few in omega arith), (λ p. let k = p.soon in omega arith), (λ p. let k = p.some in omega arith))

-- ---- answers
asked : (minute n : ℕ) → minute < 4294967296 → 0 < n → Proper (hours morning) minute n
asked minute n a b = record {
  lawful = record {
    filled = λ w m. let k = is-morning w m in let x = k.opens in let y = k.closes in omega arith;
    inside = λ w m. let k = is-morning w m in let y = k.closes in omega arith;
    apart = λ i j c d. absurd (omega arith);
  };
  few = omega arith;
  soon = omega arith;
  some = b;
}

long_enough : Short morning 60 → ⊥
long_enough s = let k = s (window 540 720) (Memᴰ.head refl) in omega arith

-- no minute has a refusal's number
no_refusal : (n : ℕ) → 0 ≡ n + 1 → ⊥
no_refusal n e = omega arith

no_minute : (t : ℕ) (r : Refusal) → ◌≡◌ {A = Answer} (Err r) (Ok t) → ⊥
no_minute t r e = let z : ◌≡◌ {A = ℕ} 0 1 = cc in omega arith

same : (t u : ℕ) → ◌≡◌ {A = Answer} (Ok t) (Ok u) → t ≡ u
same t u e = cc

-- at once, and in the next week: from 541 on 180 minutes fit again at 10,080 + 540
right-540 : Right (hours morning) 540 180 (Ok 540)
right-540 = record {
  wrong = λ x. absurd (x (asked 540 180 (omega arith) (omega arith)));
  proper = λ _ e. no_refusal 20 e;
  too_long = λ _ s. absurd (short-not s);
  short = λ e. absurd (no_refusal 21 e);
  never = λ _ x. absurd (x 540 (fits-at 0 180 540 (omega arith) (omega arith)));
  nowhere = λ e. absurd (no_refusal 21 e);
  answers = λ _ _. (540, refl);
  later = λ t e. let k = same 540 t e in omega arith;
  fits = λ t e. rw (sym (same 540 t e)) (fits-at 0 180 540 (omega arith) (omega arith));
  earliest = λ t e u a f. let k = same 540 t e in omega arith;
}

right-10620 : Right (hours morning) 541 180 (Ok 10620)
right-10620 = record {
  wrong = λ x. absurd (x (asked 541 180 (omega arith) (omega arith)));
  proper = λ _ e. no_refusal 20 e;
  too_long = λ _ s. absurd (short-not s);
  short = λ e. absurd (no_refusal 21 e);
  never = λ _ x. absurd (x 10620 (fits-at 1 180 10620 (omega arith) (omega arith)));
  nowhere = λ e. absurd (no_refusal 21 e);
  answers = λ _ _. (10620, refl);
  later = λ t e. let k = same 10620 t e in omega arith;
  fits = λ t e. rw (sym (same 10620 t e)) (fits-at 1 180 10620 (omega arith) (omega arith));
  earliest = λ t e u a f. let k = same 10620 t e in let w = within 180 u f in omega arith;
}

-- any refusal, 21 and 22 where 60 minutes fit
refused-not : ((r : Refusal) → Right (hours morning) 0 60 (Err r) → ⊥) × (Right (hours morning) 0 60 (Err Improper) → ⊥) × (Right (hours morning) 0 60 (Err TooLong) → ⊥)
refused-not = (
  (λ q r. let k = r.answers (asked 0 60 (omega arith) (omega arith)) long_enough in no_minute k.0 q k.1),
  (λ r. r.proper (asked 0 60 (omega arith) (omega arith)) refl),
  (λ r. long_enough (r.short refl)),
)

-- a minute where 21 or 22 is asked
minute_not : (Right (hours morning) 0 0 (Ok 540) → ⊥) × (Right (hours morning) 0 181 (Ok 540) → ⊥)
minute_not = (
  (λ r. no_refusal 20 (r.wrong (λ p. let k = p.some in omega arith))),
  (λ r. no_refusal 21 (r.too_long (asked 0 181 (omega arith) (omega arith)) short)),
)

-- before the given minute, where 60 minutes do not fit, and a minute late
other_minutes_not : (Right (hours morning) 541 60 (Ok 540) → ⊥) × (Right (hours morning) 0 60 (Ok 539) → ⊥) × (Right (hours morning) 0 60 (Ok 541) → ⊥)
other_minutes_not = (
  (λ r. let k = r.later 540 refl in omega arith),
  (λ r. let k = within 60 539 (r.fits 539 refl) in omega arith),
  (λ r. let k = r.earliest 541 refl 540 (omega arith) (fits-at 0 60 540 (omega arith) (omega arith)) in omega arith),
)

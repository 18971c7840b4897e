-- The laws of the listing's loops: digits put from the last place down, digits counted, numbers and samples put one after the other. Assumes nothing.
use mathlib.Core.Path.{◌≡◌, refl, sym, ap, ◌∙◌, subst}
use mathlib.Core.Logic.{◌≢◌}
use mathlib.Core.List.{List, [], ◌∷◌, ◌++◌, append_assoc, append-nil}
use mathlib.Core.Bool.{Bool, true, false, cond}
use Prim.Native.Nat.{ℕ, zero, suc, ◌+◌, ◌-◌, ◌*◌, ◌/◌, ◌%◌, ◌^◌, ◌≤◌, ◌<◌, max}
use native.Mathlib.Nat.{add-zero, add-suc, le_of_suc-le-suc}
use native.Mathlib.Numerals.{add-one}
use native.Mathlib.Omega.{arith}
use borrow.Author.Tests.{lt-ltb, le-ltb, eq-eqb, ne_eqb, eqb-true, eqb-false}
use lib.ListN.{length, drop, set, get_or, length-append}
use lib.Seq.{sets, set_comm, drop-cons, drop-length}
use lib.Dec.{eqb}
use lib.Ieee.{Float, binary32, to_bits}
use Rattle.listing.specs.Putting.{Putting, begin, further, place_is}
use Rattle.listing.specs.Text.{digit, digits, places_of, decimal, spaced, kind_line, end_of, samples_from, samples_line}

pub length_digits : (b k n : ℕ) → length (digits b k n) ≡ k
unfolding digits
length_digits b zero n = refl
length_digits b (suc k) n = let q = length_digits b k (n / b) in omega (arith, length-append (digits b k (n / b)) (digit (n % b) ∷ []))

pub length-decimal : (n : ℕ) → length (decimal n) ≡ places_of 20 n
unfolding decimal
length-decimal n = length_digits 10 (places_of 20 n) n

-- a store below a run of stores may come first
pub set_sets : (l : List ℕ) (i j v : ℕ) (acc : List ℕ) → j < i → set (sets l i acc) j v ≡ sets (set l j v) i acc
set_sets l i j v [] h = refl
set_sets l i j v (a ∷ acc) h = set_sets (set l i a) (suc i) j v acc (omega arith) ∙ ap (λ (m : List ℕ). sets m (suc i) acc) (set_comm l i j a v apart)
  where
    apart : i ≢ j
    apart e = omega arith

-- ---- digits put from the last place down
pub record Backward (l : List ℕ) (at b : ℕ) (whole now : List ℕ) (left rest : ℕ) : Type 0 where
  pub acc : List ℕ
  pub is : now ≡ sets l (at + left) acc
  pub all : digits b left rest ++ acc ≡ whole

pub first-digit : (l : List ℕ) (at b w n : ℕ) → Backward l at b (digits b w n) l w n
first-digit l at b w n = record { acc = []; is = refl; all = append-nil (digits b w n) }

pub next-digit : {l : List ℕ} {at b : ℕ} {whole now : List ℕ} {rest : ℕ} (left : ℕ) → 0 < left → Backward l at b whole now left rest
    → (d : ℕ) → d ≡ digit (rest % b) → Backward l at b whole (set now (at + (left - 1)) d) (left - 1) (rest / b)
unfolding digits
next-digit {l} {at} {b} {whole} {now} {rest} zero h p d e = absurd (omega arith)
next-digit {l} {at} {b} {whole} {now} {rest} (suc k) h p d e =
    let z : k ≡ suc k - 1 = omega arith in
    subst (λ (j : ℕ). Backward l at b whole (set now (at + j) d) j (rest / b)) z (record {
      acc = d ∷ p.acc;
      is = ap (λ (m : List ℕ). set m (at + k) d) p.is ∙ set_sets l (at + suc k) (at + k) d p.acc (omega arith) ∙ ap (λ (j : ℕ). sets (set l (at + k) d) j p.acc) (add-suc at k);
      all = ap (λ (x : ℕ). digits b k (rest / b) ++ (x ∷ p.acc)) e ∙ sym (append_assoc (digits b k (rest / b)) (digit (rest % b) ∷ []) p.acc) ∙ p.all;
    })

pub all_digits : {l : List ℕ} {at b : ℕ} {whole now : List ℕ} {rest : ℕ} (left : ℕ) → left ≡ 0 → Backward l at b whole now left rest → now ≡ sets l at whole
unfolding digits
all_digits {l} {at} {b} {whole} {now} {rest} zero h p = p.is ∙ ap (λ (j : ℕ). sets l j p.acc) (add-zero at) ∙ ap (sets l at) p.all
all_digits {l} {at} {b} {whole} {now} {rest} (suc k) h p = absurd (omega arith)

-- ---- counting digits

tens : (k : ℕ) → 0 < 10 ^ k
tens zero = omega arith
tens (suc k) = let p = tens k in omega arith

-- a number from 10 ^ k on, below ten times that, has k + 1 digits
pub places-log : (f k n : ℕ) → k ≤ f → 10 ^ k ≤ n → n < 10 * 10 ^ k → places_of f n ≡ k + 1
unfolding places_of
places-log zero zero n l a b = refl
places-log zero (suc k) n l a b = absurd (omega arith)
places-log (suc f) zero n l a b = simp (lt-ltb n 10 (omega arith)) refl
places-log (suc f) (suc k) n l a b =
    let some = tens k in
    let ten : 10 ≤ n = omega arith in
    let e : suc k + 1 ≡ suc (k + 1) = omega arith in
    let q = places-log f k (n / 10) (omega arith) (omega arith) (omega arith) in
    simp (le-ltb n 10 ten) (ap suc q ∙ sym e)

-- and 0 has as many as 1
pub places-most : (k n : ℕ) → k < 20 → 10 ^ k ≤ max n 1 → max n 1 < 10 * 10 ^ k → k + 1 ≡ places_of 20 n
unfolding places_of
places-most k zero l a b = sym (places-log 20 k 1 (omega arith) a b)
places-most k (suc n) l a b =
    let e : max (suc n) 1 ≡ suc n = omega arith in
    sym (places-log 20 k (suc n) (omega arith) (subst (λ (m : ℕ). 10 ^ k ≤ m) e a) (subst (λ (m : ℕ). m < 10 * 10 ^ k) e b))

-- ---- numbers put one after the other
pub spaced-step : (ns : List ℕ) (i : ℕ) → i < length ns → spaced (drop i ns) ≡ (32 ∷ decimal (get_or ns i 0)) ++ spaced (drop (i + 1) ns)
unfolding spaced
spaced-step ns i h = ap spaced (drop-cons ns i 0 h) ∙ ap (λ (j : ℕ). (32 ∷ decimal (get_or ns i 0)) ++ spaced (drop j ns)) (sym (add-one i))

pub spaced_end : spaced [] ≡ []
unfolding spaced
spaced_end = refl

-- the length of the first i numbers
pub record Measured (ns : List ℕ) (n i : ℕ) : Type 0 where
  pub rest : n + length (spaced (drop i ns)) ≡ length (spaced ns)
  pub most : n ≤ 21 * i
  pub within : i ≤ length ns

pub measure_next : {ns : List ℕ} {n i : ℕ} → Measured ns n i → i < length ns → (k : ℕ) → k ≡ places_of 20 (get_or ns i 0) → k ≤ 20 → Measured ns (n + (1 + k)) (i + 1)
measure_next {ns} {n} {i} m h k e b =
    let s = ap length (spaced-step ns i h) in
    let d = length-decimal (get_or ns i 0) in
    let a = length-append (32 ∷ decimal (get_or ns i 0)) (spaced (drop (i + 1) ns)) in
    let r = m.rest in
    let q = m.most in
    record { rest = omega arith; most = omega arith; within = omega arith }

pub measured : {ns : List ℕ} {n i : ℕ} → Measured ns n i → length ns ≤ i → n ≡ length (spaced ns)
unfolding spaced
measured {ns} {n} {i} m h =
    let w = m.within in
    let e : i ≡ length ns = omega arith in
    let r = m.rest in
    let z : length (spaced (drop i ns)) ≡ 0 = ap (λ (j : ℕ). length (spaced (drop j ns))) e ∙ ap (λ (l : List ℕ). length (spaced l)) (drop-length ns) in
    omega arith

-- ---- a kind's line
pub kind_long : (k : ℕ) (ns : List ℕ) → length (kind_line k ns) ≡ length (spaced ns) + 3
unfolding kind_line
kind_long k ns =
    let d = length_digits 16 2 k in
    let a = length-append (digits 16 2 k) (spaced ns ++ (10 ∷ [])) in
    omega (arith, length-append (spaced ns) (10 ∷ []))

-- its digits and numbers are put; the line's end is not
pub kind_put : (l o₀ o₁ : List ℕ) (k : ℕ) (ns : List ℕ) (to : ℕ) → o₀ ≡ sets l 0 (digits 16 2 k) → o₁ ≡ sets o₀ 2 (spaced ns) → to ≡ 2 + length (spaced ns)
    → Putting l 0 (kind_line k ns) o₁ (10 ∷ []) to
unfolding kind_line
kind_put l o₀ o₁ k ns to h₀ h₁ q =
    let z = length_digits 16 2 k in
    let y : 0 + length (digits 16 2 k) ≡ 2 = omega arith in
    place_is (further (spaced ns) (10 ∷ []) (place_is (further (digits 16 2 k) (spaced ns ++ (10 ∷ [])) (begin l 0 (kind_line k ns)) o₀ h₀) y) o₁ h₁) (sym q)

-- ---- samples put one after the other
eqb_suc : (a b : ℕ) → eqb (suc a) (suc b) ≡ eqb a b
eqb_suc a b = go (eqb a b) (eqb-true a b) (eqb-false a b)
  where
    go : (t : Bool) → (t ≡ true → a ≡ b) → (t ≡ false → a ≡ b → ⊥) → eqb (suc a) (suc b) ≡ t
    go true p q = eq-eqb (suc a) (suc b) (ap suc (p refl))
    go false p q = ne_eqb (suc a) (suc b) (λ z. q refl (let w : a ≡ b = omega arith in w))

pub end_at : (xs : List Float) (i : ℕ) → i ≤ length xs → end_of (drop i xs) ≡ cond (eqb i (length xs)) 10 32
end_at [] zero h = refl
end_at [] (suc i) h = absurd (omega arith)
end_at (x ∷ xs) zero h = sym (ap (λ (b : Bool). cond b 10 32) (ne_eqb 0 (suc (length xs)) (λ z. omega arith)))
end_at (x ∷ xs) (suc i) h = end_at xs i (le_of_suc-le-suc h) ∙ ap (λ (b : Bool). cond b 10 32) (sym (eqb_suc i (length xs)))

abbrev pub sample_text : Float → (end : ℕ) → List ℕ
sample_text x end = digits 16 8 (to_bits binary32 x) ++ (end ∷ [])

pub sample_long : (x : Float) (end : ℕ) → length (sample_text x end) ≡ 9
sample_long x end = let p = length_digits 16 8 (to_bits binary32 x) in omega (arith, length-append (digits 16 8 (to_bits binary32 x)) (end ∷ []))

pub samples_step : (xs : List Float) (i : ℕ) (d : Float) → i < length xs → (end : ℕ) → end ≡ cond (eqb (i + 1) (length xs)) 10 32
    → samples_from (drop i xs) ≡ sample_text (get_or xs i d) end ++ samples_from (drop (i + 1) xs)
unfolding samples_from
samples_step xs i d h end e =
    let w : i + 1 ≤ length xs = omega arith in
    let bits = digits 16 8 (to_bits binary32 (get_or xs i d)) in
    ap samples_from (drop-cons xs i d h) ∙ ap (λ (j : ℕ). bits ++ (end_of (drop j xs) ∷ samples_from (drop j xs))) (sym (add-one i))
    ∙ ap (λ (b : ℕ). bits ++ (b ∷ samples_from (drop (i + 1) xs))) (end_at xs (i + 1) w ∙ sym e) ∙ sym (append_assoc bits (end ∷ []) (samples_from (drop (i + 1) xs)))

pub samples_end : samples_from [] ≡ []
unfolding samples_from
samples_end = refl

pub samples_some : (xs : List Float) → (length xs ≡ 0 → ⊥) → samples_from xs ≡ samples_line xs
unfolding samples_line
samples_some [] h = absurd (h refl)
samples_some (x ∷ xs) h = refl

pub samples_none : (xs : List Float) → length xs ≡ 0 → 10 ∷ [] ≡ samples_line xs
unfolding samples_line
samples_none [] h = refl
samples_none (x ∷ xs) h = absurd (omega arith)

pub length_from : (xs : List Float) → length (samples_from xs) ≡ 9 * length xs
unfolding samples_from
length_from [] = refl
length_from (x ∷ xs) =
    let p = length_digits 16 8 (to_bits binary32 x) in
    let q = length_from xs in
    omega (arith, length-append (digits 16 8 (to_bits binary32 x)) (end_of xs ∷ samples_from xs))

pub length_samples : (xs : List Float) → (length xs ≡ 0 → ⊥) → length (samples_line xs) ≡ 9 * length xs
length_samples xs h = ap length (sym (samples_some xs h)) ∙ length_from xs

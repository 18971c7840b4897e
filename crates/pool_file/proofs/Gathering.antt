-- Samples that come piece by piece stand one behind the other. Assumes nothing.
use Prim.Native.Nat.{ℕ, zero, suc, ◌+◌, ◌-◌, ◌≤◌, ◌<◌}
use mathlib.Core.Path.{◌≡◌, refl, sym, ap, ◌∙◌, subst}
use mathlib.Core.Bool.{Bool, true, false, ◌&&◌, cond}
use mathlib.Core.List.{List, [], ◌++◌, append-nil, append_assoc}
use native.Mathlib.Omega.{arith}
use borrow.Author.Tests.{eqb-true, eqb-false, eq-eqb, ne_eqb, le-leb, lt-leb}
use lib.Dec.{eqb}
use lib.Ieee.{Float}
use lib.ListN.{length, take, drop, length-append, length-drop, take-append-drop}
use lib.Seq.{sets, sets-eq, length-take-le, take_at, drop_at, drop-drop}
use Rattle.recording.specs.Samples.{samples_from}
use Rattle.std.specs.Prelude.{Option, None, Some, Result, Ok, Err, IfOk, IfSome, IsErr}
use Rattle.std.proofs.Common.{true≢false}
use Rattle.pool_file.specs.Loading.{loaded_of, Fills, Loads}
use Rattle.pool_file.specs.declared.Fault.{Fault}
use Rattle.pool_file.specs.declared.Filling.{Filling}

-- ---- one piece

length_samples : (bs : List ℕ) (n i : ℕ) → length (samples_from bs n i) ≡ n
unfolding samples_from
length_samples bs zero i = refl
length_samples bs (suc n) i = ap suc (length_samples bs n (suc i))

-- samples put behind the first `from`
pub put_fills : (bs : List ℕ) (k : ℕ) {l l' : List Float} {from : ℕ} {r : Result Filling Fault} → from ≤ length l → (k ≤ length l - from) × (l' ≡ sets l from (samples_from bs k 0)) → IfOk r (λ s. s.count ≡ from + k) → Fills l from l' r
put_fills bs k {l} {l'} {from} {r} f (h, e) c =
    let xs = samples_from bs k 0 in
    let n = length_samples bs k 0 in
    let m : from + length xs ≤ length l = omega arith in
    record { samples = xs; most = m; lent = e ∙ sets-eq xs l from m; counted = subst (λ j. IfOk r (λ s. s.count ≡ from + j)) (sym n) c }

-- ---- pieces one behind the other

-- all samples are counted
pub record Going (before : List Float) (from : ℕ) (after : List Float) (s : Filling) : Type 0 where
  pub fills : Fills before from after (Ok s)
  pub all : s.count ≡ from + length fills.samples
  pub long : length after ≡ length before

pub begins : (l : List Float) (s : Filling) → s.count ≤ length l → Going l s.count l s
begins l s h =
    let z : s.count + 0 ≡ s.count = omega arith in
    record {
      fills = record {
        samples = [];
        most = omega arith;
        lent = sym (ap (λ (x : List Float). x ++ drop (s.count + 0) l) (append-nil (take s.count l)) ∙ ap (λ (n : ℕ). take s.count l ++ drop n l) z ∙ take-append-drop s.count l);
        counted = sym z;
      };
      all = sym z;
      long = refl;
    }

pub within : {l₀ l : List Float} {from : ℕ} {s : Filling} → Going l₀ from l s → s.count ≤ length l
within g = omega (arith, g.all, g.long, g.fills.most)

pub next : {l₀ l l' : List Float} {from : ℕ} {s : Filling} {r : Result Filling Fault} → Going l₀ from l s → Fills l s.count l' r → Fills l₀ from l' r
next {l₀} {l} {l'} {from} {s} {r} g f =
    let a = g.fills.samples in
    let b = f.samples in
    let n = s.count in
    let front = take from l₀ ++ a in
    let m₀ = g.fills.most in
    let m = f.most in
    let e = g.all in
    let o = g.long in
    let n₁ = length-append (take from l₀) a in
    let n₂ = length-take-le from l₀ (omega arith) in
    let n₃ = length-append a b in
    let k : length front ≡ n = omega arith in
    let i : from + length a ≡ n = sym e in
    let j : n + length b ≡ from + length (a ++ b) = omega arith in
    let is : l ≡ front ++ drop n l₀ = g.fills.lent ∙ ap (λ (x : ℕ). front ++ drop x l₀) i in
    let t : take n l ≡ front = ap (λ (x : List Float). take n x) is ∙ take_at front (drop n l₀) n k in
    let d₀ : drop n l ≡ drop n l₀ = ap (λ (x : List Float). drop n x) is ∙ drop_at front (drop n l₀) n k in
    let d : drop (n + length b) l ≡ drop (from + length (a ++ b)) l₀ = sym (drop-drop (length b) n l) ∙ ap (λ (x : List Float). drop (length b) x) d₀ ∙ drop-drop (length b) n l₀ ∙ ap (λ (x : ℕ). drop x l₀) j in
    record {
      samples = a ++ b;
      most = omega arith;
      lent = f.lent ∙ (λ x. t x ++ b ++ d x) ∙ ap (λ (x : List Float). x ++ drop (from + length (a ++ b)) l₀) (append_assoc (take from l₀) a b);
      counted = subst (λ x. IfOk r (λ t. t.count ≡ x)) j f.counted;
    }

keeps : {l l' : List Float} {from : ℕ} {r : Result Filling Fault} → Fills l from l' r → length l' ≡ length l
keeps {l} {l'} {from} f =
    let xs = f.samples in
    let m = f.most in
    let e = ap (λ (x : List Float). length x) f.lent in
    let n₁ = length-append (take from l ++ xs) (drop (from + length xs) l) in
    let n₂ = length-append (take from l) xs in
    let n₃ = length-take-le from l (omega arith) in
    let n₄ = length-drop (from + length xs) l in
    omega arith

pub goes_on : {l₀ l l' : List Float} {from : ℕ} {s s' : Filling} → Going l₀ from l s → Fills l s.count l' (Ok s') → Going l₀ from l' s'
goes_on g f =
    let n = next g f in
    record { fills = n; all = n.counted; long = keeps n }

-- what has gone wrong is not counted
pub wrong : {l l' : List Float} {from : ℕ} {e : Fault} (r : Result Filling Fault) → IsErr r → Fills l from l' (Err e) → Fills l from l' r
wrong (Ok s) h f = absurd (true≢false (sym h))
wrong (Err _) h f = record { samples = f.samples; most = f.most; lent = f.lent; counted = tt }

-- ---- what it comes to

-- no samples
pub none : (l : List Float) → Loads l l None
none l = record { good = false; samples = []; most = omega arith; lent = refl; is = refl }

-- the samples of a filling from the front on
pub loaded : {l l' : List Float} {s : Filling} → Fills l 0 l' (Ok s) → Loads l l' (Some s.count)
loaded {l} {l'} {s} f =
    let xs = f.samples in
    let z : 0 + length xs ≡ length xs = omega arith in
    let c = f.counted in
    let k : s.count ≡ length xs = omega arith in
    record { good = true; samples = xs; most = omega (arith, f.most); lent = f.lent ∙ ap (λ (n : ℕ). xs ++ drop n l) z; is = ap (λ (n : ℕ). Some n) k }

pub failed : {l l' : List Float} {e : Fault} → Fills l 0 l' (Err e) → Loads l l' None
failed {l} {l'} f =
    let xs = f.samples in
    let z : 0 + length xs ≡ length xs = omega arith in
    record { good = false; samples = xs; most = omega (arith, f.most); lent = f.lent ∙ ap (λ (n : ℕ). xs ++ drop n l) z; is = refl }

pub not_loaded : {l l' : List Float} (r : Result ℕ Fault) → IsErr r → Loads l l' None → Loads l l' (loaded_of r)
not_loaded (Ok n) h a = absurd (true≢false (sym h))
not_loaded (Err _) h a = a

pub bounded : {l l' : List Float} {r : Option ℕ} → Loads l l' r → IfSome r (λ n. n ≤ length l)
bounded {l} {l'} {r} a = go a.good a.is a.most
  where
    go : (b : Bool) {n : ℕ} → r ≡ cond b (Some n) None → n ≤ length l → IfSome r (λ n. n ≤ length l)
    go true e m = subst (λ r. IfSome r (λ n. n ≤ length l)) (sym e) m
    go false e m = subst (λ r. IfSome r (λ n. n ≤ length l)) (sym e) tt

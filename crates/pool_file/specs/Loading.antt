-- What loading a file leaves in a pool. Which samples come no contract of C's read can say; how many they are, and where they stand, is said here.
use Rattle.std.specs.Prelude.{ℕ, ◌+◌, ◌≤◌, ◌<◌, ◌≡◌, refl, Bool, true, false, cond, List, [], ◌++◌, ltb, Float, length, take, drop, Option, None, Some, IfSome, Result, Ok, Err, IfOk}
use Rattle.std.proofs.Common.{sym, ap, ◌∙◌, subst, arith, ltb-false}
use Rattle.tape.specs.Pool.{trail_pool, pool-ends}
use Rattle.pool_file.specs.Pools.{trail_loaded, with_trail_pool}
use Rattle.pool_file.specs.declared.Filling.{Filling}
use Rattle.pool_file.specs.declared.Fault.{Fault}

-- what a file comes to in a pool: the count of its samples, or none where something is wrong
abbrev pub loaded_of : Result ℕ Fault → Option ℕ
loaded_of (Ok n) = Some n
loaded_of (Err _) = None

-- samples stand behind the first `from`, and the pool behind them as it was; while nothing has gone wrong, all of them are counted
pub record Fills (before : List Float) (from : ℕ) (after : List Float) (r : Result Filling Fault) : Type 0 where
  pub samples : List Float
  pub most : from + length samples ≤ length before
  pub lent : after ≡ take from before ++ samples ++ drop (from + length samples) before
  pub counted : IfOk r (λ s. s.count ≡ from + length samples)

-- samples stand at the pool's front, and the pool behind them as it was; they are counted where the pool is good
pub record Loads (before after : List Float) (r : Option ℕ) : Type 0 where
  pub good : Bool
  pub samples : List Float
  pub most : length samples ≤ length before
  pub lent : after ≡ samples ++ drop (length samples) before
  pub is : r ≡ cond good (Some (length samples)) None

-- ---- laws

-- a good pool counts its samples
pub counted_if : {l l' : List Float} {r : Option ℕ} (a : Loads l l' r) → IfSome r (λ n. n ≡ length a.samples)
counted_if {l} {l'} {r} a = go a.good a.is
  where
    go : (b : Bool) → r ≡ cond b (Some (length a.samples)) None → IfSome r (λ n. n ≡ length a.samples)
    go true e = subst (λ r. IfSome r (λ n. n ≡ length a.samples)) (sym e) refl
    go false e = subst (λ r. IfSome r (λ n. n ≡ length a.samples)) (sym e) tt

-- document 01's pool stands so too
pub trail_loads : (p : List Float) {q : List Float} {r : Option ℕ} → r ≡ trail_loaded (length p) → q ≡ with_trail_pool p → Loads p q r
unfolding with_trail_pool trail_loaded
trail_loads p {q} {r} e f = go (ltb (length p) 4_096) refl e f
  where
    go : (b : Bool) → ltb (length p) 4_096 ≡ b → r ≡ cond b None (Some 4_096) → q ≡ cond b p (trail_pool ++ drop 4_096 p) → Loads p q r
    go true h e f = record { good = false; samples = []; most = omega arith; lent = f; is = e }
    go false h e f =
        let m = ltb-false (length p) 4_096 h in
        let n = pool-ends.0 in
        record {
          good = true;
          samples = trail_pool;
          most = omega arith;
          lent = f ∙ ap (λ (k : ℕ). trail_pool ++ drop k p) (sym n);
          is = e ∙ ap (λ (k : ℕ). Some k) (sym n);
        }

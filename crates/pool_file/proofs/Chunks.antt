-- From chunk to chunk. Assumes nothing.
use Prim.Native.Nat.{ℕ, zero, suc, ◌+◌, ◌-◌, ◌%◌, ◌<◌, ◌≤◌}
use mathlib.Core.Path.{◌≡◌, refl, ap, ◌∙◌}
use mathlib.Core.Bool.{Bool, true, false, ◌||◌, cond}
use mathlib.Core.List.{List}
use native.Mathlib.Omega.{arith}
use borrow.Author.Tests.{lt-ltb, le-ltb, eq-eqb, ne_eqb}
use lib.ListN.{length}
use Rattle.tape.specs.Fields.{field}
use Rattle.std.specs.Prelude.{Option, None, Some}
use Rattle.pool_file.specs.Pools.{data', known_by, data_from}

module _ (file : List ℕ) (at : ℕ) (known : Bool) where
  -- no chunk is looked at there
  pub too_far : (k : ℕ) → 65_536 < at → data_from (suc k) file at known ≡ None
  unfolding data_from
  too_far k g = rw (lt-ltb 65_536 at g) refl

  pub behind : (k : ℕ) → at ≤ 65_536 → length file < at + 8 → data_from (suc k) file at known ≡ None
  unfolding data_from
  behind k g h = rw (le-ltb 65_536 at g, lt-ltb (length file) (at + 8) h) refl

  module _ (g : at ≤ 65_536) (h : at + 8 ≤ length file) where
    pub found : (k : ℕ) → field file at 4 ≡ data' → data_from (suc k) file at known ≡ cond known (Some (record { from = at + 8; size = field file (at + 4) 4 })) None
    unfolding data_from
    found k e = rw (le-ltb 65_536 at g, le-ltb (length file) (at + 8) h, eq-eqb (field file at 4) data' e) refl

    pub on : (k : ℕ) → (field file at 4 ≡ data' → ⊥)
        → data_from (suc k) file at known ≡ data_from k file (at + 8 + field file (at + 4) 4 + field file (at + 4) 4 % 2) (known_by file at known)
    unfolding data_from
    on k e = rw (le-ltb 65_536 at g, le-ltb (length file) (at + 8) h, ne_eqb (field file at 4) data' e) refl

-- a turn that is left is a next one
pub turn : (file : List ℕ) (at : ℕ) (known : Bool) (n i : ℕ) → i < n → data_from (n - i) file at known ≡ data_from (suc (n - (i + 1))) file at known
turn file at known n i h = ap (λ (k : ℕ). data_from k file at known) (let z : n - i ≡ suc (n - (i + 1)) = omega arith in z)

-- and none is the end
pub no_turn : (file : List ℕ) (at : ℕ) (known : Bool) (n i : ℕ) → n ≤ i → data_from (n - i) file at known ≡ None
unfolding data_from
no_turn file at known n i h = ap (λ (k : ℕ). data_from k file at known) (let z : n - i ≡ 0 = omega arith in z)

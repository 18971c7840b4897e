-- What holds of the kinds of a range. Assumes nothing.
use Rattle.std.proofs.Common.{◌≡◌, ℕ, zero, suc, ◌+◌, ◌<◌, ◌≤◌, true, false, refl, sym, arith, le-ltb, lt-ltb}
use lib.ListN.{get_or-eq_default}
use Rattle.tape.specs.Tape.{plain_kind, push_kind, size_of, sizes}

-- the pushes are the kinds that are 1 to 3 without gain bytes
pub push_yes : (k p : ℕ) → p ≡ plain_kind k → 0 < p → p < 4 → true ≡ push_kind k
unfolding push_kind
push_yes k p e a b = simp (sym e, lt-ltb 0 p a, lt-ltb p 4 b)

pub push_low : (k p : ℕ) → p ≡ plain_kind k → p ≤ 0 → false ≡ push_kind k
unfolding push_kind
push_low k p e a = simp (sym e, le-ltb 0 p a)

pub push_high : (k p : ℕ) → p ≡ plain_kind k → 0 < p → 4 ≤ p → false ≡ push_kind k
unfolding push_kind
push_high k p e a b = simp (sym e, lt-ltb 0 p a, le-ltb p 4 b)

-- ---- the lengths, by range
pub size_1_to_3 : (k : ℕ) → 0 < k → k < 4 → 43 ≡ size_of k
unfolding size_of sizes
size_1_to_3 zero a b = absurd (omega arith)
size_1_to_3 (suc zero) a b = refl
size_1_to_3 (suc (suc zero)) a b = refl
size_1_to_3 (suc (suc (suc zero))) a b = refl
size_1_to_3 (suc (suc (suc (suc k)))) a b = absurd (omega arith)

pub size_4_or_5 : (k : ℕ) → 4 ≤ k → k < 6 → 25 ≡ size_of k
unfolding size_of sizes
size_4_or_5 zero a b = absurd (omega arith)
size_4_or_5 (suc zero) a b = absurd (omega arith)
size_4_or_5 (suc (suc zero)) a b = absurd (omega arith)
size_4_or_5 (suc (suc (suc zero))) a b = absurd (omega arith)
size_4_or_5 (suc (suc (suc (suc zero)))) a b = refl
size_4_or_5 (suc (suc (suc (suc (suc zero))))) a b = refl
size_4_or_5 (suc (suc (suc (suc (suc (suc k)))))) a b = absurd (omega arith)

pub size_10_to_12 : (k j : ℕ) → k ≡ 10 + j → j < 3 → 47 ≡ size_of k
unfolding size_of sizes
size_10_to_12 k zero e b = rw e
size_10_to_12 k (suc zero) e b = rw e
size_10_to_12 k (suc (suc zero)) e b = rw e
size_10_to_12 k (suc (suc (suc j))) e b = absurd (omega arith)

pub size_none : (k : ℕ) → 13 ≤ k → 0 ≡ size_of k
unfolding size_of sizes
size_none k h = sym (get_or-eq_default sizes 0 h)

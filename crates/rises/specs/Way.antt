-- The way up in a heap's array: its places, how many they are, and which events on it come after a new one. In a heap these are the first ones on the way. Assumes nothing.
use Rattle.std.specs.Prelude.{ℕ, zero, suc, ◌/◌, Bool, cond, List, [], ◌∷◌, nat_lt, slice_index_or}
use Rattle.ready.specs.Sift.{parent}

-- ---- floor(log2 k): how often k can be halved, down to 1

unfoldable pub halvings : (f k : ℕ) → ℕ
halvings zero k = 0
halvings (suc f) k = let r = halvings f (k / 2) in cond (nat_lt 1 k) (suc r) 0

unfoldable pub floor_log2 : ℕ → ℕ
unfolding halvings
floor_log2 k = halvings k k

-- ---- the way

-- the places above i: its parent first, the top last
unfoldable pub way_up : (f i : ℕ) → List ℕ
way_up zero i = []
way_up (suc f) i = let r = way_up f (parent i) in cond (nat_lt 0 i) (parent i ∷ r) []

module _ {A : Type 0} (less : A → A → Bool) (z : A) where
  -- how many of those at the given places come after e
  unfoldable pub later_at : List ℕ → List A → A → ℕ
  later_at [] xs e = 0
  later_at (p ∷ ps) xs e = let r = later_at ps xs e in cond (less e (slice_index_or xs p z)) (suc r) r

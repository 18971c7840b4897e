-- A heap of keys that is emptied in order: what `drain_sorted` asks and gives.
use Rattle.std.specs.Prelude.{ℕ, ◌≤◌, List, ◌++◌, length, take, drop}
use Rattle.ready.specs.HeapOrder.{Heap-ordered}
use Rattle.overlap.specs.Keys.{Key, key_less, no_key, keys_in_order}

pub record Drainable (count n : ℕ) (ks : List Key) (out : List ℕ) : Type 0 where
  pub fits : count ≤ length ks
  pub ordered : Heap-ordered key_less no_key ks count
  pub has : n ≤ count
  pub room : n ≤ length out

-- the first n numbers in order, the rest of the slice left
abbrev pub drained : (count n : ℕ) → (keys : List Key) → (out : List ℕ) → List ℕ
drained count n ks out = take n (keys_in_order (take count ks)) ++ drop n out

-- Each call keeps W's order, the threshold's and the clock's laws. Assumes nothing.
use Rattle.std.specs.Prelude.{◌≡◌, T}
use Rattle.floats.specs.Arithmetic.{◌≤ᶠ◌}
use Rattle.ledger.specs.Ledger.{Ledger}
use Rattle.ledger.specs.Sums.{event_sum}
use Rattle.ledger.specs.Conservation.{held_sum}
use Rattle.ledger.specs.Sorted.{WeaklySorted, early, nan_start}
use Rattle.ledger.specs.NotNan.{billion}

pub record InOrder (l : Ledger) : Type 0 where
  pub sorted : WeaklySorted l.waiting
  pub on_time : event_sum (early l.threshold) l.waiting ≡ 0  -- none of W starts before θ
  pub no_nan : held_sum nan_start l ≡ 0  -- no start is a NaN
  pub clocked : T (l.clock ≤ᶠ billion)  -- so it is no NaN either

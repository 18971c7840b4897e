-- What `total_cmp` answers: the order of two floats by totalOrder.
use Rattle.std.specs.Prelude.{cond, Float}
use Rattle.floats.specs.Floats.{total_less}
use Rattle.std.specs.declared.cmp.Ordering.{Ordering}
use Rattle.std.specs.declared.cmp.Ordering.TheVariants.{Less, Equal, Greater}

unfoldable pub ordered : Float → Float → Ordering
unfolding total_less
ordered x y = cond (total_less x y) Less (cond (total_less y x) Greater Equal)

-- The curve of a fade.
use Rattle.std.specs.Prelude.{Float}
use Rattle.math.specs.Curves.{smooth, sine_ease}
use Rattle.event.specs.declared.Fade.{Fade}
use Rattle.event.specs.declared.Fade.TheVariants.{Power, Smooth}

unfoldable pub curve : Fade → Float → Float
unfolding sine_ease smooth
curve Power x = sine_ease x
curve Smooth x = smooth x

-- `event::Fade::at` meets its contract. Assumes nothing.
use Rattle.event.specs.Fades.{curve}
use Rattle.event.proofs.Fade.at.Goals as goal

pub returns-in-Power : goal.returns-in-Power
unfolding curve
returns-in-Power c = rw c.in-Power.is c.sine_ease.ensures

pub returns-in-Smooth : goal.returns-in-Smooth
unfolding curve
returns-in-Smooth c = rw c.in-Smooth.is c.smooth5.ensures

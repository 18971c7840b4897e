-- `player::blank_times` meets its contract.
use mathlib.Core.Path.{refl}
use lib.Ieee.{of_bits}
use Rattle.player.proofs.blank_times.Goals as goal

pub returns : goal.returns
unfolding of_bits
returns c = refl

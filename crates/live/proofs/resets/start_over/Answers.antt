-- `live::resets::start_over` meets its contract.
use Rattle.std.proofs.Common.{refl}
use lib.Ieee.{of_bits, neg, div}
use Rattle.live.proofs.resets.start_over.Goals as goal

pub returns : goal.returns
unfolding of_bits neg div
returns c = refl

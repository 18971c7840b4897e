-- Document 01, difference 3: "s and z are at most n". Assumes nothing.
use Rattle.std.specs.Prelude.{◌≤◌, min, Bool, true, false, cond}
use Rattle.std.proofs.Common.{arith}
use Rattle.event.specs.declared.Event.{Event}
use Rattle.floats.specs.Arithmetic.{◌≤ᶠ◌, ◌-ᵈ◌, ◌×ᵈ◌}
use Rattle.floats.specs.Floats.{index}
use Rattle.ledger.specs.BlockSamples.{Span, end_place}

pub end_within : (b : Span) (e : Event) → end_place b e ≤ b.size
unfolding end_place
end_within b e = go (b.upto ≤ᶠ e.end_time)
  where
    go : (t : Bool) → cond t b.size (min b.size (index ((e.end_time -ᵈ b.clock) ×ᵈ b.rate))) ≤ b.size
    go true = omega arith
    go false = omega arith

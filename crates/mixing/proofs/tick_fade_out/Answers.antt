use Rattle.std.proofs.Common.{T, sym, ◌∙◌, subst}
use lib.Ieee.{of_bits}
use Rattle.ledger.specs.TickSamples.{faded_out}
use Rattle.mixing.specs.LeftOut.{fade_out_ahead}
use Rattle.mixing.proofs.tick_fade_out.Goals as goal

pub returns-then-is_ahead : goal.returns-then-is_ahead
returns-then-is_ahead c =
    let s = c.args in
    sym (fade_out_ahead s.time s.event s.x (subst T (sym (sym c.is_ahead.ensures ∙ c.if-is_ahead.true)) tt))

pub returns-then-event : goal.returns-then-event
unfolding faded_out of_bits
returns-then-event c = rw (c.if-event.true, c.tick_fade.ensures)

pub returns : goal.returns
unfolding faded_out of_bits
returns c = rw c.if-event.false

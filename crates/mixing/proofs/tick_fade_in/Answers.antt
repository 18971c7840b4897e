use Rattle.std.proofs.Common.{T, sym, ◌∙◌, subst}
use lib.Ieee.{of_bits}
use Rattle.ledger.specs.TickSamples.{faded_in}
use Rattle.mixing.specs.LeftOut.{fade_in_over}
use Rattle.mixing.proofs.tick_fade_in.Goals as goal

pub returns-then-is_past : goal.returns-then-is_past
returns-then-is_past c =
    let s = c.args in
    sym (fade_in_over s.time s.event s.x (subst T (sym (sym c.is_past.ensures ∙ c.if-is_past.true)) tt))

pub returns-then-event : goal.returns-then-event
unfolding faded_in of_bits
returns-then-event c = rw (c.if-event.true, c.tick_fade.ensures)

pub returns : goal.returns
unfolding faded_in of_bits
returns c = rw c.if-event.false

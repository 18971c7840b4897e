-- Handling one message: the engine's and the desk ledger's. The engine's next number, which the front has moved on already, stays. Assumes nothing.
use Rattle.event.specs.declared.Edit.{Edit}
use Rattle.event.specs.declared.EventId.{EventId}
use Rattle.floats.specs.Arithmetic.{◌<ᶠ◌}
use Rattle.ledger.specs.Lists.{has}
use Rattle.ledger.specs.Ledger.{Ledger}
use Rattle.ledger.specs.Steps as Steps

abbrev pub changed_ledger : Ledger → EventId → Edit → Ledger
changed_ledger l k d = (Steps.change l k.0 d (has k.0 l.sounding) (d.end_time <ᶠ l.threshold)).ledger

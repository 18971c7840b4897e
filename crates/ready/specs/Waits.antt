-- The waiting heap stands for the ledger's W: push for sorted insertion, peek for W's head and pop for its tail. Assumes nothing.
use Rattle.std.specs.Prelude.{◌≡◌, List, length}
use Rattle.event.specs.declared.Event.{Event}
use Rattle.event.specs.Events.{earlier}
use Rattle.event.specs.Blank.{blank}
use Rattle.ready.specs.declared.Ready.{Ready}
use Rattle.ready.specs.Stands.{Stands}

-- the heap's first `len` events are heap-ordered, and w's, each once
pub record Waits (h : Ready) (w : List Event) : Type 0 where
  pub sized : length h.items ≡ 256
  pub stands : Stands earlier blank h.items h.len w

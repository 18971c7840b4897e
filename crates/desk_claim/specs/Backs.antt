-- Every call of the back, refused or not, keeps the relation and gives back what the desk ledger's gives. It is refused before draining, and carried out after it. Assumes nothing.
use Rattle.event.specs.declared.Placings.{Placings}
use Rattle.event.specs.Placings.{no_placings}
use Rattle.ledger.specs.Calls as Calls

-- ---- the engine, of a call that no refusal names

-- the places that an answer tells
abbrev pub places_in : Calls.Answer → Placings
places_in (Calls.number k) = no_placings
places_in Calls.applied = no_placings
places_in Calls.past = no_placings
places_in Calls.stored = no_placings
places_in Calls.done = no_placings
places_in (Calls.rendered c) = c
places_in (Calls.refused k) = no_placings

-- Where an engine is related to a ledger its view is the ledger's state, and its index gives the places.
use Rattle.std.specs.Prelude.{◌^◌, ◌%◌, ◌≡◌}
use Rattle.std.proofs.Common.{sym, ap, ◌∙◌}
use Rattle.ledger.specs.Lists.{place_of}
use Rattle.ledger.specs.Ledger.{Ledger}
use Rattle.ledger.specs.Lawful.{Lawful}
use Rattle.ledger.specs.Claim.{SameState, IndexGivesPlaces}
use Rattle.ready.proofs.Waits.{waits-length}
use Rattle.lists.specs.Holds.{holds-length}
use Rattle.lists.specs.Sounding.{index_find}
use Rattle.sequencer.specs.declared.Sequencer.{Sequencer}
use Rattle.claim.specs.Related.{Related}
use Rattle.claim.specs.View.{view_of}

pub shows : (s : Sequencer) (l : Ledger) → Lawful l → Related s l → SameState (view_of s) l × IndexGivesPlaces (view_of s) × ((view_of s).next ≡ l.next % 2 ^ 64)
shows s l w r = (
  record {
    heap = r.lists.0.stands.same;
    sounding = r.lists.1.front;
    finished = r.lists.3.front;
    counts = rw (waits-length r.lists.0, holds-length r.lists.1, holds-length r.lists.3, r.plain.7);
    clock = r.plain.0;
    threshold = r.plain.1;
    edits = r.lists.4.front;
    rate = r.plain.2;
    duration = r.plain.3;
    channels = r.plain.4;
    mode = r.plain.5;
  },
  (λ k. index_find (record { 0 = k }) (r.lists.1, r.lists.2) ∙ ap (place_of k) (sym r.lists.1.front)),
  r.plain.6,
)

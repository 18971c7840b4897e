-- The claim can be met: the ledger itself, taken as an engine, meets it, with and without a scratch. Assumes nothing.
use Rattle.std.specs.Prelude.{ℕ, ◌^◌, ◌%◌, Bool}
use Rattle.ledger.specs.Calls.{Call, Reply}
use Rattle.ledger.specs.Lists.{place_of}
use Rattle.ledger.specs.Ledger.{Ledger, create}
use Rattle.ledger.specs.Steps.{Outcome}
use Rattle.ledger.specs.Claim.{counts_of, View, Engine}

-- with a next number of its own: a desk's is that after the queued pushes
abbrev pub view_with : (next : ℕ) → Ledger → View
view_with n l = record {
  heap = l.waiting;
  sounding = l.sounding;
  finished = l.finished;
  counts = counts_of l;
  index = λ k. place_of k l.sounding;
  edits = l.edits;
  clock = l.clock;
  threshold = l.threshold;
  rate = l.rate;
  duration = l.duration;
  channels = l.channels;
  mode = l.mode;
  next = n;
}

abbrev pub view_of : Ledger → View
view_of l = view_with (l.next % 2 ^ 64) l

abbrev pub pair_of : Outcome → Ledger × Reply
pair_of o = (o.ledger, o.reply)

-- an engine whose states are ledgers, with calls of its own
abbrev pub engine_of : (lends : Bool) → (Ledger → Call → Ledger × Reply) → Engine
engine_of b call = record {
  State = Ledger;
  lends = b;
  new = λ channels mode first. let new = create channels mode first in (new.ledger, new.answer);
  call = call;
  view = view_of;
}

-- The claim can be met: the desk's ledger itself, taken as an engine, meets it. Assumes nothing.
use Rattle.std.specs.Prelude.{◌^◌, ◌%◌}
use Rattle.ledger.specs.Ledger.{create}
use Rattle.ledger.specs.LedgerMeets.{view_with}
use Rattle.desk.specs.Desk.{Desk, next_number, opened, step}
use Rattle.desk.specs.Claim.{DeskView, DeskEngine, sent_from}

abbrev pub desk_view : Desk → DeskView
desk_view d = record { back = view_with (next_number d % 2 ^ 64) d.back; queued = sent_from d.back.next d.queued; returned = d.returned }

abbrev pub desk_itself : DeskEngine
desk_itself = record {
  State = Desk;
  new = λ channels mode first. let new = create channels mode first in (opened new.ledger, new.answer);
  call = λ d c. let o = step d c in (o.desk, o.reply);
  view = desk_view;
}

-- `state_listing::put_desk_answer` meets its contract: each answer has its text. Assumes nothing.
use Rattle.std.proofs.Common.{sym, ap, rules}
use Rattle.listing.specs.Pieces.{add_all}
use Rattle.state_listing.specs.Lines.{desk_answer_part}
use Rattle.state_listing.proofs.Parts.{same-part}
use Rattle.state_listing.proofs.put_desk_answer.Goals as goal

pub returns-in-Number : goal.returns-in-Number
unfolding add_all desk_answer_part
returns-in-Number c = same-part _ (ap desk_answer_part (sym c.in-Number.is)) c.put_number.ensures

pub returns-in-Queued : goal.returns-in-Queued
unfolding add_all desk_answer_part
returns-in-Queued c = same-part _ (ap desk_answer_part (sym c.in-Queued.is)) c.put_bytes.ensures

pub returns-in-Done : goal.returns-in-Done
unfolding add_all desk_answer_part
returns-in-Done c = same-part _ (ap desk_answer_part (sym c.in-Done.is)) c.put_bytes-in-Done.ensures

pub returns-in-Rendered : goal.returns-in-Rendered
unfolding add_all desk_answer_part
returns-in-Rendered c = same-part _ (ap desk_answer_part (sym c.in-Rendered.is)) c.put_places.ensures

pub returns-in-Refused : goal.returns-in-Refused
unfolding add_all desk_answer_part
returns-in-Refused c = same-part _ (ap desk_answer_part (sym c.in-Refused.is)) c.put_number-in-Refused.ensures

-- `state_listing::put_answer` meets its contract: each answer has its text. Assumes nothing.
use Rattle.std.proofs.Common.{sym, ap, rules}
use Rattle.listing.specs.Pieces.{add_all}
use Rattle.state_listing.specs.Lines.{answer_part}
use Rattle.state_listing.proofs.Parts.{same-part}
use Rattle.state_listing.proofs.put_answer.Goals as goal

pub returns-in-Number : goal.returns-in-Number
unfolding add_all answer_part
returns-in-Number c = same-part _ (ap answer_part (sym c.in-Number.is)) c.put_number.ensures

pub returns-in-Applied : goal.returns-in-Applied
unfolding add_all answer_part
returns-in-Applied c = same-part _ (ap answer_part (sym c.in-Applied.is)) c.put_bytes.ensures

pub returns-in-Past : goal.returns-in-Past
unfolding add_all answer_part
returns-in-Past c = same-part _ (ap answer_part (sym c.in-Past.is)) c.put_bytes-in-Past.ensures

pub returns-in-Stored : goal.returns-in-Stored
unfolding add_all answer_part
returns-in-Stored c = same-part _ (ap answer_part (sym c.in-Stored.is)) c.put_bytes-in-Stored.ensures

pub returns-in-Done : goal.returns-in-Done
unfolding add_all answer_part
returns-in-Done c = same-part _ (ap answer_part (sym c.in-Done.is)) c.put_bytes-in-Done.ensures

pub returns-in-Rendered : goal.returns-in-Rendered
unfolding add_all answer_part
returns-in-Rendered c = same-part _ (ap answer_part (sym c.in-Rendered.is)) c.put_places.ensures

pub returns-in-Refused : goal.returns-in-Refused
unfolding add_all answer_part
returns-in-Refused c = same-part _ (ap answer_part (sym c.in-Refused.is)) c.put_number-in-Refused.ensures

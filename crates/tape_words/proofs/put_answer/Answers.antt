use Rattle.std.proofs.Common.{◌≡◌, ◌⊎◌, [], ◌∷◌, sym, ap, inl, inr}
use Rattle.event.specs.declared.EventId.{EventId}
use Rattle.event.specs.declared.Placings.{Placings}
use Rattle.sequencer.specs.declared.Answer.{Answer}
use Rattle.sequencer.specs.declared.Answer.TheVariants.{Number, Done, Rendered}
use Rattle.listing.specs.Ascii.{ascii}
use Rattle.listing.specs.Pieces.{add_all}
use Rattle.tape_words.specs.Words.{answer_text}
use Rattle.tape_words.specs.Joining.{one, named}
use borrow.Author.Rules.{rules}
use Rattle.tape_words.proofs.put_answer.Goals as goal

-- three answers are done
is_done : (told : Answer) → (told ≡ Done) ⊎ (((n : EventId) × (told ≡ Number n)) ⊎ ((p : Placings) × (told ≡ Rendered p))) → answer_text told ≡ ascii "done" ∷ []
unfolding answer_text
is_done told (inl e) = ap answer_text e
is_done told (inr (inl (n, e))) = ap answer_text e
is_done told (inr (inr (p, e))) = ap answer_text e

pub returns-in-Applied : goal.returns-in-Applied
unfolding add_all answer_text
returns-in-Applied c =
    named _ (ap answer_text (sym c.in-Applied.is)) c.put_bytes.ensures

pub returns-in-Past : goal.returns-in-Past
unfolding add_all answer_text
returns-in-Past c =
    named _ (ap answer_text (sym c.in-Past.is)) c.put_bytes-in-Past.ensures

pub returns-in-Stored : goal.returns-in-Stored
unfolding add_all answer_text
returns-in-Stored c =
    named _ (ap answer_text (sym c.in-Stored.is)) c.put_bytes-in-Stored.ensures

pub returns-in-Done : goal.returns-in-Done
unfolding add_all answer_text
returns-in-Done c =
    named _ (sym (is_done c.args.told c.in-Done.is)) c.put_bytes-in-Done.ensures

pub returns-in-Refused : goal.returns-in-Refused
unfolding add_all answer_text
returns-in-Refused c =
    named _ (ap answer_text (sym c.in-Refused.is)) c.put_bytes-in-Refused.ensures

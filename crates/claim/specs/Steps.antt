-- Every call, refused or not, keeps the relation, and gives back what the ledger's gives: the answer or refusal and the output. Assumes nothing.
use Rattle.ledger.specs.Calls.{Reply}
use Rattle.ledger.specs.Steps as Plain
use Rattle.ledger.specs.Claim.{SameReply}
use Rattle.sequencer.specs.declared.Sequencer.{Sequencer}
use Rattle.claim.specs.Related.{Related}

abbrev pub Keeps : Sequencer × Reply → Plain.Outcome → Type 0
Keeps a o = Related a.0 o.ledger × SameReply a.1 o.reply

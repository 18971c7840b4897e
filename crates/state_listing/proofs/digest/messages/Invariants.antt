-- `state_listing::digest::messages` meets its contract: what is left of the queue goes into the digest. Assumes nothing.
use Rattle.std.proofs.Common.{◌≡◌, ℕ, ◌-◌, min, rules}
use Rattle.realseq.specs.declared.queues.Messages.{Messages}
use Rattle.realseq.specs.Queues.{at}
use Rattle.digests.specs.Digests.{mixed_all}
use Rattle.state_listing.specs.Digests.{message_words, each}
use Rattle.state_listing.proofs.digest.messages.Given as goal

abbrev pub one : Messages → (i digest : ℕ) → ℕ
one q i d = mixed_all d (message_words (at q i))

abbrev pub invariant-loop-i : goal.invariant-loop-i
invariant-loop-i l = each (one l.q) (min l.q.count 64 - l.i) l.i l.digest ≡ each (one l.q) (min l.q.count 64) 0 0

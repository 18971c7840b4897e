-- `state_listing::digest::messages` meets its contract: what is left of the queue goes into the digest. Assumes nothing.
use Rattle.std.proofs.Common.{◌≤◌, min, sym, ◌∙◌, arith, rules}
use Rattle.state_listing.specs.Digests.{messages_digest}
use Rattle.state_listing.proofs.Folding.{starts, goes_on, ends}
use Rattle.state_listing.proofs.digest.messages.Goals as goal

pub loop-i-init : goal.loop-i-init
loop-i-init c = starts _ _

pub loop-i-preserved : goal.loop-i-preserved
loop-i-preserved c = goes_on _ _ _ _ _ (omega (arith, c.loop-i-test.true, c.min-i-end.ensures)) c.mixed_message-digest.ensures ∙ c.loop-i.invariant

pub returns : goal.returns
unfolding messages_digest
returns c =
    let l : min c.args.q.count 64 ≤ c.loop-i.i = omega (arith, c.loop-i-test.false, c.min-i-end.ensures) in
    sym (ends _ _ _ _ l) ∙ c.loop-i.invariant

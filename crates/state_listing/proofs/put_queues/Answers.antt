-- `state_listing::put_queues` meets its contract: part by part. Assumes nothing.
use Rattle.std.proofs.Common.{ℕ, List, ap, rules}
use Rattle.listing.specs.Ascii.{ascii}
use Rattle.state_listing.specs.Digests.{messages_digest, returned_digest}
use Rattle.state_listing.specs.Lines.{list_part, queue_parts}
use Rattle.state_listing.proofs.Parts.{join, same-part}
use Rattle.state_listing.proofs.put_queues.Goals as goal

pub returns : goal.returns
unfolding queue_parts
returns c =
    let b = c.args.d in
    let messages : ℕ → List (List ℕ) = list_part (ascii " messages=") b.messages.count in
    let returned : ℕ → List (List ℕ) = list_part (ascii " returned=") b.returned.count in
    join _ (messages (messages_digest b.messages)) (returned (returned_digest b.returned)) (same-part _ (ap messages c.messages.ensures) c.put_list-to.ensures)
    (same-part _ (ap returned c.returned.ensures) c.put_list.ensures)

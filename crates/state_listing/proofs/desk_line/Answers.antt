-- `state_listing::desk_line` meets its contract: kind, answer, state, queues, and the end. Assumes nothing.
use Rattle.std.proofs.Common.{[], ◌∷◌, ◌++◌, rules}
use Rattle.listing.specs.Ascii.{ascii}
use Rattle.listing.specs.Text.{digits}
use Rattle.listing.specs.Pieces.{add_all}
use Rattle.state_listing.specs.Lines.{desk_answer_part, state_parts, queue_parts, desk_line}
use Rattle.state_listing.proofs.Parts.{join}
use Rattle.state_listing.proofs.desk_line.Goals as goal

pub returns : goal.returns
unfolding add_all desk_line
returns c =
    let a = c.args in
    let state = state_parts a.d.sequencer in
    let queues = queue_parts a.d in
    let end = ascii "\n" ∷ [] in
    join _ (digits 16 2 a.kind ∷ []) (desk_answer_part a.answer ++ (state ++ (queues ++ end))) c.put_hex-to.ensures
    (join _ (desk_answer_part a.answer) (state ++ (queues ++ end)) c.put_desk_answer-to.ensures
    (join _ state (queues ++ end) c.put_state-to.ensures (join _ queues end c.put_queues-to.ensures c.put_bytes.ensures)))

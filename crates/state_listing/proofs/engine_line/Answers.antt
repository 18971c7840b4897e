-- `state_listing::engine_line` meets its contract: kind, answer, state, and the end. Assumes nothing.
use Rattle.std.proofs.Common.{[], ◌∷◌, ◌++◌, rules}
use Rattle.listing.specs.Ascii.{ascii}
use Rattle.listing.specs.Text.{digits}
use Rattle.listing.specs.Pieces.{add_all}
use Rattle.state_listing.specs.Lines.{answer_part, state_parts, engine_line}
use Rattle.state_listing.proofs.Parts.{join}
use Rattle.state_listing.proofs.engine_line.Goals as goal

pub returns : goal.returns
unfolding add_all engine_line
returns c =
    let a = c.args in
    let end = ascii "\n" ∷ [] in
    join _ (digits 16 2 a.kind ∷ []) (answer_part a.answer ++ (state_parts a.s ++ end)) c.put_hex-to.ensures
    (join _ (answer_part a.answer) (state_parts a.s ++ end) c.put_answer-to.ensures (join _ (state_parts a.s) end c.put_state-to.ensures c.put_bytes.ensures))

-- `sequencer::Sequencer::swap_remove` meets its contract.
use Rattle.std.proofs.Common.{lt-ltb, le-leb}
use Rattle.sequencer.specs.Moves.{swap_removed}
use Rattle.sequencer.proofs.Sequencer.swap_remove.Goals as goal

pub returns : goal.returns
unfolding swap_removed
returns c =
    let s = c.args.self in
    rw (lt-ltb c.args.i s.active_len c.requires.0, le-leb s.active_len 256 c.requires.1)

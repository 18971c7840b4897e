-- `runs::overlay_channels` meets its contract. Assumes nothing.
use native.Mathlib.Omega.{arith}
use Rattle.runs.proofs.Walks.{take-cut}
use Rattle.runs.proofs.overlay_channels.Goals as goal

pub returns : goal.returns
returns c =
    let run = c.args.run.now in
    rw (c.copy_rows.ensures, take-cut 64 c.min-n.result run (omega (arith, c.min-n.ensures)))

-- `runs::copy_rows` meets its contract. Assumes nothing.
use mathlib.Core.Path.{◌≡◌}
use Prim.Native.Nat.{◌+◌, ◌*◌}
use native.Mathlib.Omega.{arith}
use Rattle.runs.proofs.Rows.{rows_start, rows-turn, rows_done}
use Rattle.runs.proofs.copy_rows.Goals as goal

pub loop-channel-init : goal.loop-channel-init
loop-channel-init c = rows_start _ _

pub loop-channel-preserved : goal.loop-channel-preserved
loop-channel-preserved c =
    let r = c.copy_row in
    let i = c.loop-channel.invariant in
    let next : 64 * (c.loop-channel.channel + 1) ≡ 64 * c.loop-channel.channel + 64 = omega arith in
    rw next (rows-turn _ _ r.new.row i (omega (arith, i.long, c.loop-channel-test.true)) r.ensures r.auto.row)

pub returns : goal.returns
returns c = rows_done _ _ c.loop-channel.invariant (omega (arith, c.loop-channel.invariant.long, c.loop-channel-test.false))

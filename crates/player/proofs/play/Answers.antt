-- `player::play` meets its contract.
use mathlib.Core.Bool.{true}
use mathlib.Core.Path.{◌≡◌, ap, ◌∙◌}
use mathlib.Core.List.{List, ◌++◌}
use Prim.Native.Nat.{ℕ}
use lib.ListN.{length, drop}
use Rattle.sequencer.specs.declared.Sequencer.{Sequencer}
use Rattle.record_output.specs.declared.Form.TheVariants.{Bytes}
use Rattle.player.specs.declared.Played.{Played}
use Rattle.player.specs.Records.{ran}
use borrow.Author.Rules.{rules}
use Rattle.player.proofs.play.Goals as goal

pub returns : goal.returns
returns c =
    let a = c.args in
    let out = a.out.now in
    let n = c.run-p.result.used in
    let e = c.start.ensures in
    let g = c.run-p.ensures in
    record {
      value = ap (λ (p : Played). p.used) g.answer ∙ ap (λ (s : Sequencer). length (ran Bytes a.pool.now a.tape.now true s (record { at = 0; first = true }) (length out)).written) e;
      out_after = g.lent ∙ ap (λ (s : Sequencer). (ran Bytes a.pool.now a.tape.now true s (record { at = 0; first = true }) (length out)).written ++ drop n out) e;
    }

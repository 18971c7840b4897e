use Rattle.std.proofs.Common.{sym, ◌∙◌, map}
use Rattle.std.proofs.lemmas.Result.{err_from_is_err_and}
use Rattle.peak.specs.Peaks.{magnitude}
use Rattle.peak.proofs.Turns.{served_err}
use Rattle.peak.proofs.Rows.{feeding_turn, none-fed}
use Rattle.peak.proofs.RunningPeak.feed_run.Goals as goal

pub returns-in_err-p-clause-left : goal.returns-in_err-p-clause-left
returns-in_err-p-clause-left c =
    let p = err_from_is_err_and c.from_residual.result c.from_residual.ensures.1 in
    let s = served_err _ _ _ (sym c.served.ensures ∙ c.in_err-p.was) in
    rw (p.1, p.2, ← s.1) (none-fed _ (map magnitude c.args.samples.now) s.0)

pub loop-sample-preserved : goal.loop-sample-preserved
loop-sample-preserved c =
    feeding_turn _ _ _ c.loop-sample.invariant c.loop-sample-test.true (rw (← c.magnitude.ensures) c.advance-p.ensures)

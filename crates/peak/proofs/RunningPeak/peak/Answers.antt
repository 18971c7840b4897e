use Rattle.std.proofs.Common.{sym, ◌∙◌}
use Rattle.std.proofs.lemmas.Result.{err_from_is_err_and}
use Rattle.peak.specs.Steps.{reading}
use Rattle.peak.proofs.Turns.{served_ok, served_err}
use Rattle.peak.proofs.RunningPeak.peak.Goals as goal

pub returns-in_err-p : goal.returns-in_err-p
unfolding reading
returns-in_err-p c =
    let p = err_from_is_err_and c.from_residual.result c.from_residual.ensures.1 in
    let s = served_err _ _ _ (sym c.served.ensures ∙ c.in_err-p.was) in
    rw (p.1, p.2, s.0, ← s.1)

pub returns : goal.returns
unfolding reading
returns c =
    let s = served_ok _ _ _ (sym c.served.ensures ∙ c.in_ok-p.was) in
    rw (s.0, c.max.ensures, c.older.ensures, ← s.1)

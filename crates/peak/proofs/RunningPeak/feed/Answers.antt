use Rattle.std.proofs.Common.{sym, ◌∙◌}
use Rattle.std.proofs.lemmas.Result.{err_from_is_err_and}
use Rattle.peak.proofs.Turns.{served_ok, served_err, taken, left_alone}
use Rattle.peak.proofs.RunningPeak.feed.Goals as goal

pub returns-in_err-p-clause-left : goal.returns-in_err-p-clause-left
returns-in_err-p-clause-left c =
    let p = err_from_is_err_and c.from_residual.result c.from_residual.ensures.1 in
    let s = served_err _ _ _ (sym c.served.ensures ∙ c.in_err-p.was) in
    rw (p.1, p.2, ← s.1) (sym (left_alone _ _ s.0))

pub returns-clause-left : goal.returns-clause-left
returns-clause-left c =
    let s = served_ok _ _ _ (sym c.served.ensures ∙ c.in_ok-p.was) in
    rw (c.advance.ensures, c.magnitude.ensures, ← s.1) (sym (taken _ _ s.0))

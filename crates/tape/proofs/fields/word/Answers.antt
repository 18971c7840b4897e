use Rattle.std.proofs.Common.{ℕ, min, List, sym, ap, ◌∙◌}
use Rattle.tape.proofs.Rests.{rest_is}
use Rattle.tape.specs.Fields.{field, field_past}
use Rattle.tape.proofs.fields.word.Goals as goal

pub returns-then-bs-at : goal.returns-then-bs-at
returns-then-bs-at c = sym (field_past c.args.bs.now c.args.at _ c.if-bs-at.true)

pub returns : goal.returns
unfolding field
returns c = c.low.ensures ∙ ap (λ (l : List ℕ). field l 0 (min c.args.width 8)) (rest_is c.args.bs.now c.args.at)

use Rattle.std.proofs.Common.{sym, ◌∙◌, le-ltb, lt-ltb, eq-eqb, ne_eqb}
use Rattle.tape.specs.Tape.{unknown}
use Rattle.tape.proofs.reader.is_unknown.Goals as goal
use Rattle.tape.proofs.reader.is_unknown.Goals.{then-kind-eq0-via-then-kind-eq0, then-kind-eq0-via-else-kind-eq0+then-kind-gt12}

pub returns-then-kind-ne0 : goal.returns-then-kind-ne0
unfolding unknown
returns-then-kind-ne0 c = simp (c.if-first.true, sym c.byte-kind.ensures, ne_eqb _ _ c.if-kind-ne0.true)

pub returns-else-kind-ne0 : goal.returns-else-kind-ne0
unfolding unknown
returns-else-kind-ne0 c = simp (c.if-first.true, sym c.byte-kind.ensures, eq-eqb _ _ c.if-kind-ne0.false, sym c.byte.ensures)

pub returns-then-kind-eq0 : goal.returns-then-kind-eq0
unfolding unknown
returns-then-kind-eq0 c =
    let k = sym c.byte-kind.ensures in
    elim c.then-kind-eq0.branch [
      | then-kind-eq0-via-then-kind-eq0 w ↦ simp (c.if-first.false, k, eq-eqb _ _ w.if-kind-eq0.true)
      | then-kind-eq0-via-else-kind-eq0+then-kind-gt12 w ↦ simp (c.if-first.false, k, ne_eqb _ _ w.if-kind-eq0.false, lt-ltb _ _ w.if-kind-gt12.true)
    ]

pub returns-then-is_push : goal.returns-then-is_push
unfolding unknown
returns-then-is_push c =
    let k = sym c.byte-kind.ensures in
    let push = sym c.is_push.ensures ∙ c.if-is_push.true in
    simp (c.if-first.false, k, ne_eqb _ _ c.if-kind-eq0.false, le-ltb _ _ c.if-kind-gt12.false, push, sym c.is_unknown_push.ensures)

pub returns-else-is_push : goal.returns-else-is_push
unfolding unknown
returns-else-is_push c =
    let k = sym c.byte-kind.ensures in
    let push = sym c.is_push.ensures ∙ c.if-is_push.false in
    simp (c.if-first.false, k, ne_eqb _ _ c.if-kind-eq0.false, le-ltb _ _ c.if-kind-gt12.false, push, c.if-is_push.false)

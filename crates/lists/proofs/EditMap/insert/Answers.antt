use Rattle.std.proofs.Common.{sym, ◌∙◌, arith, le-ltb, lt-ltb}
use Rattle.lists.specs.Edits.{stored}
use Rattle.lists.specs.Rounds.{placed-inside}
use Rattle.lists.proofs.EditMap.insert.Goals as goal

pub offset_bounds-self-i : goal.offset_bounds-self-i
offset_bounds-self-i c =
    let s = c.args in
    let h = placed-inside s.self s.id c.in-Some.i (sym c.place.ensures ∙ c.in-Some.is) in omega arith

pub bounds-self-i : goal.bounds-self-i
bounds-self-i c =
    let s = c.args in
    let h = placed-inside s.self s.id c.in-Some.i (sym c.place.ensures ∙ c.in-Some.is) in omega arith

pub returns-in-Some : goal.returns-in-Some
unfolding stored
returns-in-Some c = rw (sym c.place.ensures ∙ c.in-Some.is)

pub returns-then-self-lt256 : goal.returns-then-self-lt256
unfolding stored
returns-then-self-lt256 c = rw ((sym c.place.ensures ∙ c.in-None.is), lt-ltb _ _ c.if-self-lt256.true)

pub returns-else-self-lt256 : goal.returns-else-self-lt256
unfolding stored
returns-else-self-lt256 c = rw ((sym c.place.ensures ∙ c.in-None.is), le-ltb _ _ c.if-self-lt256.false)

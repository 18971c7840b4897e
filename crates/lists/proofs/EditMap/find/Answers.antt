use Rattle.std.proofs.Common.{◌<◌, ◌≤◌, sym, ◌∙◌, arith}
use Rattle.lists.specs.Edits.{found_edit}
use Rattle.lists.specs.Rounds.{placed-inside}
use Rattle.lists.proofs.EditMap.find.Goals as goal

pub offset_bounds-self-i : goal.offset_bounds-self-i
offset_bounds-self-i c =
    let s = c.args in
    let h = placed-inside s.self s.id c.in-Some.i (sym c.place.ensures ∙ c.in-Some.is) in omega arith

pub bounds-self-i : goal.bounds-self-i
bounds-self-i c =
    let s = c.args in
    let h = placed-inside s.self s.id c.in-Some.i (sym c.place.ensures ∙ c.in-Some.is) in omega arith

pub returns-in-Some : goal.returns-in-Some
unfolding found_edit
returns-in-Some c = rw (sym c.place.ensures ∙ c.in-Some.is)

pub returns-in-None : goal.returns-in-None
unfolding found_edit
returns-in-None c = rw (sym c.place.ensures ∙ c.in-None.is)

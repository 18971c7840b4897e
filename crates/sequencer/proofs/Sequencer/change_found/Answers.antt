-- `sequencer::Sequencer::change_found` meets its contract. Assumes nothing.
use Rattle.std.proofs.Common.{◌<◌, sym, ◌∙◌, arith}
use Rattle.lists.specs.Rounds.{found_inside}
use Rattle.sequencer.specs.Edits.{index_of, changed, changed_by}
use Rattle.sequencer.proofs.Sequencer.change_found.Goals as goal
use Rattle.sequencer.proofs.Sequencer.change_found.Goals.{In-Some}

inside : (c : In-Some) → c.in-Some.i < 256
inside c =
    let h = found_inside (index_of c.args.self) c.args.id c.in-Some.i (sym c.requires ∙ c.in-Some.is) in
    omega (arith, h.0, h.1)

pub returns-then-edit-self : goal.returns-then-edit-self
unfolding changed changed_by
returns-then-edit-self c = rw (sym c.requires ∙ c.in-None.is, c.if-edit-self.true)

pub returns-in-Some : goal.returns-in-Some
unfolding changed changed_by
returns-in-Some c = rw (sym c.requires ∙ c.in-Some.is, c.edited.ensures)

pub returns-else-edit-self : goal.returns-else-edit-self
unfolding changed changed_by
returns-else-edit-self c = rw (sym c.requires ∙ c.in-None.is, c.if-edit-self.false, c.insert-self.ensures)

pub offset_bounds-self-i : goal.offset_bounds-self-i
offset_bounds-self-i c = let h = inside c in omega arith

pub bounds-self-i : goal.bounds-self-i
bounds-self-i c = let h = inside c in omega arith

pub offset_bounds-self-i-in-Some : goal.offset_bounds-self-i-in-Some
offset_bounds-self-i-in-Some c = let h = inside c.before.before in omega arith

pub bounds-self-i-in-Some : goal.bounds-self-i-in-Some
bounds-self-i-in-Some c = let h = inside c.before.before in omega arith

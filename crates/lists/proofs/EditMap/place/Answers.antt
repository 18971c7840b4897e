use Rattle.std.proofs.Common.{refl, sym, ◌∙◌, arith, le-leb}
use borrow.Author.Tests.{lt-leb}
use Rattle.lists.specs.Edits.{placed, is_edit, no_edit}
use Rattle.lists.specs.Rounds.{seeking_on, sought, sought_none}
use Rattle.lists.proofs.EditMap.place.Goals as goal

pub returns-then-self-gt256 : goal.returns-then-self-gt256
unfolding placed
returns-then-self-gt256 c = rw (lt-leb _ _ c.if-self-gt256.true)

pub loop-at-init : goal.loop-at-init
loop-at-init c = (c.if-self-gt256.false, record { fuel = c.args.self.len; exact = omega arith; gives = refl })

pub returns-then-eq : goal.returns-then-eq
unfolding placed
returns-then-eq c =
    rw (le-leb _ _ c.if-self-gt256.false)
    (sought no_edit (is_edit c.args.id) _ _ _ _ c.loop-at-test.true (sym c.eq.ensures ∙ c.if-eq.true) c.loop-at.invariant.1)

pub loop-at-preserved : goal.loop-at-preserved
loop-at-preserved c =
    (c.if-self-gt256.false, seeking_on no_edit (is_edit c.args.id) _ _ _ _ c.loop-at-test.true (sym c.eq.ensures ∙ c.if-eq.false) c.loop-at.invariant.1)

pub returns : goal.returns
unfolding placed
returns c = rw (le-leb _ _ c.if-self-gt256.false) (sought_none no_edit (is_edit c.args.id) _ _ _ _ c.loop-at-test.false c.loop-at.invariant.1)

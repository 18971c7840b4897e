use Rattle.std.proofs.Common.{refl, sym, ◌∙◌, arith, le-leb}
use borrow.Author.Tests.{lt-leb}
use Rattle.lists.specs.Index.{found_id, is_id, no_id}
use Rattle.lists.specs.Rounds.{seeking_on, sought, sought_none}
use Rattle.lists.proofs.ActiveMap.find.Goals as goal

pub returns-then-self-gt256 : goal.returns-then-self-gt256
unfolding found_id
returns-then-self-gt256 c = rw (lt-leb _ _ c.if-self-gt256.true)

pub loop-i-init : goal.loop-i-init
loop-i-init c = (c.if-self-gt256.false, record { fuel = c.args.self.len; exact = omega arith; gives = refl })

pub returns-then-eq : goal.returns-then-eq
unfolding found_id
returns-then-eq c =
    rw (le-leb _ _ c.if-self-gt256.false)
    (sought no_id (is_id c.args.id) _ _ _ _ c.loop-i-test.true (sym c.eq.ensures ∙ c.if-eq.true) c.loop-i.invariant.1)

pub loop-i-preserved : goal.loop-i-preserved
loop-i-preserved c =
    (c.if-self-gt256.false, seeking_on no_id (is_id c.args.id) _ _ _ _ c.loop-i-test.true (sym c.eq.ensures ∙ c.if-eq.false) c.loop-i.invariant.1)

pub returns : goal.returns
unfolding found_id
returns c = rw (le-leb _ _ c.if-self-gt256.false) (sought_none no_id (is_id c.args.id) _ _ _ _ c.loop-i-test.false c.loop-i.invariant.1)

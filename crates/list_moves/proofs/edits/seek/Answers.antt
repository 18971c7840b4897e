-- `list_moves::edits::seek` meets its contract.
use Rattle.std.proofs.Common.{ℕ, get_or, refl, ap, ◌∙◌, arith, eq-eqb, ne_eqb, le-leb}
use borrow.Author.Tests.{lt-leb}
use Rattle.lists.specs.Index.{is_id, no_id}
use Rattle.lists.specs.Rounds.{seeking_on, sought, sought_none}
use Rattle.memory.specs.Rows.{rows_get}
use Rattle.memory.specs.Edits.{id_of}
use Rattle.list_moves.proofs.edits.seek.Goals as goal

pub returns-then-n-gt-ROOM : goal.returns-then-n-gt-ROOM
returns-then-n-gt-ROOM c = rw (lt-leb _ _ c.if-n-gt-ROOM.true)

pub loop-i-init : goal.loop-i-init
loop-i-init c = (c.if-n-gt-ROOM.false, record { fuel = c.args.n; exact = omega arith; gives = refl })

pub returns-then-numbers-first : goal.returns-then-numbers-first
returns-then-numbers-first c =
    let v = c.loop-i.invariant in
    let a = c.args in
    let t = c.loop-i-test.true in
    rw (le-leb _ _ v.0)
    (sought no_id (is_id (id_of a.id)) _ _ _ _ t (ap (is_id (id_of a.id)) (rows_get (λ (p : ℕ). id_of (get_or a.numbers.now p 0)) a.first 256 _ no_id (omega (arith, t, v.0))) ∙ eq-eqb _ _ c.if-numbers-first.true) v.1)

pub loop-i-preserved : goal.loop-i-preserved
loop-i-preserved c =
    let v = c.loop-i.invariant in
    let a = c.args in
    let t = c.loop-i-test.true in (
      v.0,
      seeking_on no_id (is_id (id_of a.id)) _ _ _ _ t (ap (is_id (id_of a.id)) (rows_get (λ (p : ℕ). id_of (get_or a.numbers.now p 0)) a.first 256 _ no_id (omega (arith, t, v.0))) ∙ ne_eqb _ _ c.if-numbers-first.false) v.1,
    )

pub returns : goal.returns
returns c = rw (le-leb _ _ c.loop-i.invariant.0) (sought_none no_id (is_id (id_of c.args.id)) _ _ _ _ c.loop-i-test.false c.loop-i.invariant.1)

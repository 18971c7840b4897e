-- `batch::stop_of` meets its contract. Assumes nothing.
use borrow.Author.Rules.{rules}
use borrow.Author.Tests.{lt-ltb, le-ltb, eq-eqb, ne_eqb, not-true, not-false}
use mathlib.Core.Bool.{not, cond}
use mathlib.Core.Path.{◌≡◌, sym, ap, ◌∙◌}
use lib.Dec.{ltb}
use lib.ListN.{length}
use Rattle.tape.specs.Tape.{kind_of, push_kind, unknown_push, size_of}
use Rattle.batch.specs.Records.{stop_of}
use Rattle.batch.proofs.stop_of.Goals as goal
use Rattle.batch.proofs.stop_of.Goals.{then-not-is_push-via-then-not-is_push, then-not-is_push-via-else-not-is_push+then-is_unknown_push}

pub returns-then-is_empty : goal.returns-then-is_empty
unfolding stop_of
returns-then-is_empty c = rw (sym c.is_empty.ensures ∙ c.if-is_empty.true)

pub returns-then-not-is_push : goal.returns-then-not-is_push
unfolding stop_of
returns-then-not-is_push c =
    elim c.then-not-is_push.branch [
      | then-not-is_push-via-then-not-is_push w ↦ rw (sym c.is_empty.ensures ∙ c.if-is_empty.false, ← c.byte-kind.ensures, sym c.is_push.ensures ∙ not-true _ w.if-not-is_push.true-raw)
      | then-not-is_push-via-else-not-is_push+then-is_unknown_push w ↦
          rw (sym c.is_empty.ensures ∙ c.if-is_empty.false, ← c.byte-kind.ensures, sym c.is_push.ensures ∙ not-false _ w.if-not-is_push.false-raw, sym w.is_unknown_push.ensures ∙ w.if-is_unknown_push.true)
    ]

pub returns-then-bs-size_of : goal.returns-then-bs-size_of
unfolding stop_of
returns-then-bs-size_of c =
    rw (
      sym c.is_empty.ensures ∙ c.if-is_empty.false,
      ← c.byte-kind.ensures,
      sym c.is_push.ensures ∙ not-false _ c.if-not-is_push.false-raw,
      sym c.is_unknown_push.ensures ∙ c.if-is_unknown_push.false,
      ← c.size_of.ensures,
      lt-ltb _ _ c.if-bs-size_of.true,
    )

pub returns : goal.returns
unfolding stop_of
returns c =
    rw (
      sym c.is_empty.ensures ∙ c.if-is_empty.false,
      ← c.byte-kind.ensures,
      sym c.is_push.ensures ∙ not-false _ c.if-not-is_push.false-raw,
      sym c.is_unknown_push.ensures ∙ c.if-is_unknown_push.false,
      ← c.size_of.ensures,
      le-ltb _ _ c.if-bs-size_of.false,
    )

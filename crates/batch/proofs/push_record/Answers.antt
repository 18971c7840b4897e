-- `batch::push_record` meets its contract: a record stops the run, or it is a push.
use mathlib.Core.Path.{◌≡◌, sym, ap, ◌∙◌}
use borrow.Author.Tests.{eq-eqb, ne_eqb}
use lib.Dec.{eqb}
use Prim.Native.Nat.{ℕ}
use Rattle.memory.specs.Memory.{cells_of, engine_of}
use Rattle.tape.specs.Tape.{plain_kind}
use Rattle.apply.specs.Applying.{push_kind_of}
use Rattle.live.specs.CallContracts.{timed}
use Rattle.batch.proofs.Running.{stops-one, pushed-one}
use Rattle.batch.proofs.push_record.Goals as goal

pub returns-then-stop-ne0 : goal.returns-then-stop-ne0
returns-then-stop-ne0 c =
    let a = c.args in
    let h = sym (ap (λ (k : ℕ). eqb k 0) c.stop_of-stop.ensures) ∙ ne_eqb _ 0 c.if-stop-ne0.true in
    let r = stops-one a.bs.now (engine_of (cells_of a.times.now a.levels.now a.marks.now a.numbers.now)) h in
    record { engine = r.0; answer = c.stop_of-stop.ensures ∙ r.1 }

pub returns : goal.returns
returns c =
    let a = c.args in
    let h = sym (ap (λ (k : ℕ). eqb k 0) c.stop_of-stop.ensures) ∙ eq-eqb _ 0 c.if-stop-ne0.false in
    let k = c.timing_of.ensures ∙ ap push_kind_of (c.plain_kind-kind.ensures ∙ ap plain_kind c.byte.ensures) in
    let r = pushed-one a.bs.now (engine_of (cells_of a.times.now a.levels.now a.marks.now a.numbers.now)) _ _ (timed c.timing_of.result) c.push_of-p.result _ h k
    c.push_of-p.ensures c.push-answer.ensures.engine c.push-answer.ensures.answer c.refusal.ensures in
    record { engine = r.0; answer = r.1 }

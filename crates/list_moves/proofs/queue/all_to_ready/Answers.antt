-- `list_moves::queue::all_to_ready` meets its contract.
use Rattle.std.proofs.Common.{ℕ, ◌+◌, min, refl, ap, ◌∙◌, arith}
use Rattle.sequencer.specs.Turns.{readying_on, readied_all}
use Rattle.memory.specs.Memory.{cells_of, engine_of}
use Rattle.memory.specs.Laws.{counts_are}
use Rattle.list_moves.proofs.queue.all_to_ready.Goals as goal

pub overflow_add-n : goal.overflow_add-n
overflow_add-n c = omega (arith, c.min-past.ensures, c.min.ensures)

pub loop-k-init : goal.loop-k-init
loop-k-init c = (omega (arith, c.min-past.ensures), omega (arith, c.min.ensures), record { fuel = c.min-past.result + c.min.result; exact = omega arith; gives = refl })

pub held_event-event-requires : goal.held_event-event-requires
held_event-event-requires c = let l = c.loop-k.invariant in let t = c.loop-k-test.true in (l.0, omega (arith, l.1))

pub loop-k-preserved : goal.loop-k-preserved
loop-k-preserved c =
    let l = c.loop-k in
    (l.invariant.0, l.invariant.1, readying_on _ _ _ _ _ _ _ c.held_event-event.ensures c.wait.ensures.engine c.loop-k-test.true l.invariant.2)

pub returns : goal.returns
returns c =
    let a = c.args in
    let c₀ = cells_of a.times.now a.levels.now a.marks.now a.numbers.now in
    c.clear_lists.ensures ∙ readied_all (engine_of c₀) (c.min-past.ensures ∙ ap (λ (m : ℕ). min m 256) (counts_are c₀).2) (c.min.ensures ∙ ap (λ (m : ℕ). min m 256) (counts_are c₀).1) refl c.loop-k-test.false c.loop-k.invariant.2

-- `sequencer::Sequencer::all_to_ready` meets its contract.
use Rattle.std.proofs.Common.{◌≡◌, ◌+◌, refl, ◌∙◌, arith, le-ltb, lt-ltb}
use Rattle.sequencer.specs.Moves.{held_at}
use Rattle.sequencer.specs.Turns.{readying_on, readied_all}
use Rattle.sequencer.proofs.Sequencer.all_to_ready.Goals as goal
use Rattle.sequencer.proofs.Sequencer.all_to_ready.Goals.{Joined-i-past, then-i-past, else-i-past}

-- the event that the code takes is that of the definition
taken : (c : Joined-i-past) → c.if-i-past.event ≡ held_at c.min-past.result c.loop-i.self c.loop-i.i
taken c =
    let i = c.loop-i.i in
    let p = c.min-past.result in
    elim c.if-i-past.branch [
      | then-i-past w ↦ w.event-is ∙ rw (lt-ltb i p w.if-i-past.true)
      | else-i-past w ↦ w.event-is ∙ rw (le-ltb i p w.if-i-past.false)
    ]

pub overflow_add-n : goal.overflow_add-n
overflow_add-n c = omega (arith, c.min-past.ensures, c.min.ensures)

pub loop-i-init : goal.loop-i-init
loop-i-init c = (
  omega (arith, c.min-past.ensures),
  omega (arith, c.min.ensures),
  record { fuel = c.min-past.result + c.min.result; exact = omega arith; gives = refl },
)

pub loop-i-preserved : goal.loop-i-preserved
loop-i-preserved c =
    let l = c.loop-i in
    (l.invariant.0, l.invariant.1, readying_on _ _ _ _ _ _ _ (taken c.before) c.push_ready-self.ensures c.loop-i-test.true l.invariant.2)

pub returns : goal.returns
returns c = readied_all c.args.self c.min-past.ensures c.min.ensures refl c.loop-i-test.false c.loop-i.invariant.2

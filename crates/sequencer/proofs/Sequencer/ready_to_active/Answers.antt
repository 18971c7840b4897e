-- `sequencer::Sequencer::ready_to_active` meets its contract.
use Rattle.std.proofs.Common.{◌≡◌, ◌<◌, sym, refl, ap, ◌∙◌, subst, arith}
use Rattle.std.specs.Prelude.{slice_index_or}
use borrow.Author.Tests.{not-true, not-false}
use lib.Ieee.{of_bits}
use Rattle.event.specs.Blank.{blank}
use Rattle.sequencer.specs.declared.Sequencer.{Sequencer}
use Rattle.sequencer.specs.Moves.{ready_to_active}
use Rattle.sequencer.specs.Turns.{Activating, activated_len, activated-none, activated-beyond, activated-late, activating_on}
use Rattle.sequencer.proofs.Sequencer.ready_to_active.Goals as goal

carried : {a b r : Sequencer} → a ≡ b → Activating b r → Activating a r
carried {a} {b} {r} h w = subst (λ (x : Sequencer). Activating x r) (sym h) w

pub loop-self-init : goal.loop-self-init
unfolding ready_to_active
loop-self-init c = record { fuel = c.args.self.ready_len; enough = omega arith; gives = refl }

pub loop-self-smaller : goal.loop-self-smaller
loop-self-smaller c =
    let s = c.loop-self.self in
    let some : 0 < s.ready_len = omega (arith, c.loop-self-test.true) in
    let e = ap (λ (x : Sequencer). x.ready_len) c.start_first-self.ensures ∙ activated_len s (slice_index_or s.ready 0 blank) some c.if-self-gt256.false in
    omega (arith, some, e)

pub loop-self-preserved : goal.loop-self-preserved
loop-self-preserved c =
    let l = c.loop-self in
    let some : 0 < l.self.ready_len = omega (arith, c.loop-self-test.true) in
    carried c.start_first-self.ensures (activating_on l.self _ some c.if-self-gt256.false (not-false _ c.if-not-first-self.false-raw) l.invariant)

pub returns-after-loop-self : goal.returns-after-loop-self
unfolding of_bits
returns-after-loop-self c = activated-none _ _ c.loop-self-test.false c.loop-self.invariant

pub returns-then-self-gt256 : goal.returns-then-self-gt256
unfolding of_bits
returns-then-self-gt256 c = activated-beyond _ _ c.if-self-gt256.true c.loop-self.invariant

pub returns-then-not-first-self : goal.returns-then-not-first-self
unfolding of_bits
returns-then-not-first-self c = activated-late _ _ (not-true _ c.if-not-first-self.true-raw) c.loop-self.invariant

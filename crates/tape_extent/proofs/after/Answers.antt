-- `tape_extent::after` meets its contract. Assumes nothing.
use Rattle.std.proofs.Common.{◌≡◌, sym, ap, ◌∙◌}
use lib.Ieee.{of_bits}
use Rattle.tape.specs.declared.reader.Call.{Call}
use Rattle.tape_extent.specs.declared.Pace.{Pace}
use Rattle.tape_extent.specs.declared.Paced.{Paced}
use Rattle.tape_extent.specs.Paces.{soundless, paced}
use mathlib.Core.Logic.{inl, inr}
use Rattle.tape_extent.proofs.after.Goals as goal

-- what an arm shows of its call m holds of the call that came
of_arm : (p : Pace) {call m : Call} {a : Paced} → call ≡ m → a ≡ paced p m → a ≡ paced p call
of_arm p t q = q ∙ sym (ap (paced p) t)

pub returns-in-Create : goal.returns-in-Create
unfolding paced
returns-in-Create c = of_arm c.args.p c.in-Create.is c.create.ensures

pub returns-in-Push : goal.returns-in-Push
unfolding paced
returns-in-Push c =
    let p = c.args.p in
    let q = c.without_samples.ensures in
    elim c.in-Push.is [
      | inl x ↦ of_arm p x.1 q
      | inr r ↦ elim r [ inl x ↦ of_arm p x.1 q | inr r ↦ elim r [ inl x ↦ of_arm p x.1 q | inr r ↦ elim r [ inl x ↦ of_arm p x.1 q | inr x ↦ of_arm p x.1 q ] ] ]
    ]

pub returns-in-Tick : goal.returns-in-Tick
returns-in-Tick c = of_arm c.args.p c.in-Tick.is c.tick.ensures

pub returns-in-Process : goal.returns-in-Process
returns-in-Process c = of_arm c.args.p c.in-Process.is c.block.ensures

pub returns-in-Reset : goal.returns-in-Reset
unfolding paced of_bits
returns-in-Reset c = of_arm c.args.p c.in-Reset.is (c.without_samples-in-Reset.ensures ∙ ap soundless c.pace_at.ensures)

pub returns-in-SetSampleRate : goal.returns-in-SetSampleRate
returns-in-SetSampleRate c = of_arm c.args.p c.in-SetSampleRate.is c.set_rate.ensures

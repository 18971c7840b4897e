-- `apply::apply` meets its contract: one law for every arm. Assumes nothing.
use mathlib.Core.Path.{◌≡◌, refl, sym, ap, ◌∙◌}
use mathlib.Core.List.{List}
use lib.Ieee.{Float}
use Rattle.sequencer.specs.declared.Sequencer.{Sequencer}
use Rattle.tape.specs.declared.reader.Call.{Call}
use Rattle.apply.specs.declared.Applied.{Applied}
use Rattle.apply.specs.Applying.{silent, silent_of, applied_to, applied_out}
use Rattle.apply.proofs.apply.Goals as goal

-- what an arm shows of its call m holds of the call that came
value_of : (pool : List Float) (s : Sequencer) (out : List Float) {call m : Call} {a : Applied} → call ≡ m → a ≡ applied_to pool s m out → a ≡ applied_to pool s call out
value_of pool s out t p = p ∙ sym (ap (λ (x : Call). applied_to pool s x out) t)

out_of : (pool : List Float) (s : Sequencer) (out : List Float) {call m : Call} {o : List Float} → call ≡ m → o ≡ applied_out pool s m out → o ≡ applied_out pool s call out
out_of pool s out t p = p ∙ sym (ap (λ (x : Call). applied_out pool s x out) t)

pub returns-in-Create : goal.returns-in-Create
unfolding applied_to applied_out
returns-in-Create c =
    record { value = value_of c.args.pool.now c.args.s c.args.out.now c.in-Create.is (c.silent.ensures ∙ (λ i. silent_of (c.new.ensures i))); out_after = out_of c.args.pool.now c.args.s c.args.out.now c.in-Create.is refl }

pub returns-in-Push : goal.returns-in-Push
unfolding applied_to applied_out
returns-in-Push c =
    record { value = value_of c.args.pool.now c.args.s c.args.out.now c.in-Push.is (c.silent-in-Push.ensures ∙ (λ i. silent_of (c.push.ensures i))); out_after = out_of c.args.pool.now c.args.s c.args.out.now c.in-Push.is refl }

pub returns-in-PushRelative : goal.returns-in-PushRelative
unfolding applied_to applied_out
returns-in-PushRelative c =
    record { value = value_of c.args.pool.now c.args.s c.args.out.now c.in-PushRelative.is (c.silent-in-PushRelative.ensures ∙ (λ i. silent_of (c.push-in-PushRelative.ensures i))); out_after = out_of c.args.pool.now c.args.s c.args.out.now c.in-PushRelative.is refl }

pub returns-in-PushDuration : goal.returns-in-PushDuration
unfolding applied_to applied_out
returns-in-PushDuration c =
    record { value = value_of c.args.pool.now c.args.s c.args.out.now c.in-PushDuration.is (c.silent-in-PushDuration.ensures ∙ (λ i. silent_of (c.push-in-PushDuration.ensures i))); out_after = out_of c.args.pool.now c.args.s c.args.out.now c.in-PushDuration.is refl }

pub returns-in-Edit : goal.returns-in-Edit
unfolding applied_to applied_out
returns-in-Edit c =
    record { value = value_of c.args.pool.now c.args.s c.args.out.now c.in-Edit.is (c.silent-in-Edit.ensures ∙ (λ i. silent_of (c.edit.ensures i))); out_after = out_of c.args.pool.now c.args.s c.args.out.now c.in-Edit.is refl }

pub returns-in-EditRelative : goal.returns-in-EditRelative
unfolding applied_to applied_out
returns-in-EditRelative c =
    record { value = value_of c.args.pool.now c.args.s c.args.out.now c.in-EditRelative.is (c.silent-in-EditRelative.ensures ∙ (λ i. silent_of (c.edit_relative.ensures i))); out_after = out_of c.args.pool.now c.args.s c.args.out.now c.in-EditRelative.is refl }

pub returns-in-Tick : goal.returns-in-Tick
unfolding applied_to applied_out
returns-in-Tick c =
    record { value = value_of c.args.pool.now c.args.s c.args.out.now c.in-Tick.is c.tick.ensures.value; out_after = out_of c.args.pool.now c.args.s c.args.out.now c.in-Tick.is c.tick.ensures.out_after }

pub returns-in-Process : goal.returns-in-Process
unfolding applied_to applied_out
returns-in-Process c =
    record { value = value_of c.args.pool.now c.args.s c.args.out.now c.in-Process.is c.process.ensures.value; out_after = out_of c.args.pool.now c.args.s c.args.out.now c.in-Process.is c.process.ensures.out_after }

pub returns-in-Reset : goal.returns-in-Reset
unfolding applied_to applied_out
returns-in-Reset c =
    record { value = value_of c.args.pool.now c.args.s c.args.out.now c.in-Reset.is ((λ i. silent (c.reset.ensures i) 0)); out_after = out_of c.args.pool.now c.args.s c.args.out.now c.in-Reset.is refl }

pub returns-in-SetSampleRate : goal.returns-in-SetSampleRate
unfolding applied_to applied_out
returns-in-SetSampleRate c =
    record { value = value_of c.args.pool.now c.args.s c.args.out.now c.in-SetSampleRate.is (c.silent-in-SetSampleRate.ensures ∙ (λ i. silent_of (c.set_sample_rate.ensures i))); out_after = out_of c.args.pool.now c.args.s c.args.out.now c.in-SetSampleRate.is refl }

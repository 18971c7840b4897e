-- `live_apply::carry_out` meets its contract: one law for every arm.
use Rattle.std.proofs.Common.{refl}
use Rattle.apply.specs.Applying.{applied_to, applied_out}
use Rattle.memory.specs.Memory.{cells_of, engine_of}
use Rattle.live_apply.proofs.Carried.{of_arm, silent-left}
use Rattle.live_apply.proofs.carry_out.Goals as goal

pub returns-in-Create : goal.returns-in-Create
unfolding applied_to applied_out
returns-in-Create c =
    let a = c.args in
    let r = of_arm a.pool.now (engine_of (cells_of a.times.now a.levels.now a.marks.now a.numbers.now)) a.kind a.samples.now c.in-Create.is
    (c.create-answer.ensures.engine, (silent-left _ c.silent.ensures c.create-answer.ensures.answer, refl)) in
    record { engine = r.0; answer = r.1.0; samples = r.1.1 }

pub returns-in-Push : goal.returns-in-Push
unfolding applied_to applied_out
returns-in-Push c =
    let a = c.args in
    let r = of_arm a.pool.now (engine_of (cells_of a.times.now a.levels.now a.marks.now a.numbers.now)) a.kind a.samples.now c.in-Push.is
    (c.push-answer.ensures.engine, (silent-left _ c.silent-in-Push.ensures c.push-answer.ensures.answer, refl)) in
    record { engine = r.0; answer = r.1.0; samples = r.1.1 }

pub returns-in-PushRelative : goal.returns-in-PushRelative
unfolding applied_to applied_out
returns-in-PushRelative c =
    let a = c.args in
    let r = of_arm a.pool.now (engine_of (cells_of a.times.now a.levels.now a.marks.now a.numbers.now)) a.kind a.samples.now c.in-PushRelative.is
    (c.push-answer-in-PushRelative.ensures.engine, (silent-left _ c.silent-in-PushRelative.ensures c.push-answer-in-PushRelative.ensures.answer, refl)) in
    record { engine = r.0; answer = r.1.0; samples = r.1.1 }

pub returns-in-PushDuration : goal.returns-in-PushDuration
unfolding applied_to applied_out
returns-in-PushDuration c =
    let a = c.args in
    let r = of_arm a.pool.now (engine_of (cells_of a.times.now a.levels.now a.marks.now a.numbers.now)) a.kind a.samples.now c.in-PushDuration.is
    (c.push-answer-in-PushDuration.ensures.engine, (silent-left _ c.silent-in-PushDuration.ensures c.push-answer-in-PushDuration.ensures.answer, refl)) in
    record { engine = r.0; answer = r.1.0; samples = r.1.1 }

pub returns-in-Edit : goal.returns-in-Edit
unfolding applied_to applied_out
returns-in-Edit c =
    let a = c.args in
    let r = of_arm a.pool.now (engine_of (cells_of a.times.now a.levels.now a.marks.now a.numbers.now)) a.kind a.samples.now c.in-Edit.is
    (c.edit.ensures.engine, (silent-left _ c.silent-in-Edit.ensures c.edit.ensures.answer, refl)) in
    record { engine = r.0; answer = r.1.0; samples = r.1.1 }

pub returns-in-EditRelative : goal.returns-in-EditRelative
unfolding applied_to applied_out
returns-in-EditRelative c =
    let a = c.args in
    let r = of_arm a.pool.now (engine_of (cells_of a.times.now a.levels.now a.marks.now a.numbers.now)) a.kind a.samples.now c.in-EditRelative.is
    (c.edit_relative.ensures.engine, (silent-left _ c.silent-in-EditRelative.ensures c.edit_relative.ensures.answer, refl)) in
    record { engine = r.0; answer = r.1.0; samples = r.1.1 }

pub returns-in-Tick : goal.returns-in-Tick
unfolding applied_to applied_out
returns-in-Tick c =
    let a = c.args in
    let r = of_arm a.pool.now (engine_of (cells_of a.times.now a.levels.now a.marks.now a.numbers.now)) a.kind a.samples.now c.in-Tick.is
    (c.tick.ensures.engine, (c.tick.ensures.answer, c.tick.ensures.samples)) in
    record { engine = r.0; answer = r.1.0; samples = r.1.1 }

pub returns-in-Process : goal.returns-in-Process
unfolding applied_to applied_out
returns-in-Process c =
    let a = c.args in
    let r = of_arm a.pool.now (engine_of (cells_of a.times.now a.levels.now a.marks.now a.numbers.now)) a.kind a.samples.now c.in-Process.is
    (c.process.ensures.engine, (c.process.ensures.answer, c.process.ensures.samples)) in
    record { engine = r.0; answer = r.1.0; samples = r.1.1 }

pub returns-in-Reset : goal.returns-in-Reset
unfolding applied_to applied_out
returns-in-Reset c =
    let a = c.args in
    let r = of_arm a.pool.now (engine_of (cells_of a.times.now a.levels.now a.marks.now a.numbers.now)) a.kind a.samples.now c.in-Reset.is
    (c.reset.ensures, (c.silent-in-Reset.ensures, refl)) in
    record { engine = r.0; answer = r.1.0; samples = r.1.1 }

pub returns-in-SetSampleRate : goal.returns-in-SetSampleRate
unfolding applied_to applied_out
returns-in-SetSampleRate c =
    let a = c.args in
    let r = of_arm a.pool.now (engine_of (cells_of a.times.now a.levels.now a.marks.now a.numbers.now)) a.kind a.samples.now c.in-SetSampleRate.is
    (c.set_sample_rate-answer.ensures.engine, (silent-left _ c.silent-in-SetSampleRate.ensures c.set_sample_rate-answer.ensures.answer, refl)) in
    record { engine = r.0; answer = r.1.0; samples = r.1.1 }

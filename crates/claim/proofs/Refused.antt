-- A refused call changes nothing, on every engine value, reached or not: the engine comes back as it was, and so does all that was lent. Assumes nothing.
use Rattle.std.specs.Prelude.{ℕ, ◌+◌, min, Bool, true, false, cond, ◌≡◌, refl, List, [], eqb, Float, length}
use Rattle.std.proofs.Common.{sym, ap, ◌∙◌, arith}
use Rattle.std.proofs.Math.Option.{none, some}
use Rattle.event.specs.declared.Edit.{Edit}
use Rattle.event.specs.declared.EventId.{EventId}
use Rattle.floats.specs.Arithmetic.{◌-ᵈ◌, ◌<ᶠ◌}
use Rattle.ledger.specs.Calls.{Call, push, edit, tick, block, rate, reset, refused}
use Rattle.ledger.specs.Refusals.{stated_end, edit_end}
use Rattle.ledger.specs.Steps.{pushed_time}
use Rattle.ledger.specs.Refused.{refused_with}
use Rattle.refusals.specs.Refusals.{push_refusal, edit_refusal, tick_refusal, process_refusal, rate_refusal}
use Rattle.std.specs.declared.option.Option.{Option as Found}
use Rattle.std.specs.declared.option.Option.TheVariants.{Some, None}
use Rattle.sequencer.specs.declared.Sequencer.{Sequencer}
use Rattle.sequencer.specs.declared.Outcome.{Outcome}
use Rattle.sequencer.specs.Answers.{answer_of, accepts}
use Rattle.sequencer.specs.Outcomes.{renders, refuses}
use Rattle.sequencer.specs.Pushes.{admitted, pushes_to, pushes}
use Rattle.sequencer.specs.Edits.{changed_by, changed, amended, edits}
use Rattle.sequencer.specs.Readers.{place_in}
use Rattle.sequencer.specs.Rendering.{rendered_tick, rendered_tick_out, ticks, tick_outs, rendered_block, rendered_places, rendered_block_out, blocks, block_outs}
use Rattle.sequencer.specs.Resets.{re_rated, rates}
use Rattle.claim.specs.EngineCalls.{gives, engine_call}
use Rattle.claim.specs.Refused.{Unchanged}

-- a call that carries out `o` where its test passes and is refused where not, with output `f` of the test
by_test : (s : Sequencer) (k n : ℕ) (b : Bool) (o : Outcome) (f : Bool → List Float) → refused_with (answer_of o.answer) ≡ none
    → (let r = gives (cond b o (refuses s n)) (f b) in r.1.answer ≡ refused k → (r.0 ≡ s) × (r.1.out ≡ f false))
by_test s k n true o f free h = absurd (let z : some k ≡ none = ap refused_with (sym h) ∙ free in let w : ◌≡◌ {A = ℕ} 0 1 = cc in omega arith)
by_test s k n false o f free h = (refl, refl)

changed_free : (s : Sequencer) (k : EventId) (d : Edit) (f : Found ℕ) (over : Bool) → refused_with (answer_of (changed_by s k d f over).answer) ≡ none
unfolding changed_by
changed_free s k d (Some i) over = refl
changed_free s k d None true = refl
changed_free s k d None false = refl

pub refused-unchanged : (s : Sequencer) (c : Call) (k : ℕ) → (engine_call s c).1.answer ≡ refused k → Unchanged s c (engine_call s c)
unfolding pushes pushes_to admitted edits amended changed ticks tick_outs blocks block_outs rates
refused-unchanged s (push kind start end fade_in fade_out curve source gain) k h =
    let held = min (s.ready_len + (s.active_len + s.past_len)) 256 in
    let n = push_refusal start end (stated_end kind start end -ᵈ start) fade_in fade_out source gain held s.next in
    let t = s.time in
    by_test s k n (eqb n 0) (admitted s (pushed_time kind t start) (pushed_time kind t (stated_end kind start end)) curve fade_in fade_out source gain) (λ b. []) refl h
refused-unchanged s (edit kind m end fade_out) k h =
    let id : EventId = record { 0 = m } in
    let until = edit_end kind s.time end in
    let d : Edit = record { end_time = until; fade_out = fade_out } in
    let n = edit_refusal (place_in s id) s.edit_map s.active_threshold id end until fade_out in
    by_test s k n (eqb n 0) (changed s id d) (λ b. []) (changed_free s id d (place_in s id) (until <ᶠ s.active_threshold)) h
refused-unchanged s (tick order pool out) k h =
    let n = tick_refusal (length out) s.outputs s.time s.sample_duration in
    by_test s k n (eqb n 0) (accepts (rendered_tick order pool s)) (λ b. cond b (rendered_tick_out order pool s out) out) refl h
refused-unchanged s (block order m pool out scratch) k h =
    let n = process_refusal m (length out) s.outputs s.time s.sample_duration in
    by_test s k n (eqb n 0) (renders (rendered_block order pool m s) (rendered_places order m s)) (λ b. cond b (rendered_block_out order pool m s out) out) refl h
refused-unchanged s (rate r) k h = by_test s k (rate_refusal r) (eqb (rate_refusal r) 0) (accepts (re_rated s r)) (λ b. []) refl h
refused-unchanged s reset k h = absurd (let z : none ≡ some k = ap refused_with h in let w : ◌≡◌ {A = ℕ} 0 1 = cc in omega arith)

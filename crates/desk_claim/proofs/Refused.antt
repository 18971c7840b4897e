-- A refused call of the desk changes nothing, on every desk value, reached or not: the desk comes back as it was, queues and all, and so does what was lent. Assumes nothing.
use Rattle.std.specs.Prelude.{ℕ, Bool, true, false, cond, ◌≡◌, refl, List, [], leb, eqb, Float, length}
use Rattle.std.proofs.Common.{sym, ap, ◌∙◌, arith}
use Rattle.std.proofs.Math.Option.{none, some}
use Rattle.event.specs.declared.Edit.{Edit}
use Rattle.event.specs.Events.{new_event}
use Rattle.floats.specs.Arithmetic.{◌-ᵈ◌}
use Rattle.desk.specs.Relative.{is_relative, end_relative}
use Rattle.ledger.specs.Refusals.{stated_end}
use Rattle.refusals.specs.Refusals.{rate_refusal}
use Rattle.sequencer.specs.Rendering.{rendered_tick, rendered_tick_out, rendered_block, rendered_places, rendered_block_out}
use Rattle.sequencer.specs.Resets.{re_rated}
use Rattle.desk.specs.Desk.{push, edit, reset, tick, block, rate, Call, front, back, number, queued, refused}
use Rattle.realseq.specs.declared.SequencerBackend.{SequencerBackend}
use Rattle.realseq.specs.declared.Outcome.{Outcome}
use Rattle.realseq.specs.declared.queues.Message.TheVariants.{Reset}
use Rattle.realseq.specs.Answers.{said, answer_of, accepts, renders, refuses}
use Rattle.realseq.specs.Handling.{past_sent, drained}
use Rattle.realseq.specs.Fronts.{queued_with, numbered, push_refused, push_message, sends_push, pushes, edit_refused, edit_message, sends_edit, resets}
use Rattle.realseq.specs.Backs.{with_engine, tick_no, ticks, tick_outs, block_no, blocks, block_outs, rates}
use Rattle.desk_claim.specs.EngineCalls.{gives, desk_call}
use Rattle.desk_claim.specs.Refused.{Unchanged, refused_with}

never : {A : Type 0} (k : ℕ) → some k ≡ none → A
never k z = absurd (let w : ◌≡◌ {A = ℕ} 0 1 = cc in omega arith)

-- a call that carries out `o` where its test passes and is refused where not, with output `f` of the test
by_test : (d : SequencerBackend) (k n : ℕ) (b : Bool) (o : Outcome) (f : Bool → List Float) → refused_with (answer_of o.answer) ≡ none
    → (let r = gives (cond b o (refuses d n)) (f b) in r.1.answer ≡ refused k → (r.0 ≡ d) × (r.1.out ≡ f false))
by_test d k n true o f free h = never k (ap refused_with (sym h) ∙ free)
by_test d k n false o f free h = (refl, refl)

-- a front's reset is refused where the test holds
by_full : (d : SequencerBackend) (k : ℕ) (b : Bool) (o : Outcome) → refused_with (answer_of o.answer) ≡ none
    → (let r = gives (cond b (refuses d 13) o) [] in r.1.answer ≡ refused k → (r.0 ≡ d) × (r.1.out ≡ []))
by_full d k true o free h = (refl, refl)
by_full d k false o free h = never k (ap refused_with (sym h) ∙ free)

pub refused-unchanged : (d : SequencerBackend) (c : Call) (k : ℕ) → (desk_call d c).1.answer ≡ refused k → Unchanged d c (desk_call d c)
unfolding pushes sends_push sends_edit resets ticks tick_outs blocks block_outs rates
refused-unchanged d (front (push kind start end fade_in fade_out curve source gain)) k h =
    let until = stated_end kind start end in
    let n = push_refused d start end (until -ᵈ start) fade_in fade_out source gain in
    let e = new_event start until fade_in fade_out curve source gain d.sequencer.next in
    by_test d k n (eqb n 0) (record { backend = queued_with (push_message (is_relative kind) e) (numbered d); answer = said (number d.sequencer.next) }) (λ b. []) refl h
refused-unchanged d (front (edit kind m end fade_out)) k h =
    let n = edit_refused d end fade_out in
    let x : Edit = record { end_time = end; fade_out = fade_out } in
    by_test d k n (eqb n 0) (record { backend = queued_with (edit_message (end_relative kind) (record { 0 = m }) x) d; answer = said queued }) (λ b. []) refl h
refused-unchanged d (front reset) k h = by_full d k (leb 64 d.messages.count) (record { backend = queued_with Reset d; answer = said queued }) refl h
refused-unchanged d (back (tick order pool out)) k h =
    let n = tick_no d (length out) in
    let b = drained d in
    by_test d k n (eqb n 0) (accepts (past_sent (with_engine b (rendered_tick order pool b.sequencer)))) (λ t. cond t (rendered_tick_out order pool b.sequencer out) out) refl h
refused-unchanged d (back (block order m pool out)) k h =
    let n = block_no d m (length out) in
    let b = drained d in
    by_test d k n (eqb n 0) (renders (rendered_places order m b.sequencer) (past_sent (with_engine b (rendered_block order pool m b.sequencer)))) (λ t. cond t (rendered_block_out order pool m b.sequencer out) out) refl h
refused-unchanged d (back (rate r)) k h =
    by_test d k (rate_refusal r) (eqb (rate_refusal r) 0) (accepts (with_engine (drained d) (re_rated (drained d).sequencer r))) (λ b. []) refl h
refused-unchanged d (back reset) k h = never k (ap refused_with (sym h))

-- Every call of the back, refused or not, keeps the relation and gives back what the desk ledger's gives. It is refused before draining, and carried out after it. Assumes nothing.
use Prim.Native.Nat.{ℕ}
use Rattle.std.specs.Prelude.{◌≡◌, Bool, true, cond, List, [], eqb, Float, length}
use Rattle.std.proofs.Math.Path.{refl, ap, subst}
use Rattle.std.proofs.Common.{sym, ap₂, ◌∙◌}
use Rattle.std.proofs.Math.Option.{Option, none}
use Rattle.event.specs.declared.MixOrder.{MixOrder}
use Rattle.event.specs.declared.ReplayMode.{ReplayMode}
use Rattle.event.specs.declared.Placings.{Placings}
use Rattle.ledger.specs.Calls as Calls
use Rattle.ledger.specs.Ledger.{Ledger}
use Rattle.ledger.specs.Refusals.{first_of, checks, refusal}
use Rattle.ledger.specs.Steps as Steps
use Rattle.ledger.specs.Steps.{accept, advance, block_places}
use Rattle.ledger.specs.Lawful.{Lawful}
use Rattle.refusals.specs.Refusals.{tick_refusal, process_refusal, rate_refusal}
use Rattle.sequencer.specs.declared.Sequencer.{Sequencer}
use Rattle.sequencer.specs.Answers as Engine
use Rattle.sequencer.specs.Outcomes as Outcomes
use Rattle.sequencer.specs.Rendering as Rendering
use Rattle.sequencer.specs.Rendering.{rendered_tick, rendered_tick_out, rendered_block, rendered_places, rendered_block_out}
use Rattle.sequencer.specs.Resets.{re_rated}
use Rattle.claim.specs.Related.{Related}
use Rattle.claim.specs.AllToReady.{related_rate}
use Rattle.claim.specs.RefusalsAgree.{Agrees, tick_refused, block_refused, rate-refused}
use Rattle.claim.specs.EngineCalls as EngineClaim
use Rattle.claim.proofs.Steps as Claim
use Rattle.claim.specs.Steps as Engines
use Rattle.desk.specs.Desk as Plain
use Rattle.desk.specs.Desk.{tick, block, rate, reset, back, Reply, done, rendered, Desk, with_back, send_finished, desk_refusal, acts, carried_out, decide, step}
use Rattle.desk.specs.Lawful.{DeskLawful}
use Rattle.desk.proofs.Lawful.{accept_lawful, drained_lawful, drained-empty, drained_free}
use Rattle.realseq.specs.declared.SequencerBackend.{SequencerBackend}
use Rattle.realseq.specs.Handling as Handling
use Rattle.realseq.specs.Handling.{past_sent_by, past_sent, drained}
use Rattle.realseq.specs.Answers.{renders, refuses}
use Rattle.realseq.specs.Backs.{with_engine, tick_no, ticks, tick_outs, block_no, blocks, block_outs, rates}
use Rattle.realseq.specs.Answers.{accepts}
use Rattle.desk_claim.specs.Related.{DeskRelated}
use Rattle.desk_claim.proofs.Related.{plain_of, empty_related}
use Rattle.desk_claim.proofs.LettingGo.{past_related, restarted_related}
use Rattle.desk_claim.proofs.Draining.{drained_related}
use Rattle.desk_claim.specs.EngineCalls.{gives}
use Rattle.desk_claim.specs.Refusals.{Keeps}
use Rattle.desk_claim.proofs.Refusals.{by_refusal}
use Rattle.desk_claim.specs.Backs.{places_in}

module _ (s : Sequencer) (l : Ledger) (w : Lawful l) (r : Related s l) where
  tick_carried : (order : MixOrder) (pool out : List Float) → refusal l (Calls.tick order pool out) ≡ none
      → Related (rendered_tick order pool s) (accept l (Calls.tick order pool out)).ledger × (rendered_tick_out order pool s out ≡ (accept l (Calls.tick order pool out)).reply.out)
  unfolding Rendering.ticks Rendering.tick_outs Steps.step Steps.decide
  tick_carried order pool out h =
      let c = Calls.tick order pool out in
      let n = tick_refusal (length out) s.outputs s.time s.sample_duration in
      let P : ℕ → Option ℕ → Type 0 = λ m o.
      Engines.Keeps (EngineClaim.gives (cond (eqb m 0) (Engine.accepts (rendered_tick order pool s)) (Outcomes.refuses s m)) (cond (eqb m 0) (rendered_tick_out order pool s out) out)) (Steps.decide o l c) in
      let z : n ≡ 0 = subst (Agrees n) h (tick_refused l order pool out s.outputs s.time s.sample_duration r.plain.4 r.plain.0 r.plain.3) in
      let k : P 0 none = subst (P 0) h (subst (λ (m : ℕ). P m (refusal l c)) z (Claim.keep_tick s l order pool out w r)) in
      (k.0, k.1.out)

  block-carried : (order : MixOrder) (n : ℕ) (pool out : List Float) → refusal l (Calls.block order n pool out none) ≡ none
      → Related (rendered_block order pool n s) (accept l (Calls.block order n pool out none)).ledger × (rendered_block_out order pool n s out ≡ (accept l (Calls.block order n pool out none)).reply.out) × (rendered_places order n s ≡ block_places l n)
  unfolding accept Rendering.blocks Rendering.block_outs Steps.step Steps.decide
  block-carried order size pool out h =
      let c = Calls.block order size pool out none in
      let n = process_refusal size (length out) s.outputs s.time s.sample_duration in
      let P : ℕ → Option ℕ → Type 0 = λ m o.
      Engines.Keeps (EngineClaim.gives (cond (eqb m 0) (Outcomes.renders (rendered_block order pool size s) (rendered_places order size s)) (Outcomes.refuses s m)) (cond (eqb m 0) (rendered_block_out order pool size s out) out)) (Steps.decide o l c) in
      let z : n ≡ 0 = subst (Agrees n) h (block_refused l order size pool out s.outputs s.time s.sample_duration r.plain.4 r.plain.0 r.plain.3) in
      let k : P 0 none = subst (P 0) h (subst (λ (m : ℕ). P m (refusal l c)) z (Claim.keep-block s l order size pool out w r)) in
      (k.0, k.1.out, ap places_in k.1.answer)

-- ---- the desk

module _ (d : SequencerBackend) (D : Desk) (w : DeskLawful D) (r : DeskRelated d D) where
  -- once drained
  now : Related (drained d).sequencer (Plain.drained D).back
  now = plain_of (drained d) (Plain.drained D) (drained-empty D) (drained_related d D w r)

  law : Lawful (Plain.drained D).back
  law = (drained_lawful D w).lawful

  -- the drained desk with another engine, and what it has finished sent back
  after-rendering : (s : Sequencer) (l : Ledger) (m : ReplayMode) → l.mode ≡ m → Lawful l → Related s l → DeskRelated (past_sent (with_engine (drained d) s)) (send_finished m (with_back l (Plain.drained D)))
  after-rendering s l m e v h =
      let g = drained_related d D w r in
      subst (λ (x : ReplayMode). DeskRelated (past_sent_by x (with_engine (drained d) s)) (send_finished m (with_back l (Plain.drained D)))) (sym (h.plain.5 ∙ e))
      (past_related m (with_engine (drained d) s) (with_back l (Plain.drained D)) v
      (empty_related (drained d) (Plain.drained D) s l (drained d).returned (Plain.drained D).returned (drained-empty D) g h g.returns))

  pub keep_tick : (order : MixOrder) (pool out : List Float) → Keeps (gives (ticks order pool (length out) d) (tick_outs order pool d out)) (step D (back (tick order pool out)))
  unfolding ticks tick_outs desk_refusal carried_out acts accept advance
  keep_tick order pool out =
      by_refusal d D (back (tick order pool out)) N X r
      (tick_refused D.back order pool out s.outputs s.time s.sample_duration r.engine.plain.4 r.engine.plain.0 r.engine.plain.3) refl carried
    where
      s : Sequencer
      s = d.sequencer

      N : ℕ
      N = tick_no d (length out)

      b : Sequencer
      b = (drained d).sequencer

      X : Bool → SequencerBackend × Reply
      X t = gives (cond t (accepts (past_sent (with_engine (drained d) (rendered_tick order pool b)))) (refuses d N)) (cond t (rendered_tick_out order pool b out) out)

      carried : refusal D.back (Calls.tick order pool out) ≡ none → Keeps (X true) (acts (Plain.drained D) (tick order pool out))
      carried h =
          let l = (Plain.drained D).back in
          let f = drained_free D w (tick order pool out) h in
          let c = tick_carried b l law now order pool out f in (
            after-rendering (rendered_tick order pool b) (accept l (Calls.tick order pool out)).ledger l.mode refl (accept_lawful l (Calls.tick order pool out) f law) c.0,
            ap (λ (x : List Float). record { answer = done; out = x }) c.1,
          )

  pub keep-block : (order : MixOrder) (n : ℕ) (pool out : List Float) → Keeps (gives (blocks order pool n (length out) d) (block_outs order pool n d out)) (step D (back (block order n pool out)))
  unfolding blocks block_outs desk_refusal carried_out acts accept advance
  keep-block order n pool out =
      by_refusal d D (back (block order n pool out)) N X r
      (block_refused D.back order n pool out s.outputs s.time s.sample_duration r.engine.plain.4 r.engine.plain.0 r.engine.plain.3) refl carried
    where
      s : Sequencer
      s = d.sequencer

      N : ℕ
      N = block_no d n (length out)

      b : Sequencer
      b = (drained d).sequencer

      X : Bool → SequencerBackend × Reply
      X t = gives (cond t (renders (rendered_places order n b) (past_sent (with_engine (drained d) (rendered_block order pool n b)))) (refuses d N)) (cond t (rendered_block_out order pool n b out) out)

      carried : refusal D.back (Calls.block order n pool out none) ≡ none → Keeps (X true) (acts (Plain.drained D) (block order n pool out))
      carried h =
          let l = (Plain.drained D).back in
          let f = drained_free D w (block order n pool out) h in
          let c = block-carried b l law now order n pool out f in (
            after-rendering (rendered_block order pool n b) (accept l (Calls.block order n pool out none)).ledger l.mode refl (accept_lawful l (Calls.block order n pool out none) f law) c.0,
            ap₂ (λ (x : List Float) (p : Placings). record { answer = rendered p; out = x }) c.1 c.2,
          )

  pub keep-rate : (x : Float) → Keeps (gives (rates d x) []) (step D (back (rate x)))
  unfolding rates desk_refusal carried_out acts accept
  keep-rate x =
      let g = drained_related d D w r in
      let b = (drained d).sequencer in
      let l = (Plain.drained D).back in
      by_refusal d D (back (rate x)) (rate_refusal x) (λ t. gives (cond t (accepts (with_engine (drained d) (re_rated b x))) (refuses d (rate_refusal x))) []) r (rate-refused D.back x) refl
      (λ h. (
        empty_related (drained d) (Plain.drained D) (re_rated b x) (accept l (Calls.rate x)).ledger (drained d).returned (Plain.drained D).returned (drained-empty D) g (related_rate b l x law now) g.returns,
        refl,
      ))

  pub keep-restart : Keeps (gives (accepts (Handling.reset d)) []) (step D (back reset))
  unfolding Handling.reset step desk_refusal refusal checks first_of decide carried_out acts
  keep-restart = (restarted_related (drained d) (Plain.drained D) (drained-empty D) law (drained_related d D w r), refl)

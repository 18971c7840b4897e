-- `realseq::SequencerBackend::set_sample_rate` meets its contract. Assumes nothing.
use Rattle.std.proofs.Common.{arith, refl, ◌≡◌, ℕ, ap, ◌∙◌}
use lib.Ieee.{Float}
use Rattle.refusals.specs.Refusals.{rate_refusal}
use Rattle.sequencer.specs.declared.Sequencer.{Sequencer}
use Rattle.sequencer.specs.Resets.{re_rated}
use Rattle.refusals.specs.Numbers.{refused_is, taken_is}
use Rattle.realseq.specs.declared.SequencerBackend.{SequencerBackend}
use Rattle.realseq.specs.Handling.{drained}
use Rattle.realseq.specs.Answers.{refuses}
use Rattle.realseq.specs.Backs.{with_engine, rates}
use Rattle.realseq.specs.Answers.{accepts}
use Rattle.realseq.proofs.Choices.{refused, done as gives}
use Rattle.realseq.proofs.SequencerBackend.set_sample_rate.Goals as goal

module _ (d : SequencerBackend) (r : Float) (k : ℕ) (q : k ≡ rate_refusal r) where
  rate-refused : (k ≡ 0 → ⊥) → refuses d k ≡ rates d r
  unfolding rates
  rate-refused h = refused k (rate_refusal r) q d _ h

  rate-done : (e : SequencerBackend) (s : Sequencer) → k ≡ 0 → e ≡ drained d → s ≡ re_rated e.sequencer r → accepts (with_engine e s) ≡ rates d r
  unfolding rates
  rate-done e s z h g =
      gives k (rate_refusal r) q d _ _ z
      (ap (λ (x : Sequencer). accepts (with_engine e x)) g ∙ ap (λ (x : SequencerBackend). accepts (with_engine x (re_rated x.sequencer r))) h)

pub returns-in-Some : goal.returns-in-Some
returns-in-Some c =
    let r = refused_is _ _ _ c.rate_refusal.ensures c.in-Some.is in
    let e = c.number.ensures ∙ r.0 in
    let some : c.number.result ≡ 0 → ⊥ = λ z. omega (arith, r.1, e, z) in
    rate-refused _ _ _ e some

pub returns : goal.returns
returns c = rate-done _ _ _ refl _ _ (taken_is _ _ c.rate_refusal.ensures c.in_default.is) c.drain-d.ensures c.change_rate-d.ensures

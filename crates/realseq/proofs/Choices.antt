-- What a refusal's number makes of an outcome, of the samples, and of 13.
use Rattle.std.proofs.Common.{◌≡◌, ℕ, ◌<◌, ◌≤◌, Bool, true, false, cond, eqb, leb, List, sym, ap, ◌∙◌, eq-eqb, ne_eqb, le-leb}
use lib.Ieee.{Float}
use borrow.Author.Tests.{lt-leb}
use Rattle.realseq.specs.declared.SequencerBackend.{SequencerBackend}
use Rattle.realseq.specs.declared.Outcome.{Outcome}
use Rattle.realseq.specs.Fronts.{or_full}
use Rattle.realseq.specs.Answers.{refuses}

module _ (k j : ℕ) (e : k ≡ j) where
  some : (k ≡ 0 → ⊥) → eqb j 0 ≡ false
  some h = ap (λ (n : ℕ). eqb n 0) (sym e) ∙ ne_eqb k 0 h

  none : k ≡ 0 → eqb j 0 ≡ true
  none h = ap (λ (n : ℕ). eqb n 0) (sym e) ∙ eq-eqb k 0 h

  pub refused : (d : SequencerBackend) (x : Outcome) → (k ≡ 0 → ⊥) → refuses d k ≡ cond (eqb j 0) x (refuses d j)
  refused d x h = ap (λ (n : ℕ). refuses d n) e ∙ sym (ap (λ (b : Bool). cond b x (refuses d j)) (some h))

  pub done : (d : SequencerBackend) (x y : Outcome) → k ≡ 0 → y ≡ x → y ≡ cond (eqb j 0) x (refuses d j)
  done d x y h g = g ∙ sym (ap (λ (b : Bool). cond b x (refuses d j)) (none h))

  pub unheard : (o p : List Float) → (k ≡ 0 → ⊥) → o ≡ cond (eqb j 0) p o
  unheard o p h = sym (ap (λ (b : Bool). cond b p o) (some h))

  pub heard : (o p q : List Float) → k ≡ 0 → q ≡ p → q ≡ cond (eqb j 0) p o
  heard o p q h g = g ∙ sym (ap (λ (b : Bool). cond b p o) (none h))

  pub or_other : (d : SequencerBackend) → (k ≡ 0 → ⊥) → k ≡ or_full d j
  or_other d h = e ∙ sym (ap (λ (b : Bool). cond b (cond (leb 64 d.messages.count) 13 0) j) (some h))

  or_full_lem : (d : SequencerBackend) (b : Bool) → k ≡ 0 → leb 64 d.messages.count ≡ b → cond b 13 0 ≡ or_full d j
  or_full_lem d b h g = sym (ap (λ (x : Bool). cond x (cond (leb 64 d.messages.count) 13 0) j) (none h) ∙ ap (λ (x : Bool). cond x 13 0) g)

  pub or-13 : (d : SequencerBackend) → k ≡ 0 → 64 ≤ d.messages.count → 13 ≡ or_full d j
  or-13 d h l = or_full_lem d true h (le-leb 64 d.messages.count l)

  pub or-0 : (d : SequencerBackend) → k ≡ 0 → d.messages.count < 64 → 0 ≡ or_full d j
  or-0 d h l = or_full_lem d false h (lt-leb 64 d.messages.count l)

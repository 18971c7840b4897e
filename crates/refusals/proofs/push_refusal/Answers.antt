-- `refusals::push_refusal` meets its contract. Assumes nothing.
use Rattle.std.proofs.Common.{◌≡◌, true, cond, not, ◌&&◌, eqb, leb, sym, ◌∙◌, eq-eqb, ne_eqb, le-leb}
use borrow.Author.Tests.{lt-leb}
use lib.Ieee.Scale.{finite}
use Rattle.ledger.specs.Refusals.{within, within_end, finite_source}
use Rattle.refusals.specs.Refusals.{push_refusal}
use Rattle.refusals.proofs.push_refusal.Goals as goal
use Rattle.refusals.proofs.push_refusal.Goals.{Else-lasts-fade_out, Else-not-finite, Else-not-finite_source, Else-not-times_within, then-lasts-fade_in-via-then-lasts-fade_in, then-lasts-fade_in-via-else-lasts-fade_in+then-lasts-fade_out}

times-pass : (c : Else-not-times_within) → (let a = c.args in (within a.start && within_end a.end && within a.fade_in && within a.fade_out) ≡ true)
times-pass c = sym c.times_within.ensures ∙ c.if-not-times_within.false

-- what is left of the definition behind 4, behind 5, and behind 18
behind-4 : (c : Else-lasts-fade_out) → (let a = c.args in
    push_refusal a.start a.end a.lasts a.fade_in a.fade_out a.source a.gain a.held a.next
    ≡ cond (not (finite_source a.source)) 5 (cond (not (finite a.gain)) 18 (cond (leb 256 a.held) 6 (cond (eqb a.next 0) 7 0))))
unfolding push_refusal
behind-4 c = rw (times-pass c.before.before, c.if-lasts-fade_in.false, c.if-lasts-fade_out.false)

behind-5 : (c : Else-not-finite_source) → (let a = c.args in
    push_refusal a.start a.end a.lasts a.fade_in a.fade_out a.source a.gain a.held a.next
    ≡ cond (not (finite a.gain)) 18 (cond (leb 256 a.held) 6 (cond (eqb a.next 0) 7 0)))
behind-5 c = rw (behind-4 c.before.before, sym c.finite_source.ensures ∙ c.if-not-finite_source.false)

behind-18 : (c : Else-not-finite) → (let a = c.args in
    push_refusal a.start a.end a.lasts a.fade_in a.fade_out a.source a.gain a.held a.next
    ≡ cond (leb 256 a.held) 6 (cond (eqb a.next 0) 7 0))
behind-18 c = rw (behind-5 c.before.before, sym c.finite.ensures ∙ c.if-not-finite.false)

pub returns-then-not-times_within : goal.returns-then-not-times_within
unfolding push_refusal
returns-then-not-times_within c = rw (sym c.times_within.ensures ∙ c.if-not-times_within.true)

pub returns-then-lasts-fade_in : goal.returns-then-lasts-fade_in
unfolding push_refusal
returns-then-lasts-fade_in c =
    let p = times-pass c.before in
    elim c.then-lasts-fade_in.branch [
      | then-lasts-fade_in-via-then-lasts-fade_in w ↦ rw (p, w.if-lasts-fade_in.true)
      | then-lasts-fade_in-via-else-lasts-fade_in+then-lasts-fade_out w ↦ rw (p, w.if-lasts-fade_in.false, w.if-lasts-fade_out.true)
    ]

pub returns-then-not-finite_source : goal.returns-then-not-finite_source
returns-then-not-finite_source c = rw (behind-4 c.before.before, sym c.finite_source.ensures ∙ c.if-not-finite_source.true)

pub returns-then-not-finite : goal.returns-then-not-finite
returns-then-not-finite c = rw (behind-5 c.before.before, sym c.finite.ensures ∙ c.if-not-finite.true)

pub returns-then-held-ge256 : goal.returns-then-held-ge256
returns-then-held-ge256 c = rw (behind-18 c.before, le-leb 256 _ c.if-held-ge256.true)

pub returns-then-next-eq0 : goal.returns-then-next-eq0
returns-then-next-eq0 c = rw (behind-18 c.before.before, lt-leb 256 _ c.if-held-ge256.false, eq-eqb _ _ c.if-next-eq0.true)

pub returns : goal.returns
returns c = rw (behind-18 c.before.before, lt-leb 256 _ c.if-held-ge256.false, ne_eqb _ _ c.if-next-eq0.false)

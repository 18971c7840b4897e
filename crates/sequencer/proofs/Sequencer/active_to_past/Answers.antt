-- `sequencer::Sequencer::active_to_past` meets its contract.
use Rattle.std.proofs.Common.{◌≡◌, ℕ, get_or, sym, refl, ap, ◌∙◌, subst, arith}
use lib.Ieee.{Float}
use Rattle.event.specs.Blank.{blank}
use Rattle.sequencer.specs.declared.Sequencer.{Sequencer}
use Rattle.sequencer.specs.Moves.{active_to_past}
use Rattle.sequencer.specs.Turns.{Finishing, finished_len, finished_end, finished_beyond, finishing_on, finishing_off}
use Rattle.sequencer.proofs.Sequencer.active_to_past.Goals as goal

carried : {limit : Float} {a b : Sequencer} {i : ℕ} {r : Sequencer} → a ≡ b → Finishing limit b i r → Finishing limit a i r
carried {limit} {a} {b} {i} {r} h w = subst (λ (x : Sequencer). Finishing limit x i r) (sym h) w

pub loop-i-init : goal.loop-i-init
unfolding active_to_past
loop-i-init c = record { fuel = c.args.self.active_len; enough = omega arith; gives = refl }

pub finish-self-requires : goal.finish-self-requires
finish-self-requires c = (c.loop-i-test.true, c.if-self-gt256.false)

pub loop-i-smaller-then-event-limit : goal.loop-i-smaller-then-event-limit
loop-i-smaller-then-event-limit c =
    let d = c.before.before.before.before in
    let l = d.loop-i in
    let p = d.loop-i-test.true in
    let e = ap (λ (x : Sequencer). x.active_len) c.finish-self.ensures ∙ finished_len l.self l.i (get_or l.self.active l.i blank) p d.if-self-gt256.false in
    omega (arith, p, e)

pub loop-i-preserved-then-event-limit : goal.loop-i-preserved-then-event-limit
loop-i-preserved-then-event-limit c =
    let d = c.before.before.before.before in
    carried c.finish-self.ensures (finishing_off _ _ _ _ d.loop-i-test.true d.if-self-gt256.false c.if-event-limit.true d.loop-i.invariant)

pub loop-i-preserved : goal.loop-i-preserved
loop-i-preserved c = finishing_on _ _ _ _ c.loop-i-test.true c.if-self-gt256.false c.if-event-limit.false c.loop-i.invariant

pub returns-after-loop-i : goal.returns-after-loop-i
returns-after-loop-i c = finished_end _ _ _ _ c.loop-i-test.false c.loop-i.invariant

pub returns-then-self-gt256 : goal.returns-then-self-gt256
returns-then-self-gt256 c = finished_beyond _ _ _ _ c.if-self-gt256.true c.loop-i.invariant

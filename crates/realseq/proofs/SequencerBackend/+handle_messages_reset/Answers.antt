use Rattle.std.proofs.Common.{◌≡◌, ◌<◌, sym, ap, ◌∙◌, arith}
use Rattle.realseq.specs.Handling as spec
use Rattle.realseq.specs.HandlingLaws.{Settled}
use Rattle.realseq.proofs.HandlingLaws.{until_settled, taken-less, settled-reset, drained-none}
use Rattle.realseq.proofs.SequencerBackend.+handle_messages_reset.Goals as goal

pub handle_messages-reset_in_place-requires : goal.handle_messages-reset_in_place-requires
handle_messages-reset_in_place-requires t c =
    let d = c.args.self.now in
    let u = c.handle_until_reset.new.self in
    let s : Settled d u = rw c.handle_until_reset.ensures (until_settled d) in
    let z : 0 < u.messages.count = rw c.queued.ensures at c.if-queued-gt0.true in
    let h : c.take.new.self.messages.count < u.messages.count = rw c.take.ensures (taken-less u z) in
    (omega (arith, h, s.less, c.decreases), tt)

-- a reset is first: it acts when the others are handled
pub handle_messages-returns-then-queued-gt0 : goal.handle_messages-returns-then-queued-gt0
handle_messages-returns-then-queued-gt0 t c =
    let d = c.args.self.now in
    let u = c.handle_until_reset.new.self in
    let s : Settled d u = rw c.handle_until_reset.ensures (until_settled d) in
    c.reset_in_place.ensures ∙ ap spec.reset c.take.ensures ∙ settled-reset d u s (rw c.queued.ensures at c.if-queued-gt0.true)

-- none is queued any more
pub handle_messages-returns-else-queued-gt0 : goal.handle_messages-returns-else-queued-gt0
handle_messages-returns-else-queued-gt0 t c =
    let d = c.args.self.now in
    let u = c.handle_until_reset.new.self in
    let s : Settled d u = rw c.handle_until_reset.ensures (until_settled d) in
    let z : u.messages.count ≡ 0 = omega (arith, c.queued.ensures, c.if-queued-gt0.false) in
    sym (drained-none u z) ∙ s.same

pub reset_in_place-returns : goal.reset_in_place-returns
unfolding spec.reset
reset_in_place-returns t c = c.restart.ensures ∙ ap spec.restarted c.handle_messages.ensures

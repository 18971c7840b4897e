-- `player::run` meets its contract: the loop's invariant is `Rolling`, of which each way out cites one lemma.
use mathlib.Core.Path.{◌≡◌, refl, sym, ◌∙◌}
use mathlib.Core.Bool.{false}
use Prim.Native.Nat.{ℕ, ◌-◌}
use native.Mathlib.Omega.{arith}
use lib.ListN.{length}
use Rattle.tape.specs.declared.reader.Call.{Call}
use Rattle.tape.specs.declared.reader.Cursor.{Cursor}
use Rattle.tape.specs.declared.reader.Read.{Read}
use Rattle.tape.specs.declared.reader.Read.TheVariants.{Record, Refused, End}
use Rattle.tape.specs.Cursors.{is_record, moves}
use Rattle.record_output.specs.Endings.{ending}
use Rattle.memory.specs.Memory.{cells_of, engine_of}
use Rattle.player.proofs.Rolling.{Rolling, start, answered, inside, same_rest, same_sets, same-put, ends-short, ends_unread, ends-full, ends-refused, goes_on}
use Rattle.player.proofs.run.Goals as goal

not-record : (r : Read) → ((k : ℕ) (call : Call) (next : Cursor) → r ≡ Record k call next → ⊥) → is_record r ≡ false
not-record (Record k call next) h = absurd (h k call next refl)
not-record (Refused k n) h = refl
not-record End h = refl

pub loop-form-init : goal.loop-form-init
loop-form-init c = start _ _ _ _ _ _ _ _ c.silence-samples.ensures

pub shape_of-out-then-is_short : goal.shape_of-out-then-is_short
shape_of-out-then-is_short c = same_rest _ _ _ _ _ _ _ c.loop-form.invariant

pub returns-then-is_short : goal.returns-then-is_short
returns-then-is_short c =
    let w = c.loop-form.invariant in
    let z = answered _ _ _ _ _ _ _ w c.stopped.ensures (ends-short _ _ _ _ _ _ _ w (sym c.is_short.ensures ∙ c.if-is_short.true)) in
    record { engine = z.0; answer = z.1.0; lent = z.1.1 }

pub shape_of-out-in_default : goal.shape_of-out-in_default
shape_of-out-in_default c =
    let w = c.loop-form.invariant in
    let l = c.loop-form in
    let r = c.read-r.result in
    let f = c.args.form in
    same_sets _ _ _ _ _ _ _ w (ending f r c.counts-counts.result (length l.out - l.at)).written (c.unread-stop.ensures.gives (inside _ _ _ _ _ _ _ w)).1.1.0

pub returns-in_default : goal.returns-in_default
returns-in_default c =
    let w = c.loop-form.invariant in
    let i = c.is_short.ensures in
    let j = c.if-is_short.false in
    let r = c.read-r in
    let z = answered _ _ _ _ _ _ _ w c.stopped-in_default.ensures
    (ends_unread _ _ _ _ _ _ _ w (sym i ∙ j) r.result r.ensures (not-record r.result c.in_default.not-Record) c.counts-counts.ensures (c.unread-stop.ensures.gives (inside _ _ _ _ _ _ _ w))) in
    record { engine = z.0; answer = z.1.0; lent = z.1.1 }

pub overflow_sub-out : goal.overflow_sub-out
overflow_sub-out c = inside _ _ _ _ _ _ _ c.loop-form.invariant

pub shape_of-out-then-out-at : goal.shape_of-out-then-out-at
shape_of-out-then-out-at c = same_rest _ _ _ _ _ _ _ c.loop-form.invariant

pub returns-then-out-at : goal.returns-then-out-at
returns-then-out-at c =
    let w = c.loop-form.invariant in
    let i = c.is_short.ensures in
    let j = c.if-is_short.false in
    let r = c.read-r.ensures in
    let v = c.in-Record in
    let z = answered _ _ _ _ _ _ _ w c.stopped-then-out-at.ensures
    (ends-full _ _ _ _ _ _ _ w (sym i ∙ j) v.kind v.call v.next (sym r ∙ v.is) (c.room_for.ensures v.kind _ _ w.long) c.if-out-at.true) in
    record { engine = z.0; answer = z.1.0; lent = z.1.1 }

pub slice_bounds-perform-end : goal.slice_bounds-perform-end
slice_bounds-perform-end c = sym c.loop-form.invariant.long

pub shape_of-out-then-done-eq1 : goal.shape_of-out-then-done-eq1
shape_of-out-then-done-eq1 c =
    let w = c.loop-form.invariant in
    let i = c.is_short.ensures in
    let j = c.if-is_short.false in
    let r = c.read-r.ensures in
    let v = c.in-Record in
    let n = c.room_for.ensures in
    let k = c.if-out-at.false in
    same-put _ _ _ _ _ _ _ w (sym i ∙ j) v.kind v.call v.next (sym r ∙ v.is) (n v.kind _ _ w.long) k c.perform-done.ensures.out

pub returns-then-done-eq1 : goal.returns-then-done-eq1
returns-then-done-eq1 c =
    let w = c.loop-form.invariant in
    let i = c.is_short.ensures in
    let j = c.if-is_short.false in
    let r = c.read-r.ensures in
    let v = c.in-Record in
    let n = c.room_for.ensures in
    let k = c.if-out-at.false in
    let p = c.perform-done.ensures in
    let z = answered _ _ _ _ _ _ _ w c.stopped-then-done-eq1.ensures
    (ends-refused _ _ _ _ _ _ _ w (sym i ∙ j) v.kind v.call v.next (sym r ∙ v.is) (n v.kind _ _ w.long) k p.out p.engine (sym p.refusal ∙ c.if-done-eq1.true)) in
    record { engine = z.0; answer = z.1.0; lent = z.1.1 }

pub loop-form-smaller : goal.loop-form-smaller
loop-form-smaller c =
    let r = c.read-r.ensures in
    let v = c.in-Record in
    let m = moves _ _ v.kind v.call v.next (sym r ∙ v.is) in
    let x = m.0 in
    let y = m.1 in
    omega arith

pub loop-form-preserved : goal.loop-form-preserved
loop-form-preserved c =
    let w = c.loop-form.invariant in
    let i = c.is_short.ensures in
    let j = c.if-is_short.false in
    let r = c.read-r.ensures in
    let v = c.in-Record in
    let n = c.room_for.ensures in
    let k = c.if-out-at.false in
    let p = c.perform-done.ensures in
    goes_on _ _ _ _ _ _ _ w (sym i ∙ j) v.kind v.call v.next (sym r ∙ v.is) (n v.kind _ _ w.long) k p.out p.engine p.samples (λ h. c.if-done-eq1.false (p.refusal ∙ h))

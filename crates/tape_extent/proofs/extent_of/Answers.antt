-- `tape_extent::extent_of` meets its contract: the loop keeps `Rolling`, for every pool. Assumes nothing.
use Rattle.std.proofs.Common.{◌≡◌, ℕ, ◌+◌, ◌-◌, subst, ◌<◌, true, false, length, sym, refl, ap, ◌∙◌, arith}
use lib.Ieee.{of_bits}
use Rattle.floats.specs.Arithmetic.{whole}
use Rattle.tape.specs.declared.reader.Call.{Call}
use Rattle.tape.specs.declared.reader.Cursor.{Cursor}
use Rattle.tape.specs.declared.reader.Read.{Read}
use Rattle.tape.specs.declared.reader.Read.TheVariants.{Record, Refused, End}
use Rattle.tape.specs.Cursors.{is_record}
use Rattle.tape_extent.specs.Extents.{nothing, counts64, ended_by}
use Rattle.tape_extent.proofs.Rolling.{Rolling, start, ends_done, ends_unread, ends-refused, goes_on}
use Rattle.tape_extent.proofs.extent_of.Goals as goal

not-record : (r : Read) → ((k : ℕ) (call : Call) (next : Cursor) → r ≡ Record k call next → ⊥) → is_record r ≡ false
not-record (Record k call next) h = absurd (h k call next refl)
not-record (Refused k n) h = refl
not-record End h = refl

pub loop-init : goal.loop-init
unfolding counts64 nothing of_bits whole
loop-init c pool =
    let n = length c.args.tape.now in
    let z : n ≡ n - 0 = omega arith in
    subst (Rolling pool c.args.tape.now c.fresh_pace-pace.result (counts64 nothing) (record { at = 0; first = true })) z (start pool _ _ _ c.fresh_pace-pace.ensures refl)

pub returns-in_default : goal.returns-in_default
returns-in_default c pool =
    let l = c.loop in
    let r = c.read-r in
    let left = length c.args.tape.now - l.counter in
    let some : 0 < left = let t = c.loop-test.true in omega arith in
    c.end.ensures ∙ ap (ended_by l.x l.pace.channels) c.end_of.ensures
    ∙ ends_unread left some (l.invariant pool) r.result r.ensures (not-record r.result c.in_default.not-Record)

pub returns-then-p : goal.returns-then-p
returns-then-p c pool =
    let l = c.loop in
    let v = c.in-Record in
    let p = c.after-p in
    let left = length c.args.tape.now - l.counter in
    let some : 0 < left = let t = c.loop-test.true in omega arith in
    c.end-then-p.ensures
    ∙ ends-refused v.kind v.call v.next (sym c.read-r.ensures ∙ v.is) p.result p.ensures left some (l.invariant pool) c.if-p.true

pub loop-preserved : goal.loop-preserved
loop-preserved c pool =
    let l = c.loop in
    let v = c.in-Record in
    let p = c.after-p in
    let n = length c.args.tape.now in
    let some : 0 < n - l.counter = let t = c.loop-test.true in omega arith in
    let z : n - l.counter - 1 ≡ n - (l.counter + 1) = omega arith in
    subst (Rolling pool c.args.tape.now p.result.pace c.add-x.result v.next) z
    (goes_on v.kind v.call v.next (sym c.read-r.ensures ∙ v.is) p.result p.ensures (n - l.counter) some (l.invariant pool) c.if-p.false c.add-x.result
    c.add-x.ensures)

pub returns : goal.returns
returns c pool =
    let l = c.loop in
    let h = c.loop-test.false in
    let z : length c.args.tape.now - l.counter ≡ 0 = omega arith in
    c.end-2.ensures ∙ ends_done (length c.args.tape.now - l.counter) z (l.invariant pool)

-- `tape_writer::write` meets its contract. Assumes nothing.
use mathlib.Core.Path.{◌≡◌, sym, ap, ◌∙◌, subst}
use Prim.Native.Nat.{ℕ, ◌+◌, ◌-◌, ◌≤◌, ◌<◌}
use native.Mathlib.Omega.{arith}
use lib.ListN.{length}
use Rattle.std.specs.Prelude.{Ok, true}
use Rattle.tape.specs.Tape.{size_of}
use Rattle.tape_writer.specs.Writing.{bytes_of, too_short}
use Rattle.tape_writer.specs.Sizes.{long_as, kind_known, refused-14, refused-19, accepted, past_end, short_rest, enough_rest}
use Rattle.tape_writer.proofs.Laying.{part_long, part_laid}
use Rattle.tape_writer.proofs.write.Goals as goal
use Rattle.tape_writer.proofs.write.Goals.{then-buf-at-via-then-buf-at, then-buf-at-via-else-buf-at+then-buf-at-2}

pub returns-then-is_undefined : goal.returns-then-is_undefined
returns-then-is_undefined c = let r = refused-14 _ _ _ (sym c.is_undefined.ensures ∙ c.if-is_undefined.true) in record { answer = sym r.0; lent = sym r.1 }

pub overflow_cast-a : goal.overflow_cast-a
overflow_cast-a c = let h = kind_known _ _ (sym c.is_undefined.ensures ∙ c.if-is_undefined.false) in record { fits = omega arith }

pub returns-then-buf-at : goal.returns-then-buf-at
returns-then-buf-at c =
    let a = c.args in
    let n = c.size_of-n in
    let short : too_short a.buf.now a.at (size_of a.a.kind) ≡ true = elim c.then-buf-at.branch [
      | then-buf-at-via-then-buf-at w ↦ past_end a.buf.now a.at (size_of a.a.kind) w.if-buf-at.true
      | then-buf-at-via-else-buf-at+then-buf-at-2 w ↦
          short_rest a.buf.now a.at (size_of a.a.kind) w.if-buf-at.false (subst (λ (m : ℕ). length a.buf.now - a.at < m) n.ensures w.if-buf-at-2.true)
    ] in
    let r = refused-19 _ _ _ (sym c.is_undefined.ensures ∙ c.if-is_undefined.false) short in
    record { answer = sym r.0; lent = sym r.1 }

pub put_record-requires : goal.put_record-requires
put_record-requires c =
    let a = c.args in
    let n = c.size_of-n in
    let known = kind_known _ _ (sym c.is_undefined.ensures ∙ c.if-is_undefined.false) in
    let long = long_as a.a.kind a.a known in
    let room : a.at + n.result ≤ length a.buf.now = omega (arith, c.if-buf-at.false, c.if-buf-at-2.false) in
    record { known = known; room = part_long a.buf.now a.at n.result room ∙ n.ensures ∙ sym long }

pub returns : goal.returns
returns c =
    let a = c.args.a in
    let at = c.args.at in
    let buf = c.args.buf.now in
    let n = c.size_of-n in
    let known = sym c.is_undefined.ensures ∙ c.if-is_undefined.false in
    let long = long_as a.kind a (kind_known a.kind a known) in
    let h = c.if-buf-at.false in
    let k = c.if-buf-at-2.false in
    let r = accepted a buf at known (enough_rest _ _ _ h (subst (λ (m : ℕ). m ≤ length buf - at) n.ensures k)) in
    let room : at + n.result ≤ length buf = omega (arith, h, k) in
    record { answer = ap (λ (m : ℕ). Ok (at + m)) n.ensures ∙ sym r.0; lent = part_laid buf (bytes_of a) _ at n.result room (long ∙ sym n.ensures) c.put_record.ensures ∙ sym r.1 }

use Rattle.std.proofs.Common.{sym, ap, ◌∙◌, ne_eqb}
use Rattle.tape.specs.Tape.{call_of, plain_kind}
use Rattle.tape.proofs.reader.call_of.Goals as goal

pub returns-in-0 : goal.returns-in-0
unfolding call_of
returns-in-0 c =
    let k = c.before in
    simp (sym (k.plain_kind.ensures ∙ ap plain_kind k.byte.ensures) ∙ c.in-0.is, sym c.byte-in-0.ensures, sym k.mode_of.ensures, sym c.byte-in-0-2.ensures, sym c.word64.ensures)

pub returns-in-1 : goal.returns-in-1
unfolding call_of
returns-in-1 c = simp (sym (c.plain_kind.ensures ∙ ap plain_kind c.byte.ensures) ∙ c.in-1.is, sym c.push_of.ensures)

pub returns-in-2 : goal.returns-in-2
unfolding call_of
returns-in-2 c = simp (sym (c.plain_kind.ensures ∙ ap plain_kind c.byte.ensures) ∙ c.in-2.is, sym c.push_of-in-2.ensures)

pub returns-in-3 : goal.returns-in-3
unfolding call_of
returns-in-3 c = simp (sym (c.plain_kind.ensures ∙ ap plain_kind c.byte.ensures) ∙ c.in-3.is, sym c.push_of-in-3.ensures)

pub returns-in-4 : goal.returns-in-4
unfolding call_of
returns-in-4 c = simp (sym (c.plain_kind.ensures ∙ ap plain_kind c.byte.ensures) ∙ c.in-4.is, sym c.edit_of.ensures)

pub returns-in-5 : goal.returns-in-5
unfolding call_of
returns-in-5 c = simp (sym (c.plain_kind.ensures ∙ ap plain_kind c.byte.ensures) ∙ c.in-5.is, sym c.edit_of-in-5.ensures)

pub returns-in-6 : goal.returns-in-6
unfolding call_of
returns-in-6 c = simp (sym (c.plain_kind.ensures ∙ ap plain_kind c.byte.ensures) ∙ c.in-6.is)

pub returns-in-7 : goal.returns-in-7
unfolding call_of
returns-in-7 c = simp (sym (c.plain_kind.ensures ∙ ap plain_kind c.byte.ensures) ∙ c.in-7.is, sym c.byte-in-7.ensures)

pub returns-in-8 : goal.returns-in-8
unfolding call_of
returns-in-8 c = simp (sym (c.plain_kind.ensures ∙ ap plain_kind c.byte.ensures) ∙ c.in-8.is)

pub returns-in_default : goal.returns-in_default
unfolding call_of
returns-in_default c =
    let r8 = c.in_default.in_default-own.rest in
    let r7 = r8.0 in
    let r6 = r7.0 in
    let r5 = r6.0 in
    let r4 = r5.0 in
    let r3 = r4.0 in
    let r2 = r3.0 in
    let r1 = r2.0 in
    let r0 = r1.0 in
    simp (
      sym (c.plain_kind.ensures ∙ ap plain_kind c.byte.ensures),
      ne_eqb _ _ r0.1,
      ne_eqb _ _ r1.1,
      ne_eqb _ _ r2.1,
      ne_eqb _ _ r3.1,
      ne_eqb _ _ r4.1,
      ne_eqb _ _ r5.1,
      ne_eqb _ _ r6.1,
      ne_eqb _ _ r7.1,
      ne_eqb _ _ r8.1,
      sym c.f64_at.ensures,
    )

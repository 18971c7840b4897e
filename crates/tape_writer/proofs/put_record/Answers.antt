-- `tape_writer::put_record` meets its contract. Assumes nothing.
use lib.Ieee.{binary32, to_bits}
use Rattle.tape.specs.Tape.{gain_kind}
use mathlib.Core.Path.{sym, ◌∙◌}
use borrow.Author.Tests.{le-ltb, lt-ltb, ne_eqb}
use Rattle.tape_writer.specs.Writing.{body_parts, bytes_by}
use Rattle.tape_writer.specs.Parts.{creation-joined, push-joined, edit-joined, bare-joined, block-joined, rate-joined}
use Rattle.tape_writer.proofs.Laying.{fields_fill}
use Rattle.tape_writer.proofs.put_record.Goals as goal

pub returns-then-k-eq0 : goal.returns-then-k-eq0
unfolding bytes_by body_parts
returns-then-k-eq0 c = fields_fill _ _ _ _ _ c.requires.room c.put_fields.ensures.lent (simp (sym c.plain_kind-k.ensures ∙ c.if-k-eq0.true) (creation-joined _ _ _ _))

pub returns-then-k-lt4 : goal.returns-then-k-lt4
unfolding bytes_by body_parts
returns-then-k-lt4 c =
    let a = c.args.a in
    fields_fill _ _ _ _ _ c.requires.room c.put_fields-then-k-lt4.ensures.lent (simp (
      sym c.plain_kind-k.ensures,
      ne_eqb _ _ c.if-k-eq0.false,
      lt-ltb _ _ c.if-k-lt4.true,
      c.first_word-first.ensures,
      c.second_word-second.ensures,
      c.f32_to_bits-gain.ensures,
      c.gain_width-width.ensures,
      c.f64_to_bits.ensures,
      c.f64_to_bits-then-k-lt4.ensures,
      c.f64_to_bits-then-k-lt4-2.ensures,
      c.f64_to_bits-then-k-lt4-3.ensures,
    )
    (push-joined _ _ _ _ _ _ _ _ _ (to_bits binary32 a.gain) (gain_kind a.kind)))

pub returns-then-k-lt6 : goal.returns-then-k-lt6
unfolding bytes_by body_parts
returns-then-k-lt6 c =
    fields_fill _ _ _ _ _ c.requires.room c.put_fields-then-k-lt6.ensures.lent
    (simp (sym c.plain_kind-k.ensures, ne_eqb _ _ c.if-k-eq0.false, le-ltb _ _ c.if-k-lt4.false, lt-ltb _ _ c.if-k-lt6.true, c.f64_to_bits-then-k-lt6.ensures, c.f64_to_bits-then-k-lt6-2.ensures)
    (edit-joined _ _ _ _))

pub returns-then-k-eq7 : goal.returns-then-k-eq7
unfolding bytes_by body_parts
returns-then-k-eq7 c = fields_fill _ _ _ _ _ c.requires.room c.put_fields-then-k-eq7.ensures.lent (simp (sym c.plain_kind-k.ensures ∙ c.if-k-eq7.true) (block-joined _ _))

pub returns-then-k-eq9 : goal.returns-then-k-eq9
unfolding bytes_by body_parts
returns-then-k-eq9 c = fields_fill _ _ _ _ _ c.requires.room c.put_fields-then-k-eq9.ensures.lent (simp (sym c.plain_kind-k.ensures ∙ c.if-k-eq9.true, c.f64_to_bits-then-k-eq9.ensures) (rate-joined _ _))

pub returns : goal.returns
unfolding bytes_by body_parts
returns c =
    fields_fill _ _ _ _ _ c.requires.room c.put_fields-2.ensures.lent
    (simp (sym c.plain_kind-k.ensures, ne_eqb _ _ c.if-k-eq0.false, le-ltb _ _ c.if-k-lt4.false, le-ltb _ _ c.if-k-lt6.false, ne_eqb _ _ c.if-k-eq7.false, ne_eqb _ _ c.if-k-eq9.false) (bare-joined _))

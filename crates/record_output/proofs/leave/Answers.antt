-- `record_output::leave` meets its contract. Assumes nothing.
use borrow.Author.Rules.{rules}
use mathlib.Core.Path.{◌≡◌, sym, ap, ◌∙◌}
use mathlib.Core.List.{List, ◌∷◌}
use Prim.Native.Nat.{ℕ, ◌<◌, ◌^◌}
use native.Mathlib.Omega.{arith}
use borrow.Author.Tests.{not-true, not-false}
use lib.Ieee.{Float}
use lib.ListN.{take, replicate}
use Rattle.listing.specs.Pieces.{text, add_all}
use Rattle.listing.specs.Text.{samples_line}
use Rattle.record_output.specs.Bytes.{bytes_of}
use Rattle.record_output.specs.Lines.{record_line, row_piece, pieces_in}
use Rattle.record_output.proofs.Listed.{both, left-none, left_as, take-least, add-one_piece}
use Rattle.record_output.proofs.leave.Goals as goal
use Rattle.record_output.proofs.leave.Goals.{in-Bytes, in-Lines}

pub returns-then-not-left : goal.returns-then-not-left
returns-then-not-left c =
    let a = c.args in
    let r = both a.form a.left a.counts a.row.now (search rules, (search rules, (search rules, (search rules, search rules)))) a.out.now a.at (left-none a.form a.left a.counts a.row.now a.out.now a.at (not-true _ c.if-not-left.true)) in record { result_after = r.0; stands = r.1 }

pub returns : goal.returns
returns c =
    let a = c.args in
    let l = a.left in
    let line = record_line l.kind l.refusal a.counts in
    let some = not-false _ c.if-not-left.false in
    let row = take-least l.each a.row.now c.min-n.ensures in
    let text_after : text c.put_channels.new.out c.put_channels.result ≡ add_all (pieces_in a.form l a.counts a.row.now) (text a.out.now a.at) = elim c.match-form.branch [
      | in-Bytes w ↦
          c.put_channels.ensures ∙ (λ i. add_all (replicate l.channels (row_piece (w.in-Bytes.is i) (row i))) (text (w.out-is i) (w.to-is i)))
          ∙ left_as a.form l a.counts a.row.now a.out.now a.at w.in-Bytes.is some
      | in-Lines w ↦
          c.put_channels.ensures ∙ (λ i. add_all (replicate l.channels (row_piece (w.in-Lines.is i) (row i))) (text (w.out-is i) (w.to-is i)))
          ∙ ap (add_all (replicate l.channels (samples_line (take l.each a.row.now)))) w.put_counts-to.ensures
          ∙ add-one_piece line (replicate l.channels (samples_line (take l.each a.row.now))) (text a.out.now a.at)
          ∙ left_as a.form l a.counts a.row.now a.out.now a.at w.in-Lines.is some
    ] in
    let r = both a.form l a.counts a.row.now (search rules, (search rules, (search rules, (search rules, search rules)))) a.out.now a.at text_after in
    record { result_after = r.0; stands = r.1 }

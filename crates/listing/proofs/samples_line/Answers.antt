-- `listing::samples_line` meets its contract: samples, or none. Assumes nothing.
use Prim.Native.Nat.{ℕ}
use mathlib.Core.Path.{sym, ap, ◌∙◌}
use mathlib.Core.List.{List}
use native.Mathlib.Omega.{arith}
use Rattle.listing.specs.Putting.{put, put_length, put_front, put-none}
use Rattle.listing.specs.Text.{samples_from}
use Rattle.listing.proofs.Lines.{samples_some, samples_none, length_from, length_samples}
use borrow.Author.Tests.{eqb-true, eqb-false}
use Rattle.listing.proofs.samples_line.Goals as goal

pub returns-then-is_empty : goal.returns-then-is_empty
returns-then-is_empty c =
    let o = c.args.out.now in
    let e = samples_none c.args.samples.now (eqb-true _ _ (sym c.is_empty.ensures ∙ c.if-is_empty.true)) in
    record { out_after = c.put_end.ensures.out_after ∙ ap (λ (m : List ℕ). put m o) e; value = c.put_end.ensures.value ∙ ap (λ (m : List ℕ). put_length m o) e }

pub returns-then-out-samples : goal.returns-then-out-samples
returns-then-out-samples c =
    let n = length_samples c.args.samples.now (eqb-false _ _ (sym c.is_empty.ensures ∙ c.if-is_empty.false)) in
    let t = c.if-out-samples.true in
    let r = put-none _ _ (omega arith) in record { out_after = r.0; value = r.1 }

pub put_samples-requires : goal.put_samples-requires
put_samples-requires c = let t = c.if-out-samples.false in omega arith

pub returns : goal.returns
returns c =
    let o = c.args.out.now in
    let xs = c.args.samples.now in
    let t = c.if-out-samples.false in
    let n = length_from xs in
    let p = put_front o (samples_from xs) _ c.put_samples.ensures.out_after (omega arith) in
    let e = samples_some xs (eqb-false _ _ (sym c.is_empty.ensures ∙ c.if-is_empty.false)) in
    record { out_after = p.0 ∙ ap (λ (m : List ℕ). put m o) e; value = c.put_samples.ensures.value ∙ p.1 ∙ ap (λ (m : List ℕ). put_length m o) e }

-- `floats::sample_index` meets its contract. The code's numbers stand in MIR by their bit patterns, which `unfolding of_bits` turns to `fin s m e`. Assumes nothing.
use Rattle.std.proofs.Common.{ℕ, ◌+◌, ◌/◌, ◌^◌, ◌<◌, T, sym, ap, ◌∙◌, subst, arith}
use lib.Ieee.{binary64, fits, of_bits, neg}
use Rattle.floats.specs.IndexStep.{sample_index}
use Rattle.floats.proofs.Index.{two64, index_low, index_high, index-whole, index-half, half-above, lt_T, both, clamp_high, clamp_half, clamp_whole, clamp_small, clamp_low}
use Rattle.floats.proofs.sample_index.Goals as goal
use Rattle.floats.proofs.sample_index.Goals.{Start}

held : (c : Start) → T (fits binary64 c.args.x)
held c = subst T (sym c.well_formed.0.1) tt

pub truncating_f64_to_u64-requires : goal.truncating_f64_to_u64-requires
unfolding of_bits
truncating_f64_to_u64-requires c =
    let r = index-half c.args.x (held c.before.before) c.if-x.true c.if-x-2.true in
    record { lower_bound = r.above; upper_bound = r.below }

pub overflow_add-truncating_f64_to_u64 : goal.overflow_add-truncating_f64_to_u64
unfolding of_bits
overflow_add-truncating_f64_to_u64 c =
    let r = index-half c.args.x (held c.before.before.before) c.if-x.true c.if-x-2.true in
    let s : c.truncating_f64_to_u64.result < 2 ^ 54 = subst (λ (y : ℕ). y < 2 ^ 54) (sym c.truncating_f64_to_u64.ensures) r.small in
    omega arith

pub truncating_f64_to_u64-requires-then-x-3 : goal.truncating_f64_to_u64-requires-then-x-3
unfolding of_bits
truncating_f64_to_u64-requires-then-x-3 c =
    let x = c.args.x in
    record { lower_bound = half-above x c.if-x.true; upper_bound = lt_T x two64 c.if-x-3.true }

pub returns-then-x-2 : goal.returns-then-x-2
unfolding sample_index of_bits
returns-then-x-2 c =
    let t = c.before in
    let s = t.before.before.before in
    let r = index-half s.args.x (held s) t.if-x.true t.if-x-2.true in
    c.freely.ensures ∙ both (ap (λ (y : ℕ). (y + 1) / 2) t.truncating_f64_to_u64.ensures ∙ r.gives) (clamp_half s.args.x t.if-x.true t.if-x-2.true)

pub returns-then-x-3 : goal.returns-then-x-3
unfolding sample_index of_bits
returns-then-x-3 c =
    let t = c.before in
    let s = t.before.before.before.before in
    let whole = index-whole s.args.x (held s) t.if-x.true t.if-x-2.false t.if-x-3.true in
    c.freely-then-x-3.ensures ∙ both (t.truncating_f64_to_u64-then-x-3.ensures ∙ whole) (clamp_whole s.args.x (held s) t.if-x.true t.if-x-2.false t.if-x-3.true)

pub returns-else-x-3 : goal.returns-else-x-3
unfolding sample_index of_bits
returns-else-x-3 c =
    let x = c.args.x in
    both (index_high x c.if-x.true c.if-x-3.false) (clamp_high x c.if-x.true c.if-x-3.false)

pub returns-then-x-4 : goal.returns-then-x-4
unfolding sample_index of_bits neg
returns-then-x-4 c =
    let x = c.args.x in
    c.freely-then-x-4.ensures ∙ both (index_low x c.if-x.false) (clamp_small x c.if-x.false c.if-x-4.true)

pub returns-else-x-4 : goal.returns-else-x-4
unfolding sample_index of_bits neg
returns-else-x-4 c =
    let x = c.args.x in
    both (index_low x c.if-x.false) (clamp_low x c.if-x.false c.if-x-4.false)

use Rattle.std.proofs.Common.{ℕ, ◌^◌, ◌<◌, sym, subst, lit≤}
use Rattle.tape.specs.Fields.{field_below}
use Rattle.tape.proofs.fields.word32.Goals as goal

pub overflow_cast-result : goal.overflow_cast-result
overflow_cast-result c = record { fits = subst (λ (k : ℕ). k < 2 ^ 32) (sym c.word.ensures) (field_below 4 c.args.bs.now c.args.at 4 (λ i. (c.shared_slice_known-1.given i).fits) (lit≤ tt)) }

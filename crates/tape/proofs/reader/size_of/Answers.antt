use Rattle.std.proofs.Common.{◌≡◌, ◌+◌, ◌-◌, arith}
use mathlib.Core.Logic.{inl, inr}
use Rattle.tape.specs.Tape.{size_of, sizes}
use Rattle.tape.proofs.Ranges.{size_1_to_3, size_4_or_5, size_10_to_12, size_none}
use Rattle.tape.proofs.reader.size_of.Goals as goal

pub returns-in-0 : goal.returns-in-0
unfolding size_of sizes
returns-in-0 c = rw c.in-0.is

pub returns-in-6 : goal.returns-in-6
unfolding size_of sizes
returns-in-6 c = elim c.in-6.is [ inl e ↦ rw e | inr e ↦ rw e ]

pub returns-in-7 : goal.returns-in-7
unfolding size_of sizes
returns-in-7 c = rw c.in-7.is

pub returns-in-9 : goal.returns-in-9
unfolding size_of sizes
returns-in-9 c = rw c.in-9.is

pub returns-in-1-to-3 : goal.returns-in-1-to-3
returns-in-1-to-3 c = size_1_to_3 c.args.kind (omega arith) (omega arith)

pub returns-in-4 : goal.returns-in-4
returns-in-4 c = size_4_or_5 c.args.kind (omega arith) (omega arith)

pub returns-in-10-to-12 : goal.returns-in-10-to-12
returns-in-10-to-12 c =
    let k = c.args.kind in
    let e : k ≡ 10 + (k - 10) = grind arith in
    size_10_to_12 k (k - 10) e (omega arith)

pub returns-in_default : goal.returns-in_default
returns-in_default c = size_none c.args.kind (omega arith)

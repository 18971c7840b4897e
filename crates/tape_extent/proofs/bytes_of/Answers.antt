-- `tape_extent::bytes_of` meets its contract. Assumes nothing.
use Rattle.std.proofs.Common.{◌*◌, ◌≤◌, mul-le-mul, arith}
use Rattle.tape_extent.proofs.bytes_of.Goals as goal
use Rattle.tape_extent.proofs.bytes_of.Goals.{Start}

most : (c : Start) → c.args.channels * c.args.n ≤ 255 * 255
most c =
    let a = c.ranges.channels.fits in
    let b = c.ranges.n.fits in
    let p : c.args.channels ≤ 255 = omega arith in
    let q : c.args.n ≤ 255 = omega arith in
    mul-le-mul p q

pub overflow_mul-result : goal.overflow_mul-result
overflow_mul-result c = let z = most c in record { fits = omega arith }

pub overflow_mul-result-2 : goal.overflow_mul-result-2
overflow_mul-result-2 c = let z = most c in record { fits = omega arith }

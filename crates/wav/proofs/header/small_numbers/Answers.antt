use Rattle.std.proofs.Common.{◌*◌, arith}
use Rattle.wav.specs.Header.{numbers_of}
use Rattle.wav.proofs.Headers.{product}
use Rattle.wav.proofs.header.small_numbers.Goals as goal

pub overflow_mul-data : goal.overflow_mul-data
overflow_mul-data c = let p = product c.args.frames (c.args.channels * 4) c.requires.fact_3 (let z = c.requires.fact_1 in omega arith) in record { fits = omega arith }

pub overflow_add-size : goal.overflow_add-size
overflow_add-size c = let p = product c.args.frames (c.args.channels * 4) c.requires.fact_3 (let z = c.requires.fact_1 in omega arith) in record { fits = omega arith }

pub returns : goal.returns
unfolding numbers_of
returns c = rw c.speed.ensures

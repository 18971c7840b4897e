use Rattle.wav.proofs.Headers.{rate-zero, rate-cut, rate-whole, rate-other}
use Rattle.wav.proofs.header.whole_rate.Goals as goal

pub returns-then-n-eq0 : goal.returns-then-n-eq0
returns-then-n-eq0 c = rate-zero _ _ c.nearest_index-n.ensures c.if-n-eq0.true

pub returns-then-n-gt4294967295 : goal.returns-then-n-gt4294967295
returns-then-n-gt4294967295 c = rate-cut _ _ c.nearest_index-n.ensures c.if-n-eq0.false c.if-n-gt4294967295.true

pub returns-then-nearest_u64_to_f64-rate : goal.returns-then-nearest_u64_to_f64-rate
returns-then-nearest_u64_to_f64-rate c = rate-whole _ _ c.nearest_index-n.ensures c.if-n-eq0.false c.if-n-gt4294967295.false _ c.nearest_u64_to_f64.ensures c.if-nearest_u64_to_f64-rate.true

pub returns : goal.returns
returns c = rate-other _ _ c.nearest_index-n.ensures c.if-n-eq0.false c.if-n-gt4294967295.false _ c.nearest_u64_to_f64.ensures c.if-nearest_u64_to_f64-rate.false

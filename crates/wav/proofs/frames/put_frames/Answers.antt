use Rattle.std.proofs.Common.{arith}
use Rattle.wav.proofs.Steps.{no_frames, too_narrow, too_short, no_room, all-put, product-fits, channels_fit}
use Rattle.wav.proofs.frames.put_frames.Goals as goal

pub returns-then-each-eq0 : goal.returns-then-each-eq0
returns-then-each-eq0 c = let r = no_frames _ _ _ _ _ c.if-each-eq0.true in record { count = r.0; lent = r.1 }

pub returns-then-stride-each : goal.returns-then-stride-each
returns-then-stride-each c = let r = too_narrow _ _ _ _ _ c.if-stride-each.true in record { count = r.0; lent = r.1 }

pub returns-then-samples-stride : goal.returns-then-samples-stride
returns-then-samples-stride c = let r = too_short _ _ _ _ _ c.if-each-eq0.false c.if-stride-each.false c.if-samples-stride.true in record { count = r.0; lent = r.1 }

pub returns-then-out-each : goal.returns-then-out-each
returns-then-out-each c = let r = no_room _ _ _ _ _ c.if-each-eq0.false c.if-stride-each.false c.if-samples-stride.false c.if-out-each.true in record { count = r.0; lent = r.1 }

pub put_all-requires : goal.put_all-requires
put_all-requires c = record { fact_1 = c.if-stride-each.false; fact_2 = channels_fit _ _ _ c.if-samples-stride.false; fact_3 = product-fits _ _ _ c.if-out-each.false }

pub overflow_mul-result : goal.overflow_mul-result
overflow_mul-result c = let p = product-fits _ _ _ c.if-out-each.false in record { fits = omega arith }

pub overflow_mul-result-2 : goal.overflow_mul-result-2
overflow_mul-result-2 c = let p = product-fits _ _ _ c.if-out-each.false in record { fits = omega arith }

pub returns : goal.returns
returns c = let r = all-put _ _ _ _ _ c.if-each-eq0.false c.if-stride-each.false c.if-samples-stride.false c.if-out-each.false _ c.put_all.ensures in record { count = r.0; lent = r.1 }

use Rattle.std.proofs.Common.{arith, rules}
use Rattle.listing.specs.Putting.{same-long}
use Rattle.wav.proofs.Steps.{first_frame, fits_frame, next_frame, last_frame}
use Rattle.wav.proofs.frames.put_all.Goals as goal

pub loop-place-init : goal.loop-place-init
loop-place-init c = first_frame _ _ _ _ _ c.requires.fact_1 c.requires.fact_2 c.requires.fact_3

pub put_frame-requires : goal.put_frame-requires
put_frame-requires c = record { fact_1 = let i = c.loop-place.invariant.inside in omega (arith, c.loop-place-test.true); fact_2 = c.loop-place.invariant.given; fact_3 = fits_frame _ _ _ _ _ c.loop-place.invariant c.loop-place-test.true }

pub overflow_mul-at : goal.overflow_mul-at
overflow_mul-at c = let s = same-long c.loop-place.invariant.put in let f = fits_frame _ _ _ _ _ c.loop-place.invariant c.loop-place-test.true in search rules

pub overflow_add-at : goal.overflow_add-at
overflow_add-at c = let s = same-long c.loop-place.invariant.put in let f = fits_frame _ _ _ _ _ c.loop-place.invariant c.loop-place-test.true in search rules

pub loop-place-preserved : goal.loop-place-preserved
loop-place-preserved c = next_frame _ _ _ _ _ c.loop-place.invariant c.loop-place-test.true _ c.put_frame.ensures

pub shape_of-out : goal.shape_of-out
shape_of-out c = same-long c.loop-place.invariant.put

pub returns : goal.returns
returns c = last_frame _ _ _ _ _ c.loop-place.invariant c.loop-place-test.false

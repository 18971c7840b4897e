use Rattle.listing.specs.Putting.{same-long}
use Rattle.wav.proofs.Steps.{first_channel, next_channel, last_channel}
use Rattle.wav.proofs.frames.put_frame.Goals as goal

pub loop-channel-init : goal.loop-channel-init
loop-channel-init c = first_channel _ _ _ _ _ _ c.requires.fact_1 c.requires.fact_2 c.requires.fact_3

pub loop-channel-preserved : goal.loop-channel-preserved
loop-channel-preserved c = next_channel _ _ _ _ _ _ c.loop-channel.invariant c.loop-channel-test.true _ _ c.put_sample-to.ensures

pub shape_of-out : goal.shape_of-out
shape_of-out c = same-long c.loop-channel.invariant.put

pub returns : goal.returns
returns c = last_channel _ _ _ _ _ _ c.loop-channel.invariant c.loop-channel-test.false

use Rattle.std.proofs.Common.{◌-◌, ◌*◌}
use Rattle.wav.proofs.Steps.{Channels}
use Rattle.wav.proofs.frames.put_frame.Given as goal

abbrev pub invariant-loop-channel : goal.invariant-loop-channel
invariant-loop-channel l = Channels l.samples l.channels l.stride l.place l.initial.out l.at l.out (l.channel * l.stride) l.to (l.channels - l.channel)

use Rattle.wav.proofs.Steps.{Frames}
use Rattle.wav.proofs.frames.put_all.Given as goal

abbrev pub invariant-loop-place : goal.invariant-loop-place
invariant-loop-place l = Frames l.samples l.channels l.each l.stride l.initial.out l.out l.at l.place

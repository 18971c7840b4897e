use Rattle.wav.specs.Header.{widths_of}
use Rattle.wav.proofs.header.widths.Goals as goal

pub returns-then-large : goal.returns-then-large
unfolding widths_of
returns-then-large c = rw c.if-large.true

pub returns : goal.returns
unfolding widths_of
returns c = rw c.if-large.false

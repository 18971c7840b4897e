use Rattle.wav.proofs.header.numbers.Goals as goal

pub returns-then-large : goal.returns-then-large
returns-then-large c = rw c.if-large.true c.large_numbers.ensures

pub returns-else-large : goal.returns-else-large
returns-else-large c = rw c.if-large.false c.small_numbers.ensures

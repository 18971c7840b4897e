-- `live::pushes::Stated::new` meets its contract: by the three ways.
use Rattle.ledger.specs.Refusals.{stated_end}
use Rattle.ledger.specs.Steps.{pushed_time}
use Rattle.live.proofs.pushes.Stated.new.Goals as goal

pub returns-in-Absolute : goal.returns-in-Absolute
unfolding stated_end pushed_time
returns-in-Absolute c = rw c.in-Absolute.is

pub returns-in-Relative : goal.returns-in-Relative
unfolding stated_end pushed_time
returns-in-Relative c = rw c.in-Relative.is

pub returns-in-Duration : goal.returns-in-Duration
unfolding stated_end pushed_time
returns-in-Duration c = rw c.in-Duration.is

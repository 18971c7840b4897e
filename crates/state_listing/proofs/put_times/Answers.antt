-- `state_listing::put_times` meets its contract: part by part. Assumes nothing.
use Rattle.std.proofs.Common.{◌++◌, rules}
use Rattle.listing.specs.Ascii.{ascii}
use Rattle.state_listing.specs.Lines.{time_part, time_parts}
use Rattle.state_listing.proofs.Parts.{join}
use Rattle.state_listing.proofs.put_times.Goals as goal

pub returns : goal.returns
unfolding time_parts
returns c =
    let s = c.args.s in
    let last = time_part (ascii " duration=") s.sample_duration in
    let third = time_part (ascii " rate=") s.sample_rate in
    let second = time_part (ascii " threshold=") s.active_threshold in
    join _ (time_part (ascii " clock=") s.time) (second ++ (third ++ last)) c.put_time-to.ensures
    (join _ second (third ++ last) c.put_time-to-2.ensures (join _ third last c.put_time-to-3.ensures c.put_time.ensures))

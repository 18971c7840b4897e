-- `state_listing::put_state` meets its contract: lists, times, numbers. Assumes nothing.
use Rattle.std.proofs.Common.{◌++◌, rules}
use Rattle.state_listing.specs.Lines.{list_parts, time_parts, number_parts, state_parts}
use Rattle.state_listing.proofs.Parts.{join}
use Rattle.state_listing.proofs.put_state.Goals as goal

pub returns : goal.returns
unfolding state_parts
returns c =
    let s = c.args.s in
    join _ (list_parts s) (time_parts s ++ number_parts s) c.put_lists-to.ensures (join _ (time_parts s) (number_parts s) c.put_times-to.ensures c.put_numbers.ensures)

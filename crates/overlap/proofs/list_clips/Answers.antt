use Rattle.std.proofs.Common.{◌∙◌}
use Rattle.overlap.proofs.Listing.{counted, listed, drainable}
use Rattle.overlap.proofs.list_clips.Goals as goal

pub drain_sorted-requires : goal.drain_sorted-requires
drain_sorted-requires c = drainable _ _ _ _ _ c.requires.fact_2 c.min.ensures c.gather-count.ensures

pub returns : goal.returns
returns c =
    let g = c.gather-count.ensures in
    record { counted = counted _ _ _ _ _ g; listed = c.drain_sorted.ensures ∙ listed _ _ _ _ _ g _ _ c.min.ensures }

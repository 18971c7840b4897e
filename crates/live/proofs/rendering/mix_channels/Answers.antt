-- `live::rendering::mix_channels` meets its contract.
use Rattle.std.proofs.Common.{◌/◌, List, length, take, ap, ◌∙◌}
use lib.Ieee.{Float}
use Rattle.ledger.specs.BlockSamples.{overlay}
use Rattle.live.proofs.rendering.mix_channels.Goals as goal

pub returns : goal.returns
returns c =
    let out = c.args.out.now in
    record {
      engine = c.mix_block-places.ensures.engine;
      samples = c.overlay_channels.ensures ∙ ap (λ (x : List Float). overlay (length out / 64) (take 64 x) out) c.mix_block-places.ensures.samples;
      places = c.mix_block-places.ensures.places;
    }

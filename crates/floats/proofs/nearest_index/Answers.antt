-- `floats::nearest_index` meets its contract: it is the number that `sample_index` gives.
use Rattle.std.proofs.Common.{ap}
use Rattle.floats.specs.declared.SampleIndex.{SampleIndex}
use Rattle.floats.specs.IndexStep.{sample_index}
use Rattle.floats.proofs.nearest_index.Goals as goal

pub returns : goal.returns
unfolding sample_index
returns c = ap (λ (r : SampleIndex). r.index) c.sample_index.ensures

-- `live::resets::let_all_go` meets its contract.
use Rattle.std.proofs.Common.{refl, ap, ◌∙◌}
use Rattle.sequencer.specs.Resets.{emptied_lists}
use Rattle.memory.specs.Memory.{cells_of, engine_of}
use Rattle.live.proofs.Again.{all_gone, gone_is}
use Rattle.live.proofs.resets.let_all_go.Goals as goal

pub returns : goal.returns
returns c =
    let a = c.args in
    let c₀ = cells_of a.times.now a.levels.now a.marks.now a.numbers.now in
    all_gone c₀ c.sized.ensures _ ∙ ap (emptied_lists (engine_of c₀)) (gone_is c₀ _ _ _ _ c.min-past.ensures c.min-waiting.ensures c.min-sounding.ensures refl)

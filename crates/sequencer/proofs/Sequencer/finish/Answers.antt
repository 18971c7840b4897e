-- `sequencer::Sequencer::finish` meets its contract.
use Rattle.std.proofs.Common.{get_or, ap, ◌∙◌}
use Rattle.event.specs.Blank.{blank}
use Rattle.sequencer.specs.declared.Sequencer.{Sequencer}
use Rattle.sequencer.specs.Moves.{pushed_past}
use Rattle.sequencer.proofs.Sequencer.finish.Goals as goal

pub swap_remove-requires : goal.swap_remove-requires
swap_remove-requires c = c.requires

pub returns : goal.returns
returns c =
    let a = c.args in
    c.push_past.ensures ∙ ap (λ (s : Sequencer). pushed_past s (get_or a.self.active a.i blank)) c.swap_remove.ensures

-- `sequencer::Sequencer::release_past` meets its contract. Assumes nothing.
use Rattle.std.proofs.Common.{ℕ, ◌∙◌, ap₂}
use Rattle.sequencer.specs.Parts.{with_past, with_let_go}
use Rattle.sequencer.specs.Turns.{released}
use Rattle.sequencer.proofs.Sequencer.release_past.Goals as goal

pub returns : goal.returns
returns c =
    let s = c.args.self in
    ap₂ (λ (n k : ℕ). with_past (with_let_go s n) s.past k) c.gone.ensures c.kept.ensures ∙ released s s.mode

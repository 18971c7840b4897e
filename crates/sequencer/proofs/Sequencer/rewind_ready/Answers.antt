-- `sequencer::Sequencer::rewind_ready` meets its contract. Assumes nothing.
use Rattle.std.proofs.Common.{◌≡◌, ℕ, min, ap, ◌∙◌}
use Rattle.sequencer.specs.declared.Sequencer.{Sequencer}
use Rattle.sequencer.specs.Parts.{with_ready}
use Rattle.sequencer.specs.Resets.{rewinds, rewound_ready}
use Rattle.sequencer.specs.Turns.{rewinding_start, rewinding_on, rewound-all}
use Rattle.sequencer.proofs.Sequencer.rewind_ready.Goals as goal

rewound-is : (s : Sequencer) {t : Sequencer} {n : ℕ} → n ≡ min s.ready_len 256 → t ≡ with_ready s (rewinds n s.ready 0) s.ready_len → t ≡ rewound_ready s
unfolding rewound_ready
rewound-is s h g = g ∙ ap (λ (m : ℕ). with_ready s (rewinds m s.ready 0) s.ready_len) h

pub loop-i-init : goal.loop-i-init
loop-i-init c = (c.min-n.ensures, rewinding_start)

pub loop-i-preserved : goal.loop-i-preserved
loop-i-preserved c =
    let w = c.loop-i.invariant in
    (w.0, rewinding_on c.rewind.ensures c.loop-i-test.true w.1)

pub returns : goal.returns
returns c = rewound-is _ c.loop-i.invariant.0 (rewound-all c.loop-i-test.false c.loop-i.invariant.1)

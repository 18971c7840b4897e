-- `sequencer::Sequencer::reset` meets its contract. Assumes nothing.
use Rattle.std.proofs.Common.{refl, ◌≡◌, ℕ, ◌+◌, ◌%◌, ◌^◌, min, sym, ap, ◌∙◌}
use lib.Ieee.{of_bits, neg, div}
use Rattle.event.specs.declared.ReplayMode.TheVariants.{All, None}
use Rattle.floats.specs.Arithmetic.{zeroᶠ, -∞}
use Rattle.lists.specs.declared.EditMap.{EditMap}
use Rattle.sequencer.specs.declared.Sequencer.{Sequencer}
use Rattle.sequencer.specs.Parts.{with_ready, with_active, with_past, with_edits, with_times, with_let_go}
use Rattle.sequencer.specs.Moves.{all_to_ready}
use Rattle.sequencer.specs.Resets.{cleared_edits, rewound_ready, reset_by, resets}
use Rattle.sequencer.proofs.Sequencer.reset.Goals as goal

reset-all : (s : Sequencer) {g r : Sequencer} → g ≡ all_to_ready s → r ≡ rewound_ready g → s.mode ≡ All → with_times r zeroᶠ -∞ ≡ resets s
unfolding reset_by
reset-all s p q m = ap (λ (x : Sequencer). with_times x zeroᶠ -∞) (q ∙ ap rewound_ready p) ∙ sym (ap (reset_by s) m)

abbrev emptied : Sequencer → EditMap → ℕ → Sequencer
emptied s m l = with_times (with_let_go (with_ready (with_active (with_past (with_edits s m) s.past 0) s.active s.active_map 0) s.ready 0) l) zeroᶠ -∞

reset-none : (s : Sequencer) {a b d l : ℕ} {m : EditMap} → a ≡ min s.past_len 256 → b ≡ min s.ready_len 256 → d ≡ min s.active_len 256
    → l ≡ (s.let_go + (a + (b + d))) % 2 ^ 64 → m ≡ cleared_edits s.edit_map → s.mode ≡ None → emptied s m l ≡ resets s
unfolding reset_by
reset-none s {m = m} p q r w e o =
    ap (emptied s m) (w ∙ (λ i. (s.let_go + (p i + (q i + r i))) % 2 ^ 64))
    ∙ ap (λ (x : EditMap). emptied s x ((s.let_go + (min s.past_len 256 + (min s.ready_len 256 + min s.active_len 256))) % 2 ^ 64)) e
    ∙ sym (ap (reset_by s) o)

pub returns-in-All : goal.returns-in-All
unfolding of_bits neg div
returns-in-All c = reset-all c.args.self c.all_to_ready.ensures c.rewind_ready-s.ensures c.in-All.is

pub returns-in-None : goal.returns-in-None
unfolding of_bits neg div
returns-in-None c =
    let n = c.before.before.before in
    let k = n.before.before.before in
    reset-none k.args.self n.min.ensures n.min-in-None.ensures n.min-in-None-2.ensures
    refl c.cleared_edits-self.ensures k.in-None.is

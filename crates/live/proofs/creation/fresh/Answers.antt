-- `live::creation::fresh` meets its contract.
use Rattle.std.proofs.Common.{ℕ, eqb, replicate, refl, ap, ◌∙◌}
use lib.Ieee.{of_bits, round, neg, div}
use Rattle.event.specs.declared.ReplayMode.{ReplayMode}
use Rattle.floats.specs.Arithmetic.{whole, zeroᶠ}
use Rattle.sequencer.specs.Creation.{fresh_engine}
use Rattle.memory.specs.Memory.{mode_if}
use Rattle.live.proofs.Zeros.{fresh-is, mode_told}
use Rattle.live.proofs.creation.fresh.Goals as goal

pub returns : goal.returns
unfolding whole of_bits round neg div
returns c =
    fresh-is _ _ _ _ (c.fill.ensures.after (λ y h. h) ∙ ap (λ (n : ℕ). replicate n zeroᶠ) c.told-times) (c.fill-2.ensures.after (λ y h. h) ∙ ap (λ (n : ℕ). replicate n zeroᶠ) c.told-levels) (c.fill-3.ensures.after (λ y h. h) ∙ ap (λ (n : ℕ). replicate n 0) c.told-marks) (c.fill-4.ensures.after (λ y h. h) ∙ ap (λ (n : ℕ). replicate n 0) c.told-numbers) _ _ _ _ _ _ refl refl refl
    ∙ ap (λ (m : ReplayMode). fresh_engine c.args.outputs m c.args.first) (ap (λ (k : ℕ). mode_if (eqb k 0)) c.mode_number.ensures ∙ mode_told c.args.mode)

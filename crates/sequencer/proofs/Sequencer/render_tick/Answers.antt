-- `sequencer::Sequencer::render_tick` meets its contract.
use Rattle.std.proofs.Common.{◌≡◌, List, length, replicate, ap, ◌∙◌}
use lib.Ieee.{Float}
use Rattle.event.specs.declared.MixOrder.{MixOrder}
use Rattle.sequencer.specs.declared.Sequencer.{Sequencer}
use Rattle.sequencer.specs.declared.rendering.TickMix.{TickMix}
use Rattle.sequencer.specs.Parts.{with_sounding}
use Rattle.sequencer.specs.Answers.{accepts}
use Rattle.sequencer.specs.Moves.{advanced}
use Rattle.sequencer.specs.Rendering.{tick_end, tick_pass, rendered_tick, rendered_tick_out}
use Rattle.sequencer.proofs.Sequencer.render_tick.Goals as goal

module _ (order : MixOrder) (pool : List Float) (s : Sequencer) where
  -- the sounding events of a at the tick
  abbrev mixed : Sequencer → TickMix
  mixed a = record { sequencer = with_sounding a (tick_pass order pool s.time a).items; sum = (tick_pass order pool s.time a).sum }

  done : (a : Sequencer) (m : TickMix) (out o : List Float) → a ≡ advanced s (tick_end s) → m ≡ mixed a → o ≡ replicate (length out) m.sum
      → (accepts m.sequencer ≡ accepts (rendered_tick order pool s)) × (o ≡ rendered_tick_out order pool s out)
  unfolding rendered_tick rendered_tick_out
  done a m out o h q g =
      let r = q ∙ ap mixed h in
      (ap (λ (x : TickMix). accepts x.sequencer) r, g ∙ ap (λ (x : TickMix). replicate (length out) x.sum) r)

pub returns : goal.returns
returns c =
    let set = c.before.before.before in
    let mixed = set.before.before in
    let begun = mixed.before in
    done _ _ begun.args.self _ _ _ _ begun.advance-s.ensures mixed.mix_tick-mix.ensures set.set_all.ensures

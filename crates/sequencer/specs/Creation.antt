-- A fresh engine.
use Rattle.std.specs.Prelude.{ℕ, Bool, cond, ◌||◌, replicate, ◌==◌, nat_lt}
use Rattle.event.specs.declared.ReplayMode.{ReplayMode}
use Rattle.event.specs.declared.ReplayMode.TheVariants.{All}
use Rattle.ready.specs.Waiting as Waiting
use Rattle.lists.specs.Edits as Edits
use Rattle.floats.specs.Arithmetic.{◌÷ᵈ◌, zeroᶠ, oneᶠ, -∞, whole}
use Rattle.sequencer.specs.declared.Sequencer.{Sequencer}
use Rattle.sequencer.specs.declared.Outcome.{Outcome}
use Rattle.sequencer.specs.Answers.{accepts}
use Rattle.sequencer.specs.Outcomes.{refuses}

unfoldable pub fresh_engine : (outputs : ℕ) → ReplayMode → (first : ℕ) → Sequencer
unfolding whole
fresh_engine c m k = record {
  ready = (Waiting.emptied).items;
  ready_len = 0;
  active = (Waiting.emptied).items;
  active_len = 0;
  active_map = replicate 256 (record { 0 = 0 });
  past = (Waiting.emptied).items;
  past_len = 0;
  edit_map = Edits.emptied;
  time = zeroᶠ;
  active_threshold = -∞;
  sample_rate = whole 44_100;
  sample_duration = oneᶠ ÷ᵈ whole 44_100;
  outputs = c;
  mode = m;
  next = k;
  let_go = 0;
}

-- 1: the channels are not 1 to 8, or the first number is 0
abbrev pub refuses_creation : (outputs first : ℕ) → Bool
refuses_creation c k = nat_lt c 1 || nat_lt 8 c || k == 0

unfoldable pub created : (outputs : ℕ) → ReplayMode → (first : ℕ) → Outcome
unfolding fresh_engine
created c m k = cond (refuses_creation c k) (refuses (fresh_engine 1 All 1) 1) (accepts (fresh_engine c m k))

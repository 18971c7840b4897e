-- Document 02, Paper 13: "a tape that reaches that sum: record 00 with one channel, All, first number 1, then n pushes 01, the k-th with start n - k, end n, no fades, smooth, held 1.0".
use Rattle.std.specs.Prelude.{ℕ, zero, suc, ◌-◌, List, [], ◌∷◌}
use Rattle.floats.specs.Arithmetic.{zeroᶠ, oneᶠ, whole}
use Rattle.event.specs.declared.Fade.TheVariants.{Smooth}
use Rattle.event.specs.declared.Source.TheVariants.{Held}
use Rattle.event.specs.declared.ReplayMode.TheVariants.{All}
use Rattle.ledger.specs.Calls.{absolute}
use Rattle.tape.specs.declared.reader.PushRecord.{PushRecord}
use Rattle.sequencer.specs.declared.Sequencer.{Sequencer}
use Rattle.sequencer.specs.Creation.{created}
use Rattle.rises.specs.Totals.{Push}

-- "one channel, All, first number 1"
unfoldable pub fresh_one : Sequencer
fresh_one = (created 1 All 1).sequencer

-- "the k-th with start n - k, end n, no fades, smooth, held 1.0"
unfoldable pub kth_push : (n k : ℕ) → PushRecord
kth_push n k = record {
  start_time = whole (n - k);
  end_time = whole n;
  fade_in = zeroᶠ;
  fade_out = zeroᶠ;
  fade_ease = Smooth;
  source = Held oneᶠ;
  gain = oneᶠ;
}

-- f of them, from the k-th on
unfoldable pub pushes_from : (n k f : ℕ) → List Push
unfolding kth_push
pushes_from n k zero = []
pushes_from n k (suc f) = (absolute, kth_push n k) ∷ pushes_from n (suc k) f

-- "n pushes"
unfoldable pub arrangement : (n : ℕ) → List Push
unfolding pushes_from
arrangement n = pushes_from n 1 n

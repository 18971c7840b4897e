-- Document 02, Paper 13: the arrangement reaches the bound, for every n up to 256. Each new event starts before all that wait, so it rises to the top. Assumes nothing.
use Rattle.std.specs.Prelude.{◌≡◌, ℕ, suc, ◌-◌, ◌<◌, ◌≤◌, true, length, slice_index_or}
use Rattle.event.specs.declared.Event.{Event}
use Rattle.event.specs.Blank.{blank}
use Rattle.floats.specs.Arithmetic.{ -∞, whole}
use Rattle.ledger.specs.Calls.{absolute}
use Rattle.sequencer.specs.declared.Sequencer.{Sequencer}
use Rattle.sequencer.specs.declared.Pushed.{Pushed}
use Rattle.rises.specs.Way.{floor_log2}
use Rattle.rises.specs.Totals.{Push, is_number}
use Rattle.rises.specs.Single.{event_of}
use Rattle.rises.specs.Arrangement.{kth_push}

-- ---- what is known of the engine after m of the n pushes

-- an event that starts at n - m or later
abbrev pub Late : (n m : ℕ) → Event → Type 0
Late n m e = (q : ℕ) × (e.start_time ≡ whole q) × (n - m ≤ q) × (q ≤ n)

pub record Laid (n m : ℕ) (s : Sequencer) : Type 0 where
  pub waiting : s.ready_len ≡ m
  pub sounding : s.active_len ≡ 0
  pub finished : s.past_len ≡ 0
  pub threshold : s.active_threshold ≡ -∞
  pub next : s.next ≡ suc m
  pub sized : length s.ready ≡ 256
  pub late : (j : ℕ) → j < m → Late n m (slice_index_or s.ready j blank)

module _ (n m : ℕ) (small : n ≤ 256) (left : m < n) (s : Sequencer) (l : Laid n m s) where
  abbrev pub p : Push
  p = (absolute, kth_push n (suc m))

  abbrev pub e : Event
  e = event_of s p

  abbrev pub Next : Pushed → Type 0
  Next o = (is_number o.answer ≡ true) × (o.rise ≡ floor_log2 (suc m)) × Laid n (suc m) o.sequencer

-- The laws of the ledger: they hold at every creation, every call keeps them, and so they hold after every list of calls, refused ones included. Assumes nothing.
use Rattle.std.specs.Prelude.{ℕ, ◌+◌, ◌^◌, ◌≤◌, ◌<◌, ◌≡◌, false, T, length}
use mathlib.Core.List.{List, Memᴰ}
use Rattle.std.specs.Float.Ieee.{is_nan}
use Rattle.event.specs.declared.Event.{Event}
use Rattle.floats.specs.Arithmetic.{◌<ᶠ◌, ◌≤ᶠ◌}
use Rattle.ledger.specs.Ledger.{Ledger, held}
use Rattle.ledger.specs.Conservation.{four_sum}
use Rattle.ledger.specs.Partition.{stands, is}
use Rattle.ledger.specs.Sorted.{Sorted}
use Rattle.ledger.specs.NotNan.{billion}
use Rattle.ledger.specs.Limits.{edits_of}

abbrev pub NoNanStart : List Event → Type 0
NoNanStart l = (e : Event) → Memᴰ e l → is_nan e.start_time ≡ false

pub record Lawful (l : Ledger) : Type 0 where
  -- W is sorted by start, then by number; no event of W has start < θ
  pub sorted : Sorted l.waiting
  pub on_time : (e : Event) → Memᴰ e l.waiting → (e.start_time <ᶠ l.threshold) ≡ false
  -- at most 256 events are held, at most 256 edits are stored, one per number
  pub events : held l ≤ 256
  pub edits : length l.edits ≤ 256
  pub one-edit : (k : ℕ) → edits_of k l.edits ≤ 1
  -- numbers: the next is not 0, none stands twice in W, S, F and G, and none stands there that is yet to be given
  pub positive : 0 < l.next
  pub next : l.next ≤ 2 ^ 64
  pub single : (k : ℕ) → stands k l ≤ 1
  pub not_yet : (k : ℕ) → l.next ≤ k → stands k l ≡ 0
  pub fewer : length l.gone + held l < l.next
  pub counted : length l.gone + held l < 2 ^ 64
  -- no start is a NaN; the clock is at most 1,000,000,000, so it is no NaN either
  pub no_nan : NoNanStart l.waiting × NoNanStart l.sounding × NoNanStart l.finished
  pub clock : T (l.clock ≤ᶠ billion)

-- ---- numbers

abbrev pub one : ℕ → ℕ
one n = 1

pub record Counts (l : Ledger) : Type 0 where
  pub positive : 0 < l.next
  pub single : (k : ℕ) → four_sum (is k) l ≤ 1
  pub not_yet : (k : ℕ) → l.next ≤ k → four_sum (is k) l ≡ 0
  pub fewer : four_sum one l < l.next

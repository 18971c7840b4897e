-- Document 02, Paper 2: "the comparison looks at the starts first and opens the event numbers only when the starts are equal in bits. .. a law says that numbers never change the answer between starts of
-- different bits." Told of `earlier`, the comparison of the waiting heap, for starts that an f64 holds; the logic's one NaN has one pattern. Assumes nothing.
use Rattle.std.specs.Prelude.{ℕ, Bool, true, false, T, to_bits}
use Rattle.std.specs.Float.{binary64}
use Rattle.std.specs.Float.Ieee.{fits}
use Rattle.std.specs.declared.cmp.Ordering.{Ordering}
use Rattle.std.specs.declared.cmp.Ordering.TheVariants.{Less, Equal, Greater}
use Rattle.event.specs.declared.Event.{Event}

-- the bits of an event's start, and that it is an f64
abbrev pub start_bits : Event → ℕ
start_bits e = to_bits binary64 e.start_time

abbrev pub Starts : Event → Type 0
Starts e = T (fits binary64 e.start_time)

-- the event under another number
abbrev pub numbered : ℕ → Event → Event
numbered k e = record {
  start_time = e.start_time;
  end_time = e.end_time;
  fade_in = e.fade_in;
  fade_out = e.fade_out;
  fade_ease = e.fade_ease;
  unit = e.unit;
  gain = e.gain;
  id = record { 0 = k };
}

-- `precedes` opens the numbers where `total_cmp` answers Equal, which it does where the bits are equal and nowhere else
abbrev pub is_equal : Ordering → Bool
is_equal Less = false
is_equal Equal = true
is_equal Greater = false

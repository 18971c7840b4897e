-- A few events through the definitions, computed.
use Rattle.std.specs.Prelude.{true, ◌≡◌, refl, ℕ, Float, pos}
use Rattle.std.specs.Float.{fin}
use Rattle.std.specs.Float.Ieee.{lt, eq, is_nan}
use Rattle.floats.specs.Arithmetic.{zeroᶠ, oneᶠ}
use Rattle.floats.specs.Floats.{total_less, negative, sooner}
use Rattle.event.specs.declared.Event.{Event}
use Rattle.event.specs.Events.{number_of}
use Rattle.event.specs.declared.Fade.TheVariants.{Power}
use Rattle.event.specs.declared.Source.TheVariants.{Held}
use Rattle.ready.specs.declared.Ready.{Ready}
use Rattle.ready.specs.Sift.{rise, sink, child}
use Rattle.ready.specs.Waiting.{peeked, pushed, popped, emptied}

-- number n, starting at t
abbrev event : Float → ℕ → Event
event t n = record {
  start_time = t;
  end_time = t;
  fade_in = t;
  fade_out = t;
  fade_ease = Power;
  unit = record { source = Held t; value = t; place = 0 };
  gain = t;
  id = record { 0 = n };
}

-- 0.0, 1.0 and -0.0, numbered 1, 2 and 3: -0.0 precedes 0.0
abbrev three : Ready
three = pushed (pushed (pushed emptied (event zeroᶠ 1)) (event oneᶠ 2)) (event (fin true 0 (pos 0)) 3)

negative_zero_first : number_of (peeked three) ≡ 3
unfolding pushed emptied rise sooner total_less lt eq is_nan negative
negative_zero_first = refl

then-zero : number_of (peeked (popped three)) ≡ 1
unfolding pushed popped emptied rise sink child sooner total_less lt eq is_nan negative
then-zero = refl

then_one : number_of (peeked (popped (popped three))) ≡ 2
unfolding pushed popped emptied rise sink child sooner total_less lt eq is_nan negative
then_one = refl

-- equal starts go by number, whatever their order of pushing
lower_number_first : number_of (peeked (pushed (pushed emptied (event oneᶠ 5)) (event oneᶠ 4))) ≡ 4
unfolding pushed emptied rise sooner total_less lt eq is_nan negative
lower_number_first = refl

-- nothing leaves an empty heap
still_empty : popped emptied ≡ emptied
unfolding popped emptied
still_empty = refl

-- a count above 256 is corrupt: nothing changes
abbrev corrupt : Ready
corrupt = record { items = emptied.items; len = 257 }

corrupt-push : pushed corrupt (event zeroᶠ 1) ≡ corrupt
unfolding pushed
corrupt-push = refl

corrupt_pop : popped corrupt ≡ corrupt
unfolding popped
corrupt_pop = refl

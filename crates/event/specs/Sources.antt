-- Document 01, "Sources and events": a source at a place, the sample that it gives next, and where it goes on from. One value feeds all channels.
use Rattle.std.specs.Prelude.{ℕ, zero, suc, ◌+◌, cond, List, [], ◌∷◌, nat_lt, slice_index_or, Float}
use Rattle.floats.specs.Arithmetic.{◌+ˢ◌, zeroᶠ}
use Rattle.event.specs.declared.Source.{Source}
use Rattle.event.specs.declared.Source.TheVariants.{Held, Ramp, Clip}
use Rattle.event.specs.declared.Unit.{Unit}

-- ---- a source at its beginning
abbrev pub first_value : Source → Float
first_value (Held level) = level
first_value (Ramp value step) = value
first_value (Clip offset length) = zeroᶠ

abbrev pub at_start : Source → Unit
at_start source = record { source = source; value = first_value source; place = 0 }

-- ---- The next sample. Held: its level. Ramp: its value. Clip: the pool's sample at offset + place, 0 past the clip or the pool.
abbrev pub sample_at : List Float → Source → (value : Float) → (place : ℕ) → Float
sample_at pool (Held level) value place = level
sample_at pool (Ramp first step) value place = value
sample_at pool (Clip offset length) value place = cond (nat_lt place length) (slice_index_or pool (offset + place) zeroᶠ) zeroᶠ

abbrev pub sample_of : List Float → Unit → Float
sample_of pool u = sample_at pool u.source u.value u.place

-- ---- The unit after one sample: a ramp adds its step in f32, and a clip counts its samples up to its length.
abbrev pub advanced_at : Source → Unit → Unit
advanced_at (Held level) u = u
advanced_at (Ramp first step) u = record { source = u.source; value = u.value +ˢ step; place = u.place }
advanced_at (Clip offset length) u = cond (nat_lt u.place length) (record { source = u.source; value = u.value; place = u.place + 1 }) u

abbrev pub advanced : Unit → Unit
advanced u = advanced_at u.source u

-- ---- what a state gives when it is moved on again and again

module _ {A S : Type 0} where
  -- the first k values that a state gives, moved on by `next` after each
  unfoldable pub made : (S → A) → (S → S) → S → ℕ → List A
  made value next s zero = []
  made value next s (suc k) = value s ∷ made value next (next s) k

module _ {S : Type 0} where
  -- the state after k moves
  unfoldable pub steps : (S → S) → S → ℕ → S
  steps next s zero = s
  steps next s (suc k) = steps next (next s) k

-- ---- the next k samples, and the unit after them
abbrev pub next_samples : List Float → Unit → ℕ → List Float
next_samples pool u k = made (sample_of pool) advanced u k

abbrev pub advanced_by : Unit → ℕ → Unit
advanced_by u k = steps advanced u k

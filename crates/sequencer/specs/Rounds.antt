-- The loops that sift an event in the engine's own heap: the engine is s with other events at the heap's places, and what is left to do gives the definition's heap.
use Rattle.std.specs.Prelude.{◌≡◌, ℕ, ◌+◌, ◌-◌, ◌*◌, ◌<◌, ◌≤◌, true, false, List, set, slice_index_or, slice_set, refl}
use Rattle.std.proofs.Math.Path.{ap}
use Rattle.std.proofs.Common.{◌∙◌, arith}
use borrow.Author.Tests.{lt-ltb, le-ltb, le-leb}
use Rattle.event.specs.declared.Event.{Event}
use Rattle.event.specs.Events.{earlier}
use Rattle.event.specs.Blank.{blank}
use Rattle.ready.specs.Sift.{rise, sink, child, parent}
use Rattle.ready.proofs.Rounds.{rising_on, risen_root, risen_stop, sinking_on, sunk}
use Rattle.ready.specs.Rounds.{Rising, Sinking}
use Rattle.ready.specs.Waiting.{pushed, popped}
use Rattle.sequencer.specs.declared.Sequencer.{Sequencer}
use Rattle.sequencer.specs.Parts.{with_ready}
use Rattle.sequencer.specs.Moves.{pushed_ready, popped_ready}

-- ---- an event rises

-- the heap of s with e, which rises from place k
abbrev risen : Sequencer → ℕ → Event → List Event
risen s k e = rise earlier blank k s.ready k e

-- a full heap stays as it is
pub full : (s : Sequencer) (e : Event) → 256 ≤ s.ready_len → s ≡ pushed_ready s e
unfolding pushed_ready pushed
full s e h = rw (le-ltb s.ready_len 256 h)

-- e rises in s from place k: place i is free, and t is the engine so far
pub record RisingFrom (s : Sequencer) (k : ℕ) (e : Event) (i : ℕ) (t : Sequencer) : Type 0 where
  pub same : t ≡ with_ready s t.ready s.ready_len
  pub inside : i ≤ k
  pub rising : Rising earlier blank t.ready i e (risen s k e)

-- from the first free place
abbrev pub RisingIn : Sequencer → Event → ℕ → Sequencer → Type 0
RisingIn s e i t = RisingFrom s s.ready_len e i t

module _ {s : Sequencer} {k : ℕ} {e : Event} where
  pub rising_in : RisingFrom s k e k s
  rising_in = record { same = refl; inside = omega arith; rising = record { fuel = k; enough = omega arith; gives = refl } }

  module _ {i : ℕ} {t : Sequencer} where
    pub rising_in_on : 0 < i → earlier e (slice_index_or t.ready (parent i) blank) ≡ true → RisingFrom s k e i t
        → RisingFrom s k e (parent i) (with_ready t (slice_set t.ready i (slice_index_or t.ready (parent i) blank)) t.ready_len)
    rising_in_on p h w = record {
      same = ap (λ (x : Sequencer). with_ready x (slice_set t.ready i (slice_index_or t.ready (parent i) blank)) x.ready_len) w.same;
      inside = omega (arith, w.inside);
      rising = rising_on earlier blank _ _ _ _ p h w.rising;
    }

module _ {s : Sequencer} {e : Event} {i : ℕ} {t : Sequencer} where
  filled : s.ready_len < 256 → slice_set t.ready i e ≡ risen s s.ready_len e → RisingIn s e i t → with_ready t (slice_set t.ready i e) (s.ready_len + 1) ≡ pushed_ready s e
  unfolding pushed_ready pushed
  filled l g w = rw (lt-ltb s.ready_len 256 l) (ap (λ (x : Sequencer). with_ready x (slice_set t.ready i e) (s.ready_len + 1)) w.same ∙ ap (λ (xs : List Event). with_ready s xs (s.ready_len + 1)) g)

  pub risen_in_root : s.ready_len < 256 → i ≤ 0 → RisingIn s e i t → with_ready t (slice_set t.ready i e) (s.ready_len + 1) ≡ pushed_ready s e
  risen_in_root l h w = filled l (risen_root earlier blank _ _ _ _ h w.rising) w

  pub risen_in_stop : s.ready_len < 256 → earlier e (slice_index_or t.ready (parent i) blank) ≡ false → RisingIn s e i t → with_ready t (slice_set t.ready i e) (s.ready_len + 1) ≡ pushed_ready s e
  risen_in_stop l h w = filled l (risen_stop earlier blank _ _ _ _ h w.rising) w

-- ---- the first leaves: the free place sinks, and the last rises from where it ends

-- the place of the last event
abbrev pub last_place : Sequencer → ℕ
last_place s = s.ready_len - 1

-- the last event of s, and the heap of s once it has filled the first one's place
abbrev pub last_of : Sequencer → Event
last_of s = slice_index_or s.ready (last_place s) blank

abbrev left : Sequencer → List Event
left s = sink earlier blank (last_place s) s.ready (last_place s) 0 (last_of s)

-- the free place of s is i, and t is the engine so far
pub record SinkingIn (s : Sequencer) (i : ℕ) (t : Sequencer) : Type 0 where
  pub same : t ≡ with_ready s t.ready s.ready_len
  pub inside : i ≤ last_place s
  pub sinking : Sinking earlier blank t.ready (last_place s) i (last_of s) (left s)

module _ {s : Sequencer} where
  pub sinking_in : SinkingIn s 0 s
  sinking_in = record { same = refl; inside = omega arith; sinking = record { fuel = last_place s; enough = omega arith; gives = refl } }

  module _ {i : ℕ} {t : Sequencer} where
    -- the loop has found the child j and its event e
    pub sinking_in_on : {j : ℕ} {e : Event} → 2 * i + 1 < last_place s → child earlier blank t.ready (last_place s) i ≡ j → j ≤ last_place s → slice_index_or t.ready j blank ≡ e
        → SinkingIn s i t → SinkingIn s j (with_ready t (slice_set t.ready i e) t.ready_len)
    sinking_in_on {j} {e} p c b g w = record {
      same = ap (λ (x : Sequencer). with_ready x (slice_set t.ready i e) x.ready_len) w.same;
      inside = b;
      sinking = sinking_on earlier blank _ _ _ _ _ _ _ p c g w.sinking;
    }

  -- at k there was no child, and the last has risen from k to i
  module _ {k i : ℕ} {u t : Sequencer} (p : 0 < s.ready_len) (q : s.ready_len ≤ 256) (low : last_place s ≤ 2 * k + 1) (v : SinkingIn s k u) (w : RisingFrom u k (last_of s) i t) where
    filled-last : set t.ready i (last_of s) ≡ risen u k (last_of s) → with_ready t (slice_set t.ready i (last_of s)) (last_place s) ≡ popped_ready s
    unfolding popped_ready popped
    filled-last g =
        rw (lt-ltb 0 s.ready_len p, le-leb s.ready_len 256 q)
        (ap (λ (x : Sequencer). with_ready x (slice_set t.ready i (last_of s)) (last_place s)) w.same ∙ ap (λ (x : Sequencer). with_ready x (slice_set t.ready i (last_of s)) (last_place s)) v.same
        ∙ ap (λ (xs : List Event). with_ready s xs (last_place s)) (g ∙ sunk earlier blank _ _ _ _ _ low v.sinking))

    pub popped_root : i ≤ 0 → with_ready t (slice_set t.ready i (last_of s)) (last_place s) ≡ popped_ready s
    popped_root h = filled-last (risen_root earlier blank _ _ _ _ h w.rising)

    pub popped_stop : earlier (last_of s) (slice_index_or t.ready (parent i) blank) ≡ false → with_ready t (slice_set t.ready i (last_of s)) (last_place s) ≡ popped_ready s
    popped_stop h = filled-last (risen_stop earlier blank _ _ _ _ h w.rising)

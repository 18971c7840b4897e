-- An event rises in the heap, and the heap's first leaves.
use Rattle.std.proofs.Common.{◌≡◌, ℕ, ◌+◌, ◌-◌, ◌*◌, ◌<◌, ◌≤◌, true, false, List, get_or, set, sym, refl, ap, ◌∙◌, subst, arith, le-ltb, lt-ltb, le-leb}
use borrow.Author.Tests.{lt-leb}
use lib.Ieee.{lt, nan}
use Rattle.event.specs.declared.Event.{Event}
use Rattle.event.specs.Events.{earlier}
use Rattle.event.specs.Blank.{blank}
use Rattle.ready.specs.Sift.{parent}
use Rattle.ready.specs.Sift as Sift
use Rattle.ready.specs.Levels.{levels, Counting, counting_on, counted_root, counted_stop}
use Rattle.ready.specs.Waiting.{pushed, popped}
use Rattle.ready.proofs.Rounds.{risen_root, risen_stop, sunk}
use Rattle.sequencer.specs.declared.Sequencer.{Sequencer}
use Rattle.sequencer.specs.Parts.{with_ready}
use Rattle.sequencer.specs.Moves.{pushed_active, pushed_ready, popped_ready, pushed_event}
use Rattle.sequencer.specs.Rises.{rise_ready, rise_of}
use Rattle.sequencer.specs.Rounds.{RisingFrom, rising_in, rising_in_on, full, last_place, last_of, SinkingIn, sinking_in_on}
use Rattle.memory.specs.Memory.{Cells, event_at, slot_of, engine_of, stored_in, copied_in}
use Rattle.memory.specs.Laws.{Sized, waits-read, with_number, waiting_is, counts_are}
use Rattle.memory.specs.Slots.{copy_sized, put-waits, copy_waits}

-- ---- e rises in s from place n: place i is free, e has passed k, and c is the memory so far

module _ (s : Sequencer) (n : ℕ) (e : Event) where
  abbrev pub total : ℕ
  total = levels earlier blank n s.ready n e

  abbrev pub RisingHere : (i k : ℕ) → Cells → Type 0
  RisingHere i k c = Sized c × RisingFrom s n e i (engine_of c) × Counting earlier blank s.ready (engine_of c).ready i e k total × (k + i < 256)

  pub rises_in : (c : Cells) → Sized c → engine_of c ≡ s → n < 256 → RisingHere n 0 c
  rises_in c z q h = (
    z,
    subst (RisingFrom s n e n) (sym q) rising_in,
    subst (λ (x : Sequencer). Counting earlier blank s.ready x.ready n e 0 total) (sym q) (record { same = λ j l. refl; fuel = n; enough = omega arith; gives = omega arith }),
    omega arith,
  )

  module _ (i k : ℕ) (c : Cells) (w : RisingHere i k c) where
    inside : i < 256
    inside = omega (arith, w.3)

    pub rises_on : (d : Cells) → d ≡ copied_in c i (parent i) → 0 < i → earlier e (get_or (engine_of c).ready (parent i) blank) ≡ true → RisingHere (parent i) (k + 1) d
    rises_on d q p h =
        let l : i < 256 = inside in
        let t : engine_of d ≡ with_ready (engine_of c) (set (engine_of c).ready i (get_or (engine_of c).ready (parent i) blank)) (engine_of c).ready_len =
        ap engine_of q ∙ copy_waits c w.0 i (parent i) l (omega (arith, l)) in (
          subst Sized (sym q) (copy_sized c w.0 i (parent i) (omega (arith, l)) (omega (arith, l))),
          subst (RisingFrom s n e (parent i)) (sym t) (rising_in_on p h w.1),
          subst (λ (x : Sequencer). Counting earlier blank s.ready x.ready (parent i) e (k + 1) total) (sym t) (counting_on earlier blank p h w.2),
          omega (arith, w.3, p),
        )

    abbrev Risen : Cells → Type 0
    Risen d = (engine_of d ≡ with_ready s (Sift.rise earlier blank n s.ready n e) s.ready_len) × (k ≡ total)

    risen : (d : Cells) → d ≡ stored_in c i e → set (engine_of c).ready i e ≡ Sift.rise earlier blank n s.ready n e → k ≡ total → Risen d
    risen d q g m = (
      ap engine_of q ∙ put-waits c w.0 i e inside ∙ ap (λ (x : Sequencer). with_ready x (set (engine_of c).ready i e) x.ready_len) w.1.same
          ∙ ap (λ (xs : List Event). with_ready s xs s.ready_len) g,
      m,
    )

    pub rises_root : (d : Cells) → d ≡ stored_in c i e → i ≤ 0 → Risen d
    rises_root d q h = risen d q (risen_root earlier blank _ _ _ _ h w.1.rising) (counted_root earlier blank h w.2)

    pub rises_stop : (d : Cells) → d ≡ stored_in c i e → 0 < i → earlier e (get_or (engine_of c).ready (parent i) blank) ≡ false → Risen d
    rises_stop d q p h = risen d q (risen_stop earlier blank _ _ _ _ h w.1.rising) (counted_stop earlier blank p h w.2)

-- ---- it waits

module _ (c : Cells) (e : Event) (n : ℕ) (q : n ≡ get_or c.numbers 1280 0) where
  held : n ≡ (engine_of c).ready_len
  held = q ∙ (counts_are c).0

  pub waits_too : n < 256 → (d : Cells) → Sized d → (k : ℕ)
      → (engine_of d ≡ with_ready (engine_of c) (Sift.rise earlier blank n (engine_of c).ready n e) (engine_of c).ready_len) × (k ≡ levels earlier blank n (engine_of c).ready n e)
      → (engine_of (with_number d 1280 (n + 1)) ≡ pushed_ready (engine_of c) e) × (k ≡ rise_ready (engine_of c) e)
  unfolding pushed_ready pushed rise_ready
  waits_too h d y k g = (
    waiting_is d (n + 1) y ∙ ap (λ (x : Sequencer). with_ready x x.ready (n + 1)) g.0 ∙ rw (← held, lt-ltb n 256 h),
    g.1 ∙ rw (← held, lt-ltb n 256 h),
  )

  pub full-waits : 256 ≤ n → (engine_of c ≡ pushed_ready (engine_of c) e) × (0 ≡ rise_ready (engine_of c) e)
  unfolding rise_ready
  full-waits l = (full (engine_of c) e (omega (arith, held, l)), rw (← held, le-ltb n 256 l))

-- ---- it sounds or waits

module _ (c : Cells) (t : Sequencer) (e : Event) where
  pub enters_sounding : lt e.start_time (get_or c.times 3073 nan) ≡ true → t ≡ pushed_active (engine_of c) e → (t ≡ pushed_event (engine_of c) e) × (0 ≡ rise_of (engine_of c) e)
  unfolding pushed_event rise_of engine_of
  enters_sounding h p = rw h (p, refl)

  pub enters_waiting : (k : ℕ) → lt e.start_time (get_or c.times 3073 nan) ≡ false → (t ≡ pushed_ready (engine_of c) e) × (k ≡ rise_ready (engine_of c) e)
      → (t ≡ pushed_event (engine_of c) e) × (k ≡ rise_of (engine_of c) e)
  unfolding pushed_event rise_of engine_of
  enters_waiting k h p = rw h (p.0, p.1)

-- ---- the first leaves: a place is filled by its child, down to one without a child

pub last-is : (c : Cells) (n : ℕ) → n ≡ get_or c.numbers 1280 0 → 0 < n → n ≤ 256
    → (n - 1 ≡ last_place (engine_of c)) × (event_at c (slot_of (n - 1)) ≡ last_of (engine_of c)) × (0 < (engine_of c).ready_len) × ((engine_of c).ready_len ≤ 256)
last-is c n q p h =
    let r : n - 1 ≡ last_place (engine_of c) = ap (λ (k : ℕ). k - 1) (q ∙ (counts_are c).0) in
    (r, waits-read c (n - 1) blank (omega arith) ∙ ap (λ (k : ℕ). get_or (engine_of c).ready k blank) r, omega (arith, q, (counts_are c).0), omega (arith, q, (counts_are c).0))

pub sinks_on : (s : Sequencer) (c : Cells) (z : Sized c) (i m j : ℕ) → m ≡ last_place s → m < 256 → 2 * i + 1 < m → Sift.child earlier blank (engine_of c).ready m i ≡ j → j < m → SinkingIn s i (engine_of c)
    → (d : Cells) → d ≡ copied_in c i j → Sized d × SinkingIn s j (engine_of d)
sinks_on s c z i m j q l p g h w d e =
    subst (λ (x : Cells). Sized x × SinkingIn s j (engine_of x)) (sym e) (
      copy_sized c z i j (omega arith) (omega arith),
      subst (SinkingIn s j) (sym (copy_waits c z i j (omega arith) (omega arith)))
          (sinking_in_on (omega (arith, q, p)) (ap (λ (k : ℕ). Sift.child earlier blank (engine_of c).ready k i) (sym q) ∙ g) (omega (arith, q, h)) refl w),
    )

pub pops : (s : Sequencer) (c d : Cells) (i m : ℕ) (e : Event) → Sized d → m ≡ last_place s → e ≡ last_of s → 0 < s.ready_len → s.ready_len ≤ 256 → m ≤ 2 * i + 1 → SinkingIn s i (engine_of c)
    → engine_of d ≡ with_ready (engine_of c) (Sift.rise earlier blank i (engine_of c).ready i e) (engine_of c).ready_len → engine_of (with_number d 1280 m) ≡ popped_ready s
unfolding popped_ready popped
pops s c d i m e y q r p h low w g =
    let full : Sift.rise earlier blank i (engine_of c).ready i (last_of s) ≡ Sift.sink earlier blank (last_place s) s.ready (last_place s) 0 (last_of s) =
    sunk earlier blank _ _ _ _ _ (omega (arith, q, low)) w.sinking in
    rw (lt-ltb 0 s.ready_len p, le-leb s.ready_len 256 h)
    (waiting_is d m y ∙ ap (λ (x : Sequencer). with_ready x x.ready m) g
    ∙ ap (λ (x : Sequencer). with_ready x (Sift.rise earlier blank i (engine_of c).ready i e) m) w.same
    ∙ ap (λ (x : Event). with_ready s (Sift.rise earlier blank i (engine_of c).ready i x) m) r ∙ ap (λ (xs : List Event). with_ready s xs m) full
    ∙ ap (λ (k : ℕ). with_ready s (Sift.sink earlier blank (last_place s) s.ready (last_place s) 0 (last_of s)) k) q)

pub none-pops : (c : Cells) (n : ℕ) → n ≡ get_or c.numbers 1280 0 → n ≡ 0 → engine_of c ≡ popped_ready (engine_of c)
unfolding popped_ready popped
none-pops c n q h = rw (le-ltb 0 (engine_of c).ready_len (omega (arith, q, (counts_are c).0, h)))

pub beyond-pops : (c : Cells) (n : ℕ) → n ≡ get_or c.numbers 1280 0 → 256 < n → engine_of c ≡ popped_ready (engine_of c)
unfolding popped_ready popped
beyond-pops c n q h = rw (lt-ltb 0 (engine_of c).ready_len (omega (arith, q, (counts_are c).0, h)), lt-leb (engine_of c).ready_len 256 (omega (arith, q, (counts_are c).0, h)))

-- The sounding list: an event is appended, one that ends is kept among the finished and the last fills its place, and the finished are let go.
use Rattle.std.proofs.Common.{◌≡◌, ℕ, ◌+◌, ◌-◌, ◌*◌, ◌%◌, ◌^◌, ◌<◌, ◌≤◌, Bool, true, false, eqb, ltb, get_or, set, sym, refl, ap, ◌∙◌, subst, ap₂, arith, ltb-false, ltb-true, le-ltb, lt-ltb}
use lib.Ieee.{Float, le, nan}
use Rattle.event.specs.declared.Event.{Event}
use Rattle.event.specs.declared.EventId.{EventId}
use Rattle.event.specs.Blank.{blank}
use Rattle.lists.specs.Index.{no_id}
use Rattle.sequencer.specs.declared.Sequencer.{Sequencer}
use Rattle.sequencer.specs.Parts.{with_active, with_past, with_let_go}
use Rattle.sequencer.specs.Moves.{pushed_active, released_past, active_to_past}
use Rattle.sequencer.specs.Turns.{filled_by_last, Finishing, finished_beyond, finishing_on, finishing_room, finishing_full}
use Rattle.memory.specs.Memory.{Cells, engine_of, mode_if, stored_in, copied_in}
use Rattle.memory.specs.Laws.{Sized, sounds-at, with_number, number_sized, finished_is, sounding_is, let_go_is, index_is, index_at, counts_are}
use Rattle.memory.specs.Slots.{put_sized, put-sounds, copy_sized, copy_sounds, copy_finishes}
use Rattle.memory.specs.Clock.{mode_in, let_go_in}

-- ---- an event is appended: its slot, its number in the index, and the count

module _ (c : Cells) (e : Event) (n : ℕ) (q : n ≡ get_or c.numbers 1281 0) where
  held : n ≡ (engine_of c).active_len
  held = q ∙ (counts_are c).1

  pub sounds_too : Sized c → n < 256 → (d : Cells) → d ≡ stored_in c (256 + n) e → engine_of (with_number (with_number d (768 + n) e.id.0) 1281 (n + 1)) ≡ pushed_active (engine_of c) e
  unfolding pushed_active
  sounds_too z h d p =
      let y : Sized d = subst Sized (sym p) (put_sized c z (256 + n) e (omega arith)) in
      sounding_is (with_number d (768 + n) e.id.0) (n + 1) (number_sized d (768 + n) e.id.0 y)
      ∙ ap (λ (x : Sequencer). with_active x x.active x.active_map (n + 1)) (index_is d e.id.0 y n h)
      ∙ ap (λ (x : Sequencer). with_active x x.active (set x.active_map n e.id) (n + 1)) (ap engine_of p ∙ put-sounds c z n e h)
      ∙ rw (← held, lt-ltb n 256 h)

  pub full-sounds : 256 ≤ n → engine_of c ≡ pushed_active (engine_of c) e
  unfolding pushed_active
  full-sounds l = rw (← held, le-ltb n 256 l)

-- ---- an event that ends

module _ (c : Cells) (z : Sized c) (i : ℕ) (l : i < 256) where
  module _ (k : ℕ) (q : k ≡ get_or c.numbers 1282 0) where
    pub kept-room : (d : Cells) → d ≡ copied_in c (512 + k) (256 + i) → k < 256
        → engine_of (with_number d 1282 (k + 1)) ≡ with_past (engine_of c) (set (engine_of c).past (engine_of c).past_len (get_or (engine_of c).active i blank)) ((engine_of c).past_len + 1)
    kept-room d p h =
        finished_is d (k + 1) (subst Sized (sym p) (copy_sized c z (512 + k) (256 + i) (omega arith) (omega arith)))
        ∙ ap (λ (x : Sequencer). with_past x x.past (k + 1)) (ap engine_of p ∙ copy_finishes c z k i h l)
        ∙ ap (λ (n : ℕ). with_past (engine_of c) (set (engine_of c).past n (get_or (engine_of c).active i blank)) (n + 1)) (q ∙ (counts_are c).2)

    pub below : (engine_of c).past_len < 256 → 256 ≤ k → {A : Type 0} → A
    below h g = absurd (omega (arith, q, (counts_are c).2, h, g))

    pub above : 256 ≤ (engine_of c).past_len → k < 256 → {A : Type 0} → A
    above h g = absurd (omega (arith, q, (counts_are c).2, h, g))

  pub filled : (n : ℕ) → i < n → n ≤ 256 → n ≡ (engine_of c).active_len → (d : Cells) → d ≡ copied_in c (256 + i) (256 + (n - 1)) → (x : ℕ) → x ≡ get_or c.numbers (768 + (n - 1)) 0
      → engine_of (with_number (with_number d (768 + i) x) 1281 (n - 1)) ≡ filled_by_last (engine_of c) i
  filled n a b q d p x e =
      let y : Sized d = subst Sized (sym p) (copy_sized c z (256 + i) (256 + (n - 1)) (omega arith) (omega arith)) in
      let s = engine_of c in
      let number : record { 0 = x } ≡ get_or s.active_map (n - 1) no_id = ap (λ (m : ℕ). record { 0 = m }) e ∙ index_at c (n - 1) no_id (omega arith) in
      sounding_is (with_number d (768 + i) x) (n - 1) (number_sized d (768 + i) x y)
      ∙ ap (λ (t : Sequencer). with_active t t.active t.active_map (n - 1)) (index_is d x y i l)
      ∙ ap (λ (t : Sequencer). with_active t t.active (set t.active_map i (record { 0 = x })) (n - 1)) (ap engine_of p ∙ copy_sounds c z i (n - 1) l (omega arith))
      ∙ ap (λ (o : EventId). with_active s (set s.active i (get_or s.active (n - 1) blank)) (set s.active_map i o) (n - 1)) number
      ∙ ap (λ (m : ℕ). with_active s (set s.active i (get_or s.active (m - 1) blank)) (set s.active_map i (get_or s.active_map (m - 1) no_id)) (m - 1)) q

-- ---- the sweep

ends_at : (c : Cells) (i : ℕ) → i < 256 → get_or c.times (4 * (256 + i) + 1) nan ≡ (get_or (engine_of c).active i blank).end_time
ends_at c i h = ap (λ (e : Event). e.end_time) (sounds-at c i blank h)

pub sweep-starts : (c : Cells) (limit : Float) → Finishing limit (engine_of c) 0 (active_to_past (engine_of c) limit)
unfolding active_to_past
sweep-starts c limit = record { fuel = (engine_of c).active_len; enough = omega arith; gives = refl }

module _ (c : Cells) (limit : Float) (i n : ℕ) (r : Sequencer) (more : i < n) (most : n ≤ 256) (q : n ≡ (engine_of c).active_len) (w : Finishing limit (engine_of c) i r) where
  pub sweeps_on : le (get_or c.times (4 * (256 + i) + 1) nan) limit ≡ false → Finishing limit (engine_of c) (i + 1) r
  sweeps_on h = finishing_on limit (engine_of c) i r (omega (arith, q)) (omega (arith, q)) (ap (λ (x : Float). le x limit) (sym (ends_at c i (omega arith))) ∙ h) w

  module _ (t u : Sequencer) (room : (engine_of c).past_len < 256 → t ≡ with_past (engine_of c) (set (engine_of c).past (engine_of c).past_len (get_or (engine_of c).active i blank)) ((engine_of c).past_len + 1))
      (full : 256 ≤ (engine_of c).past_len → t ≡ engine_of c) (g : u ≡ filled_by_last t i) (h : le (get_or c.times (4 * (256 + i) + 1) nan) limit ≡ true) where
    ended : le (get_or (engine_of c).active i blank).end_time limit ≡ true
    ended = ap (λ (x : Float). le x limit) (sym (ends_at c i (omega arith))) ∙ h

    pub sweeps_off : (n - 1 ≡ u.active_len) × Finishing limit u i r
    sweeps_off = go (ltb (engine_of c).past_len 256) refl
      where
        go : (b : Bool) → ltb (engine_of c).past_len 256 ≡ b → (n - 1 ≡ u.active_len) × Finishing limit u i r
        go true e =
            let l = ltb-true (engine_of c).past_len 256 e in
            subst (λ (x : Sequencer). (n - 1 ≡ x.active_len) × Finishing limit x i r) (sym (g ∙ ap (λ (x : Sequencer). filled_by_last x i) (room l)))
            (ap (λ (m : ℕ). m - 1) q, finishing_room limit (engine_of c) i r (omega (arith, q)) (omega (arith, q)) ended l w)
        go false e =
            let l = ltb-false (engine_of c).past_len 256 e in
            subst (λ (x : Sequencer). (n - 1 ≡ x.active_len) × Finishing limit x i r) (sym (g ∙ ap (λ (x : Sequencer). filled_by_last x i) (full l)))
            (ap (λ (m : ℕ). m - 1) q, finishing_full limit (engine_of c) i r (omega (arith, q)) (omega (arith, q)) ended l w)

pub sweep-beyond : (c : Cells) (limit : Float) (n : ℕ) → n ≡ get_or c.numbers 1281 0 → 256 < n → engine_of c ≡ active_to_past (engine_of c) limit
sweep-beyond c limit n q h = finished_beyond limit (engine_of c) 0 _ (omega (arith, q, (counts_are c).1)) (sweep-starts c limit)

-- an event that is kept leaves the sounding list as it is
pub kept_len : (s t : Sequencer) (i : ℕ) → (s.past_len < 256 → t ≡ with_past s (set s.past s.past_len (get_or s.active i blank)) (s.past_len + 1)) → (256 ≤ s.past_len → t ≡ s)
    → t.active_len ≡ s.active_len
kept_len s t i room full = go (ltb s.past_len 256) refl
  where
    go : (b : Bool) → ltb s.past_len 256 ≡ b → t.active_len ≡ s.active_len
    go true e = ap (λ (x : Sequencer). x.active_len) (room (ltb-true s.past_len 256 e))
    go false e = ap (λ (x : Sequencer). x.active_len) (full (ltb-false s.past_len 256 e))

-- ---- the finished

pub kept-all : (c : Cells) → get_or c.numbers 1285 0 ≡ 0 → engine_of c ≡ released_past (engine_of c) (engine_of c).mode
unfolding released_past
kept-all c h = sym (ap (released_past (engine_of c)) (sym (mode_in c) ∙ ap (λ (k : ℕ). mode_if (eqb k 0)) h))

pub let_go : (c : Cells) (g : ℕ) → Sized c → eqb (get_or c.numbers 1285 0) 0 ≡ false → g ≡ (get_or c.numbers 1287 0 + get_or c.numbers 1282 0) % 2 ^ 64
    → engine_of (with_number (with_number c 1287 g) 1282 0) ≡ released_past (engine_of c) (engine_of c).mode
unfolding released_past
let_go c g z h q =
    finished_is (with_number c 1287 g) 0 (number_sized c 1287 g z) ∙ ap (λ (x : Sequencer). with_past x x.past 0) (let_go_is c g z)
    ∙ ap (λ (k : ℕ). with_past (with_let_go (engine_of c) k) (engine_of c).past 0) (q ∙ ap₂ (λ (x y : ℕ). (x + y) % 2 ^ 64) (let_go_in c) (counts_are c).2)
    ∙ sym (ap (released_past (engine_of c)) (sym (mode_in c) ∙ ap mode_if h))

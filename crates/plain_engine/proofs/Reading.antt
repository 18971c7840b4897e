-- A list filled place by place, and the engine by its parts.
use mathlib.Core.List.{List, [], ◌∷◌}
use mathlib.Core.Logic.{◌⊎◌, inl, inr}
use mathlib.Core.Path.{◌≡◌, refl, sym, ap, ap₂, ◌∙◌}
use Prim.Native.Nat.{ℕ, zero, suc, ◌+◌, ◌*◌, ◌≤◌, ◌<◌}
use native.Mathlib.Nat.{eq-or-lt_of_le}
use native.Mathlib.Omega.{arith}
use borrow.Author.Tests.{lt-ltb}
use lib.Dec.{eqb}
use lib.Ieee.{nan}
use lib.ListN.{get_or, set, length, length-set}
use lib.Seq.{get_or-set_same, get_or-set_other}
use Rattle.event.specs.declared.Event.{Event}
use Rattle.event.specs.declared.EventId.{EventId}
use Rattle.event.specs.declared.StoredEdit.{StoredEdit}
use Rattle.event.specs.declared.ReplayMode.{ReplayMode}
use Rattle.sequencer.specs.declared.Sequencer.{Sequencer}
use Rattle.memory.specs.Rows.{rows}
use Rattle.memory.specs.Memory.{Cells, event_at, id_at, edit_at, mode_if, slot_of, engine_of}

module _ {A : Type 0} where
  -- the first i places of l, of n, are g's from k on
  pub record Filled (g : ℕ → A) (k n : ℕ) (l : List A) (i : ℕ) : Type 0 where
    pub inside : i ≤ n
    pub long : length l ≡ n
    pub done : (d : A) (j : ℕ) → j < i → get_or l j d ≡ g (k + j)

  pub filled : (g : ℕ → A) (k n : ℕ) (l : List A) → length l ≡ n → Filled g k n l 0
  filled g k n l h = record { inside = omega arith; long = h; done = λ d j b. absurd (omega (arith, b)) }

  pub fills : (g : ℕ → A) (k n : ℕ) (l : List A) (i : ℕ) (x : A) → i < n → x ≡ g (k + i) → Filled g k n l i → Filled g k n (set l i x) (i + 1)
  fills g k n l i x h e w = record {
    inside = omega arith;
    long = length-set l i x ∙ w.long;
    done = λ d j b. go d j (eq-or-lt_of_le (omega (arith, b)));
  }
    where
      go : (d : A) (j : ℕ) → (j ≡ i) ⊎ (j < i) → get_or (set l i x) j d ≡ g (k + j)
      go d j (inl q) = ap (λ (z : ℕ). get_or (set l i x) z d) q ∙ get_or-set_same l i x d (omega (arith, h, w.long)) ∙ e ∙ ap (λ (z : ℕ). g (k + z)) (sym q)
      go d j (inr b) = get_or-set_other l i j x d (λ q. absurd (omega (arith, q, b))) ∙ w.done d j b

  all-rows : (g : ℕ → A) (k n : ℕ) (l : List A) → length l ≡ n → ((d : A) (j : ℕ) → j < n → get_or l j d ≡ g (k + j)) → l ≡ rows g k n
  unfolding rows
  all-rows g k zero [] h e = refl
  all-rows g k zero (x ∷ l) h e = absurd (omega (arith, h))
  all-rows g k (suc n) [] h e = absurd (omega (arith, h))
  all-rows g k (suc n) (x ∷ l) h e = ap₂ {C = List A} (λ y ys. y ∷ ys) (e x 0 (omega arith) ∙ ap g (omega arith))
      (all-rows g (suc k) n l (omega (arith, h)) (λ d j b. e d (suc j) (omega (arith, b)) ∙ ap g (omega arith)))

  pub all-filled : (g : ℕ → A) (k n : ℕ) (l : List A) (i : ℕ) → n ≤ i → Filled g k n l i → l ≡ rows g k n
  all-filled g k n l i h w = all-rows g k n l w.long (λ d j b. w.done d j (omega (arith, b, h)))

-- ---- what the code reads

pub slot_at : (c : Cells) (k : ℕ) → k < 768 → event_at c (slot_of k) ≡ event_at c k
slot_at c k h = let e : slot_of k ≡ k = rw (lt-ltb k 768 h) in ap (event_at c) e

pub edit-at : (c : Cells) (i : ℕ)
    → ◌≡◌ {A = StoredEdit} (record {
      id = record { 0 = get_or c.numbers (1024 + i) 0 };
      edit = record { end_time = get_or c.times (3076 + 2 * i) nan; fade_out = get_or c.times (3076 + 2 * i + 1) nan };
    }) (edit_at c (1024 + i))
edit-at c i =
    let e : 3076 + 2 * i ≡ 1028 + 2 * (1024 + i) = omega arith in
    let f : 3076 + 2 * i + 1 ≡ 1029 + 2 * (1024 + i) = omega arith in
    λ d. record {
      id = record { 0 = get_or c.numbers (1024 + i) 0 };
      edit = record { end_time = get_or c.times (e d) nan; fade_out = get_or c.times (f d) nan };
    }

-- the engine that the cells hold, by its parts
pub whole : (c : Cells) {ready active past : List Event} {ids : List EventId} {items : List StoredEdit} {mode : ReplayMode}
    → ready ≡ rows (event_at c) 0 256 → active ≡ rows (event_at c) 256 256 → past ≡ rows (event_at c) 512 256 → ids ≡ rows (id_at c) 768 256
    → items ≡ rows (edit_at c) 1024 256 → mode ≡ mode_if (eqb (get_or c.numbers 1285 0) 0)
    → ◌≡◌ {A = Sequencer} (record {
      ready = ready;
      ready_len = get_or c.numbers 1280 0;
      active = active;
      active_len = get_or c.numbers 1281 0;
      active_map = ids;
      past = past;
      past_len = get_or c.numbers 1282 0;
      edit_map = record { items = items; len = get_or c.numbers 1283 0 };
      time = get_or c.times 3072 nan;
      active_threshold = get_or c.times 3073 nan;
      sample_rate = get_or c.times 3074 nan;
      sample_duration = get_or c.times 3075 nan;
      outputs = get_or c.numbers 1284 0;
      mode = mode;
      next = get_or c.numbers 1286 0;
      let_go = get_or c.numbers 1287 0;
    }) (engine_of c)
unfolding engine_of
whole c r a p x e m = λ d. record {
  ready = r d;
  ready_len = get_or c.numbers 1280 0;
  active = a d;
  active_len = get_or c.numbers 1281 0;
  active_map = x d;
  past = p d;
  past_len = get_or c.numbers 1282 0;
  edit_map = record { items = e d; len = get_or c.numbers 1283 0 };
  time = get_or c.times 3072 nan;
  active_threshold = get_or c.times 3073 nan;
  sample_rate = get_or c.times 3074 nan;
  sample_duration = get_or c.times 3075 nan;
  outputs = get_or c.numbers 1284 0;
  mode = m d;
  next = get_or c.numbers 1286 0;
  let_go = get_or c.numbers 1287 0;
}

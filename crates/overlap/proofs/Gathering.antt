-- The loop of `gather`: the heap stands for the keys of those that passed, of the first i held. And which array has the event at place i. Assumes nothing.
use mathlib.Core.Bool.{Bool, true, false, cond}
use mathlib.Core.Path.{◌≡◌, refl, sym, ap, ◌∙◌}
use mathlib.Core.List.Perm
use mathlib.Core.List.{List, [], ◌∷◌, ◌++◌, map, perm_append_singleton}
use Prim.Native.Nat.{ℕ, zero, suc, ◌+◌, ◌-◌, min, ◌≤◌, ◌<◌}
use native.Mathlib.Omega.{arith}
use native.Mathlib.Numerals.{add-one}
use lib.ListN.{length, get_or, take, length-append, length-take, get_or-append}
use lib.Seq.{take-suc, take_all, get_or-take, get_or-append-add}
use Rattle.event.specs.declared.Event.{Event}
use Rattle.event.specs.Blank.{blank}
use Rattle.sequencer.specs.declared.Sequencer.{Sequencer}
use Rattle.memory.specs.Rows.{rows}
use Rattle.memory.specs.Memory.{Cells, event_at, slot_of, engine_of}
use Rattle.memory.specs.Laws.{counts_are, waits-read, sounds-read, finished_read}
use Rattle.ready.specs.Sift.{rise}
use Rattle.ready.specs.HeapOrder.{Heap-ordered}
use Rattle.ready.proofs.Stands.{stands-push}
use Rattle.ready.specs.Stands.{Stands}
use Rattle.overlap.specs.Stretch.{those}
use Rattle.overlap.specs.Reading.{held_in}
use Rattle.overlap.specs.Keys.{Key, key_of, key_less, key_order, no_key}

those-append : (p : Event → Bool) (a b : List Event) → those p (a ++ b) ≡ those p a ++ those p b
unfolding those
those-append p [] b = refl
those-append p (x ∷ a) b = go (p x) (those-append p a b)
  where
    go : (t : Bool) → those p (a ++ b) ≡ those p a ++ those p b → cond t (x ∷ those p (a ++ b)) (those p (a ++ b)) ≡ cond t (x ∷ those p a) (those p a) ++ those p b
    go true ih = ap (λ (l : List Event). x ∷ l) ih
    go false ih = ih

map-append : (a : List Event) (e : Event) → map key_of (a ++ (e ∷ [])) ≡ map key_of a ++ (key_of e ∷ [])
map-append [] e = refl
map-append (x ∷ a) e = ap (λ (l : List Key). key_of x ∷ l) (map-append a e)

append-nothing : (a : List Event) → a ++ [] ≡ a
append-nothing [] = refl
append-nothing (x ∷ a) = ap (λ (l : List Event). x ∷ l) (append-nothing a)

module _ (p : Event → Bool) (l : List Event) (i : ℕ) (e : Event) (h : i < length l) (q : e ≡ get_or l i blank) where
  one_more : those p (take (suc i) l) ≡ those p (take i l) ++ those p (e ∷ [])
  one_more = ap (those p) (take-suc l i blank h ∙ ap (λ (x : Event). take i l ++ (x ∷ [])) (sym q)) ∙ those-append p (take i l) (e ∷ [])

  pub passing : p e ≡ true → those p (take (suc i) l) ≡ those p (take i l) ++ (e ∷ [])
  unfolding those
  passing t = one_more ∙ rw t refl

  pub failing : p e ≡ false → those p (take (suc i) l) ≡ those p (take i l)
  unfolding those
  failing t = one_more ∙ rw t (append-nothing (those p (take i l)))

module _ (p : Event → Bool) (l : List Event) where
  pub record Gathering (i count : ℕ) (xs : List Key) : Type 0 where
    pub few : count ≤ i
    pub stands : Stands key_less no_key xs count (map key_of (those p (take i l)))

  pub gathering_start : (xs : List Key) → Gathering 0 0 xs
  unfolding Heap-ordered those
  gathering_start xs = record { few = omega arith; stands = record { fits = omega arith; ordered = λ j h k. absurd (omega arith); same = Perm.refl [] } }

  module _ (i count : ℕ) (xs : List Key) (e : Event) (h : i < length l) (q : e ≡ get_or l i blank) (g : Gathering i count xs) where
    keyed : p e ≡ true → map key_of (those p (take (suc i) l)) ≡ map key_of (those p (take i l)) ++ (key_of e ∷ [])
    keyed t = ap (map key_of) (passing p l i e h q t) ∙ map-append (those p (take i l)) e

    pub gathering_in : (ys : List Key) → p e ≡ true → i < length xs → ys ≡ rise key_less no_key count xs count (key_of e) → Gathering (i + 1) (count + 1) ys
    gathering_in ys t k r =
        rw (r, add-one i, add-one count)
        (record {
          few = omega (arith, g.few);
          stands = stands-push key_less no_key key_order xs count (map key_of (those p (take i l))) (map key_of (those p (take (suc i) l))) (key_of e) (omega (arith, g.few))
              (rw (keyed t) (Perm.symm (perm_append_singleton (key_of e) (map key_of (those p (take i l)))))) g.stands;
        })

    pub gathering_out : p e ≡ false → Gathering (i + 1) count xs
    gathering_out t = rw (add-one i) (record { few = omega (arith, g.few); stands = rw (failing p l i e h q t) g.stands })

  pub gathering_done : (i count : ℕ) (xs : List Key) → length l ≤ i → Gathering i count xs → Stands key_less no_key xs count (map key_of (those p l))
  gathering_done i count xs h g = rw (take_all i l h) at g.stands

-- ---- three arrays of 256, one behind the other

module _ (xs ys zs : List Event) (x y z : ℕ) (sx : length xs ≡ 256) (sy : length ys ≡ 256) (sz : length zs ≡ 256) where
  abbrev joined : List Event
  joined = take x xs ++ (take y ys ++ take z zs)

  first-length : length (take x xs) ≡ min x 256
  first-length = length-take x xs ∙ ap (min x) sx

  second-length : length (take y ys) ≡ min y 256
  second-length = length-take y ys ∙ ap (min y) sy

  third_length : length (take z zs) ≡ min z 256
  third_length = length-take z zs ∙ ap (min z) sz

  joined_length : length joined ≡ min x 256 + min y 256 + min z 256
  joined_length = length-append (take x xs) (take y ys ++ take z zs) ∙ rw (length-append (take y ys) (take z zs), first-length, second-length, third_length) (omega arith)

  in-first : (i : ℕ) → i < min x 256 → get_or xs i blank ≡ get_or joined i blank
  in-first i h = sym (get_or-append (take x xs) (take y ys ++ take z zs) blank i (omega (arith, first-length)) ∙ get_or-take x xs i blank (omega arith))

  behind : (i : ℕ) → min x 256 ≤ i → get_or joined i blank ≡ get_or (take y ys ++ take z zs) (i - min x 256) blank
  behind i h =
      let q : i ≡ length (take x xs) + (i - min x 256) = omega (arith, first-length) in
      ap (λ (n : ℕ). get_or joined n blank) q ∙ get_or-append-add (take x xs) (take y ys ++ take z zs) (i - min x 256) blank

  in-second : (i : ℕ) → min x 256 ≤ i → i < min x 256 + min y 256 → get_or ys (i - min x 256) blank ≡ get_or joined i blank
  in-second i h k =
      sym (behind i h ∙ get_or-append (take y ys) (take z zs) blank (i - min x 256) (omega (arith, second-length)) ∙ get_or-take y ys (i - min x 256) blank (omega arith))

  in-third : (i : ℕ) → min x 256 + min y 256 ≤ i → i < min x 256 + min y 256 + min z 256 → get_or zs (i - (min x 256 + min y 256)) blank ≡ get_or joined i blank
  in-third i h k =
      let j = i - (min x 256 + min y 256) in
      let q : i - min x 256 ≡ length (take y ys) + j = omega (arith, second-length) in
      sym (behind i (omega arith) ∙ ap (λ (n : ℕ). get_or (take y ys ++ take z zs) n blank) q ∙ get_or-append-add (take y ys) (take z zs) j blank ∙ get_or-take z zs j blank (omega arith))

-- ---- the arrays of an engine

pub record Sized (s : Sequencer) : Type 0 where
  pub ready : length s.ready ≡ 256
  pub active : length s.active ≡ 256
  pub past : length s.past ≡ 256

-- where the waiting, the sounding and the finished end
pub record Ends (s : Sequencer) (w a h : ℕ) : Type 0 where
  pub waiting : w ≡ min s.ready_len 256
  pub sounding : a ≡ min s.ready_len 256 + min s.active_len 256
  pub finished : h ≡ min s.ready_len 256 + min s.active_len 256 + min s.past_len 256

module _ (s : Sequencer) (z : Sized s) (w a h : ℕ) (e : Ends s w a h) where
  pub held-length : length (held_in s) ≡ h
  held-length = joined_length s.ready s.active s.past s.ready_len s.active_len s.past_len z.ready z.active z.past ∙ sym e.finished

  pub at_waiting : (i : ℕ) → i < w → get_or s.ready i blank ≡ get_or (held_in s) i blank
  at_waiting i p = in-first s.ready s.active s.past s.ready_len s.active_len s.past_len z.ready z.active z.past i (omega (arith, e.waiting))

  pub at_sounding : (i : ℕ) → w ≤ i → i < a → get_or s.active (i - w) blank ≡ get_or (held_in s) i blank
  at_sounding i p q =
      ap (λ (n : ℕ). get_or s.active (i - n) blank) e.waiting
      ∙ in-second s.ready s.active s.past s.ready_len s.active_len s.past_len z.ready z.active z.past i (omega (arith, e.waiting)) (omega (arith, e.sounding))

  pub at_finished : (i : ℕ) → a ≤ i → i < h → get_or s.past (i - a) blank ≡ get_or (held_in s) i blank
  at_finished i p q =
      ap (λ (n : ℕ). get_or s.past (i - n) blank) e.sounding
      ∙ in-third s.ready s.active s.past s.ready_len s.active_len s.past_len z.ready z.active z.past i (omega (arith, e.sounding)) (omega (arith, e.finished))

-- ---- the engine that four arrays hold

rows-length : {A : Type 0} (g : ℕ → A) (i n : ℕ) → length (rows g i n) ≡ n
unfolding rows
rows-length g i zero = refl
rows-length g i (suc n) = ap suc (rows-length g (suc i) n)

module _ (c : Cells) where
  pub sized_engine : Sized (engine_of c)
  unfolding engine_of
  sized_engine = record { ready = rows-length (event_at c) 0 256; active = rows-length (event_at c) 256 256; past = rows-length (event_at c) 512 256 }

  abbrev s : Sequencer
  s = engine_of c

  -- the counts, as the code reads them
  pub count_waits : (w : ℕ) → w ≡ min (get_or c.numbers 1280 0) 256 → w ≡ min s.ready_len 256
  count_waits w p = p ∙ ap (λ (m : ℕ). min m 256) (counts_are c).0

  pub ends_read : (w a f : ℕ) → w ≡ min (get_or c.numbers 1280 0) 256 → a ≡ min (get_or c.numbers 1281 0) 256 → f ≡ min (get_or c.numbers 1282 0) 256 → Ends s w (w + a) (w + a + f)
  ends_read w a f p q r =
      let n = counts_are c in
      let x = count_waits w p in
      let y : a ≡ min s.active_len 256 = q ∙ ap (λ (m : ℕ). min m 256) n.1 in
      let z : f ≡ min s.past_len 256 = r ∙ ap (λ (m : ℕ). min m 256) n.2 in
      record { waiting = x; sounding = omega (arith, x, y); finished = omega (arith, x, y, z) }

  -- as `held_event` asks for them
  pub ends_asked : (w a : ℕ) → w ≡ min s.ready_len 256 → a ≡ w + min s.active_len 256 → Ends s w a (a + min s.past_len 256)
  ends_asked w a p q = record { waiting = p; sounding = omega (arith, p, q); finished = omega (arith, p, q) }

  pub asked-at : (i w a h : ℕ) → Ends s w a h → i < h → (a ≡ w + min s.active_len 256) × (i < a + min s.past_len 256)
  asked-at i w a h n p = (omega (arith, n.waiting, n.sounding), omega (arith, n.sounding, n.finished))

  module _ (i w a h : ℕ) (e : Event) (n : Ends s w a h) where
    pub held_waiting : i < w → e ≡ event_at c (slot_of (0 + i)) → e ≡ get_or (held_in s) i blank
    held_waiting p q =
        let z : 0 + i ≡ i = omega arith in
        q ∙ ap (λ (k : ℕ). event_at c (slot_of k)) z ∙ waits-read c i blank (omega (arith, n.waiting)) ∙ at_waiting s sized_engine w a h n i p

    pub held_sounding : w ≤ i → i < a → e ≡ event_at c (slot_of (256 + (i - w))) → e ≡ get_or (held_in s) i blank
    held_sounding p l q = q ∙ sounds-read c (i - w) blank (omega (arith, n.waiting, n.sounding)) ∙ at_sounding s sized_engine w a h n i p l

    pub held_finished : a ≤ i → i < h → e ≡ event_at c (slot_of (512 + (i - a))) → e ≡ get_or (held_in s) i blank
    held_finished p l q = q ∙ finished_read c (i - a) blank (omega (arith, n.sounding, n.finished)) ∙ at_finished s sized_engine w a h n i p l

-- An event's weight is any number made of its start and number. Whatever the weight, each operation on the ledger's lists keeps the sum: nothing is lost and nothing is made. Assumes nothing.
use Prim.Native.Nat.{ℕ, zero, suc, ◌+◌, ◌-◌, ◌≤◌}
use Rattle.std.specs.Prelude.{◌≡◌, Bool, cond, ltb, eqb, length, Float}
use Rattle.std.proofs.Math.Path.{refl, ap, ap₂}
use Rattle.std.proofs.Common.{◌∙◌, ⊎_elim}
use Rattle.std.proofs.Math.Bool.{true, false}
use mathlib.Core.List.Memᴰ
use mathlib.Core.List.{List, [], ◌∷◌, ◌++◌, map, Memᴰ, Perm, Permᴰ}
use Rattle.std.proofs.Math.Logic.{∥∥₁_elim}
use Rattle.std.proofs.Math.Option.{Option, none, some}
use Rattle.std.proofs.Math.Nat.{ℕ_set}
use native.Mathlib.Omega.{arith}
use Rattle.std.specs.Float.Ieee.{lt, le}
use Rattle.event.specs.declared.Event.{Event}
use Rattle.event.specs.declared.Edit.{Edit}
use Rattle.event.specs.declared.StoredEdit.{StoredEdit}
use Rattle.event.specs.Events.{number_of, earlier, rewound, with_unit}
use Rattle.event.specs.Sources.{advanced_by}
use Rattle.ledger.specs.TickSamples.{tick_sum}
use Rattle.ledger.specs.BlockSamples.{block_sum, Span, first_place, end_place, channel_after, scratch_after, after_block}
use Rattle.ledger.specs.Lists.{numbers, insert, insert_all, start, last_of, but_last, last_first, sweep, with_edit, edit_of, drop_edit, edit_in}
use Rattle.ledger.specs.Sums.{number_sum, weight, event_sum}

-- ---- moving the last to the front keeps the length

pub length-but_last : (e : Event) (l : List Event) → length (but_last e l) ≡ length l
length-but_last e [] = refl
length-but_last e (f ∷ l) = ap suc (length-but_last f l)

pub length-last_first : (l : List Event) → length (last_first l) ≡ length l
length-last_first [] = refl
length-last_first (e ∷ l) = ap suc (length-but_last e l)

-- ---- the sum of a weight over a list of numbers

module _ (u : ℕ → ℕ) where
  pub number_sum_append : (a b : List ℕ) → number_sum u (a ++ b) ≡ number_sum u a + number_sum u b
  number_sum_append [] b = omega arith
  number_sum_append (n ∷ a) b = omega (arith, number_sum_append a b)

-- ---- the sum of a weight over a list of events, made of start and number: each operation of the ledger keeps it

module _ (w : Float → ℕ → ℕ) where
  with_edit_weight : (o : Option Edit) (e : Event) → weight w (with_edit o e) ≡ weight w e
  with_edit_weight none e = refl
  with_edit_weight (some d) e = refl

  pub event_sum_append : (a b : List Event) → event_sum w (a ++ b) ≡ event_sum w a + event_sum w b
  event_sum_append [] b = omega arith
  event_sum_append (n ∷ a) b = omega (arith, event_sum_append a b)

  pub event_sum_insert : (e : Event) (l : List Event) → event_sum w (insert e l) ≡ weight w e + event_sum w l
  unfolding insert
  event_sum_insert e [] = refl
  event_sum_insert e (f ∷ l) = go (earlier e f) refl (event_sum_insert e l)
    where
      go : (b : Bool) → earlier e f ≡ b → event_sum w (insert e l) ≡ weight w e + event_sum w l → event_sum w (insert e (f ∷ l)) ≡ weight w e + event_sum w (f ∷ l)
      go true h r = rw (h, insert) refl
      go false h r = rw (h, insert) (omega (arith, r))

  pub event_sum_insert_all : (a l : List Event) → event_sum w (insert_all a l) ≡ event_sum w a + event_sum w l
  unfolding insert_all
  event_sum_insert_all [] l = omega arith
  event_sum_insert_all (e ∷ a) l = omega (arith, event_sum_insert_all a (insert e l), event_sum_insert e l)

  pub event_sum_rewound : (a : List Event) → event_sum w (map rewound a) ≡ event_sum w a
  event_sum_rewound [] = refl
  event_sum_rewound (e ∷ a) = ap (λ n. weight w e + n) (event_sum_rewound a)

  pub event_sum_edit : (k : ℕ) (d : Edit) (a : List Event) → event_sum w (edit_in k d a) ≡ event_sum w a
  event_sum_edit k d [] = refl
  event_sum_edit k d (e ∷ a) = go (eqb (number_of e) k) refl (event_sum_edit k d a)
    where
      go : (b : Bool) → eqb (number_of e) k ≡ b → event_sum w (edit_in k d a) ≡ event_sum w a → event_sum w (edit_in k d (e ∷ a)) ≡ event_sum w (e ∷ a)
      go true h r = rw (h, edit_in) refl
      go false h r = rw (h, edit_in) (omega arith)

  pub event_sum_start : (θ : Float) (a s : List Event) (x : List StoredEdit) → event_sum w (start θ a s x).waiting + event_sum w (start θ a s x).sounding ≡ event_sum w a + event_sum w s
  unfolding start
  event_sum_start θ [] s x = refl
  event_sum_start θ (e ∷ a) s x = go (lt e.start_time θ) refl (event_sum_start θ a (s ++ (with_edit (edit_of (number_of e) x) e ∷ [])) (drop_edit (number_of e) x))
    where
      s' : List Event
      s' = s ++ (with_edit (edit_of (number_of e) x) e ∷ [])

      x' : List StoredEdit
      x' = drop_edit (number_of e) x

      go : (b : Bool) → lt e.start_time θ ≡ b → event_sum w (start θ a s' x').waiting + event_sum w (start θ a s' x').sounding ≡ event_sum w a + event_sum w s'
          → event_sum w (start θ (e ∷ a) s x).waiting + event_sum w (start θ (e ∷ a) s x).sounding ≡ event_sum w (e ∷ a) + event_sum w s
      go true h r = rw (h, start) (omega (arith, r, event_sum_append s (with_edit (edit_of (number_of e) x) e ∷ []), (with_edit_weight (edit_of (number_of e) x) e)))
      go false h r = rw (h, start) refl

  event_sum_but_last : (e : Event) (l : List Event) → weight w (last_of e l) + event_sum w (but_last e l) ≡ weight w e + event_sum w l
  event_sum_but_last e [] = refl
  event_sum_but_last e (f ∷ l) = omega (arith, event_sum_but_last f l)

  pub event_sum_last_first : (l : List Event) → event_sum w (last_first l) ≡ event_sum w l
  event_sum_last_first [] = refl
  event_sum_last_first (e ∷ l) = event_sum_but_last e l

  pub event_sum_sweep : (k : ℕ) (limit : Float) (s : List Event) → length s ≤ k → event_sum w (sweep k limit s).sounding + event_sum w (sweep k limit s).finished ≡ event_sum w s
  unfolding sweep
  event_sum_sweep zero limit [] h = refl
  event_sum_sweep zero limit (e ∷ s) h = absurd (omega arith)
  event_sum_sweep (suc k) limit [] h = refl
  event_sum_sweep (suc k) limit (e ∷ s) h =
      go (le e.end_time limit) refl (event_sum_sweep k limit (last_first s) (omega (arith, length-last_first s))) (event_sum_sweep k limit s (omega arith))
    where
      go : (b : Bool) → le e.end_time limit ≡ b
          → event_sum w (sweep k limit (last_first s)).sounding + event_sum w (sweep k limit (last_first s)).finished ≡ event_sum w (last_first s)
          → event_sum w (sweep k limit s).sounding + event_sum w (sweep k limit s).finished ≡ event_sum w s
          → event_sum w (sweep (suc k) limit (e ∷ s)).sounding + event_sum w (sweep (suc k) limit (e ∷ s)).finished ≡ event_sum w (e ∷ s)
      go true h r q = rw (h, sweep) (omega (arith, r, event_sum_last_first s))
      go false h r q = rw (h, sweep) (omega arith)

  pub event_sum_tick : (pool : List Float) (t : Float) (s : List Event) (a : Float) → event_sum w (tick_sum pool t s a).events ≡ event_sum w s
  unfolding tick_sum
  event_sum_tick pool t [] a = refl
  event_sum_tick pool t (e ∷ s) a = ap (λ n. weight w e + n) (event_sum_tick pool t s _)

  after_weight : (b : Span) (e : Event) → weight w (after_block b e) ≡ weight w e
  unfolding after_block
  after_weight b e = go (ltb (first_place b e) (end_place b e))
    where
      go : (c : Bool) → weight w (cond c (with_unit (advanced_by e.unit (end_place b e - first_place b e)) e) e) ≡ weight w e
      go true = refl
      go false = refl

  pub event_sum_block : (pool : List Float) (b : Span) (s : List Event) (channel scratch : List Float) → event_sum w (block_sum pool b s channel scratch).events ≡ event_sum w s
  unfolding block_sum
  event_sum_block pool b [] channel scratch = refl
  event_sum_block pool b (e ∷ s) channel scratch = ap₂ (λ m n. m + n) (after_weight b e) (event_sum_block pool b s (channel_after pool b e channel) (scratch_after pool b e scratch))

-- a weight by the number alone
pub number_sum_numbers : (u : ℕ → ℕ) (a : List Event) → number_sum u (numbers a) ≡ event_sum (λ x n. u n) a
number_sum_numbers u [] = refl
number_sum_numbers u (e ∷ a) = omega (arith, number_sum_numbers u a)

pub number_sum_one : (l : List ℕ) → number_sum (λ n. 1) l ≡ length l
number_sum_one [] = refl
number_sum_one (n ∷ l) = omega (arith, number_sum_one l)

pub event_sum_one : (l : List Event) → event_sum (λ x n. 1) l ≡ length l
event_sum_one [] = refl
event_sum_one (n ∷ l) = omega (arith, event_sum_one l)

-- ---- an event of a list weighs no more than the list; a list whose events weigh nothing weighs nothing; and the order does not matter

pub weight_in : (w : Float → ℕ → ℕ) (f : Event) (l : List Event) → Memᴰ f l → weight w f ≤ event_sum w l
weight_in w f [] m = absurd (Memᴰ.not-nil m)
weight_in w f (e ∷ l) m =
    ⊎_elim (λ k. rw k (omega arith))
    (λ k. let r = weight_in w f l k in omega (arith, r))
    (Memᴰ.cases_cons m)

pub weightless : (w : Float → ℕ → ℕ) (l : List Event) → ((e : Event) → Memᴰ e l → weight w e ≡ 0) → event_sum w l ≡ 0
weightless w [] h = refl
weightless w (e ∷ l) h = omega (arith, h e (Memᴰ.head refl), weightless w l (λ f m. h f (Memᴰ.tail m)))

sum_perm : (w : Float → ℕ → ℕ) {a b : List Event} → Permᴰ a b → event_sum w a ≡ event_sum w b
sum_perm w Permᴰ.nil = refl
sum_perm w (Permᴰ.cons e d) = ap₂ (λ m n. m + n) (ap (weight w) e) (sum_perm w d)
sum_perm w (Permᴰ.swap p q) = omega (arith, ap (weight w) p, ap (weight w) q)
sum_perm w (Permᴰ.trans d f) = sum_perm w d ∙ sum_perm w f

pub event_sum_perm : (w : Float → ℕ → ℕ) {a b : List Event} → Perm a b → event_sum w a ≡ event_sum w b
event_sum_perm w {a} {b} p = ∥∥₁_elim p (ℕ_set (event_sum w a) (event_sum w b)) (λ d. sum_perm w d)

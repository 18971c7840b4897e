-- Events that end leave S, S's last filling the place, and go to F's end: the engine's loop and the ledger's. Assumes nothing.
use Rattle.std.specs.Prelude.{Bool, true, false, ◌≡◌, List, [], ◌∷◌, ◌++◌, Float, get_or, set, length}
use Rattle.std.proofs.Math.Path.{refl}
use Rattle.std.proofs.Common.{sym, ap, ◌∙◌, subst, append_assoc, append-nil, arith, length-append, get_or-append-add}
use Prim.Native.Nat.{ℕ, zero, suc, ◌+◌, ◌-◌, ◌≤◌, ◌<◌}
use Rattle.std.specs.Float.Ieee.{le}
use borrow.Author.Tests.{lt-ltb, le-ltb, le-leb}
use Rattle.event.specs.declared.Event.{Event}
use Rattle.event.specs.declared.StoredEdit.{StoredEdit}
use Rattle.event.specs.Blank.{blank}
use Rattle.ledger.specs.Ledger.{Ledger}
use Rattle.ledger.specs.Lists.{last_first, Swept, sweep}
use Rattle.ledger.proofs.Sums.{length-last_first}
use Rattle.lists.specs.Holds.{Holds, holds-length, holds_at}
use Rattle.lists.specs.Index.{no_id}
use Rattle.lists.specs.Sounding.{listed-swap}
use Rattle.sequencer.specs.declared.Sequencer.{Sequencer}
use Rattle.sequencer.specs.Parts.{with_active}
use Rattle.sequencer.specs.Moves.{swap_removed, pushed_past, finishes}
use Rattle.claim.specs.Related.{Lists, Plain, relist, past_is, lists_past}

-- ---- a round of the engine's loop, and its last

module _ (limit : Float) (s : Sequencer) (i : ℕ) where
  finishes-over : (f : ℕ) → s.active_len ≤ i → finishes f limit s i ≡ s
  unfolding finishes
  finishes-over zero h = refl
  finishes-over (suc f) h = rw (le-ltb i s.active_len h)

  finishes_on : (f : ℕ) → i < s.active_len → s.active_len ≤ 256 → le (get_or s.active i blank).end_time limit ≡ false → finishes (suc f) limit s i ≡ finishes f limit s (suc i)
  unfolding finishes
  finishes_on f p q h = rw (lt-ltb i s.active_len p, le-leb s.active_len 256 q, h)

  finishes_off : (f : ℕ) → i < s.active_len → s.active_len ≤ 256 → le (get_or s.active i blank).end_time limit ≡ true
      → finishes (suc f) limit s i ≡ finishes f limit (pushed_past (swap_removed s i) (get_or s.active i blank)) i
  unfolding finishes
  finishes_off f p q h = rw (lt-ltb i s.active_len p, le-leb s.active_len 256 q, h)

-- ---- a round of the ledger's

module _ (limit : Float) where
  sweep-none : (k : ℕ) → record { sounding = []; finished = [] } ≡ sweep k limit []
  unfolding sweep
  sweep-none zero = refl
  sweep-none (suc k) = refl

  module _ (k : ℕ) (e : Event) (q : List Event) where
    sweep_off : le e.end_time limit ≡ true
        → record { sounding = (sweep k limit (last_first q)).sounding; finished = e ∷ (sweep k limit (last_first q)).finished } ≡ sweep (suc k) limit (e ∷ q)
    unfolding sweep
    sweep_off h = rw (h, sweep)

    sweep_on : le e.end_time limit ≡ false → record { sounding = e ∷ (sweep k limit q).sounding; finished = (sweep k limit q).finished } ≡ sweep (suc k) limit (e ∷ q)
    unfolding sweep
    sweep_on h = rw (h, sweep)

-- ---- e leaves S

-- the place after p is e's
inside : (p : List Event) (e : Event) (q : List Event) {xs : List Event} {n : ℕ} → Holds xs n (p ++ (e ∷ q)) → length p < n
inside p e q h = omega (arith, holds-length h, length-append p (e ∷ q))

pub stands_at : (p : List Event) (e : Event) (q : List Event) {xs : List Event} {n : ℕ} → Holds xs n (p ++ (e ∷ q)) → get_or xs (length p) blank ≡ e
stands_at p e q h =
    let o : length p ≡ length p + 0 = omega arith in
    holds_at blank (length p) (inside p e q h) h ∙ ap (λ (m : ℕ). get_or (p ++ (e ∷ q)) m blank) o ∙ get_or-append-add p (e ∷ q) 0 blank

module _ (s : Sequencer) (p : List Event) (e : Event) (q : List Event) where
  swap_is : length p < s.active_len → s.active_len ≤ 256
      → swap_removed s (length p)
      ≡ with_active s (set s.active (length p) (get_or s.active (s.active_len - 1) blank)) (set s.active_map (length p) (get_or s.active_map (s.active_len - 1) no_id)) (s.active_len - 1)
  unfolding swap_removed
  swap_is h k = rw (le-leb s.active_len 256 k, lt-ltb (length p) s.active_len h)

  lists-swap : (w f : List Event) (x : List StoredEdit) → Lists s w (p ++ (e ∷ q)) f x → Lists (swap_removed s (length p)) w (p ++ last_first q) f x
  lists-swap w f x r =
      let k = listed-swap p e q (r.1, r.2) in
      subst (λ (t : Sequencer). Lists t w (p ++ last_first q) f x) (sym (swap_is (inside p e q r.1) r.1.fits)) (r.0, k.0, k.1, r.3, r.4)

-- ---- the sweep of S from the place after p on

module _ (l : Ledger) (limit : Float) (w : List Event) (x : List StoredEdit) where
  abbrev Leaves : Sequencer → (p : List Event) → Swept → (f : List Event) → Type 0
  Leaves t p r f = Lists t w (p ++ r.sounding) (f ++ r.finished) x × Plain t l

  abbrev Claim : ℕ → Type 0
  Claim n =
      (k : ℕ) (s : Sequencer) (p q f : List Event) → length q ≤ n → length q ≤ k → length p + length q + length f ≤ 256 → Lists s w (p ++ q) f x → Plain s l
      → Leaves (finishes n limit s (length p)) p (sweep k limit q) f

  over : (n k : ℕ) (s : Sequencer) (p f : List Event) → Lists s w (p ++ []) f x → Plain s l → Leaves (finishes n limit s (length p)) p (sweep k limit []) f
  over n k s p f r c =
      subst (λ (y : Swept). Leaves (finishes n limit s (length p)) p y f) (sweep-none limit k)
      (subst (λ (t : Sequencer). Leaves t p (record { sounding = []; finished = [] }) f) (sym (finishes-over limit s (length p) n (omega (arith, holds-length r.1, length-append p []))))
      (relist s w x refl (sym (append-nil f)) r, c))

  turn : (n : ℕ) → Claim n → Claim (suc n)
  turn n ih k s p [] f a b room r c = over (suc n) k s p f r c
  turn n ih zero s p (e ∷ q) f a b room r c = absurd (omega arith)
  turn n ih (suc k) s p (e ∷ q) f a b room r c = go (le e.end_time limit) refl
    where
      i : ℕ
      i = length p

      within : i < s.active_len
      within = inside p e q r.1

      here : get_or s.active i blank ≡ e
      here = stands_at p e q r.1

      at : (t : Bool) → le e.end_time limit ≡ t → le (get_or s.active i blank).end_time limit ≡ t
      at t h = ap (λ (y : Event). le y.end_time limit) here ∙ h

      s' : Sequencer
      s' = swap_removed s i

      r1 : Lists s' w (p ++ last_first q) f x
      r1 = lists-swap s p e q w f x r

      space : s'.past_len < 256
      space = omega (arith, holds-length r1.3, room)

      r2 : Lists (pushed_past s' e) w (p ++ last_first q) (f ++ (e ∷ [])) x
      r2 = lists_past s' e w (p ++ last_first q) f x space r1

      c2 : Plain (pushed_past s' e) l
      c2 = subst (λ (t : Sequencer). Plain t l) (sym (past_is s' e space)) (subst (λ (t : Sequencer). Plain t l) (sym (swap_is s p e q within r.1.fits)) c)

      go : (t : Bool) → le e.end_time limit ≡ t → Leaves (finishes (suc n) limit s (length p)) p (sweep (suc k) limit (e ∷ q)) f
      go true h =
          let j = length-last_first q in
          let y = sweep k limit (last_first q) in
          let z = ih k (pushed_past s' e) p (last_first q) (f ++ (e ∷ [])) (omega (arith, j)) (omega (arith, j)) (omega (arith, j, length-append f (e ∷ []))) r2 c2 in
          subst (λ (v : Swept). Leaves (finishes (suc n) limit s (length p)) p v f) (sweep_off limit k e q h)
          (subst (λ (t : Sequencer). Leaves t p (record { sounding = y.sounding; finished = e ∷ y.finished }) f)
          (ap (λ (v : Event). finishes n limit (pushed_past s' v) i) (sym here) ∙ sym (finishes_off limit s i n within r.1.fits (at true h)))
          (relist (finishes n limit (pushed_past s' e) i) w x refl (append_assoc f (e ∷ []) y.finished) z.0, z.1))
      go false h =
          let p' = p ++ (e ∷ []) in
          let y = sweep k limit q in
          let z = ih k s p' q f (omega arith) (omega arith) (omega (arith, length-append p (e ∷ []))) (relist s w x (sym (append_assoc p (e ∷ []) q)) refl r) c in
          let j : length p' ≡ suc i = omega (arith, length-append p (e ∷ [])) in
          subst (λ (v : Swept). Leaves (finishes (suc n) limit s (length p)) p v f) (sweep_on limit k e q h)
          (subst (λ (t : Sequencer). Leaves t p (record { sounding = e ∷ y.sounding; finished = y.finished }) f)
          (ap (λ (m : ℕ). finishes n limit s m) j ∙ sym (finishes_on limit s i n within r.1.fits (at false h)))
          (relist (finishes n limit s (length p')) w x (append_assoc p (e ∷ []) y.sounding) refl z.0, z.1))

  none : Claim zero
  none k s p [] f a b room r c = over zero k s p f r c
  none k s p (e ∷ q) f a b room r c = absurd (omega arith)

  pub sweep-lists : (n : ℕ) → Claim n
  sweep-lists zero = none
  sweep-lists (suc n) = turn n (sweep-lists n)

-- The branches of `created`, `serves` and `advanced`, and lengths: what the contracts' proofs cite.
use Rattle.std.specs.Prelude.{◌≡◌, Bool, List, [], ◌∷◌, ℕ, suc, ◌+◌, max, ◌≤◌, ◌<◌, ltb, leb, length, get_or, set, take, drop, Ok, Err, ◌⊎◌}
use Rattle.std.proofs.Math.Path.{refl}
use Rattle.std.proofs.Common.{sym, ap, ◌∙◌, true≢false, ⊎_elim, arith, length-take, length-drop, length-append, length-set}
use Rattle.std.proofs.Math.Bool.{true, false, cond}
use borrow.Author.Tests.{lt-ltb, le-ltb, le-leb, lt-leb, ltb-true, ltb-false, leb-true, leb-false}
use Rattle.std.proofs.Math.ListN.{get_or-eq_default}
use Rattle.peak.specs.declared.RunningPeak.{RunningPeak}
use Rattle.peak.specs.declared.Refused.{Refused}
use Rattle.peak.specs.Steps.{Outcome, refused, refusal_in, served, State, state, empty, suffix_maxima, suffix_maxima_to, created, serves, advanced, fed, older}
use Rattle.peak.specs.Turns.{Next}

-- ---- a fresh one

module _ (w words : ℕ) where
  pub too_small : w < 1 → created w words ≡ Err (refused (empty 1))
  unfolding created
  too_small h = rw (lt-ltb w 1 h)

  pub too_large : 1 ≤ w → 4096 < w → created w words ≡ Err (refused (empty 1))
  unfolding created
  too_large h k = rw (le-ltb w 1 h, lt-ltb 4096 w k)

  pub too_few : 1 ≤ w → w ≤ 4096 → words < w → created w words ≡ Err (refused (empty 1))
  unfolding created
  too_few h k l = rw (le-ltb w 1 h, le-ltb 4096 w k, lt-ltb words w l)

  -- the code's tests, in their order
  pub outside : (w < 1) ⊎ (((1 ≤ w) × (4096 < w)) ⊎ ((1 ≤ w) × (w ≤ 4096) × (words < w))) → created w words ≡ Err (refused (empty 1))
  outside x = ⊎_elim too_small (⊎_elim (λ y. too_large y.0 y.1) (λ y. too_few y.0 y.1 y.2)) x

  pub in-limits : 1 ≤ w → w ≤ 4096 → w ≤ words → created w words ≡ Ok (empty w)
  unfolding created
  in-limits h k l = rw (le-ltb w 1 h, le-ltb 4096 w k, le-ltb words w l)

-- ---- whether a row serves

module _ (p : RunningPeak) (words : ℕ) where
  pub misplaced : p.window ≤ p.place → serves p words ≡ false
  unfolding serves
  misplaced a = rw (le-ltb p.place p.window a)

  pub narrow : p.place < p.window → p.window ≤ 1 → serves p words ≡ true
  unfolding serves
  narrow a b = rw (lt-ltb p.place p.window a, le-leb p.window 1 b)

  pub wide : p.place < p.window → 1 < p.window → serves p words ≡ leb p.window words
  unfolding serves
  wide a b = rw (lt-ltb p.place p.window a, lt-leb p.window 1 b)

  pub enough : p.place < p.window → p.window ≤ words → serves p words ≡ true
  enough a b = go (leb p.window 1) refl
    where
      go : (t : Bool) → leb p.window 1 ≡ t → serves p words ≡ true
      go true e = narrow a (leb-true p.window 1 e)
      go false e = wide a (leb-false p.window 1 e) ∙ le-leb p.window words b

  -- what serves has a place of its window, and above 1 a word for each sample
  pub inside : serves p words ≡ true → p.place < p.window
  inside h = go (ltb p.place p.window) refl
    where
      go : (t : Bool) → ltb p.place p.window ≡ t → p.place < p.window
      go true e = ltb-true p.place p.window e
      go false e = absurd (true≢false (sym h ∙ misplaced (ltb-false p.place p.window e)))

  pub room : serves p words ≡ true → 1 < p.window → p.window ≤ words
  room h b = leb-true p.window words (sym (wide (inside h) b) ∙ h)

-- ---- what `served` tells

err_is_not_ok : {p : RunningPeak} {r : Refused} → ◌≡◌ {A = Outcome} (Err r) (Ok p) → ⊥
err_is_not_ok h = let z : ◌≡◌ {A = ℕ} 20 0 = ap refusal_in h in absurd (omega (arith, z))

module _ (p : RunningPeak) (words : ℕ) where
  pub served_ok : (q : RunningPeak) → served p words ≡ Ok q → (serves p words ≡ true) × (p ≡ q)
  served_ok q = go (serves p words) refl
    where
      go : (t : Bool) → serves p words ≡ t → cond t (Ok p) (Err (refused p)) ≡ Ok q → (serves p words ≡ true) × (p ≡ q)
      go true e h = (e, cc)
      go false e h = absurd (err_is_not_ok h)

  pub served_err : (r : Refused) → served p words ≡ Err r → (serves p words ≡ false) × (refused p ≡ r)
  served_err r = go (serves p words) refl
    where
      go : (t : Bool) → serves p words ≡ t → cond t (Ok p) (Err (refused p)) ≡ Err r → (serves p words ≡ false) × (refused p ≡ r)
      go true e h = absurd (err_is_not_ok (sym h))
      go false e h = (e, cc)

-- ---- one magnitude

module _ (p : RunningPeak) (row : List ℕ) (m : ℕ) where
  pub last : p.window ≤ 1 → advanced (state p row) m ≡ state (record { window = p.window; place = p.place; recent = m; turned = false }) row
  unfolding advanced
  last a = rw (le-leb p.window 1 a)

  pub goes_on : 1 < p.window → p.place + 1 < p.window
      → advanced (state p row) m
      ≡ state (record { window = p.window; place = p.place + 1; recent = max p.recent m; turned = p.turned }) (set row p.place m)
  unfolding advanced
  goes_on a d = rw (lt-leb p.window 1 a, lt-ltb (p.place + 1) p.window d)

  pub turns : 1 < p.window → p.window ≤ p.place + 1
      → advanced (state p row) m
      ≡ state (record { window = p.window; place = 0; recent = 0; turned = true }) (suffix_maxima_to p.window (set row p.place m))
  unfolding advanced
  turns a d = rw (lt-leb p.window 1 a, le-ltb (p.place + 1) p.window d)

-- ---- a feed
pub taken : (s : State) (m : ℕ) → serves s.peak (length s.row) ≡ true → fed s m ≡ advanced s m
unfolding fed
taken s m h = rw h

pub left_alone : (s : State) (m : ℕ) → serves s.peak (length s.row) ≡ false → fed s m ≡ s
unfolding fed
left_alone s m h = rw h

-- ---- what is left of the window before
module _ (p : RunningPeak) (row : List ℕ) where
  pub past_row : length row ≤ p.place → older (state p row) ≡ 0
  unfolding older
  past_row h = go p.turned
    where
      go : (t : Bool) → cond t (get_or row p.place 0) 0 ≡ 0
      go true = get_or-eq_default row 0 h
      go false = refl

  pub turned_older : p.turned ≡ true → older (state p row) ≡ get_or row p.place 0
  unfolding older
  turned_older h = rw h

  pub unturned_older : p.turned ≡ false → older (state p row) ≡ 0
  unfolding older
  unturned_older h = rw h

  pub left_of_none : ((p.turned ≡ true) × (length row ≤ p.place)) ⊎ (p.turned ≡ false) → older (state p row) ≡ 0
  left_of_none x = ⊎_elim (λ y. past_row y.1) unturned_older x

-- ---- lengths
pub length-suffix_maxima : (l : List ℕ) → length (suffix_maxima l) ≡ length l
unfolding suffix_maxima
length-suffix_maxima [] = refl
length-suffix_maxima (x ∷ l) = ap suc (length-suffix_maxima l)

pub length-suffix_maxima_to : (n : ℕ) (l : List ℕ) → length (suffix_maxima_to n l) ≡ length l
length-suffix_maxima_to n l =
    length-append (suffix_maxima (take n l)) (drop n l) ∙ rw (length-suffix_maxima (take n l), length-take n l, length-drop n l) (omega arith)

pub next : (s : State) (m : ℕ) → serves s.peak (length s.row) ≡ true → Next s m
next s m h = first (leb s.peak.window 1) refl
  where
    v : List ℕ
    v = set s.row s.peak.place m

    a : s.peak.place < s.peak.window
    a = inside s.peak (length s.row) h

    long-turn : length (suffix_maxima_to s.peak.window v) ≡ length s.row
    long-turn = length-suffix_maxima_to s.peak.window v ∙ length-set s.row s.peak.place m

    second : 1 < s.peak.window → (t : Bool) → ltb (s.peak.place + 1) s.peak.window ≡ t → Next s m
    second b true e =
        let d = ltb-true (s.peak.place + 1) s.peak.window e in
        let r = room s.peak (length s.row) h b in
        let k = length-set s.row s.peak.place m in
        let q = goes_on s.peak s.row m b d in
        record { long = rw q k; serving = rw q (enough _ _ d (omega arith)) }
    second b false e =
        let d = ltb-false (s.peak.place + 1) s.peak.window e in
        let r = room s.peak (length s.row) h b in
        let k = long-turn in
        let q = turns s.peak s.row m b d in
        record { long = rw q k; serving = rw q (enough _ _ (omega arith) (omega arith)) }

    first : (t : Bool) → leb s.peak.window 1 ≡ t → Next s m
    first true e =
        let d = leb-true s.peak.window 1 e in
        let q = last s.peak s.row m d in
        record { long = rw q refl; serving = rw q (narrow _ _ a d) }
    first false e = second (leb-false s.peak.window 1 e) (ltb (s.peak.place + 1) s.peak.window) refl

-- The claim. Since the last turn the row begins with what was fed; once there was a turn, the suffix maxima of what is left of the window before follow.
use Rattle.std.specs.Prelude.{◌≡◌, refl, Bool, true, false, ltb, leb, drop, replicate, Ok}
use Rattle.std.proofs.Math.Path.{sym, ap}
use Rattle.std.proofs.Common.{◌∙◌, subst, ltb-true, ltb-false, leb-true, leb-false, length-append, get_or-take, take-suc-set, get_or-set_other}
use mathlib.Core.List.{List, [], ◌∷◌, ◌++◌, map, foldl, foldl-append, map-append, append-nil, append_assoc}
use Prim.Native.Nat.{ℕ, zero, suc, ◌+◌, ◌-◌, max, ◌≤◌, ◌<◌}
use Rattle.std.proofs.Math.Nat.{max_comm, max-zero, zero-max}
use native.Mathlib.Omega.{arith}
use Rattle.std.proofs.Math.ListN.{length, get_or, set, take, length-set}
use Rattle.std.proofs.lemmas.List.{length-replicate, drop-append-le}
use Rattle.std.proofs.Math.Seq.{append_snoc, take_at, drop-append-add}
use Rattle.peak.specs.declared.RunningPeak.{RunningPeak}
use Rattle.peak.specs.Peaks.{magnitude, greatest, last_of, Feed, one, run, history, peak_of}
use Rattle.peak.specs.Steps.{peak_in, State, state, empty, suffix_maxima, suffix_maxima_to, created, serves, refusal, advanced, fed, fed_all, older, reading}
use Rattle.peak.specs.Claim.{step, Claim}
use Rattle.peak.proofs.Turns.{too_small, too_large, too_few, in-limits, narrow, enough, last, goes_on, turns, length-suffix_maxima, length-suffix_maxima_to}
use Rattle.peak.specs.Theorem.{Single, Keeps, Fresh, Holds, narrowest, roomy}

-- ---- lists
greatest-append : (a b : List ℕ) → greatest (a ++ b) ≡ max (greatest a) (greatest b)
unfolding greatest
greatest-append [] b = sym (zero-max (greatest b))
greatest-append (x ∷ a) b = let e = greatest-append a b in omega arith

get_or-suffix_maxima : (l : List ℕ) (i : ℕ) → get_or (suffix_maxima l) i 0 ≡ greatest (drop i l)
unfolding suffix_maxima greatest
get_or-suffix_maxima [] zero = refl
get_or-suffix_maxima [] (suc i) = refl
get_or-suffix_maxima (x ∷ l) zero = refl
get_or-suffix_maxima (x ∷ l) (suc i) = get_or-suffix_maxima l i

greatest-zeros : (i n : ℕ) → greatest (drop i (replicate n 0)) ≡ 0
unfolding greatest
greatest-zeros zero zero = refl
greatest-zeros zero (suc n) = rw (greatest-zeros zero n)
greatest-zeros (suc i) zero = refl
greatest-zeros (suc i) (suc n) = greatest-zeros i n

-- zeros before the history change no maximum
greatest-last_of : (w : ℕ) (h : List ℕ) → greatest (last_of w (replicate w 0 ++ h)) ≡ greatest (last_of w h)
greatest-last_of w h = go (ltb (length h) w) refl
  where
    n : length (replicate w 0 ++ h) - w ≡ length h
    n = omega (arith, length-append (replicate w 0) h, length-replicate {A = ℕ} w 0)

    go : (t : Bool) → ltb (length h) w ≡ t → greatest (last_of w (replicate w 0 ++ h)) ≡ greatest (last_of w h)
    go true e =
        let d = ltb-true (length h) w e in
        let z : length h - w ≡ 0 = omega arith in
        rw (n, z, drop-append-le (length h) (replicate w 0) h (omega (arith, length-replicate {A = ℕ} w 0)), greatest-append, greatest-zeros, zero-max)
    go false e =
        let d = ltb-false (length h) w e in
        let z : length (replicate w 0 ++ h) - w ≡ length (replicate {A = ℕ} w 0) + (length h - w) = omega (arith, n, length-replicate {A = ℕ} w 0) in
        rw (z, drop-append-add)

-- ---- a window of 1: the last magnitude
last_one : (h : List ℕ) (m : ℕ) → greatest (last_of 1 (h ++ m ∷ [])) ≡ m
unfolding greatest
last_one h m =
    let e : length (h ++ m ∷ []) - 1 ≡ length h + 0 = omega (arith, length-append h (m ∷ [])) in
    rw (e, drop-append-add h (m ∷ []) 0, max-zero m)

single-serves : (s : State) (h : List ℕ) → Single s h → serves s.peak (length s.row) ≡ true
single-serves s h k = let x = k.window in let y = k.place in narrow s.peak (length s.row) (omega arith) (omega arith)

single-fed : (s : State) (h : List ℕ) (m : ℕ) → Single s h → Single (fed s m) (h ++ m ∷ [])
unfolding fed
single-fed s h m k =
    let x = k.window in
    rw (single-serves s h k, last s.peak s.row m (omega arith))
    (record { window = k.window; place = k.place; turned = refl; recent = sym (last_one h m) })

single-all : (s : State) (h ms : List ℕ) → Single s h → Single (fed_all s ms) (h ++ ms)
single-all s h [] k = rw append-nil k
single-all s h (m ∷ ms) k = rw (append_snoc h m ms) at (single-all (fed s m) (h ++ m ∷ []) ms (single-fed s h m k))

single-reading : (s : State) (h : List ℕ) → Single s h → reading s ≡ Ok (greatest (last_of 1 h))
unfolding reading older
single-reading s h k = rw (single-serves s h k, k.turned, max-zero s.peak.recent, k.recent)

keeps-serves : (w : ℕ) (s : State) (h : List ℕ) → Keeps w s h → serves s.peak (length s.row) ≡ true
keeps-serves w s h k =
    let x = k.window in
    let y = k.place in
    let z = k.room in
    let o = k.words in
    enough s.peak (length s.row) (omega arith) (omega arith)

keeps-fresh : (w : ℕ) (row : List ℕ) → 1 < w → w ≤ length row → Keeps w (state (empty w) row) []
unfolding greatest
keeps-fresh w row h k = record {
  before = [];
  previous = replicate w 0;
  current = [];
  whole = refl;
  full = length-replicate {A = ℕ} w 0;
  wide = h;
  room = omega arith;
  window = refl;
  place = refl;
  recent = refl;
  words = k;
  begins = refl;
  follows = λ i a b. sym (greatest-zeros i w);
}

module _ (w : ℕ) (s : State) (h : List ℕ) (m : ℕ) (k : Keeps w s h) where
  longer : length (k.current ++ m ∷ []) ≡ suc (length k.current)
  longer = simp length-append (omega arith)

  whole_on : replicate w 0 ++ (h ++ m ∷ []) ≡ k.before ++ (k.previous ++ (k.current ++ m ∷ []))
  whole_on = sym (append_assoc (replicate w 0) h (m ∷ [])) ∙ ap (λ (z : List ℕ). z ++ m ∷ []) k.whole ∙ simp append_assoc

  -- the row after the store begins with what was fed
  stored : take (suc (length k.current)) (set s.row s.peak.place m) ≡ k.current ++ m ∷ []
  stored =
      let r = k.room in
      let o = k.words in
      rw k.place (take-suc-set s.row (length k.current) m (omega arith) ∙ ap (λ (z : List ℕ). z ++ m ∷ []) k.begins)

  keeps_on : s.peak.place + 1 < w
      → Keeps w
      (state (record { window = s.peak.window; place = s.peak.place + 1; recent = max s.peak.recent m; turned = s.peak.turned })
      (set s.row s.peak.place m)) (h ++ m ∷ [])
  unfolding greatest
  keeps_on b =
      let e = longer in
      let q = k.place in
      record {
        before = k.before;
        previous = k.previous;
        current = k.current ++ m ∷ [];
        whole = whole_on;
        full = k.full;
        wide = k.wide;
        room = omega arith;
        window = k.window;
        place = omega arith;
        recent = rw (k.recent, greatest-append k.current (m ∷ []), max-zero m);
        words = rw (length-set s.row s.peak.place m) k.words;
        begins = rw e stored;
        follows = λ i x y. rw (get_or-set_other s.row s.peak.place i m 0 (λ z. omega arith)) (k.follows i (omega arith) y);
      }

  keeps-turn : w ≤ s.peak.place + 1
      → Keeps w (state (record { window = w; place = 0; recent = 0; turned = true }) (suffix_maxima_to w (set s.row s.peak.place m))) (h ++ m ∷ [])
  unfolding greatest
  keeps-turn b =
      let v = set s.row s.peak.place m in
      let n = length k.current in
      let e = longer in
      let q = k.place in
      let r = k.room in
      let o = k.words in
      let d : w ≡ suc n = omega arith in
      let t : take w v ≡ k.current ++ m ∷ [] = ap (λ (j : ℕ). take j v) d ∙ stored in
      let u : length (suffix_maxima (take w v)) ≡ w = length-suffix_maxima (take w v) ∙ ap length t ∙ omega arith in
      let x : take w (suffix_maxima_to w v) ≡ suffix_maxima (k.current ++ m ∷ []) = take_at (suffix_maxima (take w v)) (drop w v) w u ∙ ap suffix_maxima t in
      record {
        before = k.before ++ k.previous;
        previous = k.current ++ m ∷ [];
        current = [];
        whole = whole_on ∙ simp (append_assoc, append-nil);
        full = omega arith;
        wide = k.wide;
        room = omega arith;
        window = refl;
        place = refl;
        recent = refl;
        words = rw (length-suffix_maxima_to w v, length-set s.row s.peak.place m) o;
        begins = refl;
        follows = λ i y z. sym (get_or-take w (suffix_maxima_to w v) i 0 z) ∙ ap (λ (l : List ℕ). get_or l i 0) x ∙ get_or-suffix_maxima (k.current ++ m ∷ []) i;
      }

  keeps-fed : Keeps w (fed s m) (h ++ m ∷ [])
  unfolding fed
  keeps-fed = rw (keeps-serves w s h k) (go (ltb (s.peak.place + 1) s.peak.window) refl)
    where
      a : 1 < s.peak.window
      a = let x = k.window in let y = k.wide in omega arith

      go : (t : Bool) → ltb (s.peak.place + 1) s.peak.window ≡ t → Keeps w (advanced s m) (h ++ m ∷ [])
      go true e =
          let d = ltb-true (s.peak.place + 1) s.peak.window e in
          let x = k.window in
          rw (goes_on s.peak s.row m a d) (keeps_on (omega arith))
      go false e =
          let d = ltb-false (s.peak.place + 1) s.peak.window e in
          let x = k.window in
          rw (turns s.peak s.row m a d, x) (keeps-turn (omega arith))

keeps-all : (w : ℕ) (s : State) (h ms : List ℕ) → Keeps w s h → Keeps w (fed_all s ms) (h ++ ms)
keeps-all w s h [] k = rw append-nil k
keeps-all w s h (m ∷ ms) k = rw (append_snoc h m ms) at (keeps-all w (fed s m) (h ++ m ∷ []) ms (keeps-fed w s h m k))

keeps-reading : (w : ℕ) (s : State) (h : List ℕ) → Keeps w s h → reading s ≡ Ok (greatest (last_of w h))
unfolding reading older
keeps-reading w s h k = rw (keeps-serves w s h k) (ap Ok both)
  where
    n : ℕ
    n = length k.current

    all : List ℕ
    all = k.before ++ (k.previous ++ k.current)

    left : older s ≡ greatest (drop n k.previous)
    left = rw k.place (k.follows n (omega arith) k.room)

    these : last_of w all ≡ drop n k.previous ++ k.current
    these =
        let r = k.room in
        let f = k.full in
        let x = length-append k.before (k.previous ++ k.current) in
        let y = length-append k.previous k.current in
        let c : length all - w ≡ length k.before + n = omega arith in
        ap (λ (z : ℕ). drop z all) c ∙ drop-append-add k.before (k.previous ++ k.current) n ∙ drop-append-le n k.previous k.current (omega arith)

    both : max s.peak.recent (older s) ≡ greatest (last_of w h)
    both =
        rw (k.recent, left)
        (max_comm (greatest k.current) (greatest (drop n k.previous)) ∙ sym (greatest-append (drop n k.previous) k.current)
        ∙ sym (ap greatest these) ∙ sym (ap (λ (z : List ℕ). greatest (last_of w z)) k.whole) ∙ greatest-last_of w h)

-- ---- a list of feeds is its history
steps-history : (s : State) (fs : List Feed) → foldl step s fs ≡ fed_all s (map magnitude (history fs))
unfolding step history
steps-history s [] = refl
steps-history s (one x ∷ fs) = steps-history (fed s (magnitude x)) fs
steps-history s (run xs ∷ fs) =
    steps-history (fed_all s (map magnitude xs)) fs ∙ sym (foldl-append fed s (map magnitude xs) (map magnitude (history fs)))
    ∙ ap (fed_all s) (sym (map-append magnitude xs (history fs)))

created-fresh : (w : ℕ) (row : List ℕ) → Fresh w row
created-fresh w row = first (ltb w 1) refl
  where
    n : ℕ
    n = length row

    fourth : 1 ≤ w → w ≤ 4096 → w ≤ n → (t : Bool) → leb w 1 ≡ t → Fresh w row
    fourth a b c true e = let d = leb-true w 1 e in let q : w ≡ 1 = omega arith in narrowest (ap peak_in (in-limits w n a b c) ∙ ap empty q)
    fourth a b c false e = roomy w (leb-false w 1 e) c (ap peak_in (in-limits w n a b c))

    third : 1 ≤ w → w ≤ 4096 → (t : Bool) → ltb n w ≡ t → Fresh w row
    third a b true e = narrowest (ap peak_in (too_few w n a b (ltb-true n w e)))
    third a b false e = fourth a b (ltb-false n w e) (leb w 1) refl

    second : 1 ≤ w → (t : Bool) → ltb 4096 w ≡ t → Fresh w row
    second a true e = narrowest (ap peak_in (too_large w n a (ltb-true 4096 w e)))
    second a false e = third a (ltb-false 4096 w e) (ltb n w) refl

    first : (t : Bool) → ltb w 1 ≡ t → Fresh w row
    first true e = narrowest (ap peak_in (too_small w n (ltb-true w 1 e)))
    first false e = second (ltb-false w 1 e) (ltb 4096 w) refl

-- told of the history
told : (p : RunningPeak) (row : List ℕ) (fs : List Feed) → reading (fed_all (state p row) (map magnitude (history fs))) ≡ Ok (peak_of p.window fs)
    → serves (fed_all (state p row) (map magnitude (history fs))).peak (length (fed_all (state p row) (map magnitude (history fs))).row) ≡ true → Holds p row fs
told p row fs r t =
    let e = steps-history (state p row) fs in
    record { answer = ap reading e ∙ r; taken = ap (λ (z : State). refusal z.peak (length z.row)) e ∙ rw t }

holds_narrowest : (row : List ℕ) (fs : List Feed) → Holds (empty 1) row fs
unfolding greatest
holds_narrowest row fs =
    let h = map magnitude (history fs) in
    let s = state (empty 1) row in
    let k : Single (fed_all s h) h = single-all s [] h (record { window = refl; place = refl; turned = refl; recent = refl }) in
    told (empty 1) row fs (single-reading _ h k) (single-serves _ h k)

holds_roomy : (v : ℕ) (row : List ℕ) (fs : List Feed) → 1 < v → v ≤ length row → Holds (empty v) row fs
holds_roomy v row fs a b =
    let h = map magnitude (history fs) in
    let k : Keeps v (fed_all (state (empty v) row) h) h = keeps-all v (state (empty v) row) [] h (keeps-fresh v row a b) in
    told (empty v) row fs (keeps-reading v _ h k) (keeps-serves v _ h k)

holds : (w : ℕ) (row : List ℕ) (fs : List Feed) → Holds (peak_in (created w (length row))) row fs
holds w row fs = go (created-fresh w row)
  where
    go : Fresh w row → Holds (peak_in (created w (length row))) row fs
    go (narrowest e) = subst (λ p. Holds p row fs) (sym e) (holds_narrowest row fs)
    go (roomy v a b e) = subst (λ p. Holds p row fs) (sym e) (holds_roomy v row fs a b)

pub claim : Claim
claim = record { answer = λ w row fs. (holds w row fs).answer; taken = λ w row fs. (holds w row fs).taken }

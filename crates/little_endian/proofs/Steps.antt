-- One turn of each loop that puts bytes. Assumes nothing.
use mathlib.Core.Path.{◌≡◌, refl, sym, ap, ◌∙◌, subst}
use mathlib.Core.List.{List, [], ◌++◌}
use Prim.Native.Nat.{ℕ, suc, ◌+◌, ◌-◌, ◌≤◌, ◌<◌, min}
use native.Mathlib.Omega.{arith}
use borrow.Author.Tests.{lt-ltb, le-ltb, le-leb, lt-leb, ltb-true, ltb-false}
use mathlib.Core.Bool.{Bool, true, false}
use lib.Dec.{ltb}
use lib.ListN.{length, drop, get_or, drop_of_length-le}
use lib.Seq.{drop-cons, sets}
use Rattle.listing.specs.Pieces.{text, add}
use Rattle.listing.specs.Putting.{Putting, begin, further, ended, same-long, left_is, place_is, place-left}
use Rattle.little_endian.specs.LowBytes.{little_endian, length_little}
use Rattle.little_endian.specs.Fields.{fields_in}

-- ---- a piece at a place
module _ (piece out : List ℕ) (at : ℕ) where
  pub no_place : length out < at + length piece → text out at ≡ add piece (text out at)
  unfolding add
  no_place h = rw (lt-leb (at + length piece) (length out) h)

  pub placed : at + length piece ≤ length out → (out' : List ℕ) (at' : ℕ) → out' ≡ sets out at piece → at' ≡ at + length piece → text out' at' ≡ add piece (text out at)
  unfolding add
  placed h out' at' p q = rw (le-leb (at + length piece) (length out) h, p, q)

-- ---- the fields from i on
module _ (room : ℕ) (ws ns : List ℕ) (i : ℕ) where
  abbrev pub rest : ℕ → ℕ → List ℕ
  rest r j = fields_in r (drop j ws) (drop j ns)

  pub no_width : length ws ≤ i → rest room i ≡ []
  unfolding fields_in
  no_width h = rw (drop_of_length-le ws h)

  pub no_number : i < length ws → length ns ≤ i → rest room i ≡ []
  unfolding fields_in
  no_number h k = rw (drop-cons ws i 0 h, drop_of_length-le ns k)

  -- behind the last pair nothing is left
  pub no_pair : i ≡ min (length ws) (length ns) → rest room i ≡ []
  no_pair e = go (ltb i (length ws)) (ltb-true i (length ws)) (ltb-false i (length ws))
    where
      go : (b : Bool) → (b ≡ true → i < length ws) → (b ≡ false → length ws ≤ i) → rest room i ≡ []
      go true p q = let h = p refl in no_number h (omega arith)
      go false p q = no_width (q refl)

  pub no_room : i < length ws → i < length ns → room < get_or ws i 0 → rest room i ≡ []
  unfolding fields_in
  no_room h k l = rw (drop-cons ws i 0 h, drop-cons ns i 0 k, lt-ltb room (get_or ws i 0) l)

  pub one_more : i < length ws → i < length ns → get_or ws i 0 ≤ room → rest room i ≡ little_endian (get_or ws i 0) (get_or ns i 0) ++ rest (room - get_or ws i 0) (i + 1)
  unfolding fields_in
  one_more h k l =
      let p : i + 1 ≡ suc i = omega arith in
      rw (drop-cons ws i 0 h, drop-cons ns i 0 k, le-ltb room (get_or ws i 0) l, p)

-- ---- the loop over the fields
module _ (ws ns l : List ℕ) where
  pub record Fields (now : List ℕ) (at i : ℕ) : Type 0 where
    pub put : Putting l 0 (fields_in (length l) ws ns) now (fields_in (length l - at) (drop i ws) (drop i ns)) at
    pub within : at ≤ length l

  pub start : Fields l 0 0
  start = record {
    put = left_is (begin l 0 (fields_in (length l) ws ns)) (let z : length l ≡ length l - 0 = omega arith in ap (λ (r : ℕ). fields_in r ws ns) z);
    within = omega arith;
  }

  -- nothing more is put
  pub stop : {now : List ℕ} {at i : ℕ} → Fields now at i → fields_in (length l - at) (drop i ws) (drop i ns) ≡ [] → (at ≡ length (fields_in (length l) ws ns)) × (now ≡ sets l 0 (fields_in (length l) ws ns))
  stop {now} {at} {i} f e =
      let p = left_is f.put e in
      let q = place-left p in
      (omega arith, ended p)

  -- one field more
  turn : {now : List ℕ} {at i : ℕ} → Fields now at i → i < length ws → i < length ns → get_or ws i 0 ≤ length now - at
      → (now' : List ℕ) → now' ≡ sets now at (little_endian (get_or ws i 0) (get_or ns i 0)) → Fields now' (at + get_or ws i 0) (i + 1)
  turn {now} {at} {i} f h k room now' e =
      let s = same-long f.put in
      let w = get_or ws i 0 in
      let b = length_little w (get_or ns i 0) in
      let z : length l - at - w ≡ length l - (at + w) = omega arith in
      let p = further (little_endian w (get_or ns i 0)) (fields_in (length l - at - w) (drop (i + 1) ws) (drop (i + 1) ns)) (left_is f.put (one_more (length l - at) ws ns i h k (omega arith))) now' e in
      record {
        put = place_is (left_is p (ap (λ (r : ℕ). fields_in r (drop (i + 1) ws) (drop (i + 1) ns)) z)) (ap (λ (j : ℕ). at + j) b);
        within = let g = f.within in omega arith;
      }

  -- one field more, of a width and a number that are the pair's
  pub turn_by : {now : List ℕ} {at i : ℕ} → Fields now at i → i < length ws → i < length ns → (w n j : ℕ) → w ≡ get_or ws i 0 → n ≡ get_or ns i 0 → w ≤ length now - at
      → (now' : List ℕ) → now' ≡ sets now at (little_endian w n) → j ≡ i + 1 → Fields now' (at + w) j
  turn_by {now} {at} {i} f h k w n j p q room now' e s =
      subst (λ (x : ℕ). Fields now' (at + w) x) (sym s)
      (subst (λ (x : ℕ). Fields now' (at + x) (i + 1)) (sym p) (turn f h k (omega arith) now' (e ∙ (λ t. sets now at (little_endian (p t) (q t))))))

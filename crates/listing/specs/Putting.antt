-- A line put into a buffer piece by piece. Assumes nothing.
use Rattle.std.specs.Prelude.{◌≡◌, refl, List, [], ◌∷◌, ◌++◌, cond, ℕ, suc, ◌+◌, ◌≤◌, ◌<◌, length, drop, set, ltb}
use Rattle.std.proofs.Common.{sym, ap, ◌∙◌, subst, append_assoc, append-nil, add-zero, zero-add, add-suc, suc-add, arith, lt-ltb, le-ltb, length-append}
use Rattle.std.proofs.lemmas.List.Edits.{sets, sets-eq}
use Rattle.std.proofs.Math.Seq.{length-sets, drop-length}

-- a line at the front of a buffer; one too short for the line stays as it is
unfoldable pub put : List ℕ → List ℕ → List ℕ
put line out = cond (ltb (length out) (length line)) out (line ++ drop (length line) out)

-- how many bytes are put
unfoldable pub put_length : List ℕ → List ℕ → ℕ
put_length line out = cond (ltb (length out) (length line)) 0 (length line)

-- ---- a run of stores
pub sets_append : (l : List ℕ) (i : ℕ) (us vs : List ℕ) → sets (sets l i us) (i + length us) vs ≡ sets l i (us ++ vs)
sets_append l i [] vs = ap (λ (k : ℕ). sets l k vs) (add-zero i)
sets_append l i (u ∷ us) vs = ap (λ (k : ℕ). sets (sets (set l i u) (suc i) us) k vs) (add-suc i (length us) ∙ sym (suc-add i (length us))) ∙ sets_append (set l i u) (suc i) us vs

-- what has been put, and what is still to be put, from place at on
pub record Putting (l : List ℕ) (at : ℕ) (whole now rest : List ℕ) (to : ℕ) : Type 0 where
  pub done : List ℕ
  pub is : now ≡ sets l at done
  pub all : done ++ rest ≡ whole
  pub place : to ≡ at + length done

pub begin : (l : List ℕ) (at : ℕ) (whole : List ℕ) → Putting l at whole l whole at
begin l at whole = record { done = []; is = refl; all = refl; place = sym (add-zero at) }

-- one more piece is put
pub further : {l : List ℕ} {at : ℕ} {whole now : List ℕ} {to : ℕ} (piece rest : List ℕ) → Putting l at whole now (piece ++ rest) to → (now' : List ℕ) → now' ≡ sets now to piece
    → Putting l at whole now' rest (to + length piece)
further {l} {at} {whole} {now} {to} piece rest p now' e = record {
  done = p.done ++ piece;
  is = e ∙ ap (λ (k : ℕ). sets now k piece) p.place ∙ ap (λ (m : List ℕ). sets m (at + length p.done) piece) p.is ∙ sets_append l at p.done piece;
  all = append_assoc p.done piece rest ∙ p.all;
  place = let q = length-append p.done piece in let r = p.place in omega arith;
}

pub ended : {l : List ℕ} {at : ℕ} {whole now : List ℕ} {to : ℕ} → Putting l at whole now [] to → now ≡ sets l at whole
ended {l} {at} {whole} p = p.is ∙ ap (λ (m : List ℕ). sets l at m) (sym (append-nil p.done) ∙ p.all)

pub same-long : {l : List ℕ} {at : ℕ} {whole now rest : List ℕ} {to : ℕ} → Putting l at whole now rest to → length now ≡ length l
same-long {l} {at} p = ap length p.is ∙ length-sets l at p.done

pub left_is : {l : List ℕ} {at : ℕ} {whole now rest rest' : List ℕ} {to : ℕ} → Putting l at whole now rest to → rest ≡ rest' → Putting l at whole now rest' to
left_is {l} {at} {whole} {now} {rest} {rest'} {to} p e = subst (λ (x : List ℕ). Putting l at whole now x to) e p

pub place_is : {l : List ℕ} {at : ℕ} {whole now rest : List ℕ} {to to' : ℕ} → Putting l at whole now rest to → to ≡ to' → Putting l at whole now rest to'
place_is {l} {at} {whole} {now} {rest} {to} {to'} p e = subst (λ (x : ℕ). Putting l at whole now rest x) e p

-- the pieces' lengths add up
pub place-left : {l : List ℕ} {at : ℕ} {whole now rest : List ℕ} {to : ℕ} → Putting l at whole now rest to → to + length rest ≡ at + length whole
place-left {l} {at} {whole} {now} {rest} {to} p = let q = p.place in let r = ap length p.all in let s = length-append p.done rest in omega arith

-- ---- a list put piece by piece: the text of the rest is one more piece, then the text of what is left
module _ {A : Type 0} (text : List A → List ℕ) (xs : List A) (l : List ℕ) (at : ℕ) where
  pub record Pieces (now : List ℕ) (to i : ℕ) : Type 0 where
    pub put : Putting l at (text xs) now (text (drop i xs)) to
    pub room : at + length (text xs) ≤ length l
    pub within : i ≤ length xs

  pub first_piece : at + length (text xs) ≤ length l → Pieces l at 0
  first_piece h = record { put = begin l at (text xs); room = h; within = omega arith }

  pub piece_fits : {now : List ℕ} {to i : ℕ} → Pieces now to i → (piece : List ℕ) → text (drop i xs) ≡ piece ++ text (drop (i + 1) xs) → to + length piece ≤ length now
  piece_fits {now} {to} {i} p piece e =
      let q = place-left p.put in
      let r = p.room in
      let s = same-long p.put in
      let a = length-append piece (text (drop (i + 1) xs)) in
      let b = ap length e in
      omega arith

  pub next_piece : {now : List ℕ} {to i : ℕ} → Pieces now to i → i < length xs → (piece : List ℕ) → text (drop i xs) ≡ piece ++ text (drop (i + 1) xs)
      → (now' : List ℕ) → now' ≡ sets now to piece → (to' : ℕ) → to' ≡ to + length piece → Pieces now' to' (i + 1)
  next_piece {now} {to} {i} p h piece e now' n to' t = record {
    put = place_is (further piece (text (drop (i + 1) xs)) (left_is p.put e) now' n) (sym t);
    room = p.room;
    within = omega arith;
  }

  pub last_piece : {now : List ℕ} {to i : ℕ} → Pieces now to i → length xs ≤ i → text [] ≡ [] → (now ≡ sets l at (text xs)) × (to ≡ at + length (text xs))
  last_piece {now} {to} {i} p h e =
      let w = p.within in
      let z : i ≡ length xs = omega arith in
      let q = left_is p.put (ap (λ (j : ℕ). text (drop j xs)) z ∙ ap text (drop-length xs) ∙ e) in
      let n = place-left q in
      (ended q, omega arith)

-- a whole line put from the front on
pub put_front : (l whole now : List ℕ) → now ≡ sets l 0 whole → length whole ≤ length l → (now ≡ put whole l) × (length whole ≡ put_length whole l)
unfolding put put_length
put_front l whole now e room =
    let fit : 0 + length whole ≤ length l = omega arith in
    (simp (le-ltb _ _ room) (e ∙ sets-eq whole l 0 fit ∙ ap (λ (k : ℕ). whole ++ drop k l) (zero-add (length whole))), simp (le-ltb _ _ room) refl)

pub put_whole : {l : List ℕ} {whole now : List ℕ} {to : ℕ} → Putting l 0 whole now [] to → to ≤ length l → (now ≡ put whole l) × (to ≡ put_length whole l)
put_whole {l} {whole} {now} {to} p h =
    let q = place-left p in
    let n : to ≡ length whole = omega arith in
    let f = put_front l whole now (ended p) (omega arith) in
    (f.0, n ∙ f.1)

-- nothing is put
pub put-none : (l whole : List ℕ) → length l < length whole → (l ≡ put whole l) × (0 ≡ put_length whole l)
unfolding put put_length
put-none l whole h = (simp (lt-ltb _ _ h) refl, simp (lt-ltb _ _ h) refl)

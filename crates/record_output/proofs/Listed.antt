-- Lines put into a lent slice from a place on, and how long they can be. Assumes nothing.
use mathlib.Core.Path.{◌≡◌, refl, sym, ap, ◌∙◌, subst}
use mathlib.Core.List.{List, [], ◌∷◌, ◌++◌, append-nil, append_assoc}
use mathlib.Core.Bool.{Bool, true, false, cond}
use Prim.Native.Nat.{ℕ, zero, suc, ◌+◌, ◌-◌, ◌*◌, ◌/◌, ◌%◌, ◌^◌, ◌≤◌, ◌<◌, min}
use native.Mathlib.Nat.{add-zero}
use native.Mathlib.Omega.{arith}
use borrow.Author.Tests.{le-ltb, lt-ltb, ltb-false, lt-leb, leb-true, leb-false}
use borrow.Rule.Slice.PartMut.{mid_of, put_mid, put_same}
use lib.ListN.{length, take, drop, replicate, length-append, length-take, length-drop}
use lib.Seq.{sets, sets-eq, drop-drop, drop-length, take_all}
use lib.Dec.{ltb, leb}
use native.Mathlib.Decide.{dec_lt}
use lib.Ieee.{Float, binary32, to_bits}
use Rattle.sequencer.specs.declared.readers.Counts.{Counts}
use Rattle.listing.specs.Text.{digit, digits, places_of, decimal, spaced, kind_line, counts_line, end_of, samples_from, samples_line}
use Rattle.listing.specs.Putting.{put, put_length}
use Rattle.listing.specs.Pieces.{Text, text, add, add_all, joined, length-all, whole-text}
use Rattle.little_endian.specs.Samples.{put_there}
use Rattle.tape.specs.declared.reader.Call.{Call}
use Rattle.tape.specs.declared.reader.Cursor.{Cursor}
use Rattle.tape.specs.declared.reader.Read.{Read}
use Rattle.tape.specs.declared.reader.Read.TheVariants as Read
use Rattle.record_output.specs.declared.Form.{Form}
use Rattle.record_output.specs.declared.Form.TheVariants.{Bytes, Lines}
use Rattle.record_output.specs.declared.Pause.{Pause}
use Rattle.record_output.specs.declared.Pause.TheVariants.{End, Refused, Full}
use Rattle.record_output.specs.declared.Left.{Left}
use Rattle.record_output.specs.Bytes.{bytes_of}
use Rattle.record_output.specs.Lines.{record_line, room_for, pieces, pieces_in, left_in, needed_in, Fits, Stands}
use Rattle.record_output.specs.Endings.{Ending, refused_line, ending, Gives}

-- ---- a line put from a place on

rest_all : (l : List ℕ) (at : ℕ) → mid_of at (length l - at) l ≡ drop at l
rest_all l at = take_all (length l - at) (drop at l) (omega (arith, length-drop at l))

module _ (l : List ℕ) (at : ℕ) (line : List ℕ) (fits : at + length line ≤ length l) where
  pub line_long : {n : ℕ} → n ≡ put_length line (mid_of at (length l - at) l) → n ≡ length line
  unfolding put_length
  line_long e = e ∙ simp (rest_all l at, le-ltb (length (drop at l)) (length line) (omega (arith, length-drop at l)))

  pub line_put : {ys : List ℕ} → ys ≡ put line (mid_of at (length l - at) l) → put_mid at (length l - at) l ys ≡ sets l at line
  unfolding put
  line_put {ys} e =
      let is : ys ≡ line ++ drop (length line) (drop at l) = e ∙ simp (rest_all l at, le-ltb (length (drop at l)) (length line) (omega (arith, length-drop at l))) in
      let none : drop (length l - at) (drop at l) ≡ [] = drop-drop (length l - at) at l ∙ ap (λ (k : ℕ). drop k l) (let z : at + (length l - at) ≡ length l = omega arith in z) ∙ drop-length l in
      (λ i. take at l ++ (is i ++ none i))
      ∙ ap (λ (x : List ℕ). take at l ++ x) (append-nil (line ++ drop (length line) (drop at l)) ∙ ap (λ (x : List ℕ). line ++ x) (drop-drop (length line) at l))
      ∙ sym (append_assoc (take at l) line (drop (at + length line) l))
      ∙ sym (sets-eq line l at fits)

-- ---- how long lines can be

length_digits : (b k n : ℕ) → length (digits b k n) ≡ k
unfolding digits
length_digits b zero n = refl
length_digits b (suc k) n = let q = length_digits b k (n / b) in omega (arith, length-append (digits b k (n / b)) (digit (n % b) ∷ []))

-- a number below 10^f has no more than f digits
places_most : (f n : ℕ) → 0 < f → n < 10 ^ f → places_of f n ≤ f
unfolding places_of
places_most zero n o h = absurd (omega arith)
places_most (suc zero) n o h = go (ltb n 10) (ltb-false n 10)
  where
    go : (b : Bool) → (b ≡ false → 10 ≤ n) → cond b 1 (suc (places_of zero (n / 10))) ≤ 1
    go true l = omega arith
    go false l = let z = l refl in absurd (omega arith)
places_most (suc (suc f)) n o h = go (ltb n 10) (places_most (suc f) (n / 10) (omega arith) (omega arith))
  where
    go : (b : Bool) → places_of (suc f) (n / 10) ≤ suc f → cond b 1 (suc (places_of (suc f) (n / 10))) ≤ suc (suc f)
    go true r = omega arith
    go false r = omega arith

decimal_most : (n : ℕ) → n < 2 ^ 64 → length (decimal n) ≤ 20
unfolding decimal
decimal_most n h = let p = places_most 20 n (omega arith) (omega arith) in let q = length_digits 10 (places_of 20 n) n in omega arith

spaced-more : (n : ℕ) (ns : List ℕ) (k : ℕ) → n < 2 ^ 64 → length (spaced ns) ≤ k → length (spaced (n ∷ ns)) ≤ 21 + k
unfolding spaced
spaced-more n ns k h r = let d = decimal_most n h in omega (arith, length-append (32 ∷ decimal n) (spaced ns))

spaced-none : length (spaced []) ≤ 0
unfolding spaced
spaced-none = omega arith

pub record_line_most : (k r w s f l : ℕ) → r < 2 ^ 64 → w < 2 ^ 64 → s < 2 ^ 64 → f < 2 ^ 64 → l < 2 ^ 64 → length (counts_line k r w s f l) ≤ 108
unfolding counts_line kind_line spaced
record_line_most k r w s f l hr hw hs hf hl =
    let numbers = r ∷ w ∷ s ∷ f ∷ l ∷ [] in
    let e : length (spaced (r ∷ w ∷ s ∷ f ∷ l ∷ [])) ≤ 105 = spaced-more r (w ∷ s ∷ f ∷ l ∷ []) 84 hr (spaced-more w (s ∷ f ∷ l ∷ []) 63 hw (spaced-more s (f ∷ l ∷ []) 42 hs (spaced-more f (l ∷ []) 21 hf (spaced-more l [] 0 hl spaced-none)))) in
    let d = length_digits 16 2 k in
    omega (arith, length-append (digits 16 2 k) (spaced numbers ++ (10 ∷ [])), length-append (spaced numbers) (10 ∷ []))

samples_from_lem : (xs : List Float) → length (samples_from xs) ≡ 9 * length xs
unfolding samples_from
samples_from_lem [] = refl
samples_from_lem (x ∷ xs) =
    let d = length_digits 16 8 (to_bits binary32 x) in
    let q = samples_from_lem xs in
    omega (arith, length-append (digits 16 8 (to_bits binary32 x)) (end_of xs ∷ samples_from xs))

pub samples_line_most : (xs : List Float) → length xs ≤ 64 → length (samples_line xs) ≤ 576
unfolding samples_line
samples_line_most [] h = omega arith
samples_line_most (x ∷ xs) h = let q = samples_from_lem (x ∷ xs) in omega arith

-- ---- the loop over the channels

-- ---- pieces put one after the other

-- where nothing has room, nothing is put
beyond : (piece out : List ℕ) (at : ℕ) → length out < at + length piece → add piece (text out at) ≡ text out at
unfolding add
beyond piece out at h = simp (lt-leb (at + length piece) (length out) h)

pub none-added : (piece out : List ℕ) (at : ℕ) → length out < at → text out at ≡ add piece (text out at)
none-added piece out at h = sym (beyond piece out at (omega arith))

-- a line that is put into the part from `at` on, or that has no room there
module _ (l : List ℕ) (at : ℕ) (line : List ℕ) (h : at ≤ length l) where
  pub line_added : {ys : List ℕ} {n : ℕ} → ys ≡ put line (mid_of at (length l - at) l) → n ≡ put_length line (mid_of at (length l - at) l) → text (put_mid at (length l - at) l ys) (at + n) ≡ add line (text l at)
  unfolding put put_length add
  line_added {ys} {n} p q = go (leb (at + length line) (length l)) (leb-true (at + length line) (length l)) (leb-false (at + length line) (length l)) refl
    where
      size : length (mid_of at (length l - at) l) ≡ length l - at
      size = ap length (rest_all l at) ∙ length-drop at l

      go : (b : Bool) → (b ≡ true → at + length line ≤ length l) → (b ≡ false → length l < at + length line) → leb (at + length line) (length l) ≡ b
          → text (put_mid at (length l - at) l ys) (at + n) ≡ cond b (text (sets l at line) (at + length line)) (text l at)
      go true f g e = let r = f refl in λ i. text (line_put l at line r p i) (at + line_long l at line r q i)
      go false f g e =
          let r = g refl in
          let k : ltb (length (mid_of at (length l - at) l)) (length line) ≡ true = lt-ltb (length (mid_of at (length l - at) l)) (length line) (omega (arith, size)) in
          let ys-is : ys ≡ mid_of at (length l - at) l = p ∙ simp k in
          let n-is : n ≡ 0 = q ∙ simp k in
          (λ i. text (put_mid at (length l - at) l (ys-is i)) (at + n-is i)) ∙ (λ i. text (put_same at (length l - at) l i) (add-zero at i))

  pub line_within : {n : ℕ} → n ≡ put_length line (mid_of at (length l - at) l) → at + n ≤ length l
  unfolding put_length
  line_within {n} q = go (ltb (length (mid_of at (length l - at) l)) (length line)) (ltb-false (length (mid_of at (length l - at) l)) (length line)) q
    where
      go : (b : Bool) → (b ≡ false → length line ≤ length (mid_of at (length l - at) l)) → n ≡ cond b 0 (length line) → at + n ≤ length l
      go true f e = omega arith
      go false f e = omega (arith, f refl, ap length (rest_all l at), length-drop at l)

pub add-one_piece : (p : List ℕ) (ps : List (List ℕ)) (t : Text) → add_all ps (add p t) ≡ add_all (p ∷ ps) t
unfolding add_all
add-one_piece p ps t = refl

-- the same piece, so many times
module _ (piece : List ℕ) (channels : ℕ) (out₀ : List ℕ) (at : ℕ) where
  -- `left` of them are still to be put
  abbrev pub Adding : (out : List ℕ) → (to left : ℕ) → Type 0
  Adding out to left = add_all (replicate left piece) (text out to) ≡ add_all (replicate channels piece) (text out₀ at)

  pub turn : (out : List ℕ) (to left : ℕ) → Adding out to left → 0 < left → {out' : List ℕ} {to' : ℕ} → text out' to' ≡ add piece (text out to) → Adding out' to' (left - 1)
  turn out to left w h {out'} {to'} e = go left w h
    where
      go : (n : ℕ) → Adding out to n → 0 < n → Adding out' to' (n - 1)
      go zero w h = absurd (omega arith)
      go (suc n) w h = let k : suc n - 1 ≡ n = omega arith in ap (λ (m : ℕ). add_all (replicate m piece) (text out' to')) k ∙ ap (add_all (replicate n piece)) e ∙ add-one_piece piece (replicate n piece) (text out to) ∙ w

  pub finish : (out : List ℕ) (to left : ℕ) → Adding out to left → left ≤ 0 → text out to ≡ add_all (replicate channels piece) (text out₀ at)
  unfolding add_all
  finish out to left w h = let z : 0 ≡ left = omega arith in ap (λ (n : ℕ). add_all (replicate n piece) (text out to)) z ∙ w

  pub same_out : (out : List ℕ) (to left : ℕ) → Adding out to left → length out ≡ length out₀
  same_out out to left w = sym (length-all (replicate left piece) (text out to)) ∙ ap (λ (t : Text). length t.out) w ∙ length-all (replicate channels piece) (text out₀ at)

-- as many samples as the row has
pub take-least : (n : ℕ) (row : List Float) {k : ℕ} → k ≡ min n (length row) → take k row ≡ take n row
take-least n row {k} h = go (dec_lt (length row) n)
  where
    go : Dec (length row < n) → take k row ≡ take n row
    go (yes p) = take_all k row (omega arith) ∙ sym (take_all n row (omega arith))
    go (no p) = ap (λ (j : ℕ). take j row) (let z : k ≡ n = omega arith in z)

-- ---- what the last record leaves

lines_most : (c : ℕ) (line : List ℕ) → length line ≤ 576 → length (joined (replicate c line)) ≤ c * 576
unfolding joined
lines_most zero line h = omega arith
lines_most (suc c) line h = let q = lines_most c line h in omega (arith, length-append line (joined (replicate c line)))

-- numbers of 64 bits
abbrev pub Numbers : Left → Counts → Type 0
Numbers l n = (l.refusal < 2 ^ 64) × ((n.waiting < 2 ^ 64) × ((n.sounding < 2 ^ 64) × ((n.finished < 2 ^ 64) × (n.let_go < 2 ^ 64))))

module _ (form : Form) (l : Left) (counts : Counts) (row : List Float) (numbers : Numbers l counts) (small : l.each ≤ 64) (few : l.channels ≤ 8) where
  left_most : length (left_in form l counts row) ≤ needed_in form l counts row
  unfolding joined
  left_most = go form l.any
    where
      go : (f : Form) (b : Bool) → length (joined (cond b (pieces f l counts row) [])) ≤ cond b (room_for f (joined (pieces f l counts row))) 0
      go Bytes true = omega arith
      go Lines true =
          let line = record_line l.kind l.refusal counts in
          let each = samples_line (take l.each row) in
          let a = record_line_most l.kind l.refusal counts.waiting counts.sounding counts.finished counts.let_go numbers.0 numbers.1.0 numbers.1.1.0 numbers.1.1.1.0 numbers.1.1.1.1 in
          let b = lines_most l.channels each (samples_line_most (take l.each row) (omega (arith, length-take l.each row))) in
          omega (arith, length-append line (joined (replicate l.channels each)))
      go Bytes false = omega arith
      go Lines false = omega arith

  stands : (before : List ℕ) (at : ℕ) {out : List ℕ} {to : ℕ} → text out to ≡ add_all (pieces_in form l counts row) (text before at) → at + needed_in form l counts row ≤ length before → Stands form l counts row before at out to
  stands before at {out} {to} e room =
      let m = left_most in
      let fit : at + length (left_in form l counts row) ≤ length before = omega arith in
      let p : text out to ≡ text (sets before at (left_in form l counts row)) (at + length (left_in form l counts row)) = e ∙ whole-text (pieces_in form l counts row) (text before at) fit in
      let q : to ≡ at + length (left_in form l counts row) = ap (λ (t : Text). t.at) p in
      (ap (λ (t : Text). t.out) p, (q, omega arith))

pub both : (form : Form) (l : Left) (counts : Counts) (row : List Float) → Numbers l counts → (before : List ℕ) (at : ℕ) {out : List ℕ} {to : ℕ} → text out to ≡ add_all (pieces_in form l counts row) (text before at)
    → (text out to ≡ add_all (pieces_in form l counts row) (text before at)) × (Fits form l counts row at (length before) → Stands form l counts row before at out to)
both form l counts row numbers before at e = (e, λ f. stands form l counts row numbers f.0 f.1.0 before at e f.1.1)

module _ (form : Form) (l : Left) (counts : Counts) (row : List Float) (out : List ℕ) (at : ℕ) where
  pub left-none : l.any ≡ false → text out at ≡ add_all (pieces_in form l counts row) (text out at)
  unfolding add_all
  left-none h = ap (λ (b : Bool). add_all (cond b (pieces form l counts row) []) (text out at)) (sym h)

  pub left_as : {f : Form} → form ≡ f → l.any ≡ true → add_all (pieces f l counts row) (text out at) ≡ add_all (pieces_in form l counts row) (text out at)
  left_as e a = sym (λ i. add_all (cond (a i) (pieces (e i) l counts row) []) (text out at))

-- ---- a record that is not read

pub nothing-added : (out : List ℕ) (at : ℕ) → text out at ≡ add [] (text out at)
unfolding add
nothing-added out at = go (leb (at + 0) (length out))
  where
    go : (b : Bool) → text out at ≡ cond b (text (sets out at []) (at + 0)) (text out at)
    go true = ap (text out) (sym (add-zero at))
    go false = refl

module _ (form : Form) (counts : Counts) (before : List ℕ) (at : ℕ) where
  abbrev pub Says : Ending → (out : List ℕ) → Pause → (n : ℕ) → Type 0
  Says e out p n = (p ≡ e.pause) × ((text out n ≡ add e.written (text before at)) × (at ≤ length before → Gives e before out at p n))

  says : (e : Ending) {out : List ℕ} {p : Pause} {n : ℕ} → p ≡ e.pause → text out n ≡ add e.written (text before at) → (at ≤ length before → at + length e.written ≤ length before) → Says e out p n
  says e {out} {p} {n} q w room = (q, (w, λ h. let f = room h in let g = put_there e.written before out at n w f in let m = g.1 in (q, (g.1, (g.0, omega arith)))))

  no_more : (p : Pause) → Says (record { written = []; pause = p }) before p at
  no_more p = says (record { written = []; pause = p }) refl (nothing-added before at) (λ h. omega arith)

  by_read : {r x : Read} {out : List ℕ} {p : Pause} {n : ℕ} → r ≡ x → Says (ending form x counts (length before - at)) out p n → Says (ending form r counts (length before - at)) out p n
  by_read {r} {x} {out} {p} {n} e g = subst (λ (y : Read). Says (ending form y counts (length before - at)) out p n) (sym e) g

  pub unread_end : {r : Read} → r ≡ Read.End → Says (ending form r counts (length before - at)) before End at
  unfolding ending
  unread_end e = by_read e (no_more End)

  pub unread_record : {r : Read} {k : ℕ} {call : Call} {next : Cursor} → r ≡ Read.Record k call next → Says (ending form r counts (length before - at)) before End at
  unfolding ending
  unread_record e = by_read e (no_more End)

  module _ {r : Read} {k n : ℕ} (e : r ≡ Read.Refused k n) where
    by_room : {b : Bool} {out : List ℕ} {p : Pause} {m : ℕ} → ltb (length before - at) (room_for form []) ≡ b
        → Says (cond b (record { written = []; pause = Full }) (record { written = refused_line form k n counts; pause = Refused n })) out p m → Says (ending form r counts (length before - at)) out p m
    unfolding ending
    by_room {b} {out} {p} {m} q g =
        by_read e (subst (λ (x : Bool). Says (cond x (record { written = []; pause = Full }) (record { written = refused_line form k n counts; pause = Refused n })) out p m) (sym q) g)

    pub unread_full : ltb (length before - at) (room_for form []) ≡ true → Says (ending form r counts (length before - at)) before Full at
    unread_full q = by_room q (no_more Full)

    pub unread_bytes : form ≡ Bytes → ltb (length before - at) (room_for form []) ≡ false → Says (ending form r counts (length before - at)) before (Refused n) at
    unread_bytes f q = by_room q (subst (λ (x : Form). Says (record { written = refused_line x k n counts; pause = Refused n }) before (Refused n) at) (sym f) (no_more (Refused n)))

    pub unread_lines : form ≡ Lines → ltb (length before - at) (room_for form []) ≡ false → length (record_line k n counts) ≤ 108 → {out : List ℕ} {m : ℕ} → text out m ≡ add (record_line k n counts) (text before at)
        → Says (ending form r counts (length before - at)) out (Refused n) m
    unread_lines f q most {out} {m} w =
        let room = ltb-false (length before - at) 4716 (ap (λ (x : Form). ltb (length before - at) (room_for x [])) (sym f) ∙ q) in
        by_room q
        (subst (λ (x : Form). Says (record { written = refused_line x k n counts; pause = Refused n }) out (Refused n) m) (sym f)
        (says (record { written = record_line k n counts; pause = Refused n }) refl w (λ h. omega arith)))

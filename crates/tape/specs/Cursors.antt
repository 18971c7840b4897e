-- A record that is read moves the cursor on, and not past the tape's end. Assumes nothing.
use Rattle.std.specs.Prelude.{◌≡◌, ℕ, ◌+◌, ◌<◌, ◌≤◌, Bool, true, false, cond, List, length, drop, nat_lt, refl}
use Rattle.std.proofs.Common.{ap, arith, ltb-true, ltb-false, lit<, length-drop}
use Rattle.std.proofs.lemmas.Bool.{false≢true}
use Rattle.tape.specs.declared.reader.Cursor.{Cursor}
use Rattle.tape.specs.declared.reader.Call.{Call}
use Rattle.tape.specs.declared.reader.Read.{Read}
use Rattle.tape.specs.declared.reader.Read.TheVariants.{Record, Refused, End}
use Rattle.tape.specs.Tape.{read_at, record_of, unknown, size_of, sizes, kind_of, call_of}
use Rattle.tape.specs.Kinds.{each_kind, known}

size_pos : (k : ℕ) → k < 13 → 0 < size_of k
unfolding size_of sizes
size_pos = each_kind (λ (k : ℕ). 0 < size_of k) (lit< tt) (lit< tt) (lit< tt) (lit< tt) (lit< tt) (lit< tt) (lit< tt) (lit< tt) (lit< tt) (lit< tt) (lit< tt) (lit< tt) (lit< tt)

abbrev next_of : Cursor → Read → Cursor
next_of d (Record k call next) = next
next_of d (Refused k n) = d
next_of d End = d

abbrev pub is_record : Read → Bool
is_record (Record k call next) = true
is_record (Refused k n) = false
is_record End = false

moves_in : (c : Cursor) (bs : List ℕ) → is_record (record_of c bs) ≡ true → (c.at < (next_of c (record_of c bs)).at) × ((next_of c (record_of c bs)).at ≤ c.at + length bs)
unfolding record_of
moves_in c bs h = go (unknown c.first bs) (nat_lt (length bs) (size_of (kind_of bs))) refl (ltb-false (length bs) (size_of (kind_of bs))) h
  where
    it : Bool → Bool → Read
    it p q = cond p (Refused (kind_of bs) 14) (cond q (Refused (kind_of bs) 15) (Record (kind_of bs) (call_of bs) (record { at = c.at + size_of (kind_of bs); first = false })))

    go : (p q : Bool) → unknown c.first bs ≡ p → (q ≡ false → size_of (kind_of bs) ≤ length bs) → is_record (it p q) ≡ true → (c.at < (next_of c (it p q)).at) × ((next_of c (it p q)).at ≤ c.at + length bs)
    go true q e l h = absurd (false≢true h)
    go false true e l h = absurd (false≢true h)
    go false false e l h =
        let s = size_pos (kind_of bs) (known c.first bs e) in
        let m = l refl in
        (omega arith, omega arith)

pub moves : (t : List ℕ) (c : Cursor) (k : ℕ) (call : Call) (next : Cursor) → read_at t c ≡ Record k call next → (c.at < length t) × (c.at < next.at) × (next.at ≤ length t)
unfolding read_at
moves t c k call next e = go (nat_lt c.at (length t)) (ltb-true c.at (length t)) e
  where
    go : (p : Bool) → (p ≡ true → c.at < length t) → cond p (record_of c (drop c.at t)) End ≡ Record k call next → (c.at < length t) × (c.at < next.at) × (next.at ≤ length t)
    go true l e =
        let m = moves_in c (drop c.at t) (ap is_record e) in
        let n : (next_of c (record_of c (drop c.at t))).at ≡ next.at = ap (λ (r : Read). (next_of c r).at) e in
        let d = length-drop c.at t in
        let a = m.0 in
        let b = m.1 in
        (l refl, omega arith, (let z = l refl in omega arith))
    go false l e = absurd (false≢true (ap is_record e))

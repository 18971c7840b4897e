-- The fields put down in the lent part are the record's bytes there. Assumes nothing.
use mathlib.Core.Path.{◌≡◌, sym, ap, ◌∙◌}
use mathlib.Core.List.{List, ◌++◌, append-nil, append_assoc}
use Prim.Native.Nat.{ℕ, ◌+◌, ◌-◌, ◌≤◌}
use native.Mathlib.Nat.{add-sub_cancel_left, zero-add}
use native.Mathlib.Omega.{arith}
use lib.ListN.{length, take, drop, length-drop}
use lib.Seq.{sets, sets-eq, length-take-le, drop-drop, drop-length}
use Rattle.little_endian.specs.Fields.{fields_of, fields_in, all_fit}
use Rattle.tape_writer.specs.Writing.{laid}

-- a buffer that bytes fill
filled : (part bytes : List ℕ) → length part ≡ length bytes → sets part 0 bytes ≡ bytes
filled part bytes e =
    sets-eq bytes part 0 (omega arith)
    ∙ ap (λ (k : ℕ). bytes ++ drop k part) (zero-add (length bytes) ∙ sym e)
    ∙ ap (λ (l : List ℕ). bytes ++ l) (drop-length part)
    ∙ append-nil bytes

-- the fields fill a part that is as long as they are
pub fields_fill : (part ws ns bytes ys : List ℕ) → length part ≡ length bytes → ys ≡ sets part 0 (fields_in (length part) ws ns) → fields_of ws ns ≡ bytes → ys ≡ bytes
fields_fill part ws ns bytes ys long y e =
    let fit : fields_in (length part) ws ns ≡ bytes = all_fit (length part) ws ns (omega (arith, ap length e)) ∙ e in
    y ∙ ap (sets part 0) fit ∙ filled part bytes long

-- the part of n places from a place on
pub part_long : (buf : List ℕ) (at n : ℕ) → at + n ≤ length buf → length (take (at + n - at) (drop at buf)) ≡ n
part_long buf at n room = rw add-sub_cancel_left (length-take-le n (drop at buf) (omega (arith, length-drop at buf)))

pub part_laid : (buf bytes ys : List ℕ) (at n : ℕ) → at + n ≤ length buf → length bytes ≡ n → ys ≡ bytes
    → take at buf ++ (ys ++ drop (at + n - at) (drop at buf)) ≡ laid buf at bytes
part_laid buf bytes ys at n room long z =
    let d : drop (at + n - at) (drop at buf) ≡ drop (at + length bytes) buf = rw add-sub_cancel_left (drop-drop n at buf) ∙ ap (λ (k : ℕ). drop (at + k) buf) (sym long) in
    (λ i. take at buf ++ (z i ++ d i)) ∙ sym (append_assoc (take at buf) bytes (drop (at + length bytes) buf))

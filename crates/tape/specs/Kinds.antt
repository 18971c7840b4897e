-- The kinds 00 to 0C one by one, and that a record which 14 does not refuse is of one of them. Assumes nothing.
use Rattle.std.specs.Prelude.{◌≡◌, ℕ, zero, suc, ◌<◌, ◌≤◌, Bool, true, false, cond, List, ◌==◌, nat_lt, refl}
use Rattle.std.proofs.Common.{true≢false, arith, ltb-false, eqb-true}
use Rattle.tape.specs.Tape.{kind_of, push_kind, mode_byte, unknown_mode, unknown_push, unknown}

-- ---- a fact about each of the kinds 00 to 0C
pub each_kind : (P : ℕ → Type 0) → P 0 → P 1 → P 2 → P 3 → P 4 → P 5 → P 6 → P 7 → P 8 → P 9 → P 10 → P 11 → P 12 → (k : ℕ) → k < 13 → P k
each_kind P a b c d e f g h i j l m n zero lt = a
each_kind P a b c d e f g h i j l m n (suc zero) lt = b
each_kind P a b c d e f g h i j l m n (suc (suc zero)) lt = c
each_kind P a b c d e f g h i j l m n (suc (suc (suc zero))) lt = d
each_kind P a b c d e f g h i j l m n (suc (suc (suc (suc zero)))) lt = e
each_kind P a b c d e f g h i j l m n (suc (suc (suc (suc (suc zero))))) lt = f
each_kind P a b c d e f g h i j l m n (suc (suc (suc (suc (suc (suc zero)))))) lt = g
each_kind P a b c d e f g h i j l m n (suc (suc (suc (suc (suc (suc (suc zero))))))) lt = h
each_kind P a b c d e f g h i j l m n (suc (suc (suc (suc (suc (suc (suc (suc zero)))))))) lt = i
each_kind P a b c d e f g h i j l m n (suc (suc (suc (suc (suc (suc (suc (suc (suc zero))))))))) lt = j
each_kind P a b c d e f g h i j l m n (suc (suc (suc (suc (suc (suc (suc (suc (suc (suc zero)))))))))) lt = l
each_kind P a b c d e f g h i j l m n (suc (suc (suc (suc (suc (suc (suc (suc (suc (suc (suc zero))))))))))) lt = m
each_kind P a b c d e f g h i j l m n (suc (suc (suc (suc (suc (suc (suc (suc (suc (suc (suc (suc zero)))))))))))) lt = n
each_kind P a b c d e f g h i j l m n (suc (suc (suc (suc (suc (suc (suc (suc (suc (suc (suc (suc (suc k))))))))))))) lt = absurd (omega arith)

-- ---- a record that 14 does not refuse is of a known kind
pub known : (first : Bool) (bs : List ℕ) → unknown first bs ≡ false → kind_of bs < 13
unfolding unknown
known true bs h = go (kind_of bs == 0) (eqb-true (kind_of bs) 0) h
  where
    go : (t : Bool) → (t ≡ true → kind_of bs ≡ 0) → cond t (unknown_mode (mode_byte bs)) true ≡ false → kind_of bs < 13
    go true e h = let z = e refl in omega arith
    go false e h = absurd (true≢false h)
known false bs h = go (kind_of bs == 0) (nat_lt 12 (kind_of bs)) (ltb-false 12 (kind_of bs)) (cond (push_kind (kind_of bs)) (unknown_push bs) false) h
  where
    go : (t u : Bool) → (u ≡ false → kind_of bs ≤ 12) → (r : Bool) → cond t true (cond u true r) ≡ false → kind_of bs < 13
    go true u e r h = absurd (true≢false h)
    go false true e r h = absurd (true≢false h)
    go false false e r h = let z = e refl in omega arith

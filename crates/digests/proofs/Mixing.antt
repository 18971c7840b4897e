-- Numbers that go into a digest one after the other. Assumes nothing.
use Rattle.std.proofs.Common.{◌≡◌, ℕ, ◌+◌, ◌*◌, ◌/◌, ◌%◌, ◌^◌, ◌<◌, ◌≤◌, List, length, get_or, drop, sym, ap, ◌∙◌, w64, add-one, arith, drop_of_length-le, drop-cons}
use Rattle.std.specs.Int.{rotate_left}
use Rattle.std.specs.Int.Bits.{bit_or}
use Rattle.std.proofs.lemmas.Nat.{or_shifted}
use Rattle.digests.specs.Digests.{mixed, mixed_all}

-- std turns a number of 64 bits left by 7 as the definition does
pub turned_is : (d : ℕ) → d < 2 ^ 64 → rotate_left w64 d 7 ≡ d % 2 ^ 57 * 128 + d / 2 ^ 57
turned_is d h =
    let q : d * 2 ^ 7 % 2 ^ 64 ≡ d % 2 ^ 57 * 2 ^ 7 = omega arith in
    let k : d / 2 ^ 57 < 2 ^ 7 = omega arith in
    ap (λ (n : ℕ). bit_or n (d / 2 ^ 57)) q ∙ or_shifted (d % 2 ^ 57) 7 (d / 2 ^ 57) k

-- a list from place i on: its first number, and the others
pub mixed_on : (l : List ℕ) (d : ℕ) {d' : ℕ} (i : ℕ) → i < length l → d' ≡ mixed d (get_or l i 0) → mixed_all d' (drop (i + 1) l) ≡ mixed_all d (drop i l)
unfolding mixed_all
mixed_on l d {d'} i h e =
    ap (λ (x : ℕ). mixed_all x (drop (i + 1) l)) e ∙ ap (λ (j : ℕ). mixed_all (mixed d (get_or l i 0)) (drop j l)) (add-one i) ∙ sym (ap (mixed_all d) (drop-cons l i 0 h))

-- behind its end nothing is left
pub mixed_through : (l : List ℕ) (d i : ℕ) → length l ≤ i → mixed_all d (drop i l) ≡ d
unfolding mixed_all
mixed_through l d i h = ap (mixed_all d) (drop_of_length-le l h)

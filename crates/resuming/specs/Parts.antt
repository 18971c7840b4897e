-- Of a part of a tape, what is read where 47 bytes are left is what stands on the tape. Assumes nothing.
use Rattle.std.specs.Prelude.{◌≡◌, Bool, true, false, List, ◌++◌, ℕ, ◌-◌, ◌≤◌, ◌<◌, length, take, drop}
use Rattle.std.proofs.Common.{sym, ap, ◌∙◌, arith, ltb-false, length-append, length-drop}
use Rattle.std.proofs.lemmas.List.{take-append-le, drop-append-le}
use Rattle.tape.specs.declared.reader.Cursor.{Cursor}
use Rattle.tape.specs.Tape.{read_at, record_of}
use Rattle.tape.specs.Window.{window_of}
use Rattle.record_output.specs.Endings.{is_short}

-- what of a tape is at hand: all of it, and the run is told so, or its front
abbrev pub AtHand : (part : List ℕ) → (whole : Bool) → (tape : List ℕ) → Type 0
AtHand part true tape = part ≡ tape
AtHand part false tape = (rest : List ℕ) × (tape ≡ part ++ rest)

-- ---- what is read of a part that is not short is what stands on the tape

pub same_read : (part : List ℕ) (whole : Bool) (tape : List ℕ) → AtHand part whole tape → (c : Cursor) → is_short whole (length part) c.at ≡ false → read_at part c ≡ read_at tape c
same_read part true tape h c e = ap (λ (t : List ℕ). read_at t c) h
same_read part false tape h c e =
    let rest = h.0 in
    let n : ℕ = length part - c.at in
    let l : 47 ≤ length part - c.at = ltb-false (length part - c.at) 47 e in
    let here : c.at < length part = omega arith in
    let there : c.at < length (part ++ rest) = omega (arith, length-append part rest) in
    let front : take n (drop c.at (part ++ rest)) ≡ take n (drop c.at part) =
    ap (take n) (drop-append-le c.at part rest (omega arith)) ∙ take-append-le n (drop c.at part) rest (omega (arith, length-drop c.at part)) in
    window_of n l part c here ∙ ap (record_of c) (sym front) ∙ sym (window_of n l (part ++ rest) c there) ∙ ap (λ (t : List ℕ). read_at t c) (sym h.1)

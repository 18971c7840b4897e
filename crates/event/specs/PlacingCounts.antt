-- How the code counts a block's places: one after another, in 64 bits. Below 2 ^ 64 that is `tally`.
use Rattle.std.specs.Prelude.{◌≡◌, ℕ, ◌+◌, ◌%◌, ◌^◌, ◌<◌, List, [], ◌∷◌, ◌++◌, length, refl}
use Rattle.std.proofs.Common.{ap, ◌∙◌, arith}
use Rattle.event.specs.declared.Placing.{Placing}
use Rattle.event.specs.declared.Placing.TheVariants.{Kept, Forced, Edge}
use Rattle.event.specs.declared.Placings.{Placings}
use Rattle.event.specs.Placings.{no_placings, tally}

abbrev pub one_more : Placings → Placing → Placings
one_more c Kept = record { kept = (c.kept + 1) % 2 ^ 64; forced = c.forced; edge = c.edge }
one_more c Forced = record { kept = c.kept; forced = (c.forced + 1) % 2 ^ 64; edge = c.edge }
one_more c Edge = record { kept = c.kept; forced = c.forced; edge = (c.edge + 1) % 2 ^ 64 }

abbrev pub add_all : Placings → List Placing → Placings
add_all c [] = c
add_all c (p ∷ l) = add_all (one_more c p) l

pub add_all-append : (c : Placings) (l m : List Placing) → add_all c (l ++ m) ≡ add_all (add_all c l) m
add_all-append c [] m = refl
add_all-append c (p ∷ l) m = add_all-append (one_more c p) l m

-- the order does not count
more-swap : (c : Placings) (p q : Placing) → one_more (one_more c p) q ≡ one_more (one_more c q) p
more-swap c Kept Kept = refl
more-swap c Kept Forced = refl
more-swap c Kept Edge = refl
more-swap c Forced Kept = refl
more-swap c Forced Forced = refl
more-swap c Forced Edge = refl
more-swap c Edge Kept = refl
more-swap c Edge Forced = refl
more-swap c Edge Edge = refl

add_all-late : (c : Placings) (p : Placing) (l : List Placing) → one_more (add_all c l) p ≡ add_all (one_more c p) l
add_all-late c p [] = refl
add_all-late c p (q ∷ l) = add_all-late (one_more c q) p l ∙ ap (λ (d : Placings). add_all d l) (more-swap c q p)

pub add_all-swap : (c : Placings) (l m : List Placing) → add_all (add_all c l) m ≡ add_all (add_all c m) l
add_all-swap c l [] = refl
add_all-swap c l (p ∷ m) = ap (λ (d : Placings). add_all d m) (add_all-late c p l) ∙ add_all-swap (one_more c p) l m

-- ---- each place counts once, and below 2 ^ 64 both ways of counting agree

pub tally-length : (l : List Placing) → (tally l).kept + (tally l).forced + (tally l).edge ≡ length l
tally-length [] = refl
tally-length (Kept ∷ l) = omega (arith, tally-length l)
tally-length (Forced ∷ l) = omega (arith, tally-length l)
tally-length (Edge ∷ l) = omega (arith, tally-length l)

-- c and then a list
abbrev plus : Placings → Placings → Placings
plus c d = record { kept = c.kept + d.kept; forced = c.forced + d.forced; edge = c.edge + d.edge }

adds : (l : List Placing) (c : Placings) → c.kept + length l < 2 ^ 64 → c.forced + length l < 2 ^ 64 → c.edge + length l < 2 ^ 64 → add_all c l ≡ plus c (tally l)
adds [] c p q r =
    let k : c.kept ≡ c.kept + 0 = omega arith in
    let f : c.forced ≡ c.forced + 0 = omega arith in
    let e : c.edge ≡ c.edge + 0 = omega arith in
    λ i. record { kept = k i; forced = f i; edge = e i }
adds (Kept ∷ l) c p q r =
    let t = tally l in
    let m : (c.kept + 1) % 2 ^ 64 ≡ c.kept + 1 = omega arith in
    let s : c.kept + 1 + t.kept ≡ c.kept + (t.kept + 1) = omega arith in
    ap (λ (k : ℕ). add_all (record { kept = k; forced = c.forced; edge = c.edge }) l) m
    ∙ adds l (record { kept = c.kept + 1; forced = c.forced; edge = c.edge }) (omega arith) (omega arith) (omega arith)
    ∙ ap (λ (k : ℕ). record { kept = k; forced = c.forced + t.forced; edge = c.edge + t.edge }) s
adds (Forced ∷ l) c p q r =
    let t = tally l in
    let m : (c.forced + 1) % 2 ^ 64 ≡ c.forced + 1 = omega arith in
    let s : c.forced + 1 + t.forced ≡ c.forced + (t.forced + 1) = omega arith in
    ap (λ (k : ℕ). add_all (record { kept = c.kept; forced = k; edge = c.edge }) l) m
    ∙ adds l (record { kept = c.kept; forced = c.forced + 1; edge = c.edge }) (omega arith) (omega arith) (omega arith)
    ∙ ap (λ (k : ℕ). record { kept = c.kept + t.kept; forced = k; edge = c.edge + t.edge }) s
adds (Edge ∷ l) c p q r =
    let t = tally l in
    let m : (c.edge + 1) % 2 ^ 64 ≡ c.edge + 1 = omega arith in
    let s : c.edge + 1 + t.edge ≡ c.edge + (t.edge + 1) = omega arith in
    ap (λ (k : ℕ). add_all (record { kept = c.kept; forced = c.forced; edge = k }) l) m
    ∙ adds l (record { kept = c.kept; forced = c.forced; edge = c.edge + 1 }) (omega arith) (omega arith) (omega arith)
    ∙ ap (λ (k : ℕ). record { kept = c.kept + t.kept; forced = c.forced + t.forced; edge = k }) s

pub counts_agree : (l : List Placing) → length l < 2 ^ 64 → add_all no_placings l ≡ tally l
counts_agree l h =
    let t = tally l in
    let k : 0 + t.kept ≡ t.kept = omega arith in
    let f : 0 + t.forced ≡ t.forced = omega arith in
    let e : 0 + t.edge ≡ t.edge = omega arith in
    adds l no_placings (omega arith) (omega arith) (omega arith) ∙ (λ i. record { kept = k i; forced = f i; edge = e i })

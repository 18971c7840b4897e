-- A text that grows piece by piece in a lent buffer. Assumes nothing.
use Rattle.std.specs.Prelude.{◌≡◌, refl, Bool, true, false, cond, List, [], ◌∷◌, ◌++◌, ℕ, ◌+◌, ◌≤◌, length, leb}
use Rattle.std.proofs.Common.{ap, ◌∙◌, arith, le-leb, length-append}
use Rattle.std.proofs.lemmas.List.Edits.{sets}
use Rattle.std.proofs.Math.Seq.{length-sets}
use Rattle.listing.specs.Putting.{sets_append}

-- the buffer, and the next free place
pub record Text : Type 0 where
  pub out : List ℕ
  pub at : ℕ

abbrev pub text : List ℕ → ℕ → Text
text out at = record { out = out; at = at }

-- one piece more; one that has no room is left out, and the place stays
unfoldable pub add : List ℕ → Text → Text
add piece t = cond (leb (t.at + length piece) (length t.out)) (text (sets t.out t.at piece) (t.at + length piece)) t

-- pieces one after the other
unfoldable pub add_all : List (List ℕ) → Text → Text
add_all [] t = t
add_all (p ∷ ps) t = add_all ps (add p t)

-- ---- laws

pub length-add : (piece : List ℕ) (t : Text) → length (add piece t).out ≡ length t.out
unfolding add
length-add piece t = go (leb (t.at + length piece) (length t.out))
  where
    go : (b : Bool) → length (cond b (text (sets t.out t.at piece) (t.at + length piece)) t).out ≡ length t.out
    go true = length-sets t.out t.at piece
    go false = refl

pub length-all : (ps : List (List ℕ)) (t : Text) → length (add_all ps t).out ≡ length t.out
unfolding add_all
length-all [] t = refl
length-all (p ∷ ps) t = length-all ps (add p t) ∙ length-add p t

pub add-append : (ps qs : List (List ℕ)) (t : Text) → add_all (ps ++ qs) t ≡ add_all qs (add_all ps t)
unfolding add_all
add-append [] qs t = refl
add-append (p ∷ ps) qs t = add-append ps qs (add p t)

-- all pieces, joined
unfoldable pub joined : List (List ℕ) → List ℕ
joined [] = []
joined (p ∷ ps) = p ++ joined ps

-- where there is room for all of them, they stand there one behind the other
pub whole-text : (ps : List (List ℕ)) (t : Text) → t.at + length (joined ps) ≤ length t.out → add_all ps t ≡ text (sets t.out t.at (joined ps)) (t.at + length (joined ps))
unfolding add_all add joined
whole-text [] t h = ap (text t.out) (let z : t.at ≡ t.at + 0 = omega arith in z)
whole-text (p ∷ ps) t h =
    let n = length-append p (joined ps) in
    let room : t.at + length p ≤ length t.out = omega arith in
    let l = length-sets t.out t.at p in
    let rest : t.at + length p + length (joined ps) ≤ length (sets t.out t.at p) = omega arith in
    let sum : t.at + length p + length (joined ps) ≡ t.at + length (p ++ joined ps) = omega arith in
    rw (le-leb _ _ room)
    (whole-text ps (text (sets t.out t.at p) (t.at + length p)) rest
    ∙ ap (λ (l : List ℕ). text l (t.at + length p + length (joined ps))) (sets_append t.out t.at p (joined ps))
    ∙ ap (text (sets t.out t.at (p ++ joined ps))) sum)

-- The ledger's E holds one edit per number, in order of first storing. Assumes nothing.
use Rattle.std.specs.Prelude.{◌≡◌, ℕ, List, [], ◌∷◌, ◌++◌, map, ◌≢◌, refl}
use Rattle.std.proofs.Common.{sym, ap, ◌∙◌, arith, eq-eqb, ne_eqb}
use Rattle.std.proofs.Math.Option.{none, some}
use Rattle.std.proofs.Math.Decide.{ℕ_discrete}
use Rattle.event.specs.declared.Edit.{Edit}
use Rattle.event.specs.declared.StoredEdit.{StoredEdit}
use Rattle.ledger.specs.Lists.{edit_of, drop_edit, store_edit}

abbrev pub key_of : StoredEdit → ℕ
key_of x = x.id.0

-- no number stands twice
abbrev pub Once : List StoredEdit → Type 0
Once [] = Unit {0}
Once (x ∷ l) = (edit_of (key_of x) l ≡ none) × Once l

-- ---- the first and the rest

first-is : (k : ℕ) (x : StoredEdit) (l : List StoredEdit) → key_of x ≡ k → (edit_of k (x ∷ l) ≡ some x.edit) × (drop_edit k (x ∷ l) ≡ l)
unfolding edit_of drop_edit
first-is k x l h = let q = eq-eqb (key_of x) k h in (rw (q, edit_of), rw (q, drop_edit))

first-not : (k : ℕ) (x : StoredEdit) (l : List StoredEdit) → (key_of x ≢ k) → (edit_of k (x ∷ l) ≡ edit_of k l) × (drop_edit k (x ∷ l) ≡ x ∷ drop_edit k l)
unfolding edit_of drop_edit
first-not k x l h = let q = ne_eqb (key_of x) k h in (rw (q, edit_of), rw (q, drop_edit))

store_is : (k : ℕ) (d : Edit) (x : StoredEdit) (l : List StoredEdit) → key_of x ≡ k → store_edit k d (x ∷ l) ≡ record { id = record { 0 = k }; edit = d } ∷ l
unfolding store_edit
store_is k d x l h = let q = eq-eqb (key_of x) k h in rw (q, store_edit)

store_not : (k : ℕ) (d : Edit) (x : StoredEdit) (l : List StoredEdit) → (key_of x ≢ k) → store_edit k d (x ∷ l) ≡ x ∷ store_edit k d l
unfolding store_edit
store_not k d x l h = let q = ne_eqb (key_of x) k h in rw (q, store_edit)

abbrev entry : ℕ → Edit → StoredEdit
entry k d = record { id = record { 0 = k }; edit = d }

-- ---- after an edit is stored its number has it, and every other number what it had

pub store_here : (k : ℕ) (d : Edit) (l : List StoredEdit) → edit_of k (store_edit k d l) ≡ some d
unfolding store_edit
store_here k d [] = (first-is k (entry k d) [] refl).0
store_here k d (x ∷ l) = go (ℕ_discrete (key_of x) k) (store_here k d l)
  where
    go : Dec (key_of x ≡ k) → edit_of k (store_edit k d l) ≡ some d → edit_of k (store_edit k d (x ∷ l)) ≡ some d
    go (yes q) ih = ap (edit_of k) (store_is k d x l q) ∙ (first-is k (entry k d) l refl).0
    go (no q) ih = ap (edit_of k) (store_not k d x l q) ∙ (first-not k x (store_edit k d l) q).0 ∙ ih

-- one more in front changes no search but that for its own number
in-front : (j : ℕ) (x : StoredEdit) (l m : List StoredEdit) → edit_of j l ≡ edit_of j m → edit_of j (x ∷ l) ≡ edit_of j (x ∷ m)
in-front j x l m h = go (ℕ_discrete (key_of x) j)
  where
    go : Dec (key_of x ≡ j) → edit_of j (x ∷ l) ≡ edit_of j (x ∷ m)
    go (yes q) = (first-is j x l q).0 ∙ sym (first-is j x m q).0
    go (no q) = (first-not j x l q).0 ∙ h ∙ sym (first-not j x m q).0

pub store_other : (j k : ℕ) (d : Edit) (l : List StoredEdit) → (j ≢ k) → edit_of j (store_edit k d l) ≡ edit_of j l
unfolding store_edit
store_other j k d [] n = (first-not j (entry k d) [] (λ q. n (sym q))).0
store_other j k d (x ∷ l) n = go (ℕ_discrete (key_of x) k) (store_other j k d l n)
  where
    go : Dec (key_of x ≡ k) → edit_of j (store_edit k d l) ≡ edit_of j l → edit_of j (store_edit k d (x ∷ l)) ≡ edit_of j (x ∷ l)
    go (yes q) ih = ap (edit_of j) (store_is k d x l q) ∙ (first-not j (entry k d) l (λ p. n (sym p))).0 ∙ sym (first-not j x l (λ p. n (sym p ∙ q))).0
    go (no q) ih = ap (edit_of j) (store_not k d x l q) ∙ in-front j x (store_edit k d l) l ih

-- ---- after an edit is taken out its number has none, and every other number what it had

pub drop_here : (k : ℕ) (l : List StoredEdit) → Once l → edit_of k (drop_edit k l) ≡ none
unfolding drop_edit edit_of
drop_here k [] s = refl
drop_here k (x ∷ l) s = go (ℕ_discrete (key_of x) k) (drop_here k l s.1)
  where
    go : Dec (key_of x ≡ k) → edit_of k (drop_edit k l) ≡ none → edit_of k (drop_edit k (x ∷ l)) ≡ none
    go (yes q) ih = ap (edit_of k) (first-is k x l q).1 ∙ ap (λ (n : ℕ). edit_of n l) (sym q) ∙ s.0
    go (no q) ih = ap (edit_of k) (first-not k x l q).1 ∙ (first-not k x (drop_edit k l) q).0 ∙ ih

pub drop-other : (j k : ℕ) (l : List StoredEdit) → (j ≢ k) → edit_of j (drop_edit k l) ≡ edit_of j l
unfolding drop_edit
drop-other j k [] n = refl
drop-other j k (x ∷ l) n = go (ℕ_discrete (key_of x) k) (drop-other j k l n)
  where
    go : Dec (key_of x ≡ k) → edit_of j (drop_edit k l) ≡ edit_of j l → edit_of j (drop_edit k (x ∷ l)) ≡ edit_of j (x ∷ l)
    go (yes q) ih = ap (edit_of j) (first-is k x l q).1 ∙ sym (first-not j x l (λ p. n (sym p ∙ q))).0
    go (no q) ih = ap (edit_of j) (first-not k x l q).1 ∙ in-front j x (drop_edit k l) l ih

-- ---- one edit per number

pub once_store : (k : ℕ) (d : Edit) (l : List StoredEdit) → Once l → Once (store_edit k d l)
unfolding store_edit edit_of
once_store k d [] s = (refl, tt)
once_store k d (x ∷ l) s = go (ℕ_discrete (key_of x) k) (once_store k d l s.1)
  where
    go : Dec (key_of x ≡ k) → Once (store_edit k d l) → Once (store_edit k d (x ∷ l))
    go (yes q) ih = rw (store_is k d x l q) (ap (λ (n : ℕ). edit_of n l) (sym q) ∙ s.0, s.1)
    go (no q) ih = rw (store_not k d x l q) (store_other (key_of x) k d l q ∙ s.0, ih)

pub once_drop : (k : ℕ) (l : List StoredEdit) → Once l → Once (drop_edit k l)
unfolding drop_edit
once_drop k [] s = tt
once_drop k (x ∷ l) s = go (ℕ_discrete (key_of x) k) (once_drop k l s.1)
  where
    go : Dec (key_of x ≡ k) → Once (drop_edit k l) → Once (drop_edit k (x ∷ l))
    go (yes q) ih = rw (first-is k x l q).1 s.1
    go (no q) ih = rw (first-not k x l q).1 (drop-other (key_of x) k l q ∙ s.0, ih)

-- ---- in order of first storing: a new number goes to the end, an old one stays in its place

pub store_new : (k : ℕ) (d : Edit) (l : List StoredEdit) → edit_of k l ≡ none → store_edit k d l ≡ l ++ (record { id = record { 0 = k }; edit = d } ∷ [])
unfolding store_edit
store_new k d [] h = refl
store_new k d (x ∷ l) h = go (ℕ_discrete (key_of x) k) (store_new k d l)
  where
    go : Dec (key_of x ≡ k) → (edit_of k l ≡ none → store_edit k d l ≡ l ++ (entry k d ∷ [])) → store_edit k d (x ∷ l) ≡ x ∷ (l ++ (entry k d ∷ []))
    go (yes q) ih = absurd (has_one x.edit (sym (first-is k x l q).0 ∙ h))
      where
        has_one : (e : Edit) → some e ≢ none
        has_one e p = let z : ◌≡◌ {A = ℕ} 0 1 = cc in omega arith
    go (no q) ih = store_not k d x l q ∙ ap (λ (y : List StoredEdit). x ∷ y) (ih (sym (first-not k x l q).0 ∙ h))

pub store_again : (k : ℕ) (d : Edit) (l : List StoredEdit) → (edit_of k l ≢ none) → map key_of (store_edit k d l) ≡ map key_of l
unfolding edit_of
store_again k d [] h = absurd (h refl)
store_again k d (x ∷ l) h = go (ℕ_discrete (key_of x) k) (store_again k d l)
  where
    go : Dec (key_of x ≡ k) → ((edit_of k l ≢ none) → map key_of (store_edit k d l) ≡ map key_of l) → map key_of (store_edit k d (x ∷ l)) ≡ key_of x ∷ map key_of l
    go (yes q) ih = ap (map key_of) (store_is k d x l q) ∙ ap (λ (n : ℕ). n ∷ map key_of l) (sym q)
    go (no q) ih = ap (map key_of) (store_not k d x l q) ∙ ap (λ (y : List ℕ). key_of x ∷ y) (ih (λ p. h ((first-not k x l q).0 ∙ p)))

-- The engine's refusals are the ledger's: the number that the engine's tests give is that of the ledger's first check that holds, and 0 where none does. Assumes nothing.
use Rattle.std.specs.Prelude.{ℕ, ◌*◌, ◌/◌, ◌%◌, ◌^◌, ◌≤◌, ◌<◌, Bool, not, ◌&&◌, cond, ◌≡◌, refl, List, [], ◌∷◌, T, ltb, leb, eqb, length, Float}
use Rattle.std.proofs.Math.Bool.{true, false}
use Rattle.std.proofs.Common.{sym, ◌∙◌, arith, ltb→lt, eq-eqb, ne_eqb, le-leb, eqb-true}
use Rattle.std.proofs.Math.Option.{Option, none, some}
use Rattle.std.proofs.Math.Decide.{ℕ_discrete, dec_lt}
use Rattle.std.proofs.lemmas.Bool.{lt-leb}
use Rattle.event.specs.declared.Edit.{Edit}
use Rattle.event.specs.declared.Event.{Event}
use Rattle.event.specs.declared.Fade.{Fade}
use Rattle.event.specs.declared.MixOrder.{MixOrder}
use Rattle.event.specs.declared.Source.{Source}
use Rattle.event.specs.declared.StoredEdit.{StoredEdit}
use Rattle.floats.specs.Arithmetic.{◌-ᵈ◌, ◌<ᶠ◌}
use Rattle.lists.specs.declared.EditMap.{EditMap}
use Rattle.std.specs.declared.option.Option.{Option as Found}
use Rattle.std.specs.declared.option.Option.TheVariants.{Some, None}
use Rattle.lists.specs.Edits.{found_edit}
use Rattle.lists.specs.EditList.{edit_found}
use Rattle.lists.specs.PlaceFound.{place_found}
use Rattle.lists.specs.Numbered.{place_none, none-place}
use Rattle.ledger.specs.Calls.{PushKind, EditKind, push, edit, tick, block, rate}
use Rattle.ledger.specs.Lists.{has, place_of, edit_of}
use Rattle.ledger.specs.Ledger.{Ledger, held}
use Rattle.ledger.specs.Refusals.{Check, refuses, first_of, checks, push_checks, edit_checks, refusal, missing, stated_end, edit_end, tick_end, block_end}
use Rattle.refusals.specs.Refusals.{push_refusal, roomless, no_room, edit_refusal, tick_refusal, process_refusal, rate_refusal}

-- ---- tests in order, and the first check that holds

-- a number of the engine, and a refusal of the ledger
abbrev pub Agrees : (number : ℕ) → Option ℕ → Type 0
Agrees n none = n ≡ 0
Agrees n (some k) = (n ≡ k) × (0 < k)

-- the checks as the engine tests them
abbrev pub in_order : List Check → ℕ
in_order [] = 0
in_order (refuses k b ∷ l) = cond b k (in_order l)

abbrev pub Numbered : List Check → Type 0
Numbered [] = Unit {0}
Numbered (refuses k b ∷ l) = T (ltb 0 k) × Numbered l

pub agrees : (l : List Check) → Numbered l → Agrees (in_order l) (first_of l)
unfolding first_of
agrees [] h = refl
agrees (refuses k true ∷ l) h = (refl, omega (arith, ltb→lt 0 k h.0))
agrees (refuses k false ∷ l) h = agrees l h.1

-- ---- a push

-- number 0 stands for 2 ^ 64, of which there is none
pub spent : (next number : ℕ) → 0 < next → next ≤ 2 ^ 64 → number ≡ next % 2 ^ 64 → eqb number 0 ≡ leb (2 ^ 64) next
spent n m p q h = go (dec_lt n (2 ^ 64))
  where
    go : Dec (n < 2 ^ 64) → eqb m 0 ≡ leb (2 ^ 64) n
    go (yes k) = ne_eqb m 0 (λ z. omega arith) ∙ sym (lt-leb (2 ^ 64) n k)
    go (no k) = eq-eqb m 0 (omega arith) ∙ sym (le-leb (2 ^ 64) n (omega arith))

pub push-refused : (l : Ledger) (kind : PushKind) (start end fade_in fade_out : Float) (curve : Fade) (source : Source) (gain : Float) (holds next : ℕ)
    → leb 256 holds ≡ leb 256 (held l) → eqb next 0 ≡ leb (2 ^ 64) l.next
    → Agrees (push_refusal start end (stated_end kind start end -ᵈ start) fade_in fade_out source gain holds next) (refusal l (push kind start end fade_in fade_out curve source gain))
unfolding push_refusal refusal checks push_checks
push-refused l kind start end fade_in fade_out curve source gain holds next p q = rw (p, q) (agrees (push_checks l kind start end fade_in fade_out source gain) (tt, (tt, (tt, (tt, (tt, (tt, tt)))))))

-- ---- an edit

place_some : (k : ℕ) (l : List Event) (i : ℕ) → place_of k l ≡ some i → has k l ≡ true
place_some k l i h = go (has k l) refl
  where
    go : (b : Bool) → has k l ≡ b → b ≡ true
    go true q = refl
    go false q = absurd (let n = none-place k l q in let z : ◌≡◌ {A = ℕ} 0 1 = cc in omega arith)

-- what the engine finds in its arrays, and what stands in S and E
module _ (k : ℕ) (s : List Event) (x : List StoredEdit) where
  abbrev must : (over : Bool) → Bool
  must over = not (has k s) && not over && missing (edit_of k x) && leb 256 (length x)

  pub room-agrees : (f : Found ℕ) (over : Bool) (d : Found Edit) (n : ℕ) → place_found f ≡ place_of k s → edit_found d ≡ edit_of k x → n ≡ length x → roomless f over d n ≡ must over
  unfolding roomless
  room-agrees (Some i) over d n p q r = rw (place_some k s i (sym p))
  room-agrees None true d n p q r = rw (place_none k s (sym p))
  room-agrees None false (Some d) n p q r = rw (place_none k s (sym p), ← q)
  room-agrees None false None n p q r = rw (place_none k s (sym p), ← q, r)

pub edit-refused : (l : Ledger) (kind : EditKind) (k : ℕ) (end fade_out : Float) (found : Found ℕ) (edits : EditMap) (θ until : Float)
    → place_found found ≡ place_of k l.sounding → edit_found (found_edit edits (record { 0 = k })) ≡ edit_of k l.edits → edits.len ≡ length l.edits
    → θ ≡ l.threshold → until ≡ edit_end kind l.clock end
    → Agrees (edit_refusal found edits θ (record { 0 = k }) end until fade_out) (refusal l (edit kind k end fade_out))
unfolding edit_refusal no_room refusal checks edit_checks
edit-refused l kind k end fade_out found edits θ until p q n h u =
    let room = room-agrees k l.sounding l.edits found (until <ᶠ θ) (found_edit edits (record { 0 = k })) edits.len p q n in
    rw (room, h, u) (agrees (edit_checks l kind k end fade_out) (tt, (tt, tt)))

-- ---- a tick, a block, a rate

pub tick_refused : (l : Ledger) (order : MixOrder) (pool out : List Float) (c : ℕ) (t d : Float) → c ≡ l.channels → t ≡ l.clock → d ≡ l.duration → Agrees (tick_refusal (length out) c t d) (refusal l (tick order pool out))
unfolding tick_refusal refusal checks tick_end
tick_refused l order pool out c t d p q r = rw (p, q, r) (agrees (checks l (tick order pool out)) (tt, (tt, tt)))

-- 64 × c, tested by division
rows : (n c : ℕ) → (eqb (n % 64) 0 && eqb (n / 64) c) ≡ (eqb n (64 * c) && true)
rows n c = go (ℕ_discrete n (64 * c))
  where
    left : (b : Bool) → eqb (n % 64) 0 ≡ b → (n ≡ 64 * c → ⊥) → (b && eqb (n / 64) c) ≡ false
    left true p h = ne_eqb (n / 64) c (λ q. h (omega (arith, eqb-true (n % 64) 0 p)))
    left false p h = refl

    go : Dec (n ≡ 64 * c) → (eqb (n % 64) 0 && eqb (n / 64) c) ≡ (eqb n (64 * c) && true)
    go (yes h) = rw (eq-eqb n (64 * c) h, eq-eqb (n % 64) 0 (omega arith)) (eq-eqb (n / 64) c (omega arith))
    go (no h) = rw (ne_eqb n (64 * c) h) (left (eqb (n % 64) 0) refl h)

pub block_refused : (l : Ledger) (order : MixOrder) (n : ℕ) (pool out : List Float) (c : ℕ) (t d : Float) → c ≡ l.channels → t ≡ l.clock → d ≡ l.duration
    → Agrees (process_refusal n (length out) c t d) (refusal l (block order n pool out none))
unfolding process_refusal refusal checks block_end
block_refused l order n pool out c t d p q r = rw (p, q, r, rows (length out) l.channels) (agrees (checks l (block order n pool out none)) (tt, (tt, (tt, tt))))

pub rate-refused : (l : Ledger) (r : Float) → Agrees (rate_refusal r) (refusal l (rate r))
unfolding rate_refusal refusal checks
rate-refused l r = agrees (checks l (rate r)) (tt, tt)

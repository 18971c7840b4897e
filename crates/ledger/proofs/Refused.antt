-- A refused call changes nothing, lent lists included, of the ledger and of what replies alike; a call that is not refused passed all its checks.
use Rattle.std.specs.Prelude.{ℕ, suc, ◌<◌, ◌≡◌, refl, Bool, true, false, List, [], ◌∷◌, length, get_or, Float}
use Rattle.std.proofs.Common.{ap, ap₂, arith}
use Rattle.std.proofs.Math.Option.{Option, none, some}
use Rattle.event.specs.declared.Edit.{Edit}
use Rattle.floats.specs.Arithmetic.{◌<ᶠ◌, zeroᶠ}
use Rattle.ledger.specs.Calls.{Call, push, edit, tick, block, rate, reset, refused, Reply}
use Rattle.ledger.specs.Lists.{has}
use Rattle.ledger.specs.Ledger.{Ledger}
use Rattle.ledger.specs.Refusals.{Check, refuses, first_of, length_or, refusal, edit_end}
use Rattle.ledger.specs.Steps.{change, accept, refused_reply, decide, step}
use Rattle.ledger.specs.Claim.{SameReply, SameScratch}
use Rattle.ledger.specs.Refused.{lent_out, lent_scratch, Unchanged, refused_with, AllPass}

change-never-refuses : (l : Ledger) (k : ℕ) (d : Edit) (a b : Bool) → refused_with (change l k d a b).reply.answer ≡ none
unfolding change
change-never-refuses l k d true b = refl
change-never-refuses l k d false true = refl
change-never-refuses l k d false false = refl

pub accept-never-refuses : (l : Ledger) (c : Call) → refused_with (accept l c).reply.answer ≡ none
unfolding accept
accept-never-refuses l (push kind start end fade_in fade_out curve source gain) = refl
accept-never-refuses l (edit kind k end fade_out) =
    change-never-refuses l k (record { end_time = edit_end kind l.clock end; fade_out = fade_out }) (has k l.sounding) (edit_end kind l.clock end <ᶠ l.threshold)
accept-never-refuses l (tick order pool out) = refl
accept-never-refuses l (block order n pool out scratch) = refl
accept-never-refuses l (rate r) = refl
accept-never-refuses l reset = refl

unchanged : (l : Ledger) (c : Call) (k : ℕ) → Unchanged l c (record { ledger = l; reply = refused_reply k c })
unchanged l (push kind start end fade_in fade_out curve source gain) k = record { ledger = refl; out = refl; scratch = refl }
unchanged l (edit kind n end fade_out) k = record { ledger = refl; out = refl; scratch = refl }
unchanged l (tick order pool out) k = record { ledger = refl; out = refl; scratch = refl }
unchanged l (block order n pool out scratch) k = record { ledger = refl; out = refl; scratch = refl }
unchanged l (rate r) k = record { ledger = refl; out = refl; scratch = refl }
unchanged l reset k = record { ledger = refl; out = refl; scratch = refl }

pub refused-unchanged : (l : Ledger) (c : Call) (k : ℕ) → (step l c).reply.answer ≡ refused k → Unchanged l c (step l c)
unfolding step decide
refused-unchanged l c k h = go (refusal l c) h
  where
    go : (o : Option ℕ) → (decide o l c).reply.answer ≡ refused k → Unchanged l c (decide o l c)
    go (some j) h = unchanged l c j
    go none h = absurd (let r = accept-never-refuses l c in let z : ◌≡◌ {A = ℕ} 0 1 = cc in omega arith)

-- ---- a reply that the claim takes for a refusal's gives back all that was lent, every place of it

same-places : (a b : List Float) → length a ≡ length b → ((j : ℕ) → j < length b → get_or a j zeroᶠ ≡ get_or b j zeroᶠ) → a ≡ b
same-places [] [] n h = refl
same-places [] (y ∷ m) n h = absurd (omega arith)
same-places (x ∷ l) [] n h = absurd (omega arith)
same-places (x ∷ l) (y ∷ m) n h = ap₂ (λ z r. z ∷ r) (h 0 (omega arith)) (same-places l m (omega arith) (λ j k. h (suc j) (omega arith)))

same-lent : (a b : Option (List Float)) → SameScratch (length_or 0 b) a b → a ≡ b
same-lent none none h = refl
same-lent none (some b) h = absurd h
same-lent (some a) none h = absurd h
same-lent (some a) (some b) h = ap some (same-places a b h.0 h.1)

pub lent_back : (r : Reply) (c : Call) (k : ℕ) → SameReply r (refused_reply k c) → (r.out ≡ lent_out c) × (r.scratch ≡ lent_scratch c)
lent_back r (push kind start end fade_in fade_out curve source gain) k h = (h.out, same-lent r.scratch none h.scratch)
lent_back r (edit kind n end fade_out) k h = (h.out, same-lent r.scratch none h.scratch)
lent_back r (tick order pool out) k h = (h.out, same-lent r.scratch none h.scratch)
lent_back r (block order n pool out scratch) k h = (h.out, same-lent r.scratch scratch h.scratch)
lent_back r (rate x) k h = (h.out, same-lent r.scratch none h.scratch)
lent_back r reset k h = (h.out, same-lent r.scratch none h.scratch)

pub all_pass : (l : List Check) → first_of l ≡ none → AllPass l
unfolding first_of
all_pass [] h = tt
all_pass (refuses k true ∷ l) h = absurd (let z : ◌≡◌ {A = ℕ} 0 1 = cc in omega arith)
all_pass (refuses k false ∷ l) h = (tt, all_pass l h)

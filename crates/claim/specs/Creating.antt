-- A creation, refused or not, hands back the ledger's beginning and its answer. Assumes nothing.
use Rattle.std.specs.Prelude.{Bool, true, false, not, ◌&&◌, ◌||◌, cond, ◌≡◌, refl, ℕ, ◌^◌, ◌<◌, ltb, leb, eqb, replicate}
use Rattle.std.proofs.Common.{sym, subst, arith, ltb-true, ltb-false, eqb-true, le-leb}
use Rattle.std.proofs.lemmas.Bool.{eqb-false, lt-leb}
use Rattle.event.specs.declared.ReplayMode.{ReplayMode}
use Rattle.event.specs.declared.ReplayMode.TheVariants.{All}
use Rattle.ledger.specs.Calls.{done, refused}
use Rattle.ledger.specs.Ledger.{Created, fresh, create}
use Rattle.ready.specs.Waiting as Waiting
use Rattle.ready.proofs.Waits.{waits_new}
use Rattle.lists.specs.EditList.{edits_new}
use Rattle.lists.specs.Holds.{holds-none}
use Rattle.sequencer.specs.declared.Outcome.{Outcome}
use Rattle.sequencer.specs.declared.Answer.TheVariants.{Done, Refused}
use Rattle.sequencer.specs.Answers.{answer_of}
use Rattle.sequencer.specs.Creation.{fresh_engine, created}
use Rattle.claim.specs.Related.{Related}

pub related_fresh : (c : ℕ) (m : ReplayMode) (k : ℕ) → k < 2 ^ 64 → Related (fresh_engine c m k) (fresh c m k)
unfolding fresh_engine fresh Waiting.emptied
related_fresh c m k h =
    let none = holds-none (Waiting.emptied).items refl in
    record {
      lists = (waits_new, none, holds-none (replicate 256 (record { 0 = 0 })) refl, none, edits_new);
      plain = (refl, refl, refl, refl, refl, refl, omega arith, refl);
    }

-- ---- the engine's test for refusal 1 is the ledger's

above : (a b : ℕ) → leb a b ≡ not (ltb b a)
above a b = go (ltb b a) refl
  where
    go : (t : Bool) → ltb b a ≡ t → leb a b ≡ not t
    go true h = lt-leb a b (ltb-true b a h)
    go false h = le-leb a b (ltb-false b a h)

some_number : (k : ℕ) → leb 1 k ≡ not (eqb k 0)
some_number k = go (eqb k 0) refl
  where
    go : (t : Bool) → eqb k 0 ≡ t → leb 1 k ≡ not t
    go true h = lt-leb 1 k (omega (arith, eqb-true k 0 h))
    go false h = le-leb 1 k (omega (arith, eqb-false k 0 h))

pub related_creation : (c : ℕ) (m : ReplayMode) (k : ℕ) → k < 2 ^ 64
    → Related (created c m k).sequencer (create c m k).ledger × (answer_of (created c m k).answer ≡ (create c m k).answer)
unfolding created create
related_creation c m k h =
    subst (λ (b : Bool). Same (engine (ltb c 1 || ltb 8 c || eqb k 0)) (ledger b)) (sym tests) (go (ltb c 1) (ltb 8 c) (eqb k 0))
  where
    Same : Outcome → Created → Type 0
    Same a b = Related a.sequencer b.ledger × (answer_of a.answer ≡ b.answer)

    tests : (leb 1 c && leb c 8 && leb 1 k) ≡ (not (ltb c 1) && not (ltb 8 c) && not (eqb k 0))
    tests = rw (above 1 c, above c 8, some_number k)

    engine : Bool → Outcome
    engine b = cond b (record { sequencer = fresh_engine 1 All 1; answer = Refused 1 }) (record { sequencer = fresh_engine c m k; answer = Done })

    ledger : Bool → Created
    ledger b = elim b [ true ↦ record { ledger = fresh c m k; answer = done } | false ↦ record { ledger = fresh 1 All 1; answer = refused 1 } ]

    go : (a b n : Bool) → Same (engine (a || b || n)) (ledger (not a && not b && not n))
    go true b n = (related_fresh 1 All 1 (omega arith), refl)
    go false true n = (related_fresh 1 All 1 (omega arith), refl)
    go false false true = (related_fresh 1 All 1 (omega arith), refl)
    go false false false = (related_fresh c m k h, refl)

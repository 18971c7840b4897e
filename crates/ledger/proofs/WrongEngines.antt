-- Document 01's conditions of acceptance: the claim is refuted for each of the six wrong engines, and for one that writes a refused block's scratch.
use Rattle.std.specs.Prelude.{ℕ, zero, suc, ◌≡◌, refl, Bool, true, false, [], ◌∷◌, get_or}
use Rattle.std.proofs.Common.{ap, arith}
use mathlib.Core.List.Memᴰ
use Rattle.std.specs.Float.{nan}
use Rattle.floats.specs.Arithmetic.{zeroᶠ, oneᶠ, whole}
use Rattle.event.specs.declared.ReplayMode.TheVariants.{All, None}
use Rattle.ledger.specs.Calls.{rate, reset, number, done, refused}
use Rattle.ledger.specs.Computes.{computes}
use Rattle.ledger.specs.Claim.{Counts, Engine, calls, Claim}
use Rattle.ledger.specs.LedgerMeets.{engine_of}
use Rattle.ledger.specs.WrongEngines.{clip, one_tick, one_block, full, spent, silent, at_rest, infinities, repeating, Invents, inventing, overrunning, long-block}

pub not_full : (b : Bool) → ¬ Claim (engine_of b full)
unfolding calls computes
not_full b d =
    let h : refused 6 ≡ number 1 = (d 1 All 1 (clip ∷ []) (omega arith) (tt, tt)).replies.0.answer in
    let z : ◌≡◌ {A = ℕ} 0 1 = cc in omega arith

pub not-spent : (b : Bool) → ¬ Claim (engine_of b spent)
unfolding calls computes
not-spent b d =
    let h : refused 12 ≡ done = (d 1 All 1 (one_tick ∷ []) (omega arith) (tt, tt)).replies.0.answer in
    let z : ◌≡◌ {A = ℕ} 0 1 = cc in omega arith

pub not-silent : (b : Bool) → ¬ Claim (engine_of b silent)
unfolding calls computes
not-silent b d =
    let h : zeroᶠ ∷ [] ≡ oneᶠ ∷ [] = (d 1 All 1 (clip ∷ one_tick ∷ []) (omega arith) (tt, (tt, tt))).replies.1.0.out in
    let z : ◌≡◌ {A = ℕ} 0 1 = cc in omega arith

pub not-at_rest : (b : Bool) → ¬ Claim (engine_of b (at_rest true))
unfolding calls computes
not-at_rest b d =
    let z : ◌≡◌ {A = ℕ} 1 0 = ap infinities (d 1 All 1 (one_tick ∷ []) (omega arith) (tt, tt)).state.threshold in omega arith

pub not-all_waiting : (b : Bool) → ¬ Claim (engine_of b (at_rest false))
unfolding calls computes
not-all_waiting b d =
    let h : true ≡ false = (d 1 All 1 (clip ∷ one_tick ∷ []) (omega arith) (tt, (tt, tt))).on_time _ (Memᴰ.head refl) in
    let z : ◌≡◌ {A = ℕ} 0 1 = cc in omega arith

first_sample : (b : Bool) → Claim (repeating b) → oneᶠ ≡ zeroᶠ
unfolding calls computes
first_sample true d = ap (λ l. get_or l 0 nan) (d 1 All 1 (rate (whole 8) ∷ clip ∷ one_block true ∷ one_block true ∷ []) (omega arith)
    (tt, (tt, (refl, (refl, tt))))).replies.1.1.1.0.out
first_sample false d = ap (λ l. get_or l 0 nan) (d 1 All 1 (rate (whole 8) ∷ clip ∷ one_block false ∷ one_block false ∷ []) (omega arith)
    (tt, (tt, (refl, (refl, tt))))).replies.1.1.1.0.out

pub not-repeating : (b : Bool) → ¬ Claim (repeating b)
not-repeating b d =
    let h = first_sample b d in
    let z : ◌≡◌ {A = ℕ} 0 1 = cc in omega arith

pub not-inventing : (E : Engine) → Invents E → ¬ Claim E
not-inventing E v d = v.differs (ap (λ (c : Counts). c.gone) (d v.channels v.mode v.first v.cs v.known v.lent).state.counts)

-- a constant is not L at creation, or after a reset in mode None
constant_invents : (count : ℕ) (b : Bool) → Invents (inventing (λ l. count) b)
unfolding calls computes
constant_invents zero b = record {
  channels = 1;
  mode = None;
  first = 1;
  cs = clip ∷ reset ∷ [];
  known = omega arith;
  lent = (tt, (tt, tt));
  differs = λ h. let z : ◌≡◌ {A = ℕ} 0 1 = h in omega arith;
}
constant_invents (suc n) b = record {
  channels = 1;
  mode = None;
  first = 1;
  cs = [];
  known = omega arith;
  lent = tt;
  differs = λ h. let z : suc n ≡ 0 = h in omega arith;
}

pub not_constant : (count : ℕ) (b : Bool) → ¬ Claim (inventing (λ l. count) b)
not_constant count b = not-inventing (inventing (λ l. count) b) (constant_invents count b)

pub not-overrunning : ¬ Claim (engine_of true overrunning)
unfolding calls computes
not-overrunning d =
    let h : oneᶠ ≡ zeroᶠ = (d 1 All 1 (long-block ∷ []) (omega arith) (refl, tt)).replies.0.scratch.1 64 (omega arith) in
    let z : ◌≡◌ {A = ℕ} 0 1 = cc in omega arith

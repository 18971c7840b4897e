-- What a loop that walks a slice in place has done after i turns: one law for all sample loops, for any element, any state and any step.
-- A turn stores at i and moves the state on (`turn`); before the first and after the last turn it is the walk itself (`start`, `done`). Assumes nothing.
use Rattle.std.specs.Prelude.{◌≡◌, refl, List, ◌∷◌, ◌++◌, ℕ, suc, ◌+◌, ◌<◌, ◌≤◌, set, take}
use Rattle.std.proofs.Common.{◌∙◌, append-nil, append_assoc, add-one, arith}
use Rattle.std.proofs.Math.Nat.{le_antisymm}
use Rattle.std.proofs.Math.ListN.{length, get_or, drop, length-set}
use Rattle.std.proofs.Math.Seq.{take-suc-set, drop-cons, drop-set-lt, take-length, drop-length}
use Rattle.runs.specs.Walk.{walk, ends}

module _ {A S : Type 0} (f : S → A → A) (next : S → S) (s₀ : S) (l₀ : List A) where
  -- s and l are the state and the list after i turns
  pub record Turns (i : ℕ) (s : S) (l : List A) : Type 0 where
    pub within : i ≤ length l
    pub long : length l ≡ length l₀
    pub rest : take i l ++ walk f next s (drop i l) ≡ walk f next s₀ l₀
    pub state : ends next s (drop i l) ≡ ends next s₀ l₀

  pub start : Turns 0 s₀ l₀
  start = record { within = omega arith; long = refl; rest = refl; state = refl }

  pub turn : {i : ℕ} {s : S} {l : List A} (d : A) → Turns i s l → i < length l → Turns (i + 1) (next s) (set l i (f s (get_or l i d)))
  unfolding walk ends
  turn {i} {s} {l} d t h =
      let v = f s (get_or l i d) in
      let e : drop i l ≡ get_or l i d ∷ drop (suc i) l = drop-cons l i d h in
      let k : drop (suc i) (set l i v) ≡ drop (suc i) l = drop-set-lt (suc i) l i v (omega arith) in
      record {
        within = simp length-set (omega arith);
        long = length-set l i v ∙ t.long;
        rest = rw (add-one, k, take-suc-set l i v, append_assoc) (rw e at t.rest);
        state = rw (add-one, k) (rw e at t.state);
      }

  pub done : {i : ℕ} {s : S} {l : List A} → Turns i s l → length l ≤ i → l ≡ walk f next s₀ l₀
  unfolding walk
  done {i} {s} {l} t h =
      let e : i ≡ length l = le_antisymm t.within h in
      rw (e, take-length, drop-length, append-nil) at t.rest

  pub final : {i : ℕ} {s : S} {l : List A} → Turns i s l → length l ≤ i → s ≡ ends next s₀ l₀
  unfolding ends
  final {i} {s} {l} t h =
      let e : i ≡ length l = le_antisymm t.within h in
      rw (e, drop-length) at t.state

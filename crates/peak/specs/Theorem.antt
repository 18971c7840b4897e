-- The claim. Since the last turn the row begins with what was fed; once there was a turn, the suffix maxima of what is left of the window before follow.
use Rattle.std.specs.Prelude.{◌≡◌, false, cond, drop, replicate, Ok}
use mathlib.Core.List.{List, ◌++◌, foldl}
use Prim.Native.Nat.{ℕ, ◌≤◌, ◌<◌}
use Rattle.std.proofs.Math.ListN.{length, get_or, take}
use Rattle.peak.specs.declared.RunningPeak.{RunningPeak}
use Rattle.peak.specs.Peaks.{greatest, last_of, Feed, peak_of}
use Rattle.peak.specs.Steps.{State, peak_in, state, empty, created, refusal, reading}
use Rattle.peak.specs.Claim.{step}

pub record Single (s : State) (h : List ℕ) : Type 0 where
  pub window : s.peak.window ≡ 1
  pub place : s.peak.place ≡ 0
  pub turned : s.peak.turned ≡ false
  pub recent : s.peak.recent ≡ greatest (last_of 1 h)

-- ---- a window above 1: what holds after the magnitudes h, w zeros being thought before them
pub record Keeps (w : ℕ) (s : State) (h : List ℕ) : Type 0 where
  pub before : List ℕ
  pub previous : List ℕ
  pub current : List ℕ
  pub whole : replicate w 0 ++ h ≡ before ++ (previous ++ current)
  pub full : length previous ≡ w
  pub wide : 1 < w
  pub room : length current < w
  pub window : s.peak.window ≡ w
  pub place : s.peak.place ≡ length current
  pub recent : s.peak.recent ≡ greatest current
  pub words : w ≤ length s.row
  pub begins : take (length current) s.row ≡ current
  pub follows : (i : ℕ) → length current ≤ i → i < w → cond s.peak.turned (get_or s.row i 0) 0 ≡ greatest (drop i previous)

-- a fresh one is empty; its window is 1, or the row has room for it
pub data Fresh (w : ℕ) (row : List ℕ) : Type 0 where
  narrowest : peak_in (created w (length row)) ≡ empty 1 → Fresh w row
  roomy : (v : ℕ) → 1 < v → v ≤ length row → peak_in (created w (length row)) ≡ empty v → Fresh w row

-- what both fields say of the running peak p
pub record Holds (p : RunningPeak) (row : List ℕ) (fs : List Feed) : Type 0 where
  pub answer : reading (foldl step (state p row) fs) ≡ Ok (peak_of p.window fs)
  pub taken : refusal (foldl step (state p row) fs).peak (length (foldl step (state p row) fs).row) ≡ 0

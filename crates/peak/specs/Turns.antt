-- The branches of `created`, `serves` and `advanced`, and lengths: what the contracts' proofs cite.
use Rattle.std.specs.Prelude.{◌≡◌, ℕ, length}
use Rattle.std.proofs.Math.Bool.{true}
use Rattle.peak.specs.Steps.{State, serves, advanced}

-- ---- after a magnitude the row is as long as before, and serves
pub record Next (s : State) (m : ℕ) : Type 0 where
  pub long : length (advanced s m).row ≡ length s.row
  pub serving : serves (advanced s m).peak (length (advanced s m).row) ≡ true

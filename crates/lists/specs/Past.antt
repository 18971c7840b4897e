-- The finished list at the beginning of a tick or block: "in mode None F's numbers are appended to G and F empties".
use Rattle.std.specs.Prelude.{ℕ, ◌+◌, ◌%◌, ◌^◌}
use Rattle.event.specs.declared.ReplayMode.{ReplayMode}
use Rattle.event.specs.declared.ReplayMode.TheVariants.{All, None}

-- how many were let go, and how many are left
unfoldable pub gone_by : ReplayMode → (gone past : ℕ) → ℕ
gone_by All gone past = gone
gone_by None gone past = (gone + past) % 2 ^ 64

unfoldable pub kept_by : ReplayMode → (past : ℕ) → ℕ
kept_by All past = past
kept_by None past = 0

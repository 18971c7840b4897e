-- A lent output of c channels, 64 samples each. Assumes nothing.
use Rattle.std.specs.Prelude.{ℕ, ◌*◌, ◌/◌, ◌≤◌, ◌≡◌, List, Float, length, take}
use Rattle.std.proofs.Common.{arith, take_all}
use Rattle.ledger.specs.BlockSamples.{overlay}

-- what `overlay_channels` writes to it
pub overlay_channels : (c : ℕ) (run l : List Float) → length l ≡ 64 * c → length run ≤ 64 → overlay (length l / 64) (take 64 run) l ≡ overlay c run l
overlay_channels c run l h b =
    let q : length l / 64 ≡ c = omega arith in
    rw (q, take_all 64 run b)

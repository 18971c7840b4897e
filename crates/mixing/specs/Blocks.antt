-- A block of the engine as the ledger has it. Assumes nothing.
use Rattle.std.specs.Prelude.{◌≡◌, ℕ, ◌+◌, ◌*◌, ◌/◌, ◌≤◌, min}
use Rattle.std.proofs.Common.{arith}
use Rattle.ledger.specs.BlockSamples as Block
use Rattle.mixing.specs.declared.Span.{Span}

-- of a size above 64, 64 count
abbrev pub as_span : Span → Block.Span
as_span b = record { size = min 64 b.size; clock = b.clock; upto = b.upto; rate = b.rate; duration = b.duration }

-- 8 × ceil(n/8), of a block of at most 64
abbrev pub cleared_places : (n : ℕ) → ℕ
cleared_places n = 8 * ((min 64 n + 7) / 8)

-- ---- a block that is not too large is the ledger's as it stands
pub cleared-is : (n : ℕ) → n ≤ 64 → cleared_places n ≡ 8 * ((n + 7) / 8)
cleared-is n h =
    let m : min 64 n ≡ n = omega arith in
    rw m

pub cleared-within : (n : ℕ) → cleared_places n ≤ 64
cleared-within n = omega arith

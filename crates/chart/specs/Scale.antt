-- The whole numbers of a page: times in microseconds, columns, rows and heights. They run.
use Rattle.std.specs.Prelude.{ℕ, ◌+◌, ◌-◌, ◌*◌, ◌/◌, ◌%◌, ◌^◌, min, ◌||◌, cond, List, [], ◌∷◌, ltb, leb, eqb, Float}
use Rattle.floats.specs.Arithmetic.{◌×ᵈ◌, whole}
use Rattle.floats.specs.Floats.{index}

-- ---- times

-- the latest time that a page knows, past the clock's limit of 1,000,000,000 s
abbrev pub latest : ℕ
latest = 1_125_899_906_842_624

-- the clock in microseconds, to the nearest
unfoldable pub micros_of : (clock : Float) → ℕ
micros_of clock = min (index (clock ×ᵈ whole 1_000_000)) latest

-- a number in thousandths, to the nearest; 0 for a NaN and below 0
unfoldable pub thousandths_of : Float → ℕ
thousandths_of x = index (x ×ᵈ whole 1_000)

-- so long after a time
unfoldable pub later_by : (time by : ℕ) → ℕ
later_by t d = min (min t latest + min d latest) latest

-- the time of place k of n, 1 to 64, from a time up to another; the first time where there are no such places
unfoldable pub between_at : (from to k n : ℕ) → ℕ
between_at a b k n = cond (eqb n 0 || ltb 64 n) (min a latest) (min a latest + (min b latest - min a latest) * min k n / n)

-- ---- columns

-- the column of a time: floor(time × 1400 / total), and 0 where no time passes
unfoldable pub column_of : (time total : ℕ) → ℕ
column_of t total = cond (eqb (min total latest) 0) 0 (min t (min total latest) * 1_400 / min total latest)

abbrev pub x_of : (time total : ℕ) → ℕ
x_of t total = 170 + column_of t total

-- how broad a stretch of time is drawn: a column at least
unfoldable pub breadth_of : (from to total : ℕ) → ℕ
breadth_of a b total = cond (leb (column_of b total) (column_of a total)) 1 (column_of b total - column_of a total)

-- ---- rows

-- the top of lane i: 64 lanes of 16 make a group, and a group takes 1,068 with its axis
unfoldable pub lane_of : ℕ → ℕ
lane_of i = let k = min i 1_099_511_627_775 in 210 + k / 64 * 1_068 + k % 64 * 16

unfoldable pub lanes_end : (lanes : ℕ) → ℕ
lanes_end n = cond (eqb n 0) 210 (lane_of (n - 1) + 16)

-- the top of a channel's wave below n lanes
unfoldable pub wave_of : (lanes channel : ℕ) → ℕ
wave_of n c = lanes_end n + 40 + min c 8 * 90

-- ---- heights

-- a magnitude's exponent, and its digits with the leading 1
abbrev pub exponent : (bits : ℕ) → ℕ
exponent b = b % 2_147_483_648 / 8_388_608

abbrev pub significand : (bits : ℕ) → ℕ
significand b = 8_388_608 + b % 2_147_483_648 % 8_388_608

-- floor(|x| × scale) of an f32's bits: |x| is significand × 2^(exponent - 150). 2^64 - 1 from 2^23 on, for an infinity and for a NaN. Below 2^-40 it is 0, as a scale is below 2^32.
unfoldable pub scaled_of : (bits scale : ℕ) → ℕ
scaled_of b s = cond (ltb 149 (exponent b)) 18_446_744_073_709_551_615 (cond (ltb (exponent b) 87) 0 (significand b * s / 2 ^ (150 - exponent b)))

-- how high a peak stands where 1.0 is so high
unfoldable pub height_of : (bits full : ℕ) → ℕ
height_of b full = min (scaled_of b full) full

-- ---- the axis

-- microseconds: 1, 2 and 5 up to 5 s, then 10 and 30 s, 1, 2, 5, 10 and 30 min, 1, 2, 6 and 12 h, 1, 10, 100 and 1,000 days
abbrev pub steps : List ℕ
steps = 1 ∷ 2 ∷ 5 ∷ 10 ∷ 20 ∷ 50 ∷ 100 ∷ 200 ∷ 500 ∷ 1_000 ∷ 2_000 ∷ 5_000 ∷ 10_000 ∷ 20_000 ∷ 50_000 ∷ 100_000 ∷ 200_000 ∷ 500_000 ∷ 1_000_000 ∷ 2_000_000 ∷ 5_000_000 ∷ 10_000_000 ∷ 30_000_000 ∷ 60_000_000 ∷ 120_000_000
    ∷ 300_000_000 ∷ 600_000_000 ∷ 1_800_000_000 ∷ 3_600_000_000 ∷ 7_200_000_000 ∷ 21_600_000_000 ∷ 43_200_000_000 ∷ 86_400_000_000 ∷ 864_000_000_000 ∷ 8_640_000_000_000 ∷ []

-- the first step above a fourteenth of the whole, so that there are at most 14
unfoldable pub step_in : List ℕ → (total : ℕ) → ℕ
step_in [] total = 86_400_000_000_000
step_in (s ∷ l) total = cond (ltb (total / 14) s) s (step_in l total)

abbrev pub step_of : (total : ℕ) → ℕ
step_of total = step_in steps total

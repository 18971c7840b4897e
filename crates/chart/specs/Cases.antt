-- The whole numbers of a page, by computation. Assumes nothing.
use Rattle.std.specs.Prelude.{◌^◌, ◌-◌, false, ◌≡◌, refl, [], ◌∷◌, map, pos, negsuc}
use Rattle.std.specs.Float.{fin, inf}
use Rattle.std.specs.Float.Ieee.{mul, round}
use Rattle.floats.specs.Arithmetic.{whole}
use Rattle.floats.specs.Floats.{index}
use Rattle.chart.specs.Scale.{micros_of, thousandths_of, later_by, between_at, column_of, breadth_of, lane_of, lanes_end, wave_of, scaled_of, height_of, step_in, step_of}

-- the example tape's end, 0.375 s, and one past the page's limit
pub clocks : micros_of (fin false 3 (negsuc 2)) ∷ micros_of (inf false) ∷ thousandths_of (fin false 8 (pos 0)) ∷ [] ≡ 375_000 ∷ 1_125_899_906_842_624 ∷ 8_000 ∷ []
unfolding micros_of thousandths_of index mul round whole
clocks = refl

-- of 375,000 microseconds, 250,000 is two thirds; the end is the last column; with no time all is the first
pub columns : column_of 0 375_000 ∷ column_of 250_000 375_000 ∷ column_of 375_000 375_000 ∷ column_of 400_000 375_000 ∷ column_of 5 0 ∷ [] ≡ 0 ∷ 933 ∷ 1_400 ∷ 1_400 ∷ 0 ∷ []
unfolding column_of
columns = refl

pub stretches : breadth_of 0 250_000 375_000 ∷ breadth_of 7 8 375_000 ∷ [] ≡ 933 ∷ 1 ∷ []
unfolding breadth_of column_of
stretches = refl

pub times : later_by 5 7 ∷ between_at 100 200 1 4 ∷ between_at 100 200 3 0 ∷ between_at 100 200 3 65 ∷ between_at 200 100 1 4 ∷ [] ≡ 12 ∷ 125 ∷ 100 ∷ 100 ∷ 200 ∷ []
unfolding later_by between_at
times = refl

-- lanes of 16 in groups of 64
pub rows : map lane_of (0 ∷ 1 ∷ 63 ∷ 64 ∷ []) ≡ 210 ∷ 226 ∷ 1_218 ∷ 1_278 ∷ []
unfolding lane_of
rows = refl

pub below : lanes_end 0 ∷ lanes_end 1 ∷ wave_of 1 0 ∷ wave_of 1 2 ∷ [] ≡ 210 ∷ 226 ∷ 266 ∷ 446 ∷ []
unfolding lanes_end lane_of wave_of
below = refl

-- 1.0, 0.5, -0.75, 0.896484375, 2^23 and the NaN, in thousandths; 0.5 of 40 pixels, 2.0 cut to 40
pub peaks : map (λ b. scaled_of b 1_000) (0x3f80_0000 ∷ 0x3f00_0000 ∷ 0xbf40_0000 ∷ 0x3f65_8000 ∷ 0x4b00_0000 ∷ 0x7fc0_0000 ∷ 0 ∷ []) ≡ 1_000 ∷ 500 ∷ 750 ∷ 896 ∷ (2 ^ 64 - 1) ∷ (2 ^ 64 - 1) ∷ 0 ∷ []
unfolding scaled_of
peaks = refl

pub heights : height_of 0x3f00_0000 40 ∷ height_of 0x4000_0000 40 ∷ [] ≡ 20 ∷ 40 ∷ []
unfolding height_of scaled_of
heights = refl

-- half a second: 50 ms apart; six hours: half an hour; a year: 100 days
pub marks : step_of 500_000 ∷ step_of 21_600_000_000 ∷ step_of 31_536_000_000_000 ∷ [] ≡ 50_000 ∷ 1_800_000_000 ∷ 8_640_000_000_000 ∷ []
unfolding step_in
marks = refl

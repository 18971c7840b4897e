-- Document 01, "Curves": in f32, one rounding per operation, in the written order of `smooth5` and `sine_ease`. And the inverse of linear interpolation, in f64.
use Rattle.std.specs.Prelude.{Float}
use Rattle.std.specs.Float.Ieee.{of_bits, add, sub, mul, div}
use Rattle.floats.specs.Arithmetic.{◌-ᵈ◌, ◌÷ᵈ◌, ◌+ˢ◌, ◌-ˢ◌, ◌×ˢ◌, ◌÷ˢ◌, f32}

-- ((x * 6 - 15) * x + 10) * x * x * x
unfoldable pub smooth : Float → Float
unfolding of_bits add sub mul
smooth x = ((x ×ˢ f32 0x40c00000 -ˢ f32 0x41700000) ×ˢ x +ˢ f32 0x41200000) ×ˢ x ×ˢ x ×ˢ x

-- π, π/2, and 5ππ, which is multiplied in f64 and then narrowed (`specs.Constants` computes it)
abbrev pub π : Float
π = f32 0x40490fdb

abbrev pub π/2 : Float
π/2 = f32 0x3fc90fdb

abbrev pub 5ππ : Float
5ππ = f32 0x42456460

-- at y = x * (π/2): 16 * y * (π - y) / (5ππ - 4 * y * (π - y))
unfoldable pub sine_ease : Float → Float
unfolding of_bits sub mul div
sine_ease x =
    let y = x ×ˢ π/2 in
    f32 0x41800000 ×ˢ y ×ˢ (π -ˢ y) ÷ˢ (5ππ -ˢ f32 0x40800000 ×ˢ y ×ˢ (π -ˢ y))

-- (x - a) / (b - a)
unfoldable pub delerped : Float → Float → Float → Float
unfolding sub div
delerped a b x = (x -ᵈ a) ÷ᵈ (b -ᵈ a)

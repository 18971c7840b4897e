-- The two ends of a phase narrow((x - a) / (b - a)), for all floats with a < b: from b on it is not below 1, and up to a it is not above 0. Overflow, infinities, both zeros and values that no format holds are
-- included; where the phase is a NaN it is neither. What makes it so is one law, that rounding keeps the order of fractions (`lib.Ieee.Order.round_mono`): of the differences, of the quotient and of what it is
-- narrowed to. Assumes nothing.
use Rattle.std.specs.Prelude.{◌≡◌, ℕ, ◌+◌, ◌-◌, ◌*◌, ◌≤◌, Bool, true, false, ◌⊎◌}
use lib.Ieee.{Float, nan, inf, fin, up, down}

-- ---- the sign of what is rounded

-- no NaN, and of the sign s
abbrev pub Signed : Bool → Float → Type 0
Signed s nan = ⊥
Signed s (inf t) = t ≡ s
Signed s (fin t m e) = t ≡ s

-- ---- up to a: what is not above 0

-- a NaN, negative, or a zero
abbrev pub Low : Float → Type 0
Low nan = Unit {0}
Low (inf s) = s ≡ true
Low (fin s m e) = (s ≡ true) ⊎ (m ≡ 0)

-- ---- differences that grow

-- how far ±X lies above ±A, where it is not below it
abbrev pub gap : Bool → ℕ → Bool → ℕ → ℕ
gap false A false X = X - A
gap true A false X = X + A
gap true A true X = A - X
gap false A true X = 0

abbrev pub Above : Bool → ℕ → Bool → ℕ → Type 0
Above false A false X = A ≤ X
Above true A false X = Unit {0}
Above true A true X = X ≤ A
Above false A true X = ⊥

-- a NaN, or at least 1
abbrev pub High : Float → Type 0
High nan = Unit {0}
High (inf s) = s ≡ false
High (fin s m e) = (s ≡ false) × (down e ≤ m * up e)

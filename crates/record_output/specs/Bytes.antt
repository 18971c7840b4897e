-- Samples as bytes (crate little_endian), channel after channel. Assumes nothing.
use Rattle.std.specs.Prelude.{◌≡◌, List, [], ◌++◌, ℕ, zero, suc, ◌*◌, ◌≤◌, Float, length, take, drop}
use Rattle.std.proofs.Common.{ap, ◌∙◌, arith, length-append, length-drop, length-take-le}
unfoldable pub use Rattle.little_endian.specs.Samples.{bytes_of}
pub use Rattle.little_endian.specs.Samples.{length_bytes, bytes_append}

-- the first n samples of each of c channels; the channels begin w places apart
unfoldable pub channels_of : (c n w : ℕ) → List Float → List Float
channels_of zero n w out = []
channels_of (suc c) n w out = take n out ++ channels_of c n w (drop w out)

-- ---- laws
pub length_channels : (c n w : ℕ) (out : List Float) → n ≤ w → c * w ≤ length out → length (channels_of c n w out) ≡ c * n
unfolding channels_of
length_channels zero n w out p q = omega arith
length_channels (suc c) n w out p q =
    omega (
      arith,
      length-append (take n out) (channels_of c n w (drop w out)),
      length-take-le n out (omega arith),
      length_channels c n w (drop w out) p (omega (arith, length-drop w out)),
    )

pub length-sound : (c n w : ℕ) (out : List Float) → n ≤ w → c * w ≤ length out → length (bytes_of (channels_of c n w out)) ≡ 4 * (c * n)
length-sound c n w out p q = length_bytes (channels_of c n w out) ∙ ap (λ (k : ℕ). 4 * k) (length_channels c n w out p q)

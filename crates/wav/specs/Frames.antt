-- The data of a WAV: frame after frame, in each the sample of every channel. Assumes nothing.
use Rattle.std.specs.Prelude.{ℕ, zero, suc, ◌*◌, cond, List, [], ◌∷◌, ◌++◌, length, drop, nat_lt, slice_index_or, Float}
use Rattle.std.specs.Float.{nan}
use Rattle.little_endian.specs.Samples.{bytes_of}

-- the sample at place j of each of c channels; the channels begin w places apart
unfoldable pub frame_at : (c w : ℕ) → List Float → (j : ℕ) → List Float
frame_at zero w xs j = []
frame_at (suc c) w xs j = slice_index_or xs j nan ∷ frame_at c w (drop w xs) j

-- n frames, the first at place j
unfoldable pub frames_from : (c n w : ℕ) → List Float → (j : ℕ) → List Float
unfolding frame_at
frames_from c zero w xs j = []
frames_from c (suc n) w xs j = frame_at c w xs j ++ frames_from c n w xs (suc j)

-- the bytes of n frames; none where a channel is not all there
unfoldable pub data_bytes : (c n w : ℕ) → List Float → List ℕ
unfolding frames_from bytes_of
data_bytes c n w xs = cond (nat_lt w n) [] (cond (nat_lt (length xs) (c * w)) [] (bytes_of (frames_from c n w xs 0)))

-- What the data of a WAV is: by place, how long, and from the samples channel after channel, as crate render writes them and the plain ledger gives them. Assumes nothing.
use Rattle.std.specs.Prelude.{◌≡◌, ℕ, zero, suc, ◌+◌, ◌*◌, ◌<◌, ◌≤◌, List, [], ◌∷◌, ◌++◌, length, get_or, take, drop, slice_index_or, Float}
use Rattle.std.proofs.Math.Path.{refl, ap}
use Rattle.std.proofs.Common.{sym, ◌∙◌, arith, le-ltb, length-append, get_or-drop}
use Rattle.std.specs.Float.Ieee.{nan}
use Rattle.std.proofs.Math.ListN.{length-drop, get_or-append}
use Rattle.std.proofs.Math.Seq.{length-take-le, drop_at, get_or-take}
use Rattle.little_endian.specs.Samples.{bytes_of, length_bytes, bytes_append}
use Rattle.record_output.specs.Bytes.{channels_of}
use Rattle.wav.specs.Frames.{frame_at, frames_from, data_bytes}
use Rattle.wav.specs.Interleaved.{small}

-- ---- by place: in a frame, channel k's sample is that of place j of the channel, which begins at k * w
pub frame_place : (c w : ℕ) (xs : List Float) (j k : ℕ) → k < c → slice_index_or (frame_at c w xs j) k nan ≡ slice_index_or xs (k * w + j) nan
unfolding frame_at
frame_place zero w xs j k h = absurd (omega arith)
frame_place (suc c) w xs j zero h = let z : 0 * w + j ≡ j = omega arith in rw z
frame_place (suc c) w xs j (suc k) h =
    let z : suc k * w + j ≡ w + (k * w + j) = omega arith in
    frame_place c w (drop w xs) j k (omega arith) ∙ get_or-drop w xs (k * w + j) nan ∙ ap (λ (n : ℕ). get_or xs n nan) (sym z)

-- ---- how long it is: four bytes a sample
pub length_frame : (c w : ℕ) (xs : List Float) (j : ℕ) → length (frame_at c w xs j) ≡ c
unfolding frame_at
length_frame zero w xs j = refl
length_frame (suc c) w xs j = ap suc (length_frame c w (drop w xs) j)

pub frame_long : (c w : ℕ) (xs : List Float) (j : ℕ) → length (bytes_of (frame_at c w xs j)) ≡ 4 * c
frame_long c w xs j = length_bytes (frame_at c w xs j) ∙ ap (λ (k : ℕ). 4 * k) (length_frame c w xs j)

pub frames_long : (c n w : ℕ) (xs : List Float) (j : ℕ) → length (bytes_of (frames_from c n w xs j)) ≡ 4 * (c * n)
unfolding frames_from bytes_of
frames_long c zero w xs j = omega arith
frames_long c (suc n) w xs j =
    ap length (bytes_append (frame_at c w xs j) (frames_from c n w xs (suc j)))
    ∙ omega (arith, length-append (bytes_of (frame_at c w xs j)) (bytes_of (frames_from c n w xs (suc j))), frame_long c w xs j, frames_long c n w xs (suc j))

-- ---- from the samples channel after channel
module _ (n w : ℕ) (wide : n ≤ w) where
  pub frame_of_channels : (c : ℕ) (out : List Float) (j : ℕ) → j < n → c * w ≤ length out → frame_at c n (channels_of c n w out) j ≡ frame_at c w out j
  unfolding frame_at channels_of
  frame_of_channels zero out j h g = refl
  frame_of_channels (suc c) out j h g =
      let row = take n out in
      let rest = channels_of c n w (drop w out) in
      let long : length row ≡ n = length-take-le n out (omega arith) in
      let first : get_or (row ++ rest) j nan ≡ get_or out j nan = get_or-append row rest nan j (omega arith) ∙ get_or-take n out j nan h in
      let below : drop n (row ++ rest) ≡ rest = drop_at row rest n long in
      let more = frame_of_channels c (drop w out) j h (omega (arith, length-drop w out)) in
      (λ i. first i ∷ frame_at c n (below i) j) ∙ ap (λ (l : List Float). slice_index_or out j nan ∷ l) more

  frames_of_channels : (c m : ℕ) (out : List Float) (j : ℕ) → j + m ≤ n → c * w ≤ length out → frames_from c m n (channels_of c n w out) j ≡ frames_from c m w out j
  unfolding frames_from
  frames_of_channels c zero out j h g = refl
  frames_of_channels c (suc m) out j h g =
      (λ i. frame_of_channels c out j (omega arith) g i ++ frames_of_channels c m out (suc j) (omega arith) g i)

-- the data of n samples of each of c channels are these samples, channel after channel, interleaved: whatever `samples` they are, the plain ledger's (render: `Followed`, `samples`) among them
pub interleaved : (c n w : ℕ) (out samples : List Float) → n ≤ w → c * w ≤ length out → channels_of c n w out ≡ samples → data_bytes c n w out ≡ bytes_of (frames_from c n n samples 0)
unfolding data_bytes
interleaved c n w out samples wide there e =
    rw (le-ltb w n wide, le-ltb (length out) (c * w) there)
    (ap bytes_of (sym (frames_of_channels n w wide c n out 0 (omega arith) there) ∙ ap (λ (l : List Float). frames_from c n n l 0) e))

pub two_channels : frames_from 2 2 3 (small 1 ∷ small 2 ∷ nan ∷ small 3 ∷ small 4 ∷ nan ∷ []) 0 ≡ small 1 ∷ small 3 ∷ small 2 ∷ small 4 ∷ []
unfolding frames_from frame_at
two_channels = refl

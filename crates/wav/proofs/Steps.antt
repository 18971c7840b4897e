-- One turn of each loop that puts frames. Assumes nothing.
use Rattle.std.proofs.Common.{◌≡◌, ℕ, zero, suc, ◌+◌, ◌-◌, ◌*◌, ◌/◌, ◌%◌, ◌<◌, ◌≤◌, max, Bool, true, false, cond, ltb, List, [], ◌++◌, map, length, get_or, drop, sym, refl, ap, ◌∙◌, subst, mul-le-mul_right, div-lt_iff_lt-mul, div-add-mod', arith, drop_of_length-le, get_or-drop, drop-cons, drop-drop, le-ltb, lt-ltb}
use lib.Ieee.{Float, nan, binary32, to_bits}
use lib.Seq.{sets}
use Rattle.listing.specs.Pieces.{text, add}
use Rattle.listing.specs.Putting.{Putting, begin, further, ended, same-long, left_is, place_is, put, put_length, put_front, put-none}
use Rattle.little_endian.specs.Samples.{sample_bytes, bytes_of, length_sample, bytes_append, put_there}
use Rattle.peak.specs.Peaks.{magnitude, greatest}
use Rattle.wav.specs.Frames.{frame_at, frames_from, data_bytes}
use Rattle.wav.proofs.Interleaved.{frame_long, frames_long}

-- room for n runs of s is room for one and for n - 1 behind it
one_less : (n at s len : ℕ) → 0 < n → at + n * s ≤ len → at + s + (n - 1) * s ≤ len
one_less zero at s len h l = absurd (omega arith)
one_less (suc n) at s len h l = let e : n ≡ suc n - 1 = omega arith in subst (λ (j : ℕ). at + s + j * s ≤ len) e (omega arith)

-- ---- a frame
frame_step : (c w : ℕ) (xs : List Float) (j : ℕ) → 0 < c → bytes_of (frame_at c w xs j) ≡ sample_bytes (get_or xs j nan) ++ bytes_of (frame_at (c - 1) w (drop w xs) j)
unfolding frame_at bytes_of
frame_step zero w xs j h = absurd (omega arith)
frame_step (suc c) w xs j h = let e : c ≡ suc c - 1 = omega arith in ap (λ (k : ℕ). sample_bytes (get_or xs j nan) ++ bytes_of (frame_at k w (drop w xs) j)) e

module _ (xs : List Float) (channels stride place : ℕ) (out₀ : List ℕ) (at : ℕ) where
  -- the samples of `left` channels, the first of which begins at `from`, are still to be put from `to` on
  pub record Channels (out : List ℕ) (from to left : ℕ) : Type 0 where
    pub put : Putting out₀ at (bytes_of (frame_at channels stride xs place)) out (bytes_of (frame_at left stride (drop from xs) place)) to
    pub inside : place < stride
    pub given : from + left * stride ≤ length xs
    pub room : to + 4 * left ≤ length out₀

  pub start : place < stride → channels * stride ≤ length xs → at + 4 * channels ≤ length out₀ → Channels out₀ 0 at channels
  start h g r = record { put = begin _ _ _; inside = h; given = omega arith; room = r }

  pub next_given : {out : List ℕ} {from to left : ℕ} → Channels out from to left → 0 < left → from + stride ≤ length xs
  next_given {out} {from} {to} {left} c h = let p = one_less left from stride (length xs) h c.given in omega arith

  pub turn : {out : List ℕ} {from to left : ℕ} → Channels out from to left → 0 < left
      → (out' : List ℕ) (to' : ℕ) → text out' to' ≡ add (sample_bytes (get_or xs (from + place) nan)) (text out to) → Channels out' (from + stride) to' (left - 1)
  turn {out} {from} {to} {left} c h out' to' e =
      let sample = sample_bytes (get_or xs (from + place) nan) in
      let rest = bytes_of (frame_at (left - 1) stride (drop (from + stride) xs) place) in
      let s : bytes_of (frame_at left stride (drop from xs) place) ≡ sample ++ rest =
      frame_step left stride (drop from xs) place h
      ∙ ap (λ (x : Float). sample_bytes x ++ bytes_of (frame_at (left - 1) stride (drop stride (drop from xs)) place)) (get_or-drop from xs place nan)
      ∙ ap (λ (l : List Float). sample ++ bytes_of (frame_at (left - 1) stride l place)) (drop-drop stride from xs) in
      let n = length_sample (get_or xs (from + place) nan) in
      let l = same-long c.put in
      let r = c.room in
      let p = put_there sample out out' to to' e (omega arith) in
      let q = p.1 in
      record {
        put = place_is (further sample rest (left_is c.put s) out' p.0) (sym q);
        inside = c.inside;
        given = one_less left from stride (length xs) h c.given;
        room = omega arith;
      }

  -- by the count of the channels that are put
  pub first_channel : place < stride → channels * stride ≤ length xs → at + 4 * channels ≤ length out₀ → Channels out₀ (0 * stride) at (channels - 0)
  first_channel h g r =
      let e : 0 ≡ 0 * stride = omega arith in
      let z : channels ≡ channels - 0 = omega arith in
      subst (λ (f : ℕ). Channels out₀ f at (channels - 0)) e (subst (Channels out₀ 0 at) z (start h g r))

  pub next_channel : {out : List ℕ} {to k : ℕ} → Channels out (k * stride) to (channels - k) → k < channels
      → (out' : List ℕ) (to' : ℕ) → text out' to' ≡ add (sample_bytes (get_or xs (k * stride + place) nan)) (text out to) → Channels out' ((k + 1) * stride) to' (channels - (k + 1))
  next_channel {out} {to} {k} c h out' to' e =
      let f : k * stride + stride ≡ (k + 1) * stride = omega arith in
      let z : channels - k - 1 ≡ channels - (k + 1) = omega arith in
      let some : 0 < channels - k = omega arith in
      subst (λ (n : ℕ). Channels out' n to' (channels - (k + 1))) f (subst (Channels out' (k * stride + stride) to') z (turn c some out' to' e))

  pub finish : {out : List ℕ} {from to left : ℕ} → Channels out from to left → left ≤ 0 → out ≡ sets out₀ at (bytes_of (frame_at channels stride xs place))
  unfolding bytes_of frame_at
  finish {out} {from} {to} {left} c h = let z : left ≡ 0 = omega arith in ended (left_is c.put (ap (λ (k : ℕ). bytes_of (frame_at k stride (drop from xs) place)) z))

  pub last_channel : {out : List ℕ} {from to k : ℕ} → Channels out from to (channels - k) → channels ≤ k → out ≡ sets out₀ at (bytes_of (frame_at channels stride xs place))
  last_channel c h = finish c (omega arith)

-- ---- all frames
frames_step : (c n w : ℕ) (xs : List Float) (j : ℕ) → j < n → bytes_of (frames_from c (n - j) w xs j) ≡ bytes_of (frame_at c w xs j) ++ bytes_of (frames_from c (n - (j + 1)) w xs (j + 1))
unfolding frames_from
frames_step c n w xs j h =
    let q : n - j ≡ suc (n - (j + 1)) = omega arith in
    let p : j + 1 ≡ suc j = omega arith in
    ap (λ (k : ℕ). bytes_of (frames_from c k w xs j)) q
    ∙ bytes_append (frame_at c w xs j) (frames_from c (n - (j + 1)) w xs (suc j))
    ∙ ap (λ (k : ℕ). bytes_of (frame_at c w xs j) ++ bytes_of (frames_from c (n - (j + 1)) w xs k)) (sym p)

module _ (xs : List Float) (channels each stride : ℕ) (out₀ : List ℕ) where
  -- the frames from `place` on are still to be put from `at` on
  pub record Frames (out : List ℕ) (at place : ℕ) : Type 0 where
    pub put : Putting out₀ 0 (bytes_of (frames_from channels each stride xs 0)) out (bytes_of (frames_from channels (each - place) stride xs place)) at
    pub inside : each ≤ stride
    pub given : channels * stride ≤ length xs
    pub room : at + 4 * (channels * (each - place)) ≤ length out₀

  pub first_frame : each ≤ stride → channels * stride ≤ length xs → 4 * (channels * each) ≤ length out₀ → Frames out₀ 0 0
  first_frame h g r =
      let z : each ≡ each - 0 = omega arith in
      record {
        put = left_is (begin _ _ _) (ap (λ (k : ℕ). bytes_of (frames_from channels k stride xs 0)) z);
        inside = h;
        given = g;
        room = subst (λ (k : ℕ). 0 + 4 * (channels * k) ≤ length out₀) z (omega arith);
      }

  -- the room of what is left is that of a frame and of the rest
  next-room : (at place : ℕ) → place < each → at + 4 * (channels * (each - place)) ≤ length out₀ → at + 4 * channels + 4 * (channels * (each - (place + 1))) ≤ length out₀
  next-room at place h r =
      let q : each - place ≡ suc (each - (place + 1)) = omega arith in
      let s : at + 4 * (channels * suc (each - (place + 1))) ≤ length out₀ = subst (λ (k : ℕ). at + 4 * (channels * k) ≤ length out₀) q r in
      omega arith

  pub fits_frame : {out : List ℕ} {at place : ℕ} → Frames out at place → place < each → at + 4 * channels ≤ length out
  fits_frame {out} {at} {place} f h =
      let r = next-room at place h f.room in
      let s = same-long f.put in
      omega arith

  pub next_frame : {out : List ℕ} {at place : ℕ} → Frames out at place → place < each → (out' : List ℕ) → out' ≡ sets out at (bytes_of (frame_at channels stride xs place)) → Frames out' (at + 4 * channels) (place + 1)
  next_frame {out} {at} {place} f h out' e = record {
    put =
        place_is (further (bytes_of (frame_at channels stride xs place)) _ (left_is f.put (frames_step channels each stride xs place h)) out' e)
        (ap (λ (j : ℕ). at + j) (frame_long channels stride xs place));
    inside = f.inside;
    given = f.given;
    room = next-room at place h f.room;
  }

  pub last_frame : {out : List ℕ} {at place : ℕ} → Frames out at place → each ≤ place → out ≡ sets out₀ 0 (bytes_of (frames_from channels each stride xs 0))
  unfolding bytes_of frames_from
  last_frame {out} {at} {place} f h = let z : each - place ≡ 0 = omega arith in ended (left_is f.put (ap (λ (k : ℕ). bytes_of (frames_from channels k stride xs place)) z))

-- ---- what `put_frames` answers, and the output after it

-- a quotient that is large enough, or too small
fits_in : (a b n : ℕ) → b ≤ n / a → b * a ≤ n
fits_in a b n h =
    let m = mul-le-mul_right a h in
    let d = div-add-mod' n a in
    omega arith

pub product-fits : (n c out : ℕ) → c ≤ out / 4 / n → 4 * (c * n) ≤ out
product-fits n c out h = let p = fits_in n c (out / 4) h in omega arith

pub channels_fit : (w c len : ℕ) → c ≤ len / w → c * w ≤ len
channels_fit w c len h = fits_in w c len h

beyond : (a b n : ℕ) → 0 < a → n / a < b → n < b * a
beyond a b n p h = (div-lt_iff_lt-mul p).0 h

module _ (c n w : ℕ) (xs : List Float) (out : List ℕ) where
  abbrev pub Result : ℕ → List ℕ → Type 0
  Result r now = (r ≡ put_length (data_bytes c n w xs) out) × (now ≡ put (data_bytes c n w xs) out)

  nothing : data_bytes c n w xs ≡ [] → Result 0 out
  unfolding put put_length
  nothing e = let z = le-ltb (length out) 0 (omega arith) in (rw (e, z), rw (e, z))

  pub no_frames : n ≡ 0 → Result 0 out
  unfolding data_bytes frames_from bytes_of
  no_frames e = nothing (go (ltb w n) (ltb (length xs) (c * w)))
    where
      go : (p q : Bool) → cond p [] (cond q [] (bytes_of (frames_from c n w xs 0))) ≡ []
      go true q = refl
      go false true = refl
      go false false = rw e

  pub too_narrow : w < n → Result 0 out
  unfolding data_bytes
  too_narrow h = nothing (rw (lt-ltb w n h))

  module _ (some : (n ≡ 0) → ⊥) (wide : n ≤ w) where
    pub too_short : length xs / w < c → Result 0 out
    unfolding data_bytes
    too_short h = nothing (rw (le-ltb w n wide, lt-ltb (length xs) (c * w) (beyond w c (length xs) (omega (arith, some)) h)))

    module _ (there : c ≤ length xs / w) where
      all_there : data_bytes c n w xs ≡ bytes_of (frames_from c n w xs 0)
      unfolding data_bytes
      all_there = rw (le-ltb w n wide, le-ltb (length xs) (c * w) (channels_fit w c (length xs) there))

      all-long : length (data_bytes c n w xs) ≡ 4 * (c * n)
      all-long = ap length all_there ∙ frames_long c n w xs 0

      pub no_room : length out / 4 / n < c → Result 0 out
      no_room h =
          let p : length out / 4 < c * n = beyond n c (length out / 4) (omega (arith, some)) h in
          let l = all-long in
          let r = put-none out (data_bytes c n w xs) (omega arith) in
          (r.1, r.0)

      pub all-put : c ≤ length out / 4 / n → (now : List ℕ) → now ≡ sets out 0 (bytes_of (frames_from c n w xs 0)) → Result (4 * (c * n)) now
      all-put h now e =
          let p = product-fits n c (length out) h in
          let l = all-long in
          let r = put_front out (data_bytes c n w xs) now (e ∙ ap (sets out 0) (sym all_there)) (omega arith) in
          (sym l ∙ r.1, r.0)

-- ---- the loudest sample
pub loudest_on : (xs : List Float) (i most before bits : ℕ) → i < length xs → max most (greatest (map magnitude (drop i xs))) ≡ before → bits ≡ to_bits binary32 (get_or xs i nan)
    → max (max most (bits % 2147483648)) (greatest (map magnitude (drop (i + 1) xs))) ≡ before
unfolding greatest magnitude
loudest_on xs i most before bits h e b =
    let g = greatest (map magnitude (drop (i + 1) xs)) in
    let p : i + 1 ≡ suc i = omega arith in
    let s : greatest (map magnitude (drop i xs)) ≡ max (to_bits binary32 (get_or xs i nan) % 2147483648) g = rw (drop-cons xs i nan h, p) in
    let t : bits % 2147483648 ≡ to_bits binary32 (get_or xs i nan) % 2147483648 = ap (λ (k : ℕ). k % 2147483648) b in
    omega arith

pub loudest_end : (xs : List Float) (i most before : ℕ) → length xs ≤ i → max most (greatest (map magnitude (drop i xs))) ≡ before → most ≡ before
unfolding greatest
loudest_end xs i most before h e =
    let s : greatest (map magnitude (drop i xs)) ≡ 0 = rw (drop_of_length-le xs h) in
    omega arith

-- Document 01, "Tick samples" and "Block samples", with document 02's Paper 3: the fades. Samples are bits, as the Rust's listing prints them for these calls (oracle-trail). Assumes nothing.
use Rattle.std.specs.Prelude.{ℕ, ◌≡◌, refl, false, List, [], ◌∷◌, ◌++◌, pos, negsuc, take, drop, replicate, Float}
use Rattle.std.specs.Float.{fin}
use Rattle.std.specs.Float.Ieee.{neg, to_bits}
use Rattle.floats.specs.Arithmetic.{zeroᶠ, oneᶠ, halfᶠ, -∞, whole}
use Rattle.floats.specs.Constants.{+∞}
use Rattle.event.specs.declared.Fade.TheVariants.{Power, Smooth}
use Rattle.event.specs.declared.ReplayMode.TheVariants.{All}
use Rattle.event.specs.declared.Source.TheVariants.{Held, Ramp}
use Rattle.ledger.specs.Calls.{Call, push, edit, rate, absolute, absolute_end}
use Rattle.ledger.specs.Ledger.{fresh}
use Rattle.ledger.specs.Steps.{run, with_lists}
use Rattle.ledger.specs.Computes.{computes}
use Rattle.ledger.specs.Cases.{held1, decimal, one_tick, block_of, outs_of, last_out, bits, replies_at}

-- the samples of n ticks after a push, and those of a block of n, at rate r
unfoldable pub ticks_at : (r : Float) → (n : ℕ) → Call → List ℕ
unfolding replies_at to_bits
ticks_at r n c = bits (outs_of (replies_at r (c ∷ replicate n one_tick)))

unfoldable pub block_at : (r : Float) → (n : ℕ) → Call → List ℕ
unfolding replies_at to_bits
block_at r n c = bits (take n (last_out (replies_at r (c ∷ block_of n ∷ []))))

-- ---- ticks

-- "multiplied by the curve at narrow((t - start) / ((start + fade-in) - start)) if fade-in > 0 and that phase < 1": smooth5 at 0, 0.25, 0.5, 0.75 (case 1), then 1 and on.
pub tick_fade_in : ticks_at (whole 8) 6 (held1 zeroᶠ +∞ halfᶠ zeroᶠ) ≡ 0 ∷ 0x3dd40000 ∷ 0x3f000000 ∷ 0x3f658000 ∷ 0x3f800000 ∷ 0x3f800000 ∷ []
unfolding ticks_at whole
tick_fade_in = refl

-- "then by the curve at 1 - phase for fade-out > 0 and phase > 0": 1 up to t = 0.5, smooth5 at 0.75, 0.5, 0.25, and the end.
pub tick_fade_out : drop 3 (ticks_at (whole 8) 9 (held1 zeroᶠ oneᶠ zeroᶠ halfᶠ)) ≡ 0x3f800000 ∷ 0x3f800000 ∷ 0x3f658000 ∷ 0x3f000000 ∷ 0x3dd40000 ∷ 0 ∷ []
unfolding ticks_at whole
tick_fade_out = refl

-- The power curve, both fades and a level of 3, at times that are no binary fractions.
pub tick_fades : ticks_at (whole 10) 5 (push absolute zeroᶠ (decimal 4 1) (decimal 25 2) (decimal 15 2) Power (Held (fin false 3 (pos 0))) oneᶠ) ≡ 0 ∷ 0x3fe177c8 ∷ 0x40367ebd ∷ 0x40260dd6 ∷ 0 ∷ []
unfolding ticks_at whole decimal
tick_fades = refl

-- "that phase < 1", "phase > 0": at phase 1 in and phase 0 out nothing is multiplied; the power curve at 1 is 3F800001. At t = 0.5.
pub tick_fade_edges : drop 4 (ticks_at (whole 8) 5 (push absolute zeroᶠ oneᶠ halfᶠ halfᶠ Power (Held oneᶠ) oneᶠ)) ≡ 0x3f800000 ∷ []
unfolding ticks_at whole
tick_fade_edges = refl

-- A negative fade fades nothing (DECISIONS, 2).
pub tick_negative_fades : (ticks_at (whole 8) 2 (held1 zeroᶠ oneᶠ (neg oneᶠ) zeroᶠ) ≡ 0x3f800000 ∷ 0x3f800000 ∷ []) × (ticks_at (whole 8) 2 (held1 zeroᶠ oneᶠ zeroᶠ (neg oneᶠ)) ≡ 0x3f800000 ∷ 0x3f800000 ∷ [])
unfolding ticks_at whole neg
tick_negative_fades = (refl, refl)

-- "is multiplied by the curve .., then by the curve at 1 - phase": (0.12 × a) × b is not (0.12 × b) × a in f32; in a block likewise. The bits of the level are 3DF5C28F.
abbrev twice-faded : Call
twice-faded = push absolute zeroᶠ oneᶠ oneᶠ oneᶠ Smooth (Held (fin false 16_106_127 (negsuc 26))) oneᶠ

pub fade_in_first : (ticks_at (whole 8) 3 twice-faded ≡ 0 ∷ 0x3af86d58 ∷ 0x3c3673d6 ∷ []) × (block_at (whole 8) 8 twice-faded ≡ 0 ∷ 0x3af86d58 ∷ 0x3c3673d6 ∷ 0x3cc415da ∷ 0x3cf5c28f ∷ 0x3cc415da ∷ 0x3c3673d7 ∷ 0x3af86d57 ∷ [])
unfolding ticks_at block_at whole
fade_in_first = (refl, refl)

-- ---- blocks

-- Paper 3, "a fade belongs to the clip". Case 6 of document 01: of a clip that begins at place 8 the fade_in covers four places, and no more.
pub late-fade_in : drop 7 (block_at (whole 8) 16 (held1 oneᶠ +∞ halfᶠ zeroᶠ)) ≡ 0 ∷ 0 ∷ 0x3dd40000 ∷ 0x3f000000 ∷ 0x3f658000 ∷ replicate 4 0x3f800000
unfolding block_at whole
late-fade_in = refl

-- "The fade-out begins at block place max(its place, s) .. and touches scratch from there minus s": a clip from place 2 on, whose fade_out begins at place 4.
pub late-fade_out : drop 1 (block_at (whole 8) 8 (held1 (fin false 1 (negsuc 1)) oneᶠ zeroᶠ halfᶠ)) ≡ 0 ∷ 0x3f800000 ∷ 0x3f800000 ∷ 0x3f800000 ∷ 0x3f658000 ∷ 0x3f000000 ∷ 0x3dd40000 ∷ []
unfolding block_at whole
late-fade_out = refl

-- "with the phase of that place": stored edits make fade-outs that begin between clock and start, and before the clock. The clip begins at place 4.
unfoldable pub edited_out : (fade_out : Float) → List ℕ
unfolding replies_at to_bits whole
edited_out x = bits (take 8 (last_out (replies_at (whole 8) (held1 halfᶠ oneᶠ zeroᶠ zeroᶠ ∷ edit absolute_end 1 oneᶠ x ∷ block_of 8 ∷ []))))

pub raised-fade_out :
    (edited_out (fin false 7 (negsuc 2)) ≡ replicate 4 0 ++ (0x3f21d275 ∷ 0x3ebc5b14 ∷ 0x3e142ca7 ∷ 0x3cbe9460 ∷ []))
    × (edited_out (whole 2) ≡ replicate 4 0 ++ (0x3dd40000 ∷ 0x3d47c200 ∷ 0x3c838000 ∷ 0x3b116000 ∷ []))
unfolding edited_out whole
raised-fade_out = (refl, refl)

-- s is by × r and places by ÷ d. A fade-out over a whole clip begins one place after s (0.5 - 2 ^ -54 at rate 7: s is 3, and place 4 that of 0.5), or one before it, and is raised (0.3 at rate 5: s is 2, its place 1).
abbrev near_half : Float
near_half = fin false 9_007_199_254_740_991 (negsuc 53)

pub fade_out_beside_s :
    (block_at (whole 7) 8 (held1 near_half oneᶠ zeroᶠ halfᶠ) ≡ replicate 3 0 ++ (0x3f800000 ∷ 0x3f7a0b56 ∷ 0x3f21d275 ∷ 0x3e142ca7 ∷ 0 ∷ []))
    × (block_at (whole 5) 8 (held1 (decimal 3 1) (decimal 13 1) zeroᶠ oneᶠ) ≡ 0 ∷ 0 ∷ 0x3f7dcefc ∷ 0x3f564064 ∷ 0x3f000000 ∷ 0x3e26fe72 ∷ 0x3c0c3f44 ∷ 0 ∷ [])
unfolding block_at whole decimal
fade_out_beside_s = (refl, refl)

-- A fade through three blocks of 4, 8 and 4: its phase is taken anew at each block's beginning.
unfoldable pub three_blocks : List ℕ
unfolding replies_at whole to_bits
three_blocks = bits (outs_of (replies_at (whole 8) (held1 zeroᶠ (fin false 1 (pos 1)) oneᶠ (fin false 3 (negsuc 1)) ∷ block_of 4 ∷ block_of 8 ∷ block_of 4 ∷ [])))

pub fades_through_blocks : take 8 (drop 64 three_blocks) ++ take 4 (drop 128 three_blocks)
    ≡ 0x3f000000 ∷ 0x3f398c00 ∷ 0x3f658000 ∷ 0x3f7be400 ∷ 0x3f800000 ∷ 0x3f800000 ∷ 0x3f800000 ∷ 0x3f76e9e2 ∷ 0x3f4a4587 ∷ 0x3f000000 ∷ 0x3e56e9de ∷ 0x3d1161f4 ∷ []
unfolding three_blocks
fades_through_blocks = refl

-- A ramp from the middle of a block on, power fades and no binary fractions: two blocks of 12 from t = 0.1 on, at rate 10.
unfoldable pub anywhere : List Call → List ℕ
unfolding replies_at to_bits whole decimal
anywhere cs = bits (take 12 (last_out (replies_at (whole 10) (one_tick ∷ push absolute (fin false 1 (negsuc 1)) (decimal 193 2) (decimal 31 2) (decimal 77 2) Power (Ramp oneᶠ (fin false 5_033_165 (negsuc 23))) oneᶠ ∷ cs))))

pub block-anywhere :
    (anywhere (block_of 12 ∷ []) ≡ 0 ∷ 0 ∷ 0x3e8121fc ∷ 0x3f64e6c6 ∷ 0x3fc34c89 ∷ 0x3ff33332 ∷ 0x400ccccc ∷ 0x401fffff ∷ 0x40333332 ∷ 0x40466665 ∷ 0x40599998 ∷ 0x406c0073 ∷ [])
    × (anywhere (block_of 12 ∷ block_of 12 ∷ []) ≡ 0x40758217 ∷ 0x407292ae ∷ 0x4061fc04 ∷ 0x404342ab ∷ 0x40169ad4 ∷ 0x3fb997fb ∷ replicate 6 0)
unfolding anywhere
block-anywhere = (refl, refl)

-- The step is narrow(d / fade), not 1 / (r × fade): fades of about 0.31527629, where the two round apart, at rate 10.
abbrev fade : Float
fade = fin false 2_839_756_406_802_823 (negsuc 52)

pub step_by_duration : (take 3 (block_at (whole 10) 8 (held1 zeroᶠ +∞ fade zeroᶠ)) ≡ 0 ∷ 0x3e3f04eb ∷ 0x3f3d7506 ∷ []) × (take 3 (block_at (whole 10) 8 (held1 zeroᶠ fade zeroᶠ fade)) ≡ 0x3f800000 ∷ 0x3f503ec3 ∷ 0x3e8515f6 ∷ [])
unfolding block_at whole
step_by_duration = (refl, refl)

-- A fade-out's place is (x - t) / d, not (x - t) × r: 0.3 - 0.15 is place 1 by the first and place 2 by the second.
pub fade_out_by_duration : take 3 (block_at (whole 10) 8 (held1 zeroᶠ (decimal 3 1) zeroᶠ (decimal 15 2))) ≡ 0x3f800000 ∷ 0x3fca457c ∷ 0x3f4a4587 ∷ []
unfolding block_at whole decimal
fade_out_by_duration = refl

-- The phase at place s is that of t + s × d, not of t + s / r nor of the start: 3 × 0.1 is above 0.3.
pub phase_by_duration : take 5 (block_at (whole 10) 8 (push absolute (decimal 3 1) +∞ (decimal 2 1) zeroᶠ Power (Held oneᶠ) oneᶠ)) ≡ 0 ∷ 0 ∷ 0 ∷ 0x26000001 ∷ 0x3f34b4b5 ∷ []
unfolding block_at whole decimal
phase_by_duration = refl

-- A negative fade-in of which start + fade-in lies in the block.
pub block-negative-fade : drop 3 (block_at (whole 8) 8 (held1 halfᶠ +∞ (neg (fin false 1 (negsuc 1))) zeroᶠ)) ≡ 0 ∷ replicate 4 0x3f800000
unfolding block_at whole neg
block-negative-fade = refl

-- ---- "(start + fade-in) - start" and "end - (end - fade-out)" are not the fades where these are short beside the clock: 1,024 s at rate 2 ^ 19 (by 8,388,608 blocks of 64), fades of 3.53 and 2.73 samples, end 5 samples on. A block's step is by the fade itself.

unfoldable pub late : List Call → List ℕ
unfolding computes to_bits
late cs =
    let l = (run (rate (whole 524_288) ∷ []) (fresh 1 All 1)).ledger in
    bits (outs_of (run cs (with_lists l [] [] [] [] (whole 1_024) -∞ [])).replies)

abbrev rising : (start : Float) → Call
rising start = held1 start +∞ (fin false 1_988_030_121_498_901 (negsuc 67)) zeroᶠ

abbrev falling : Call
falling = held1 (fin false 1 (pos 10)) (fin false 536_870_917 (negsuc 18)) zeroᶠ (fin false 3_071_098_452_051_307 (negsuc 68))

pub late_tick_fades : (late (rising (fin false 1 (pos 10)) ∷ replicate 3 one_tick) ≡ 0 ∷ 0x3e10efad ∷ 0x3f1f78a2 ∷ []) × (late (falling ∷ replicate 6 one_tick) ≡ 0x3f800000 ∷ 0x3f800000 ∷ 0x3f800000 ∷ 0x3f60c4ec ∷ 0x3e85e49b ∷ 0 ∷ [])
unfolding late
late_tick_fades = (refl, refl)

-- the second starts one sample before the block
pub late-block_fades :
    (take 4 (late (rising (fin false 1 (pos 10)) ∷ block_of 4 ∷ [])) ≡ 0 ∷ 0x3e10efab ∷ 0x3f1f78a2 ∷ 0x3f79203a ∷ [])
    × (take 4 (late (rising (fin false 536_870_911 (negsuc 18)) ∷ block_of 4 ∷ [])) ≡ 0x3e10efad ∷ 0x3f1f78a2 ∷ 0x3f792041 ∷ 0x3f800000 ∷ [])
    × (take 6 (late (falling ∷ block_of 8 ∷ [])) ≡ 0x3f800000 ∷ 0x3f800000 ∷ 0x3f8178ce ∷ 0x3f60c4ea ∷ 0x3e85e498 ∷ 0 ∷ [])
unfolding late
late-block_fades = (refl, refl, refl)

-- Where start + fade-in is the start, the width is 0. In a tick the phase is then a NaN and does not fade. Fade-in 2 ^ -60, start 1, at rate 8.
abbrev tiny : Float
tiny = fin false 1 (negsuc 59)

pub vanishing_tick : last_out (replies_at (whole 8) (held1 oneᶠ +∞ tiny zeroᶠ ∷ block_of 8 ∷ one_tick ∷ [])) ≡ oneᶠ ∷ []
unfolding replies_at whole
vanishing_tick = refl

-- In a block it covers the places from s below its end place, and its phase there is infinite (DECISIONS, 5): none at rate 8; one at rate 6, where 0.25 - 2 ^ -55 has s = 1 and place 2; none if that is negative (0.3 at rate 5: s = 2, place 1).
abbrev near_quarter : Float
near_quarter = fin false 9_007_199_254_740_991 (negsuc 54)

pub vanishing_fade_in :
    (drop 7 (block_at (whole 8) 16 (held1 oneᶠ +∞ tiny zeroᶠ)) ≡ 0 ∷ replicate 8 0x3f800000)
    × (block_at (whole 6) 4 (held1 near_quarter +∞ tiny zeroᶠ) ≡ 0 ∷ 0xff800000 ∷ 0x3f800000 ∷ 0x3f800000 ∷ [])
    × (block_at (whole 5) 4 (held1 (decimal 3 1) +∞ tiny zeroᶠ) ≡ 0 ∷ 0 ∷ 0x3f800000 ∷ 0x3f800000 ∷ [])
unfolding block_at whole decimal
vanishing_fade_in = (refl, refl, refl)

-- The fade-out likewise: 0.15 at rate 10 has z = 2 and place 1; one that begins after z (0.25 - 2 ^ -55 at rate 6: z = 1, place 2) fades nothing.
pub vanishing_fade_out :
    (block_at (whole 10) 4 (held1 zeroᶠ (decimal 15 2) zeroᶠ tiny) ≡ 0x3f800000 ∷ 0x7f800000 ∷ 0 ∷ 0 ∷ [])
    × (block_at (whole 6) 4 (held1 zeroᶠ near_quarter zeroᶠ tiny) ≡ 0x3f800000 ∷ 0 ∷ 0 ∷ 0 ∷ [])
unfolding block_at whole decimal
vanishing_fade_out = (refl, refl)

-- Document 02, Paper 8: values of the definitions, computed. The expected ones are the paper's, by hand.
use Rattle.std.specs.Prelude.{◌≡◌, refl, true, false, List, [], ◌∷◌, map, ℕ, pos, negsuc, Ok, Err}
use Rattle.std.specs.Float.{nan, inf, fin}
use Rattle.std.specs.Float.Ieee.{to_bits}
use Rattle.peak.specs.declared.RunningPeak.{RunningPeak}
use Rattle.peak.specs.Peaks.{magnitude, greatest, Feed, one, run, history, peak_of}
use Rattle.peak.specs.Steps.{number_of, served, Reading, refused, refusal_in, peak_in, State, state, empty, suffix_maxima, created, serves, refusal, advanced, fed, fed_all, older, reading}
use Rattle.peak.specs.Claim.{fresh, step, after}

-- "the bits without the sign": of 1.0 and -1.0, both zeros, the least number below 0, the greatest finite one, both infinities and the NaN
magnitudes : map magnitude (fin false 1 (pos 0) ∷ fin true 1 (pos 0) ∷ fin false 0 (pos 0) ∷ fin true 0 (pos 0) ∷ fin true 1 (negsuc 148)
    ∷ fin false 16777215 (pos 104) ∷ inf false ∷ inf true ∷ nan ∷ [])
    ≡ 0x3f800000 ∷ 0x3f800000 ∷ 0 ∷ 0 ∷ 1 ∷ 0x7f7fffff ∷ 0x7f800000 ∷ 0x7f800000 ∷ 0x7fc00000 ∷ []
unfolding magnitude to_bits
magnitudes = refl

-- 3.0, a run of 1.0 and -2.0, an empty run, and 0.5: bits 40400000, 3F800000, 40000000 and 3F000000
abbrev feeds : List Feed
feeds = one (fin false 3 (pos 0)) ∷ run (fin false 1 (pos 0) ∷ fin true 1 (pos 1) ∷ []) ∷ run [] ∷ one (fin false 1 (negsuc 0)) ∷ []

-- "the greatest magnitude among the last w samples, or among all if fewer were fed": w = 1, 2, 3, 4, 5 and 4,096
windows : map (λ w. peak_of w feeds) (1 ∷ 2 ∷ 3 ∷ 4 ∷ 5 ∷ 4096 ∷ []) ≡ 0x3f000000 ∷ 0x40000000 ∷ 0x40000000 ∷ 0x40400000 ∷ 0x40400000 ∷ 0x40400000 ∷ []
unfolding greatest history magnitude to_bits
windows = refl

-- "With nothing fed the answer is 0."
nothing-fed : (peak_of 3 [] ≡ 0) × (peak_of 3 (run [] ∷ []) ≡ 0)
unfolding greatest history
nothing-fed = (refl, refl)

-- "w from 1 to 4,096 fixed at its start"; a w outside, or a row of fewer words, is 20, "handing back a fresh one with w = 1"
limits : map (λ w. refusal_in (created w 4096)) (0 ∷ 1 ∷ 4096 ∷ []) ≡ 20 ∷ 0 ∷ 0 ∷ []
unfolding created
limits = refl

too_wide : (refusal_in (created 4097 5000) ≡ 20) × (peak_in (created 4097 5000) ≡ empty 1)
unfolding created
too_wide = (refl, refl)

rows : map (λ words. refusal_in (created 64 words)) (0 ∷ 63 ∷ 64 ∷ 65 ∷ []) ≡ 20 ∷ 20 ∷ 0 ∷ 0 ∷ []
unfolding created
rows = refl

handed_back : (peak_in (created 0 4096) ≡ empty 1) × (peak_in (created 64 63) ≡ empty 1) × (peak_in (created 64 64) ≡ empty 64)
unfolding created
handed_back = (refl, refl, refl)

-- w = 3 in a row of four words 9: the magnitudes 5, 1, 2, 1, 0, 0, 0, 4 one after another, and what is answered before the first and after each
abbrev row : List ℕ
row = 9 ∷ 9 ∷ 9 ∷ 9 ∷ []

abbrev readings : State → List ℕ → List Reading
readings s [] = reading s ∷ []
readings s (m ∷ ms) = reading s ∷ readings (fed s m) ms

window-of-3 : readings (fresh 3 row) (5 ∷ 1 ∷ 2 ∷ 1 ∷ 0 ∷ 0 ∷ 0 ∷ 4 ∷ []) ≡ map Ok (0 ∷ 5 ∷ 5 ∷ 5 ∷ 2 ∷ 2 ∷ 1 ∷ 0 ∷ 4 ∷ [])
unfolding created serves advanced fed suffix_maxima greatest older reading
window-of-3 = refl

-- the words behind the window are left, and nothing is written before the first feed
left-words : ((fed_all (fresh 3 row) (5 ∷ [])).row ≡ 5 ∷ 9 ∷ 9 ∷ 9 ∷ []) × ((fed_all (fresh 3 row) (5 ∷ 1 ∷ 2 ∷ [])).row ≡ 5 ∷ 2 ∷ 2 ∷ 9 ∷ [])
unfolding created serves advanced fed suffix_maxima greatest
left-words = (refl, refl)

-- a window of 1 is the last sample, whatever the row: after 20 too
window-of-1 : (readings (fresh 1 row) (5 ∷ 3 ∷ 0 ∷ []) ≡ map Ok (0 ∷ 5 ∷ 3 ∷ 0 ∷ []))
    × (readings (fresh 64 []) (5 ∷ 3 ∷ 0 ∷ []) ≡ map Ok (0 ∷ 5 ∷ 3 ∷ 0 ∷ []))
unfolding created serves advanced fed older reading
window-of-1 = (refl, refl)

-- a later call with a row shorter than w is 20, and so is a place that is none of the window's: nothing changes
abbrev second : RunningPeak
second = record { window = 3; place = 1; recent = 5; turned = false }

abbrev astray : RunningPeak
astray = record { window = 3; place = 3; recent = 5; turned = false }

refusals : (refusal second 2 ≡ 20) × (refusal second 3 ≡ 0) × (refusal astray 4 ≡ 20)
    × (reading (state second (5 ∷ 9 ∷ [])) ≡ Err (refused second)) × (reading (state astray row) ≡ Err (refused astray))
unfolding serves reading
refusals = (refl, refl, refl, refl, refl)

refused_changes_nothing : (fed_all (state second (5 ∷ 9 ∷ [])) (7 ∷ 8 ∷ []) ≡ state second (5 ∷ 9 ∷ [])) × (fed (state astray row) 7 ≡ state astray row)
unfolding serves advanced fed
refused_changes_nothing = (refl, refl)

-- the calls: a run is its samples one after another, -2.0 and 0.5 being the last two
calls : reading (after 2 row feeds) ≡ Ok 0x40000000
unfolding step created serves advanced fed suffix_maxima greatest older reading magnitude to_bits
calls = refl

-- a refusal hands back the running peak as it was, and its number is 20
left_as_it_was : map (λ (p : RunningPeak). served p 2) (second ∷ astray ∷ []) ≡ Err (refused second) ∷ Err (refused astray) ∷ []
unfolding serves
left_as_it_was = refl

number : number_of (refused second) ≡ 20
number = refl

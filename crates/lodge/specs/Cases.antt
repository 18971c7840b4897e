-- Document 02, Paper 11: what is answered, computed. The expected values are the paper's, by hand.
use Rattle.std.specs.Prelude.{◌≡◌, refl, List, [], ◌∷◌, map, ℕ, length, Ok, Err}
use Rattle.lodge.specs.declared.Window.{Window}
use Rattle.lodge.specs.declared.Hours.{Hours}
use Rattle.lodge.specs.declared.Refusal.TheVariants.{Improper, TooLong}
use Rattle.lodge.specs.Refusals.{number_of}
use Rattle.lodge.specs.Search.{orderly, first_from, answered}

abbrev pub window : ℕ → ℕ → Window
window opens closes = record { opens = opens; closes = closes }

abbrev pub hours : List Window → Hours
hours ws = record { windows = ws; count = length ws }

-- Monday from 9 to 12 and on to 13, two windows that touch, and Sunday from 21 to the week's end: 180, 60 and 180 minutes
abbrev three : Hours
three = hours (window 540 720 ∷ window 720 780 ∷ window 9900 10080 ∷ [])

-- "the earliest minute, not before the given one, at which the whole length fits in one window"
an_hour : map (λ minute. answered three minute 60) (0 ∷ 540 ∷ 660 ∷ 661 ∷ 720 ∷ 721 ∷ 10020 ∷ []) ≡ map Ok (540 ∷ 540 ∷ 660 ∷ 720 ∷ 720 ∷ 9900 ∷ 10020 ∷ [])
unfolding answered orderly first_from
an_hour = refl

-- "touching ones are not joined": three hours from 541 on fit on Sunday only
three-hours : map (λ minute. answered three minute 180) (0 ∷ 540 ∷ 541 ∷ 9900 ∷ []) ≡ map Ok (540 ∷ 540 ∷ 9900 ∷ 9900 ∷ [])
unfolding answered orderly first_from
three-hours = refl

-- "nor does one run over the week's end": the next week's first, 10,080 + 540
next_week_lem : map (λ minute. answered three minute 60) (10021 ∷ 10079 ∷ 10080 ∷ 20100 ∷ 20101 ∷ []) ≡ map Ok (10620 ∷ 10620 ∷ 10620 ∷ 20100 ∷ 20700 ∷ [])
unfolding answered orderly first_from
next_week_lem = refl

-- the last minute of a window is its own, the closing one is not
one_minute : map (λ minute. answered three minute 1) (719 ∷ 779 ∷ 780 ∷ 10079 ∷ []) ≡ map Ok (719 ∷ 779 ∷ 9900 ∷ 10079 ∷ [])
unfolding answered orderly first_from
one_minute = refl

-- "a minute below 2^32": 2^32 - 1 is minute 255 of the week that begins at 4,294,967,040, and 540 of it lies above 2^32; 2^32 itself, and a length of 0, get 21
limits : (answered three 4294967295 60 ≡ Ok 4294967580) × (answered three 4294967296 60 ≡ Err Improper) × (answered three 0 0 ≡ Err Improper)
unfolding answered orderly first_from
limits = (refl, refl, refl)

-- "22 is given if and only if every window is shorter than the length": 180 is the longest; no window at all
too_long : (answered three 0 181 ≡ Err TooLong) × (answered three 0 10081 ≡ Err TooLong) × (answered (hours []) 0 1 ≡ Err TooLong)
    × (answered (hours (window 0 10080 ∷ [])) 1 10080 ≡ Ok 10080)
unfolding answered orderly first_from
too_long = (refl, refl, refl, refl)

-- "An empty, unsorted or overlapping window, one past minute 10,080": two equal ones overlap; all are judged, and before 22
twenty_ones : map (λ ws. answered (hours ws) 0 1000)
    ((window 540 540 ∷ []) ∷ (window 720 540 ∷ []) ∷ (window 540 10081 ∷ []) ∷ (window 540 720 ∷ window 719 780 ∷ []) ∷ (window 540 720 ∷ window 540 720 ∷ [])
    ∷ (window 720 780 ∷ window 540 720 ∷ []) ∷ (window 0 5000 ∷ window 6000 6000 ∷ []) ∷ [])
    ≡ Err Improper ∷ Err Improper ∷ Err Improper ∷ Err Improper ∷ Err Improper ∷ Err Improper ∷ Err Improper ∷ []
unfolding answered orderly first_from
twenty_ones = refl

-- "more than 16 windows"
abbrev counted : ℕ → List Window → Hours
counted n ws = record { windows = ws; count = n }

sixteen : (answered (counted 16 (window 540 720 ∷ [])) 0 60 ≡ Ok 540) × (answered (counted 17 (window 540 720 ∷ [])) 0 60 ≡ Err Improper)
unfolding answered orderly first_from
sixteen = (refl, refl)

-- windows behind the count are not looked at
behind_the_count : map (λ n. answered (counted n (window 540 720 ∷ window 600 600 ∷ [])) 0 60) (1 ∷ 2 ∷ []) ≡ Ok 540 ∷ Err Improper ∷ []
unfolding answered orderly first_from
behind_the_count = refl

-- the paper's numbers
numbers : map number_of (Improper ∷ TooLong ∷ []) ≡ 21 ∷ 22 ∷ []
numbers = refl

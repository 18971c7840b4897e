-- Document 02, Paper 11, by arithmetic over all weeks: what an answer is to be.
-- Theorem.antt proves it of every answer of the code, and OneAnswer.antt that no other answer meets it.
use Rattle.std.specs.Prelude.{◌≡◌, ℕ, ◌+◌, ◌-◌, ◌*◌, ◌^◌, ◌≤◌, ◌<◌, length, get_or, take, Ok}
use mathlib.Core.List.{List, Memᴰ}
use Rattle.lodge.specs.declared.Window.{Window}
use Rattle.lodge.specs.declared.Hours.{Hours}
use Rattle.lodge.specs.Refusals.{Answer, refusal_number}

abbrev pub in_use : Hours → List Window
in_use h = take h.count h.windows

-- what `get_or` gives where no window is; no definition reads it
abbrev pub none : Window
none = record { opens = 0; closes = 0 }

-- "An empty, unsorted or overlapping window, one past minute 10,080 .. get 21": none is empty, none is past the week, and of any two the former closes before the latter opens, or as it opens
pub record Lawful (ws : List Window) : Type 0 where
  pub filled : (w : Window) → Memᴰ w ws → w.opens < w.closes
  pub inside : (w : Window) → Memᴰ w ws → w.closes ≤ 10080
  pub apart : (i j : ℕ) → i < j → j < length ws → (get_or ws i none).closes ≤ (get_or ws j none).opens

-- "more than 16 windows, a minute of 2^32 or more and a length of 0 get 21"
pub record Proper (h : Hours) (minute n : ℕ) : Type 0 where
  pub lawful : Lawful (in_use h)
  pub few : h.count ≤ 16
  pub soon : minute < 2 ^ 32
  pub some : 0 < n

-- "every 10,080 of them, a week, has the same .. windows, each from an opening minute up to but without its closing minute"; "the whole length fits in one window": n minutes from minute t on lie in one window of one week
pub record Fits (ws : List Window) (n t : ℕ) : Type 0 where
  pub week : ℕ
  pub window : Window
  pub given : Memᴰ window ws
  pub opened : week * 10080 + window.opens ≤ t
  pub open_still : t + n ≤ week * 10080 + window.closes

-- "every window is shorter than the length"
abbrev pub Short : List Window → ℕ → Type 0
Short ws n = (w : Window) → Memᴰ w ws → w.closes - w.opens < n

-- an answer, and what is asked of it
pub record Right (h : Hours) (minute n : ℕ) (a : Answer) : Type 0 where
  -- 21 exactly where something is wrong
  pub wrong : (Proper h minute n → ⊥) → refusal_number a ≡ 21
  pub proper : Proper h minute n → refusal_number a ≡ 21 → ⊥
  -- "where these pass, 22 is given if and only if every window is shorter than the length"
  pub too_long : Proper h minute n → Short (in_use h) n → refusal_number a ≡ 22
  pub short : refusal_number a ≡ 22 → Short (in_use h) n
  -- so exactly where the length fits at no minute at all
  pub never : Proper h minute n → ((t : ℕ) → Fits (in_use h) n t → ⊥) → refusal_number a ≡ 22
  pub nowhere : refusal_number a ≡ 22 → (t : ℕ) → Fits (in_use h) n t → ⊥
  -- where neither applies, a minute is answered
  pub answers : Proper h minute n → (Short (in_use h) n → ⊥) → (t : ℕ) × (a ≡ Ok t)
  -- "the earliest minute, not before the given one, at which the whole length fits in one window"
  pub later : (t : ℕ) → a ≡ Ok t → minute ≤ t
  pub fits : (t : ℕ) → a ≡ Ok t → Fits (in_use h) n t
  pub earliest : (t : ℕ) → a ≡ Ok t → (u : ℕ) → minute ≤ u → Fits (in_use h) n u → t ≤ u

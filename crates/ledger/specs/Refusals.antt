-- Document 01, "Turned down, in checking order": the refusals of the ledger's calls. Each call is refused by the first of its checks that holds.
use Rattle.std.specs.Prelude.{ℕ, ◌*◌, ◌^◌, Bool, true, false, not, ◌&&◌, ◌||◌, List, [], ◌∷◌, ltb, leb, eqb, length, Float}
use Rattle.std.proofs.Math.Option.{Option, none, some}
use Rattle.std.specs.Float.{nan, inf, fin}
use Rattle.std.specs.Float.Ieee.{neg}
use Rattle.std.specs.Float.Ieee.Scale.{finite}
use Rattle.event.specs.declared.Edit.{Edit}
use Rattle.event.specs.declared.Source.{Source}
use Rattle.event.specs.declared.Source.TheVariants.{Held, Ramp, Clip}
use Rattle.floats.specs.Arithmetic.{◌+ᵈ◌, ◌-ᵈ◌, ◌×ᵈ◌, ◌<ᶠ◌, ◌≤ᶠ◌, oneᶠ, whole}
use Rattle.ledger.specs.Calls.{Call, PushKind, absolute, relative, by_duration, EditKind, absolute_end, relative_end, push, edit, tick, block, rate, reset}
use Rattle.ledger.specs.Lists.{edit_of, has}
use Rattle.ledger.specs.Ledger.{Ledger, held}

-- a refusal's number, and whether it applies
pub data Check : Type 0 where
  refuses : ℕ → Bool → Check

-- the first refusal that applies
unfoldable pub first_of : List Check → Option ℕ
first_of [] = none
first_of (refuses k true ∷ l) = some k
first_of (refuses k false ∷ l) = first_of l

-- ---- limits

-- within 1,000,000,000 in magnitude, and no NaN
unfoldable pub within : Float → Bool
within x = neg (whole 1_000_000_000) ≤ᶠ x && x ≤ᶠ whole 1_000_000_000

-- only an end or duration may be +infinity
abbrev pub is_plus_infinity : Float → Bool
is_plus_infinity nan = false
is_plus_infinity (inf negative) = not negative
is_plus_infinity (fin s m e) = false

unfoldable pub within_end : Float → Bool
within_end x = within x || is_plus_infinity x

abbrev pub finite_source : Source → Bool
finite_source (Held level) = finite level
finite_source (Ramp value step) = finite value && finite step
finite_source (Clip offset length) = true

-- ---- what the checks look at

-- the end that a push states: by duration, end = start + duration
unfoldable pub stated_end : PushKind → (start end : Float) → Float
stated_end absolute start end = end
stated_end relative start end = end
stated_end by_duration start duration = start +ᵈ duration

-- an edit's end: relative uses t + end
unfoldable pub edit_end : EditKind → (t end : Float) → Float
edit_end absolute_end t end = end
edit_end relative_end t end = t +ᵈ end

-- e = t + d for a tick, t + d × n for a block
unfoldable pub tick_end : Ledger → Float
tick_end l = l.clock +ᵈ l.duration

unfoldable pub block_end : Ledger → (n : ℕ) → Float
block_end l n = l.clock +ᵈ l.duration ×ᵈ whole n

abbrev pub missing : Option Edit → Bool
missing none = true
missing (some d) = false

abbrev pub length_or : ℕ → Option (List Float) → ℕ
length_or n none = n
length_or n (some l) = length l

-- ---- the checks of each call, in order

-- 3: a pushed time or fade is NaN or beyond the limit. 4: a fade above end - start, before the clock is added. 5: a held level, ramp value or step is not finite.
-- Paper 5: "A gain that is not finite is refused as 18, directly after 5." 6: 256 events are held. 7: number 2 ^ 64 - 1 has been given.
abbrev pub push_checks_at : (held next : ℕ) → PushKind → (start end fade_in fade_out : Float) → Source → (gain : Float) → List Check
push_checks_at held next kind start end fade_in fade_out source gain =
    let lasts = stated_end kind start end -ᵈ start in
    refuses 3 (not (within start && within_end end && within fade_in && within fade_out))
    ∷ refuses 4 (lasts <ᶠ fade_in || lasts <ᶠ fade_out)
    ∷ refuses 5 (not (finite_source source))
    ∷ refuses 18 (not (finite gain))
    ∷ refuses 6 (leb 256 held)
    ∷ refuses 7 (leb (2 ^ 64) next) ∷ []

unfoldable pub push_checks : Ledger → PushKind → (start end fade_in fade_out : Float) → Source → (gain : Float) → List Check
push_checks l kind start end fade_in fade_out source gain = push_checks_at (held l) l.next kind start end fade_in fade_out source gain

-- 8: an edit's end or fade breaks 3's limits. 9: it must be stored, its number has none, and 256 are stored.
unfoldable pub edit_checks : Ledger → EditKind → (number : ℕ) → (end fade_out : Float) → List Check
edit_checks l kind k end fade_out =
    refuses 8 (not (within_end end && within fade_out))
    ∷ refuses 9 (not (has k l.sounding) && not (edit_end kind l.clock end <ᶠ l.threshold)
    && missing (edit_of k l.edits) && leb 256 (length l.edits)) ∷ []

-- 10: output length is not channels (tick) or 64 × channels (block), or a block's scratch, where it is lent, is not 64 long (document 02, Paper 7). 11: block size exceeds 64.
-- 12: the clock after the step would exceed 1,000,000,000. 2: a rate is not from 1 to 1,000,000.
unfoldable pub checks : Ledger → Call → List Check
checks l (push kind start end fade_in fade_out curve source gain) = push_checks l kind start end fade_in fade_out source gain
checks l (edit kind k end fade_out) = edit_checks l kind k end fade_out
checks l (tick order pool out) =
    refuses 10 (not (eqb (length out) l.channels))
    ∷ refuses 12 (not (tick_end l ≤ᶠ whole 1_000_000_000)) ∷ []
checks l (block order n pool out scratch) =
    refuses 10 (not (eqb (length out) (64 * l.channels) && eqb (length_or 64 scratch) 64))
    ∷ refuses 11 (ltb 64 n)
    ∷ refuses 12 (not (block_end l n ≤ᶠ whole 1_000_000_000)) ∷ []
checks l (rate r) = refuses 2 (not (oneᶠ ≤ᶠ r && r ≤ᶠ whole 1_000_000)) ∷ []
checks l reset = []

unfoldable pub refusal : Ledger → Call → Option ℕ
refusal l c = first_of (checks l c)

-- The refusals as the code tests them: a number, or 0 where none applies.
use Rattle.std.specs.Prelude.{ℕ, ◌/◌, ◌%◌, Bool, true, false, cond, not, ◌&&◌, ◌||◌, ◌==◌, nat_le, nat_lt, Float}
use Rattle.std.specs.Float.Ieee.Scale.{finite}
use Rattle.event.specs.declared.Edit.{Edit}
use Rattle.event.specs.declared.EventId.{EventId}
use Rattle.event.specs.declared.Source.{Source}
use Rattle.floats.specs.Arithmetic.{◌+ᵈ◌, ◌×ᵈ◌, ◌<ᶠ◌, ◌≤ᶠ◌, oneᶠ, whole}
use Rattle.lists.specs.declared.EditMap.{EditMap}
use Rattle.std.specs.declared.option.Option.{Option}
use Rattle.std.specs.declared.option.Option.TheVariants.{Some, None}
use Rattle.lists.specs.Edits.{found_edit}
use Rattle.ledger.specs.Refusals.{within, within_end, finite_source}

unfoldable pub push_refusal : (start end lasts fade_in fade_out : Float) → Source → (gain : Float) → (held next : ℕ) → ℕ
push_refusal start end lasts fade_in fade_out source gain held next =
    cond (not (within start && within_end end && within fade_in && within fade_out)) 3
    (cond (lasts <ᶠ fade_in || lasts <ᶠ fade_out) 4
    (cond (not (finite_source source)) 5
    (cond (not (finite gain)) 18
    (cond (nat_le 256 held) 6
    (cond (next == 0) 7 0)))))

-- where the number sounds; whether the end is past; its stored edit; how many are stored
unfoldable pub roomless : Option ℕ → (over : Bool) → Option Edit → ℕ → Bool
roomless (Some i) over f n = false
roomless None true f n = false
roomless None false (Some d) n = false
roomless None false None n = nat_le 256 n

unfoldable pub no_room : Option ℕ → EditMap → (threshold : Float) → EventId → (end : Float) → Bool
unfolding roomless
no_room found edits θ k end = roomless found (end <ᶠ θ) (found_edit edits k) edits.len

unfoldable pub edit_limits : (end fade_out : Float) → ℕ
edit_limits end fade_out = cond (not (within_end end && within fade_out)) 8 0

unfoldable pub edit_refusal : Option ℕ → EditMap → (threshold : Float) → EventId → (end until fade_out : Float) → ℕ
unfolding no_room
edit_refusal found edits θ k end until fade_out = cond (not (within_end end && within fade_out)) 8 (cond (no_room found edits θ k until) 9 0)

unfoldable pub tick_refusal : (len outputs : ℕ) → (time duration : Float) → ℕ
tick_refusal len outputs t d = cond (not (len == outputs)) 10 (cond (not (t +ᵈ d ≤ᶠ whole 1_000_000_000)) 12 0)

unfoldable pub process_refusal : (size len outputs : ℕ) → (time duration : Float) → ℕ
process_refusal n len outputs t d =
    cond (not (len % 64 == 0 && len / 64 == outputs)) 10
    (cond (nat_lt 64 n) 11
    (cond (not (t +ᵈ d ×ᵈ whole n ≤ᶠ whole 1_000_000_000)) 12 0))

unfoldable pub rate_refusal : (rate : Float) → ℕ
rate_refusal r = cond (not (oneᶠ ≤ᶠ r && r ≤ᶠ whole 1_000_000)) 2 0

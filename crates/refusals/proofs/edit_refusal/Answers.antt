-- `refusals::edit_refusal` meets its contract. Assumes nothing.
use Rattle.std.proofs.Common.{◌≡◌, ℕ, Bool, true, false, cond, not, ◌&&◌, sym, refl, ◌∙◌, arith}
use lib.Ieee.{Float}
use Rattle.event.specs.declared.EventId.{EventId}
use Rattle.ledger.specs.Refusals.{within, within_end}
use Rattle.lists.specs.declared.EditMap.{EditMap}
use Rattle.std.specs.declared.option.Option.{Option}
use Rattle.refusals.specs.Numbers.{number_is_positive, refused_is, taken_is}
use Rattle.refusals.specs.Refusals.{edit_limits, edit_refusal, no_room}
use Rattle.refusals.proofs.edit_refusal.Goals as goal

fails : (b : Bool) (k r : ℕ) → k ≡ cond b 8 0 → (k ≡ 0 → ⊥) → k ≡ cond b 8 r
fails true k r h some = h
fails false k r h some = absurd (some h)

passes : (b : Bool) (k r : ℕ) → k ≡ cond b 8 0 → k ≡ 0 → r ≡ cond b 8 r
passes true k r h z = absurd (omega arith)
passes false k r h z = refl

module _ (found : Option ℕ) (edits : EditMap) (θ : Float) (i : EventId) (end until fade_out : Float) (k : ℕ) (h : k ≡ edit_limits end fade_out) where
  beyond : (k ≡ 0 → ⊥) → k ≡ edit_refusal found edits θ i end until fade_out
  unfolding edit_limits edit_refusal
  beyond some = fails (not (within_end end && within fade_out)) k _ h some

  module _ (z : k ≡ 0) where
    full : no_room found edits θ i until ≡ true → 9 ≡ edit_refusal found edits θ i end until fade_out
    unfolding edit_limits edit_refusal
    full e = rw e (passes (not (within_end end && within fade_out)) k 9 h z)

    fine : no_room found edits θ i until ≡ false → 0 ≡ edit_refusal found edits θ i end until fade_out
    unfolding edit_limits edit_refusal
    fine e = rw e (passes (not (within_end end && within fade_out)) k 0 h z)

pub returns-in-Some : goal.returns-in-Some
returns-in-Some c =
    let k = refused_is _ _ _ c.edit_limits.ensures c.in-Some.is in
    beyond _ _ _ _ _ _ _ _ k.0 (λ z. let p = number_is_positive c.in-Some.refusal in omega (arith, z))

pub returns-then-no_room : goal.returns-then-no_room
returns-then-no_room c =
    full _ _ _ _ _ _ _ 0 (sym (taken_is _ _ c.edit_limits.ensures c.in_default.is)) refl (sym c.no_room.ensures ∙ c.if-no_room.true)

pub returns : goal.returns
returns c =
    fine _ _ _ _ _ _ _ 0 (sym (taken_is _ _ c.edit_limits.ensures c.in_default.is)) refl (sym c.no_room.ensures ∙ c.if-no_room.false)

-- The desk's plausible slips, each with a desk that shows it. Assumes nothing.
use Rattle.std.specs.Prelude.{ℕ, ◌≡◌, refl, List, [], ◌∷◌, ◌++◌, length, replicate, Float}
use Rattle.std.proofs.Math.Option.{some}
use Rattle.event.specs.declared.Event.{Event}
use Rattle.event.specs.declared.Fade.TheVariants.{Smooth}
use Rattle.event.specs.declared.MixOrder.TheVariants.{Forward}
use Rattle.event.specs.declared.ReplayMode.TheVariants.{None}
use Rattle.event.specs.declared.Source.TheVariants.{Held}
use Rattle.floats.specs.Arithmetic.{zeroᶠ, oneᶠ}
use Rattle.event.specs.Events.{new_event}
use Rattle.ledger.specs.Calls.{absolute, absolute_end}
use Rattle.ledger.specs.Ledger.{Ledger, held, fresh}
use Rattle.ledger.specs.Numbers.{up_from}
use Rattle.ledger.specs.Steps.{with_lists}
use Rattle.desk.specs.Desk.{Message, push, edit, reset, tick, front, back, Desk, opened, send_finished, restarted, desk_refusal, run, computes}

abbrev pub held1 : Message
held1 = push absolute zeroᶠ oneᶠ zeroᶠ zeroᶠ Smooth (Held oneᶠ) oneᶠ

abbrev pub event : (start : Float) → (number : ℕ) → Event
event start k = new_event start oneᶠ zeroᶠ zeroᶠ Smooth (Held oneᶠ) oneᶠ k

-- a desk in mode None that holds these
abbrev pub desk : (waiting sounding finished : List Event) → (queued : List Message) → (returned : List ℕ) → Desk
desk w s f q r = let l = fresh 1 None 1 in record { back = with_lists l w s f l.edits l.clock l.threshold l.gone; queued = q; returned = r }

-- The queue is not handled flat: the push behind a queued reset is let go (case 8).
unfoldable pub queued_reset : Desk
unfolding computes
queued_reset = (run (front reset ∷ front held1 ∷ back (tick Forward [] (zeroᶠ ∷ [])) ∷ []) (opened (fresh 1 None 1))).desk

pub queue_is-not-flat : (held queued_reset.back ≡ 0) × (queued_reset.back.gone ≡ 1 ∷ [])
unfolding queued_reset
queue_is-not-flat = (refl, refl)

-- A reset returns F from the end, W in order, S from the end.
pub returned_in_order : (restarted None (desk (event zeroᶠ 1 ∷ event oneᶠ 2 ∷ []) (event zeroᶠ 3 ∷ event zeroᶠ 4 ∷ []) (event zeroᶠ 5 ∷ event zeroᶠ 6 ∷ []) [] [])).returned ≡ 6 ∷ 5 ∷ 1 ∷ 2 ∷ 4 ∷ 3 ∷ []
unfolding computes
returned_in_order = refl

-- What finds 64 in the return queue is lost, and counts as let go.
unfoldable pub one_lost : Desk
unfolding computes
one_lost = send_finished None (desk [] [] (event zeroᶠ 1 ∷ event zeroᶠ 2 ∷ []) [] (up_from 100 63))

pub lost_is_let_go : (one_lost.returned ≡ up_from 100 63 ++ (2 ∷ [])) × (one_lost.back.gone ≡ 2 ∷ 1 ∷ [])
unfolding one_lost
lost_is_let_go = (refl, refl)

-- 6 counts queued pushes, and comes before 13; 9 counts queued edits, and comes before 13 too.
pub held_and_queued : desk_refusal (desk (replicate 192 (event zeroᶠ 1)) [] [] (replicate 64 held1) []) (front held1) ≡ some 6
unfolding computes
held_and_queued = refl

pub full_queue : desk_refusal (desk (replicate 191 (event zeroᶠ 1)) [] [] (replicate 64 held1) []) (front held1) ≡ some 13
unfolding computes
full_queue = refl

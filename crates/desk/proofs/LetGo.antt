-- What a tick, a block or a reset lets go of keeps its weight: it leaves W, S and F for G. Assumes nothing.
use Rattle.std.specs.Prelude.{ℕ, ◌+◌, ◌≤◌, ◌≡◌, length, take, Float}
use Rattle.std.proofs.Math.Path.{refl}
use mathlib.Core.List.{List, [], ◌∷◌, ◌++◌, reverse, reverse_aux}
use Rattle.std.proofs.Common.{arith, length-take}
use Rattle.event.specs.declared.Event.{Event}
use Rattle.event.specs.declared.ReplayMode.{ReplayMode}
use Rattle.event.specs.declared.ReplayMode.TheVariants.{All, None}
use Rattle.ledger.specs.Lists.{numbers}
use Rattle.ledger.specs.Sums.{number_sum, event_sum}
use Rattle.ledger.proofs.Sums.{number_sum_append, number_sum_numbers, event_sum_append}
use Rattle.ledger.specs.Conservation.{by_number, four_sum}
use Rattle.ledger.proofs.Conservation.{four_sum_restart}
use Rattle.desk.specs.Desk.{Desk, send_finished, restarted}

-- ---- from the end

module _ (w : Float → ℕ → ℕ) where
  event_sum_reverse_aux : (l r : List Event) → event_sum w (reverse_aux l r) ≡ event_sum w l + event_sum w r
  event_sum_reverse_aux [] r = omega arith
  event_sum_reverse_aux (e ∷ l) r = omega (arith, event_sum_reverse_aux l (e ∷ r))

  pub event_sum_reverse : (l : List Event) → event_sum w (reverse l) ≡ event_sum w l
  event_sum_reverse l = omega (arith, event_sum_reverse_aux l [])

-- ---- by number

module _ (u : ℕ → ℕ) where
  let_go_finished : (f : List Event) (g : List ℕ) → number_sum u (g ++ numbers (reverse f)) ≡ number_sum u g + event_sum (by_number u) f
  let_go_finished f g = omega (arith, number_sum_append u g (numbers (reverse f)), number_sum_numbers u (reverse f), event_sum_reverse (by_number u) f)

  let_go-all : (w s f : List Event) (g : List ℕ)
      → number_sum u (g ++ numbers (reverse f ++ (w ++ reverse s))) ≡ number_sum u g + (event_sum (by_number u) w + (event_sum (by_number u) s + event_sum (by_number u) f))
  let_go-all w s f g =
      let b = by_number u in
      omega (
        arith,
        number_sum_append u g (numbers (reverse f ++ (w ++ reverse s))),
        number_sum_numbers u (reverse f ++ (w ++ reverse s)),
        event_sum_append b (reverse f) (w ++ reverse s),
        event_sum_append b w (reverse s),
        event_sum_reverse b f,
        event_sum_reverse b s,
      )

  pub finished_sum : (m : ReplayMode) (d : Desk) → four_sum u (send_finished m d).back ≡ four_sum u d.back
  unfolding send_finished
  finished_sum All d = refl
  finished_sum None d = let l = d.back in omega (arith, let_go_finished l.finished l.gone)

  pub restarted-sum : (m : ReplayMode) (d : Desk) → four_sum u (restarted m d).back ≡ four_sum u d.back
  unfolding restarted
  restarted-sum All d = four_sum_restart u d.back All
  restarted-sum None d = let l = d.back in omega (arith, let_go-all l.waiting l.sounding l.finished l.gone)

-- ---- what finds 64 in the return queue is lost

pub returned_few : (l : List ℕ) → length (take 64 l) ≤ 64
returned_few l = omega (arith, length-take 64 l)

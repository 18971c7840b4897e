-- Where no fade acts a run is the source's samples at the event's gain. Assumes nothing.
use Rattle.std.proofs.Common.{◌≡◌, ℕ, ◌-◌, Bool, true, false, not, ◌&&◌, ◌||◌, List, sym, refl, true≢false}
use lib.Ieee.{Float}
use Rattle.event.specs.declared.Event.{Event}
use Rattle.event.specs.Sources.{next_samples}
use Rattle.ledger.specs.BlockSamples.{Span, gained, run_faded_in, run_faded_out, faded_run}
use Rattle.mixing.specs.Placed.{fades_in, fades_out}

neither : (p q : Bool) → (p || q) ≡ false → (p ≡ false) × (q ≡ false)
neither true q h = absurd (true≢false h)
neither false true h = absurd (true≢false h)
neither false false h = (refl, refl)

module _ (b : Span) (e : Event) (h : (fades_in b e || fades_out b e) ≡ false) where
  pub plain-run : (pool : List Float) (s z : ℕ) → faded_run pool b s z e ≡ gained e.gain (next_samples pool e.unit (z - s))
  unfolding run_faded_in run_faded_out
  plain-run pool s z = let n = neither (fades_in b e) (fades_out b e) h in rw (n.0, n.1)

pub is_plain : (p : Bool) (q : Bool) → (p && not q) ≡ true → (p ≡ true) × (q ≡ false)
is_plain true true h = absurd (true≢false (sym h))
is_plain true false h = (refl, refl)
is_plain false q h = absurd (true≢false (sym h))

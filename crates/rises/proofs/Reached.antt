-- Document 02, Paper 13: on every engine that a list of calls reaches from a creation, what a push says is how many levels its event rose: its heap is a heap. A refused push says 0. Assumes nothing.
use Rattle.std.specs.Prelude.{◌≡◌, ℕ, ◌^◌, ◌<◌, Bool, true, false, cond, not, ◌&&◌, ◌||◌, List, ◌==◌, nat_le, Float}
use Rattle.std.proofs.Common.{true≢false, sym, ◌∙◌, subst, arith, lt-ltb, leb-false, eqb-true}
use Rattle.std.proofs.lemmas.Bool.{false≢true}
use Rattle.std.proofs.Math.Path.{refl, ap}
use Rattle.std.specs.Float.Ieee.{lt}
use Rattle.std.specs.Float.Ieee.Scale.{finite}
use Rattle.floats.specs.Arithmetic.{◌<ᶠ◌}
use Rattle.ledger.specs.Refusals.{within, within_end, finite_source}
use Rattle.event.specs.declared.Event.{Event}
use Rattle.event.specs.declared.ReplayMode.{ReplayMode}
use Rattle.event.specs.declared.Source.{Source}
use Rattle.event.specs.Events.{earlier}
use Rattle.event.specs.Blank.{blank}
use Rattle.ready.specs.Sorted.{earlier_order}
use Rattle.ready.specs.HeapOrder.{Heap-ordered}
use Rattle.refusals.specs.Refusals.{push_refusal}
use Rattle.ledger.specs.Calls.{Call}
use Rattle.ledger.specs.Claim.{AllLend, ledger_after}
use Rattle.ledger.proofs.ClaimByRelation as ByRelation
use Rattle.sequencer.specs.declared.Sequencer.{Sequencer}
use Rattle.sequencer.specs.declared.Pushed.{Pushed}
use Rattle.sequencer.specs.Outcomes.{refuses}
use Rattle.sequencer.specs.Pushes.{admitted}
use Rattle.sequencer.specs.Rises.{rise_of, with_rise}
use Rattle.claim.specs.Related.{Related}
use Rattle.claim.specs.Creating.{related_creation}
use Rattle.claim.specs.Shows.{shows}
use Rattle.claim.specs.EngineCalls.{engine}
use Rattle.claim.proofs.Steps.{keep}
use Rattle.claim.specs.CarriedOut.{after}
use Rattle.rises.proofs.Way.{levels_on_way}
use Rattle.rises.specs.Totals.{Push, pushed_by, is_number, levels_risen}
use Rattle.rises.specs.Single.{no_of, event_of, entered_by}
use Rattle.rises.proofs.Single.{push-is, levels_of}
use Rattle.rises.specs.Reached.{Says}

-- ---- where the array is a heap

-- 6 lets no push pass that finds 256
room : (start end lasts fade_in fade_out : Float) (source : Source) (gain : Float) (held next : ℕ) → push_refusal start end lasts fade_in fade_out source gain held next ≡ 0 → held < 256
unfolding push_refusal
room start end lasts fade_in fade_out source gain held next h =
    leb-false 256 held
    (go (not (within start && within_end end && within fade_in && within fade_out)) (lasts <ᶠ fade_in || lasts <ᶠ fade_out) (not (finite_source source)) (not (finite gain)) (nat_le 256 held) (next == 0) h)
  where
    go : (a b c d full spent : Bool) → ◌≡◌ {A = ℕ} (cond a 3 (cond b 4 (cond c 5 (cond d 18 (cond full 6 (cond spent 7 0)))))) 0 → full ≡ false
    go true b c d full spent h = absurd (omega arith)
    go false true c d full spent h = absurd (omega arith)
    go false false true d full spent h = absurd (omega arith)
    go false false false true full spent h = absurd (omega arith)
    go false false false false true spent h = absurd (omega arith)
    go false false false false false spent h = refl

module _ (s : Sequencer) (heap : Heap-ordered earlier blank s.ready s.ready_len) where
  event-says : (e : Event) → s.ready_len < 256 → rise_of s e ≡ levels_risen s e
  unfolding rise_of levels_risen
  event-says e h =
      ap (λ (k : ℕ). cond (lt e.start_time s.active_threshold) 0 k)
      (levels_of s e (lt-ltb s.ready_len 256 h) ∙ levels_on_way earlier blank earlier_order s.ready s.ready_len heap e s.ready_len (omega arith))

  pub says : (p : Push) → Says s p
  unfolding admitted
  says p = go (no_of s p == 0) refl
    where
      Fine : Pushed → Type 0
      Fine o = (is_number o.answer ≡ true → o.rise ≡ levels_risen s (event_of s p)) × (is_number o.answer ≡ false → o.rise ≡ 0)

      by : (b : Bool) → (no_of s p == 0) ≡ b → Fine (cond b (entered_by s p) (with_rise (refuses s (no_of s p)) 0))
      by true h = (λ q. event-says (event_of s p) (omega (arith, room _ _ _ _ _ _ _ _ _ (eqb-true (no_of s p) 0 h))), λ q. absurd (true≢false q))
      by false h = (λ q. absurd (false≢true q), λ q. refl)

      go : (b : Bool) → (no_of s p == 0) ≡ b → Fine (pushed_by s p)
      go b h = subst Fine (sym (push-is s p b h)) (by b h)

-- ---- after any list of calls from any creation

pub reached : (channels : ℕ) (mode : ReplayMode) (first : ℕ) (cs : List Call) → first < 2 ^ 64 → AllLend engine.lends cs → (p : Push) → Says (after channels mode first cs) p
reached channels mode first cs f h p = says (after channels mode first cs) at.lists.0.stands.ordered p
  where
    at : Related (after channels mode first cs) (ledger_after channels mode first cs).ledger
    at = (ByRelation.reached engine Related (λ c m k f. let r = related_creation c m k f in (r.1, r.0)) keep shows channels mode first cs f h).0

-- The passes of a tick and of a block over the sounding events.
use Rattle.std.proofs.Common.{◌≡◌, ℕ, ◌+◌, ◌-◌, ◌<◌, min, get_or, sym, ap, ◌∙◌, subst, arith}
use Rattle.event.specs.declared.Event.{Event}
use Rattle.event.specs.declared.Unit.{Unit}
use Rattle.event.specs.declared.MixOrder.{MixOrder}
use Rattle.event.specs.declared.Source.{Source}
use Rattle.event.specs.Events.{with_unit}
use Rattle.event.specs.Blank.{blank}
use Rattle.event.specs.Sources.{advanced, steps}
use Rattle.event.specs.SourceStays.{source_stays}
use Rattle.ledger.specs.TickSamples.{after_tick}
use Rattle.sequencer.specs.declared.Sequencer.{Sequencer}
use Rattle.sequencer.specs.Passing.{with_value, with_place, Passing, passing_start, passing_on}
use Rattle.sequencer.specs.Rendering.{mix_place}
use Rattle.memory.specs.Memory.{Cells, event_at, slot_of, unit_in, engine_of}
use Rattle.memory.specs.Laws.{Sized, sounds-read}
use Rattle.memory.specs.Sources.{unit_sized, unit-sounds}

-- `next` moves no more of an event than its source's value and place

abbrev pub Moves : (next : Event → Event) → Type 0
Moves next = (e : Event) → with_place (next e).unit.place (with_value (next e).unit.value e) ≡ next e

pub tick_moves : Moves after_tick
unfolding steps
tick_moves e = ap (λ (s : Source). with_unit (record { source = s; value = (advanced e.unit).value; place = (advanced e.unit).place }) e) (sym (source_stays e.unit 1))

pub sounds_sized : (c d : Cells) (p : ℕ) (u : Unit) → Sized c → p < 256 → d ≡ unit_in c (256 + p) u → Sized d
sounds_sized c d p u s h q = subst Sized (sym q) (unit_sized c s (256 + p) u (omega arith))

module _ {T : Type 0} (next : Event → Event) (plus : T → Event → T) (z : T) (order : MixOrder) where
  pub sounds-start : (c : Cells) (m : ℕ) → m ≡ min (get_or c.numbers 1281 0) 256 → (x : T) → x ≡ z → Passing next plus z order (engine_of c) m 0 (engine_of c) x
  unfolding engine_of
  sounds-start c m h x q = passing_start h q

  -- the event e at place p is added, and its source u stored
  module _ (moves : Moves next) (J : Sequencer) (m k p : ℕ) (c : Cells) (s : Sized c) (x y : T) (e : Event) (u : Unit) (more : k < m) (place : p ≡ mix_place order k (m - 1 - k)) (most : p < 256)
      (read : e ≡ event_at c (slot_of (256 + p))) (unit : u ≡ (next e).unit) (sum : y ≡ plus x e) (w : Passing next plus z order J m k (engine_of c) x) where
    here : e ≡ get_or (engine_of c).active p blank
    here = read ∙ sounds-read c p blank most

    is-next : with_place u.place (with_value u.value (get_or (engine_of c).active p blank)) ≡ next (get_or (engine_of c).active p blank)
    is-next =
        ap (λ (v : Unit). with_place v.place (with_value v.value (get_or (engine_of c).active p blank))) (unit ∙ ap (λ (f : Event). (next f).unit) here)
        ∙ moves (get_or (engine_of c).active p blank)

    pub sounds_on : (d : Cells) → d ≡ unit_in c (256 + p) u → Passing next plus z order J m (k + 1) (engine_of d) y
    sounds_on d q =
        subst (λ (S : Sequencer). Passing next plus z order J m (k + 1) S y) (sym (ap engine_of q ∙ unit-sounds c s p u most))
        (passing_on place is-next (sum ∙ ap (plus x) here) more w)

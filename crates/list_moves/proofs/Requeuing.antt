-- Everything waits again: the finished and the sounding, lists that are cleared, and sources that go back to their beginning.
use Rattle.std.proofs.Common.{◌≡◌, ℕ, ◌+◌, ◌-◌, ◌<◌, ◌≤◌, min, get_or, sym, ap, ◌∙◌, subst, arith, le-ltb, lt-ltb}
use Rattle.event.specs.declared.Event.{Event}
use Rattle.event.specs.declared.Unit.{Unit}
use Rattle.event.specs.Events.{rewound}
use Rattle.event.specs.Blank.{blank}
use Rattle.event.specs.Sources.{at_start}
use Rattle.sequencer.specs.declared.Sequencer.{Sequencer}
use Rattle.sequencer.specs.Parts.{with_ready, with_active, with_past}
use Rattle.sequencer.specs.Moves.{held_at}
use Rattle.sequencer.specs.Passing.{with_value, with_place}
use Rattle.sequencer.specs.Resets.{rewinds, rewound_ready}
use Rattle.sequencer.specs.Turns.{Rewinding, rewinding_on}
use Rattle.memory.specs.Memory.{Cells, event_at, slot_of, unit_in, engine_of}
use Rattle.memory.specs.Laws.{Sized, waits-read, sounds-read, finished_read, with_number, number_sized, sounding_is, finished_is}
use Rattle.memory.specs.Sources.{unit_sized, unit-waits}

-- ---- the event at a place of the finished and the sounding

module _ (c : Cells) (k p : ℕ) (e : Event) where
  pub held_finished : k < p → p ≤ 256 → e ≡ event_at c (slot_of (512 + k)) → e ≡ held_at p (engine_of c) k
  held_finished h l q = q ∙ finished_read c k blank (omega arith) ∙ rw (lt-ltb k p h)

  pub held_sounding : p ≤ k → k < p + 256 → e ≡ event_at c (slot_of (256 + (k - p))) → e ≡ held_at p (engine_of c) k
  held_sounding h l q = q ∙ sounds-read c (k - p) blank (omega arith) ∙ rw (le-ltb k p h)

-- ---- counts

module _ (c : Cells) (z : Sized c) where
  pub lists-cleared : engine_of (with_number (with_number c 1282 0) 1281 0) ≡ with_active (with_past (engine_of c) (engine_of c).past 0) (engine_of c).active (engine_of c).active_map 0
  lists-cleared = sounding_is (with_number c 1282 0) 0 (number_sized c 1282 0 z) ∙ ap (λ (x : Sequencer). with_active x x.active x.active_map 0) (finished_is c 0 z)

-- ---- the loop over those that wait

pub count_waits : (c : Cells) (n : ℕ) → n ≡ min (get_or c.numbers 1280 0) 256 → n ≡ min (engine_of c).ready_len 256
unfolding engine_of
count_waits c n h = h

module _ (J : Sequencer) (n k : ℕ) (c : Cells) (s : Sized c) (e : Event) (u : Unit) (most : n ≤ 256) (more : k < n) (read : e ≡ event_at c (slot_of k)) (unit : u ≡ at_start e.unit.source)
    (w : Rewinding J n k (engine_of c)) where
  at-start : with_place u.place (with_value u.value (get_or (engine_of c).ready k blank)) ≡ rewound (get_or (engine_of c).ready k blank)
  at-start =
      ap (λ (v : Unit). with_place v.place (with_value v.value (get_or (engine_of c).ready k blank)))
      (unit ∙ ap (λ (f : Event). at_start f.unit.source) (read ∙ waits-read c k blank (omega arith)))

  pub rewinds_on : (d : Cells) → d ≡ unit_in c k u → Sized d × Rewinding J n (k + 1) (engine_of d)
  rewinds_on d q =
      subst (λ (o : Cells). Sized o × Rewinding J n (k + 1) (engine_of o)) (sym q)
      (unit_sized c s k u (omega arith), subst (λ (S : Sequencer). Rewinding J n (k + 1) S) (sym (unit-waits c s k u (omega arith))) (rewinding_on at-start more w))

pub rewound-is : (s : Sequencer) {t : Sequencer} {n : ℕ} → n ≡ min s.ready_len 256 → t ≡ with_ready s (rewinds n s.ready 0) s.ready_len → t ≡ rewound_ready s
unfolding rewound_ready
rewound-is s h g = g ∙ ap (λ (m : ℕ). with_ready s (rewinds m s.ready 0) s.ready_len) h

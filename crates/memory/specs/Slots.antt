-- A slot that `put_event` or `copy_slot` writes, as the engine has it.
use Rattle.std.specs.Prelude.{◌≡◌, ℕ, ◌+◌, ◌<◌, get_or, set}
use Rattle.std.proofs.Common.{sym, ap, ◌∙◌, subst, arith}
use Rattle.event.specs.declared.Event.{Event}
use Rattle.event.specs.Blank.{blank}
use Rattle.sequencer.specs.declared.Sequencer.{Sequencer}
use Rattle.sequencer.specs.Parts.{with_ready, with_past, with_sounding}
use Rattle.memory.specs.Memory.{Cells, engine_of, stored_in, copied_in}
use Rattle.memory.specs.Laws.{Sized, sized_slot, engine-waits, engine-sounds, engine_finished}
use Rattle.memory.specs.Laws.{stored-reads, copied-reads, stored-inside, copied-inside, waits-at, sounds-at}

module _ (c : Cells) (z : Sized c) where
  abbrev s : Sequencer
  s = engine_of c

  pub put_sized : (k : ℕ) (e : Event) → k < 768 → Sized (stored_in c k e)
  put_sized k e h = subst Sized (sym (stored-inside c k e h)) (sized_slot c k _ _ _ _ _ _ _ _ _ _ _ _ _ z)

  pub copy_sized : (k j : ℕ) → k < 768 → j < 768 → Sized (copied_in c k j)
  copy_sized k j h l = subst Sized (sym (copied-inside c k j h l)) (sized_slot c k _ _ _ _ _ _ _ _ _ _ _ _ _ z)

  -- an event is put

  pub put-waits : (k : ℕ) (e : Event) → k < 256 → engine_of (stored_in c k e) ≡ with_ready s (set s.ready k e) s.ready_len
  put-waits k e h =
      ap engine_of (stored-inside c k e (omega arith)) ∙ engine-waits c k _ _ _ _ _ _ _ _ _ _ _ _ _ h
      ∙ ap (λ (x : Event). with_ready s (set s.ready k x) s.ready_len) (stored-reads c k e z (omega arith))

  pub put-sounds : (a : ℕ) (e : Event) → a < 256 → engine_of (stored_in c (256 + a) e) ≡ with_sounding s (set s.active a e)
  put-sounds a e h =
      ap engine_of (stored-inside c (256 + a) e (omega arith)) ∙ engine-sounds c (256 + a) _ _ _ _ _ _ _ _ _ _ _ _ _ a (omega arith) h
      ∙ ap (λ (x : Event). with_sounding s (set s.active a x)) (stored-reads c (256 + a) e z (omega arith))

  -- an event is copied: among those that wait, among those that sound, and from those to the finished

  pub copy_waits : (k j : ℕ) → k < 256 → j < 256 → engine_of (copied_in c k j) ≡ with_ready s (set s.ready k (get_or s.ready j blank)) s.ready_len
  copy_waits k j h l =
      ap engine_of (copied-inside c k j (omega arith) (omega arith)) ∙ engine-waits c k _ _ _ _ _ _ _ _ _ _ _ _ _ h
      ∙ ap (λ (x : Event). with_ready s (set s.ready k x) s.ready_len) (copied-reads c k j z (omega arith) ∙ waits-at c j blank l)

  pub copy_sounds : (a b : ℕ) → a < 256 → b < 256 → engine_of (copied_in c (256 + a) (256 + b)) ≡ with_sounding s (set s.active a (get_or s.active b blank))
  copy_sounds a b h l =
      ap engine_of (copied-inside c (256 + a) (256 + b) (omega arith) (omega arith)) ∙ engine-sounds c (256 + a) _ _ _ _ _ _ _ _ _ _ _ _ _ a (omega arith) h
      ∙ ap (λ (x : Event). with_sounding s (set s.active a x)) (copied-reads c (256 + a) (256 + b) z (omega arith) ∙ sounds-at c b blank l)

  pub copy_finishes : (k a : ℕ) → k < 256 → a < 256 → engine_of (copied_in c (512 + k) (256 + a))
      ≡ with_past s (set s.past k (get_or s.active a blank)) s.past_len
  copy_finishes k a h l =
      ap engine_of (copied-inside c (512 + k) (256 + a) (omega arith) (omega arith)) ∙ engine_finished c (512 + k) _ _ _ _ _ _ _ _ _ _ _ _ _ k (omega arith) h
      ∙ ap (λ (x : Event). with_past s (set s.past k x) s.past_len) (copied-reads c (512 + k) (256 + a) z (omega arith) ∙ sounds-at c a blank l)

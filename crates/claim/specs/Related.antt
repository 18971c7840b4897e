-- The relation between the engine and the plain ledger, and what a move of one event is on both sides. Assumes nothing.
use Rattle.std.specs.Prelude.{◌≡◌, List, [], ◌∷◌, ◌++◌, map, ◌+◌, ◌^◌, ◌%◌, ◌<◌, get_or, set, length}
use Rattle.std.proofs.Common.{sym, ap, subst, lt-ltb}
use Rattle.event.specs.declared.Event.{Event}
use Rattle.event.specs.declared.StoredEdit.{StoredEdit}
use Rattle.event.specs.Blank.{blank}
use Rattle.ledger.specs.Ledger.{Ledger}
use Rattle.ledger.specs.Lists.{insert}
use Rattle.ledger.specs.Sorted.{Sorted}
use Rattle.ready.proofs.Waits.{waits-push, waits_pop}
use Rattle.ready.specs.Waits.{Waits}
use Rattle.lists.specs.EditList.{Edits}
use Rattle.lists.specs.Holds.{Holds, holds_to, holds-append}
use Rattle.lists.specs.Sounding.{id_of, listed-append}
use Rattle.sequencer.specs.declared.Sequencer.{Sequencer}
use Rattle.sequencer.specs.Parts.{with_active, with_past}
use Rattle.sequencer.specs.Moves.{heap_of, pushed_ready, popped_ready, pushed_active, pushed_past}

-- The four lists: what the heap, the arrays with the index, and the edit map stand for. Products and not records: an engine with another clock has the same `Lists`, by computation.
abbrev pub Lists : Sequencer → (waiting sounding finished : List Event) → List StoredEdit → Type 0
Lists s w a f x =
    Waits (heap_of s) w
    × Holds s.active s.active_len a
    × Holds s.active_map s.active_len (map id_of a)
    × Holds s.past s.past_len f
    × Edits s.edit_map x

-- the clock; the threshold; rate and duration; channels, mode, next number; the count of those let go
abbrev pub Plain : Sequencer → Ledger → Type 0
Plain s l =
    (s.time ≡ l.clock)
    × (s.active_threshold ≡ l.threshold)
    × (s.sample_rate ≡ l.rate)
    × (s.sample_duration ≡ l.duration)
    × (s.outputs ≡ l.channels)
    × (s.mode ≡ l.mode)
    × (s.next ≡ l.next % 2 ^ 64)
    × (s.let_go ≡ length l.gone)

pub record Related (s : Sequencer) (l : Ledger) : Type 0 where
  pub lists : Lists s l.waiting l.sounding l.finished l.edits
  pub plain : Plain s l

-- the same lists, said in another way
pub relist : (t : Sequencer) (w : List Event) (x : List StoredEdit) {a a' f f' : List Event} → a ≡ a' → f ≡ f' → Lists t w a f x → Lists t w a' f' x
relist t w x c d r = (r.0, holds_to c r.1, holds_to (ap (map id_of) c) r.2, holds_to d r.3, r.4)

-- ---- one event moves

module _ (s : Sequencer) (e : Event) where
  pub active_is : s.active_len < 256
      → pushed_active s e ≡ with_active s (set s.active s.active_len e) (set s.active_map s.active_len e.id) (s.active_len + 1)
  unfolding pushed_active
  active_is p = rw (lt-ltb s.active_len 256 p)

  pub past_is : s.past_len < 256 → pushed_past s e ≡ with_past s (set s.past s.past_len e) (s.past_len + 1)
  unfolding pushed_past
  past_is p = rw (lt-ltb s.past_len 256 p)

module _ (s : Sequencer) (e : Event) (w a f : List Event) (x : List StoredEdit) where
  -- into W
  pub lists_ready : s.ready_len < 256 → Lists s w a f x → Lists (pushed_ready s e) (insert e w) a f x
  unfolding pushed_ready
  lists_ready p r = (waits-push (heap_of s) w e p r.0, r.1, r.2, r.3, r.4)

  -- to S's end
  pub lists_active : s.active_len < 256 → Lists s w a f x → Lists (pushed_active s e) w (a ++ (e ∷ [])) f x
  lists_active p r =
      let k = listed-append e p (r.1, r.2) in
      subst (λ (t : Sequencer). Lists t w (a ++ (e ∷ [])) f x) (sym (active_is s e p)) (r.0, k.0, k.1, r.3, r.4)

  -- to F's end
  pub lists_past : s.past_len < 256 → Lists s w a f x → Lists (pushed_past s e) w a (f ++ (e ∷ [])) x
  lists_past p r = subst (λ (t : Sequencer). Lists t w a (f ++ (e ∷ [])) x) (sym (past_is s e p)) (r.0, r.1, r.2, holds-append e p r.3, r.4)

  -- the heap's first is W's, and leaves
  pub lists-popped : Sorted (e ∷ w) → Lists s (e ∷ w) a f x → (get_or s.ready 0 blank ≡ e) × Lists (popped_ready s) w a f x
  unfolding popped_ready
  lists-popped q r = let k = waits_pop (heap_of s) e w q r.0 in (k.0, (k.1, r.1, r.2, r.3, r.4))

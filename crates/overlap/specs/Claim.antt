-- Document 02, Paper 4: what is claimed of the calls on an engine that holds a ledger's lists.
use Rattle.std.specs.Prelude.{ℕ, true, ◌≡◌, List, ◌++◌, Float, length, drop}
use Rattle.ledger.specs.Ledger.{Ledger}
use Rattle.ledger.specs.Lists.{numbers}
use Rattle.sequencer.specs.declared.Sequencer.{Sequencer}
use Rattle.overlap.specs.Stretch.{held_events, clips_of, sound, clips_answer, clips_listed, first_in}
use Rattle.overlap.specs.Reading.{held_in, first_read}

-- the calls on an engine are those on the ledger; no clip is left out of the slice
pub record Same (s : Sequencer) (l : Ledger) : Type 0 where
  pub answer : (from to : Float) (out : List ℕ) → clips_answer from to out (held_in s) ≡ clips_answer from to out (held_events l)
  pub listed : (from to : Float) (out : List ℕ) → clips_listed from to out (held_in s) ≡ clips_listed from to out (held_events l)
  -- "listed by start then number into a lent slice of 256 numbers, the rest of the slice left"
  pub all_listed : (from to : Float) (out : List ℕ) → sound from to out ≡ true
      → clips_listed from to out (held_in s) ≡ numbers (clips_of from to (held_events l)) ++ drop (length (clips_of from to (held_events l))) out
  pub first : (time : Float) → first_read time s ≡ first_in time l

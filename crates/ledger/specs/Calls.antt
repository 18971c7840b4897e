-- The calls of the plain ledger with all that is lent to them, and what they give back.
use Rattle.std.specs.Prelude.{ℕ, List, Float}
use Rattle.std.proofs.Math.Option.{Option}
use Rattle.event.specs.declared.Fade.{Fade}
use Rattle.event.specs.declared.MixOrder.{MixOrder}
use Rattle.event.specs.declared.Placings.{Placings}
use Rattle.event.specs.declared.Source.{Source}

-- a push states start and end; or both relative to the clock; or start and duration
pub data PushKind : Type 0 where
  absolute relative by_duration : PushKind

-- an edit states its end, or its end relative to the clock
pub data EditKind : Type 0 where
  absolute_end relative_end : EditKind

-- Document 02, Paper 9: a tick or block has the mark where its order is `Backward`.
pub data Call : Type 0 where
  push : PushKind → (start end fade_in fade_out : Float) → Fade → Source → (gain : Float) → Call
  edit : EditKind → (number : ℕ) → (end fade_out : Float) → Call
  tick : MixOrder → (pool out : List Float) → Call
  block : MixOrder → (size : ℕ) → (pool out : List Float) → (scratch : Option (List Float)) → Call
  rate : Float → Call
  reset : Call

-- the event's number; an edit's applied, past or stored; done; of a block, how its places came (document 02, Paper 12); or document 01's number of the refusal
pub data Answer : Type 0 where
  number : ℕ → Answer
  applied past stored done : Answer
  rendered : Placings → Answer
  refused : ℕ → Answer

-- What a call gives back: its answer, and what was lent to be written.
-- Of a lent scratch the first `filled` places count: the samples given; of a refused call every place lent.
pub record Reply : Type 0 where
  pub answer : Answer
  pub out : List Float
  pub scratch : Option (List Float)
  pub filled : ℕ

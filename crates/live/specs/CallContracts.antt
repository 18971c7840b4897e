-- What the contracts of the calls name beside crate sequencer's definitions.
use Rattle.std.specs.Prelude.{ℕ, ◌+◌, ◌%◌, ◌^◌, min, List, get_or, slice_index_or, Float}
use Rattle.std.specs.Float.{nan}
use Rattle.event.specs.declared.Event.{Event}
use Rattle.event.specs.declared.MixOrder.{MixOrder}
use Rattle.event.specs.declared.ReplayMode.{ReplayMode}
use Rattle.event.specs.declared.ReplayMode.TheVariants.{All, None}
use Rattle.floats.specs.Arithmetic.{◌+ᵈ◌, ◌-ᵈ◌, ◌×ᵈ◌, whole}
use Rattle.ledger.specs.Calls.{PushKind, absolute, relative, by_duration}
use Rattle.ledger.specs.Refusals.{stated_end}
use Rattle.ledger.specs.Steps.{pushed_time}
use Rattle.ledger.specs.BlockSamples as Ledger
use Rattle.ledger.specs.BlockSamples.{after_block}
use Rattle.mixing.specs.declared.Span.{Span}
use Rattle.sequencer.specs.declared.Sequencer.{Sequencer}
use Rattle.sequencer.specs.declared.Answer.{Answer}
use Rattle.sequencer.specs.declared.Answer.TheVariants.{Number, Applied, Past, Stored, Done, Rendered, Refused}
use Rattle.live.specs.declared.pushes.Stated.{Stated}
use Rattle.live.specs.declared.pushes.Timing.{Timing}
use Rattle.live.specs.declared.pushes.Timing.TheVariants.{Absolute, Relative, Duration}
use Rattle.sequencer.specs.Passing.{pass_of}
use Rattle.sequencer.specs.Rendering.{Passed, add_block}

-- "a refused call leaves it and all that is lent unchanged": whether an answer refuses
abbrev pub Refuses : Answer → Type 0
Refuses (Number k) = ⊥
Refuses Applied = ⊥
Refuses Past = ⊥
Refuses Stored = ⊥
Refuses Done = ⊥
Refuses (Rendered c) = ⊥
Refuses (Refused n) = Unit {0}

-- the number of a mode
abbrev pub mode_number : ReplayMode → ℕ
mode_number All = 0
mode_number None = 1

-- the way in which a push states its times
abbrev pub timed : Timing → PushKind
timed Absolute = absolute
timed Relative = relative
timed Duration = by_duration

-- a push's times: as given, how long it lasts, and from when until when its event is to last
abbrev pub stated : PushKind → (start end clock : Float) → Stated
stated kind start end clock = record {
  start = start;
  end = end;
  lasts = stated_end kind start end -ᵈ start;
  from = pushed_time kind clock start;
  until = pushed_time kind clock (stated_end kind start end);
}

-- the count of those let go once a reset in mode None has let go of all
abbrev pub gone_all : Sequencer → ℕ
gone_all s = (s.let_go + (min s.past_len 256 + (min s.ready_len 256 + min s.active_len 256))) % 2 ^ 64

-- the span of a block of n samples, from the clock on
abbrev pub span_from : (times : List Float) → (n : ℕ) → Span
span_from times n = record {
  size = n;
  clock = slice_index_or times 3072 nan;
  upto = slice_index_or times 3072 nan +ᵈ get_or times 3075 nan ×ᵈ whole n;
  rate = slice_index_or times 3074 nan;
  duration = slice_index_or times 3075 nan;
}

-- the pass of a block over the sounding events, on top of what the channel has
abbrev pub block_mixed : MixOrder → (pool : List Float) → Ledger.Span → (channel : List Float) → Sequencer → Passed Event (List Float)
block_mixed order pool b channel s = pass_of (after_block b) (add_block pool b) channel order s

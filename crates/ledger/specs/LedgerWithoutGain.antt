-- The plain ledger without gain, as document 01 has it: ticks and blocks by `WithoutGain`, every other call as it is. On any list of calls whose gains are all 1.0 the ledger is this one: answers, samples and states. Assumes nothing.
use Rattle.std.specs.Prelude.{ℕ, ◌≡◌, length, replicate, Float}
use mathlib.Core.List.{List, [], ◌∷◌}
use Rattle.std.proofs.Math.Option.{Option, none, some}
use Rattle.event.specs.Sources.{first_value}
use Rattle.floats.specs.Arithmetic.{zeroᶠ, oneᶠ}
use Rattle.ledger.specs.Calls.{Call, push, edit, tick, block, rate, reset, done, rendered}
use Rattle.ledger.specs.Lists.{start}
use Rattle.ledger.specs.Ledger.{Ledger}
use Rattle.ledger.specs.Refusals.{refusal, tick_end, block_end}
use Rattle.ledger.specs.Steps as Gained
use Rattle.ledger.specs.Steps.{Outcome, Run, refused_reply, pushed_time, enter, change, stays, advance, with_sounding, in_order, span_of, cleared, block_places, everything, set_rate, restart}
use Rattle.ledger.specs.TickSamples.{TickSum}
use Rattle.ledger.specs.BlockSamples.{BlockSum, overlay, overlay_scratch}
use Rattle.ledger.specs.WithoutGain.{tick_sum, block_sum, AllSingle, Single, AllAtOne}

-- ---- the ledger without gain

-- what a tick and a block give, by what the sounding events make in their own order, and by what they make in the order of the call
abbrev pub ticked : Ledger → (own r : TickSum) → Outcome
ticked l own r = record {
  ledger = with_sounding (advance l (tick_end l)) own.events;
  reply = record { answer = done; out = replicate l.channels r.out; scratch = none; filled = 0 };
}

abbrev pub blocked : Ledger → (n : ℕ) → (out : List Float) → (scratch : Option (List Float)) → (own r : BlockSum) → Outcome
blocked l n out scratch own r = record {
  ledger = with_sounding (advance l (block_end l n)) own.events;
  reply = record {
    answer = rendered (block_places l n);
    out = overlay l.channels r.channel out;
    scratch = overlay_scratch r.scratch scratch;
    filled = length r.scratch;
  };
}

unfoldable pub accept : Ledger → Call → Outcome
accept l (push kind start end fade_in fade_out curve source gain) = Gained.accept l (push kind start end fade_in fade_out curve source gain)
accept l (edit kind k end fade_out) = Gained.accept l (edit kind k end fade_out)
accept l (tick order pool out) =
    let s = (advance l (tick_end l)).sounding in
    ticked l (tick_sum pool l.clock s zeroᶠ) (tick_sum pool l.clock (in_order order s) zeroᶠ)
accept l (block order n pool out scratch) =
    let s = (advance l (block_end l n)).sounding in
    blocked l n out scratch (block_sum pool (span_of l n) s (cleared n) []) (block_sum pool (span_of l n) (in_order order s) (cleared n) [])
accept l (rate r) = Gained.accept l (rate r)
accept l reset = Gained.accept l reset

unfoldable pub decide : Option ℕ → Ledger → Call → Outcome
decide (some k) l c = record { ledger = l; reply = refused_reply k c }
decide none l c = accept l c

unfoldable pub step : Ledger → Call → Outcome
step l c = decide (refusal l c) l c

unfoldable pub run : List Call → Ledger → Run
run [] l = record { ledger = l; replies = [] }
run (c ∷ cs) l =
    let a = step l c in
    let r = run cs a.ledger in
    record { ledger = r.ledger; replies = a.reply ∷ r.replies }

-- ---- calls at gain 1.0, with f32s in sources and pools

abbrev pub CallAtOne : Call → Type 0
CallAtOne (push kind start end fade_in fade_out curve source gain) = (gain ≡ oneᶠ) × Single source (first_value source)
CallAtOne (edit kind k end fade_out) = Unit {0}
CallAtOne (tick order pool out) = AllSingle pool
CallAtOne (block order n pool out scratch) = AllSingle pool
CallAtOne (rate r) = Unit {0}
CallAtOne reset = Unit {0}

abbrev pub CallsAtOne : List Call → Type 0
CallsAtOne [] = Unit {0}
CallsAtOne (c ∷ cs) = CallAtOne c × CallsAtOne cs

-- ---- every list of the ledger keeps events at gain 1.0

abbrev pub HeldAtOne : Ledger → Type 0
HeldAtOne l = AllAtOne l.waiting × (AllAtOne l.sounding × AllAtOne l.finished)

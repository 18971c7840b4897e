-- Document 01's conditions of acceptance: the claim is refuted for each of the six wrong engines, and for one that writes a refused block's scratch.
use Rattle.std.specs.Prelude.{ℕ, ◌-◌, ◌^◌, ◌%◌, ◌<◌, ◌≡◌, Bool, true, false, List, [], ◌∷◌, ◌++◌, length, take, replicate, Float}
use Rattle.std.proofs.Math.Option.{Option, none, some}
use Rattle.std.specs.Float.{nan, inf, fin}
use Rattle.floats.specs.Arithmetic.{zeroᶠ, oneᶠ}
use Rattle.event.specs.declared.Fade.TheVariants.{Smooth}
use Rattle.event.specs.declared.MixOrder.TheVariants.{Forward}
use Rattle.event.specs.declared.ReplayMode.{ReplayMode}
use Rattle.event.specs.declared.Source.TheVariants.{Held}
use Rattle.ledger.specs.Calls.{Call, push, edit, tick, block, rate, reset, absolute, Reply}
use Rattle.ledger.specs.Lists.{place_of}
use Rattle.ledger.specs.Ledger.{Ledger, create}
use Rattle.ledger.specs.Steps.{refused_reply, with_lists, step}
use Rattle.ledger.specs.Claim.{Engine, engine_after, ledger_after, AllLend}
use Rattle.ledger.specs.LedgerMeets.{view_of, pair_of}

-- ---- calls that show the difference

abbrev pub clip : Call
clip = push absolute zeroᶠ oneᶠ zeroᶠ zeroᶠ Smooth (Held oneᶠ) oneᶠ

abbrev pub one_tick : Call
one_tick = tick Forward [] (zeroᶠ ∷ [])

abbrev pub zeros : List Float
zeros = replicate 64 zeroᶠ

abbrev pub scratch : (lends : Bool) → Option (List Float)
scratch true = some zeros
scratch false = none

abbrev pub one_block : (lends : Bool) → Call
one_block b = block Forward 8 [] zeros (scratch b)

abbrev pub is_push : Call → Bool
is_push (push k start end fade_in fade_out curve source gain) = true
is_push (edit k n end fade_out) = false
is_push (tick order pool out) = false
is_push (block order n pool out scratch) = false
is_push (rate x) = false
is_push reset = false

abbrev pub is_tick_or_block : Call → Bool
is_tick_or_block (push k start end fade_in fade_out curve source gain) = false
is_tick_or_block (edit k n end fade_out) = false
is_tick_or_block (tick order pool out) = true
is_tick_or_block (block order n pool out scratch) = true
is_tick_or_block (rate x) = false
is_tick_or_block reset = false

-- ---- 1: it declares itself full while empty. By answers: its first push.

abbrev pub full : Ledger → Call → Ledger × Reply
full l c = elim (is_push c) [ true ↦ (l, refused_reply 6 c) | false ↦ pair_of (step l c) ]

-- ---- 2: it declares its clock spent at 0. By answers: its first tick.

abbrev pub spent : Ledger → Call → Ledger × Reply
spent l c = elim (is_tick_or_block c) [ true ↦ (l, refused_reply 12 c) | false ↦ pair_of (step l c) ]

-- ---- 3: it writes silence. By samples: a held 1.0 in the first tick.

abbrev pub silent : Ledger → Call → Ledger × Reply
silent l c =
    let o = step l c in
    (o.ledger, record { answer = o.reply.answer; out = replicate (length o.reply.out) zeroᶠ; scratch = o.reply.scratch; filled = o.reply.filled })

-- ---- 4: it moves nothing and leaves all waiting. By the threshold: if its own stays, that is not θ after a tick; if it moves, an event waits that starts before it.

abbrev pub at_rest : (stays : Bool) → Ledger → Call → Ledger × Reply
at_rest stays l c =
    let o = step l c in
    let θ : Float = elim stays [ true ↦ l.threshold | false ↦ o.ledger.threshold ] in
    elim (is_tick_or_block c) [
      | true ↦ (with_lists l l.waiting l.sounding l.finished l.edits o.ledger.clock θ l.gone, o.reply)
      | false ↦ pair_of o
    ]

abbrev pub infinities : Float → ℕ
infinities nan = 0
infinities (inf s) = 1
infinities (fin s m e) = 0

-- ---- 5: it renders its first block and then repeats it. By the whole list: the second block, after the clip's end.

abbrev pub again : Option (List Float) → Ledger → Call → (Ledger × Option (List Float)) × Reply
again first l (block order n pool out scratch) =
    let o = step l (block order n pool out scratch) in
    elim first [
      | none ↦ ((o.ledger, some o.reply.out), o.reply)
      | some m ↦ ((o.ledger, some m), record { answer = o.reply.answer; out = m; scratch = o.reply.scratch; filled = o.reply.filled })
    ]
again first l (push k start end fade_in fade_out curve source gain) = let o = step l (push k start end fade_in fade_out curve source gain) in ((o.ledger, first), o.reply)
again first l (edit k n end fade_out) = let o = step l (edit k n end fade_out) in ((o.ledger, first), o.reply)
again first l (tick order pool out) = let o = step l (tick order pool out) in ((o.ledger, first), o.reply)
again first l (rate x) = let o = step l (rate x) in ((o.ledger, first), o.reply)
again first l reset = let o = step l reset in ((o.ledger, first), o.reply)

abbrev pub repeating : (lends : Bool) → Engine
repeating b = record {
  State = Ledger × Option (List Float);
  lends = b;
  new = λ channels mode first. let new = create channels mode first in ((new.ledger, none), new.answer);
  call = λ e c. again e.1 e.0 c;
  view = λ e. view_of e.0;
}

-- ---- 6: it invents the let-go count. By the ledger: what it tells after some list of calls is not L.

pub record Invents (E : Engine) : Type 0 where
  pub channels : ℕ
  pub mode : ReplayMode
  pub first : ℕ
  pub cs : List Call
  pub known : first < 2 ^ 64
  pub lent : AllLend E.lends cs
  pub differs : ¬ ((engine_after E channels mode first cs).view.counts.gone ≡ length (ledger_after channels mode first cs).ledger.gone)

-- the ledger, with a count of its own
abbrev pub inventing : (count : Ledger → ℕ) → (lends : Bool) → Engine
inventing count b = record {
  State = Ledger;
  lends = b;
  new = λ channels mode first. let new = create channels mode first in (new.ledger, new.answer);
  call = λ l c. pair_of (step l c);
  view = λ l. record {
    heap = l.waiting;
    sounding = l.sounding;
    finished = l.finished;
    counts = record { waiting = length l.waiting; sounding = length l.sounding; finished = length l.finished; gone = count l };
    index = λ k. place_of k l.sounding;
    edits = l.edits;
    clock = l.clock;
    threshold = l.threshold;
    rate = l.rate;
    duration = l.duration;
    channels = l.channels;
    mode = l.mode;
    next = l.next % 2 ^ 64;
  };
}

-- ---- One more: it writes a lent scratch from place 64 on. An accepted block's has 64 places, so that a refused block alone shows it. By what is lent back.

abbrev pub overrun : Option (List Float) → Option (List Float)
overrun none = none
overrun (some l) = some (take 64 l ++ replicate (length l - 64) oneᶠ)

abbrev pub overrunning : Ledger → Call → Ledger × Reply
overrunning l c =
    let o = step l c in
    (o.ledger, record { answer = o.reply.answer; out = o.reply.out; scratch = overrun o.reply.scratch; filled = o.reply.filled })

abbrev pub long-block : Call
long-block = block Forward 8 [] zeros (some (replicate 128 zeroᶠ))

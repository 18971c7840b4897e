-- Document 01, "The plain ledger": what each call does, one after another. It runs.
use Rattle.std.specs.Prelude.{ℕ, suc, ◌+◌, ◌*◌, ◌/◌, Bool, true, false, List, [], ◌∷◌, ◌++◌, map, reverse, length, replicate, Float}
use Rattle.std.proofs.Math.Option.{Option, none, some}
use Rattle.event.specs.declared.Event.{Event}
use Rattle.event.specs.declared.Edit.{Edit}
use Rattle.event.specs.declared.StoredEdit.{StoredEdit}
use Rattle.event.specs.declared.MixOrder.{MixOrder}
use Rattle.event.specs.declared.MixOrder.TheVariants.{Forward, Backward}
use Rattle.event.specs.declared.Placings.{Placings}
use Rattle.event.specs.declared.ReplayMode.{ReplayMode}
use Rattle.event.specs.declared.ReplayMode.TheVariants.{All, None}
use Rattle.event.specs.Events.{new_event, rewound}
use Rattle.event.specs.Placings.{tally}
use Rattle.floats.specs.Arithmetic.{◌+ᵈ◌, ◌-ᵈ◌, ◌×ᵈ◌, ◌÷ᵈ◌, ◌<ᶠ◌, ◌≈ᶠ◌, zeroᶠ, oneᶠ, halfᶠ, -∞}
use Rattle.ledger.specs.Calls.{Call, PushKind, absolute, relative, by_duration, push, edit, tick, block, rate, reset, Answer, number, applied, past, stored, done, rendered, refused, Reply}
use Rattle.ledger.specs.Lists.{insert, insert_all, numbers, has, store_edit, edit_in, start, sweep}
use Rattle.ledger.specs.TickSamples.{tick_sum}
use Rattle.ledger.specs.BlockSamples.{Span, block_sum, overlay, overlay_scratch}
use Rattle.ledger.specs.Places.{placings}
use Rattle.ledger.specs.Ledger.{Ledger}
use Rattle.ledger.specs.Refusals.{stated_end, edit_end, length_or, tick_end, block_end, refusal}

pub record Outcome : Type 0 where
  pub ledger : Ledger
  pub reply : Reply

-- a call to which nothing was lent to be written
abbrev pub answers : Answer → Reply
answers a = record { answer = a; out = []; scratch = none; filled = 0 }

-- the ledger with other lists, clock and threshold
abbrev pub with_lists : Ledger → (waiting sounding finished : List Event) → List StoredEdit → (clock threshold : Float) → (gone : List ℕ) → Ledger
with_lists l w s f x t θ g = record {
  waiting = w;
  sounding = s;
  finished = f;
  edits = x;
  clock = t;
  threshold = θ;
  rate = l.rate;
  duration = l.duration;
  gone = g;
  next = l.next;
  channels = l.channels;
  mode = l.mode;
}

-- ---- Push: start < θ appends to S without looking in E; otherwise into W. Relative adds t to start and end after the checks. The answer is the event's number.

unfoldable pub pushed_time : PushKind → (t x : Float) → Float
pushed_time absolute t x = x
pushed_time relative t x = x +ᵈ t
pushed_time by_duration t x = x

unfoldable pub enter : Ledger → Event → Ledger
enter l e =
    let straight = e.start_time <ᶠ l.threshold in
    record {
      waiting = elim straight [ true ↦ l.waiting | false ↦ insert e l.waiting ];
      sounding = elim straight [ true ↦ l.sounding ++ (e ∷ []) | false ↦ l.sounding ];
      finished = l.finished;
      edits = l.edits;
      clock = l.clock;
      threshold = l.threshold;
      rate = l.rate;
      duration = l.duration;
      gone = l.gone;
      next = suc l.next;
      channels = l.channels;
      mode = l.mode;
    }

-- ---- Edit: in S, replace end and fade-out (applied). Else, if end < θ, nothing (past). Else store in E, replacing an earlier edit, even for an unknown number (stored).

unfoldable pub change : Ledger → (number : ℕ) → Edit → (sounds over : Bool) → Outcome
change l k d true over = record { ledger = with_lists l l.waiting (edit_in k d l.sounding) l.finished l.edits l.clock l.threshold l.gone; reply = answers applied }
change l k d false true = record { ledger = l; reply = answers past }
change l k d false false = record { ledger = with_lists l l.waiting l.sounding l.finished (store_edit k d l.edits) l.clock l.threshold l.gone; reply = answers stored }

-- ---- Tick, or block of n samples, which ends at e. In mode None F's numbers are appended to G and F empties. θ = e - d × 0.5. W's first move to S, S is swept, and last t = e.

abbrev pub stays : ReplayMode → List Event → List Event
stays All f = f
stays None f = []

abbrev pub leaves : ReplayMode → List Event → List ℕ
leaves All f = []
leaves None f = numbers f

unfoldable pub advance : Ledger → (e : Float) → Ledger
advance l e =
    let θ = e -ᵈ l.duration ×ᵈ halfᶠ in
    let w = start θ l.waiting l.sounding l.edits in
    let r = sweep (length w.sounding) (l.clock +ᵈ halfᶠ ×ᵈ l.duration) w.sounding in
    with_lists l w.waiting r.sounding (stays l.mode l.finished ++ r.finished) w.edits e θ (l.gone ++ leaves l.mode l.finished)

-- the sounding events after they have sounded
abbrev pub with_sounding : Ledger → List Event → Ledger
with_sounding l s = with_lists l l.waiting s l.finished l.edits l.clock l.threshold l.gone

-- Document 02, Paper 9: "a mark that makes the mixer add from the end of the sounding list as the call leaves it; events move and finish as without the mark."
abbrev pub in_order : MixOrder → List Event → List Event
in_order Forward s = s
in_order Backward s = reverse s

abbrev pub span_of : Ledger → (n : ℕ) → Span
span_of l n = record { size = n; clock = l.clock; upto = block_end l n; rate = l.rate; duration = l.duration }

-- the first 8 × ceil(n/8) become +0.0
abbrev pub cleared : (n : ℕ) → List Float
cleared n = replicate (8 * ((n + 7) / 8)) zeroᶠ

-- how the places of every event that sounds in the block came
abbrev pub block_places : Ledger → (n : ℕ) → Placings
block_places l n = tally (placings (span_of l n) (advance l (block_end l n)).sounding)

-- ---- Rate: if different, r and d change, everything goes to W, θ = -infinity; t, E and source places remain.

abbrev pub everything : Ledger → List Event
everything l = insert_all l.sounding (insert_all l.finished l.waiting)

unfoldable pub set_rate : Ledger → (r : Float) → (same : Bool) → Ledger
set_rate l r true = l
set_rate l r false = record {
  waiting = everything l;
  sounding = [];
  finished = [];
  edits = l.edits;
  clock = l.clock;
  threshold = -∞;
  rate = r;
  duration = oneᶠ ÷ᵈ r;
  gone = l.gone;
  next = l.next;
  channels = l.channels;
  mode = l.mode;
}

-- ---- Reset: All sends everything to W and rewinds sources, E remaining. None appends the numbers of F, W and S to G and empties all four of W, S, F and E. Both: t = 0, θ = -infinity.

unfoldable pub restart : Ledger → ReplayMode → Ledger
restart l All = with_lists l (map rewound (everything l)) [] [] l.edits zeroᶠ -∞ l.gone
restart l None = with_lists l [] [] [] [] zeroᶠ -∞ (l.gone ++ (numbers l.finished ++ (numbers l.waiting ++ numbers l.sounding)))

-- ---- a call that no refusal names

unfoldable pub accept : Ledger → Call → Outcome
accept l (push kind start end fade_in fade_out curve source gain) =
    let t = l.clock in
    record {
      ledger = enter l (new_event (pushed_time kind t start) (pushed_time kind t (stated_end kind start end)) fade_in fade_out curve source gain l.next);
      reply = answers (number l.next);
    }
accept l (edit kind k end fade_out) =
    let end = edit_end kind l.clock end in
    change l k (record { end_time = end; fade_out = fade_out }) (has k l.sounding) (end <ᶠ l.threshold)
accept l (tick order pool out) =
    let m = advance l (tick_end l) in
    let r = tick_sum pool l.clock (in_order order m.sounding) zeroᶠ in
    record {
      ledger = with_sounding m (tick_sum pool l.clock m.sounding zeroᶠ).events;
      reply = record { answer = done; out = replicate l.channels r.out; scratch = none; filled = 0 };
    }
accept l (block order n pool out scratch) =
    let m = advance l (block_end l n) in
    let r = block_sum pool (span_of l n) (in_order order m.sounding) (cleared n) [] in
    record {
      ledger = with_sounding m (block_sum pool (span_of l n) m.sounding (cleared n) []).events;
      reply = record {
        answer = rendered (block_places l n);
        out = overlay l.channels r.channel out;
        scratch = overlay_scratch r.scratch scratch;
        filled = length r.scratch;
      };
    }
accept l (rate r) = record { ledger = set_rate l r (l.rate ≈ᶠ r); reply = answers done }
accept l reset = record { ledger = restart l l.mode; reply = answers done }

-- ---- "a refused call leaves it and all that is lent unchanged": of a lent scratch every place counts

abbrev pub refused_reply : (k : ℕ) → Call → Reply
refused_reply k (push kind start end fade_in fade_out curve source gain) = answers (refused k)
refused_reply k (edit kind n end fade_out) = answers (refused k)
refused_reply k (tick order pool out) = record { answer = refused k; out = out; scratch = none; filled = 0 }
refused_reply k (block order n pool out scratch) = record { answer = refused k; out = out; scratch = scratch; filled = length_or 0 scratch }
refused_reply k (rate r) = answers (refused k)
refused_reply k reset = answers (refused k)

unfoldable pub decide : Option ℕ → Ledger → Call → Outcome
decide (some k) l c = record { ledger = l; reply = refused_reply k c }
decide none l c = accept l c

unfoldable pub step : Ledger → Call → Outcome
step l c = decide (refusal l c) l c

-- ---- any list of calls

pub record Run : Type 0 where
  pub ledger : Ledger
  pub replies : List Reply

unfoldable pub run : List Call → Ledger → Run
run [] l = record { ledger = l; replies = [] }
run (c ∷ cs) l =
    let a = step l c in
    let r = run cs a.ledger in
    record { ledger = r.ledger; replies = a.reply ∷ r.replies }

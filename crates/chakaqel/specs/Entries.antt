-- What the C entries answer and leave. Modes, curves, sources and marks are numbers, as a tape has them; a number that names none is refused with 14.
use Rattle.std.specs.Prelude.{Bool, ◌&&◌, ◌||◌, cond, List, [], ℕ, eqb, leb, ltb, Float, set, length}
use Rattle.event.specs.declared.Fade.{Fade}
use Rattle.event.specs.declared.Fade.TheVariants.{Power, Smooth}
use Rattle.event.specs.declared.MixOrder.{MixOrder}
use Rattle.event.specs.declared.MixOrder.TheVariants.{Forward, Backward}
use Rattle.event.specs.declared.ReplayMode.{ReplayMode}
use Rattle.event.specs.declared.ReplayMode.TheVariants as Modes
use Rattle.std.specs.declared.option.Option.{Option}
use Rattle.std.specs.declared.option.Option.TheVariants.{Some, None}
use Rattle.ledger.specs.Calls.{PushKind}
use Rattle.sequencer.specs.declared.Answer.{Answer}
use Rattle.sequencer.specs.declared.Answer.TheVariants.{Number, Applied, Past, Stored, Done, Rendered, Refused}
use Rattle.sequencer.specs.declared.Sequencer.{Sequencer}
use Rattle.sequencer.specs.declared.readers.Counts.{Counts}
use Rattle.sequencer.specs.Creation.{created}
use Rattle.sequencer.specs.Rendering.{ticks, tick_outs, blocks, block_outs}
use Rattle.sequencer.specs.Rises.{pushes_told}
use Rattle.memory.specs.Memory.{source_in}

-- ---- numbers to values

-- 0 power, 1 smooth
abbrev pub curve_of : ℕ → Fade
curve_of k = cond (eqb k 0) Power Smooth

-- 0 All, 1 None
abbrev pub mode_of : ℕ → ReplayMode
mode_of k = cond (eqb k 0) Modes.All Modes.None

-- 0 none, 1 document 02's mark
abbrev pub order_of : ℕ → MixOrder
order_of k = cond (eqb k 0) Forward Backward

-- "A tape's kind, mode, curve or source byte is unknown"
abbrev pub unknown_mode : ℕ → Bool
unknown_mode k = ltb 1 k

abbrev pub unknown_mark : ℕ → Bool
unknown_mark k = ltb 1 k

abbrev pub unknown_voice : (curve source : ℕ) → Bool
unknown_voice curve source = ltb 1 curve || ltb 2 source

-- the value of a number, or none where it is unknown
abbrev pub known : {A : Type 0} → (unknown : Bool) → A → Option A
known unknown x = cond unknown None (Some x)

-- what a call gives, or, where a number is unknown, what there was (and 14)
abbrev pub or_else : {A : Type 0} → (unknown : Bool) → (was given : A) → A
or_else unknown was given = cond unknown was given

-- ---- answers to numbers

-- 0 where the call is accepted (an edit: applied), 256 past, 257 stored, else document 01's number
abbrev pub code_of : Answer → ℕ
code_of (Number k) = 0
code_of Applied = 0
code_of Past = 256
code_of Stored = 257
code_of Done = 0
code_of (Rendered c) = 0
code_of (Refused n) = n

-- whether a number is that of a refusal
abbrev pub refusal : ℕ → Bool
refusal code = leb 1 code && leb code 255

-- of an accepted push the number and the rise; a refused one tells nothing
abbrev pub told_by : Answer → (rise : ℕ) → List ℕ → List ℕ
told_by (Number k) rise l = set (set l 0 k.0) 1 rise
told_by Applied rise l = l
told_by Past rise l = l
told_by Stored rise l = l
told_by Done rise l = l
told_by (Rendered c) rise l = l
told_by (Refused n) rise l = l

-- of an accepted block the counts of places: kept, forced, at an edge
abbrev pub places_by : Answer → List ℕ → List ℕ
places_by (Number k) l = l
places_by Applied l = l
places_by Past l = l
places_by Stored l = l
places_by Done l = l
places_by (Rendered c) l = set (set (set l 0 c.kept) 1 c.forced) 2 c.edge
places_by (Refused n) l = l

-- waiting, sounding, finished, let go
abbrev pub counts_by : Counts → List ℕ → List ℕ
counts_by c l = set (set (set (set l 0 c.waiting) 1 c.sounding) 2 c.finished) 3 c.let_go

-- a place, or 256
abbrev pub place_code : Option ℕ → ℕ
place_code (Some i) = i
place_code None = 256

-- ---- the entries

-- what an entry leaves and answers: the engine, its number, and what was lent to it besides (empty where nothing was)
pub record Reply : Type 0 where
  pub engine : Sequencer
  pub code : ℕ
  pub told : List ℕ
  pub samples : List Float

abbrev pub create_entry : Sequencer → (channels mode first : ℕ) → Reply
create_entry s channels mode first =
    let given = created channels (mode_of mode) first in
    record { engine = or_else (unknown_mode mode) s given.sequencer; code = or_else (unknown_mode mode) 14 (code_of given.answer); told = []; samples = [] }

abbrev pub push_entry : PushKind → Sequencer → (told : List ℕ) → (start end : Float) → (curve : ℕ) → (fade_in fade_out : Float)
    → (source : ℕ) → (a b : Float) → (offset length : ℕ) → (gain : Float) → Reply
push_entry kind s told start end curve fade_in fade_out source a b offset length gain =
    let given = pushes_told kind s start end (curve_of curve) fade_in fade_out (source_in source a b offset length) gain in
    let unknown = unknown_voice curve source in
    record {
      engine = or_else unknown s given.sequencer;
      code = or_else unknown 14 (code_of given.answer);
      told = or_else unknown told (told_by given.answer given.rise told);
      samples = [];
    }

abbrev pub tick_entry : Sequencer → (mark : ℕ) → (pool out : List Float) → Reply
tick_entry s mark pool out =
    let given = ticks (order_of mark) pool (length out) s in
    record {
      engine = or_else (unknown_mark mark) s given.sequencer;
      code = or_else (unknown_mark mark) 14 (code_of given.answer);
      told = [];
      samples = or_else (unknown_mark mark) out (tick_outs (order_of mark) pool s out);
    }

abbrev pub process_entry : Sequencer → (places : List ℕ) → (mark size : ℕ) → (pool out : List Float) → Reply
process_entry s places mark size pool out =
    let given = blocks (order_of mark) pool size (length out) s in
    record {
      engine = or_else (unknown_mark mark) s given.sequencer;
      code = or_else (unknown_mark mark) 14 (code_of given.answer);
      told = or_else (unknown_mark mark) places (places_by given.answer places);
      samples = or_else (unknown_mark mark) out (block_outs (order_of mark) pool size s out);
    }

-- A trial is a list of calls with what the Rust sequencer answers, writes and holds after it. `agrees` tests that the ledger has the same, by bits; the trials stand in `specs.RustLists1` to `RustLists4`, and in `specs.ListsWithGains` and `specs.ListsWithMarks`.
use Rattle.std.specs.Prelude.{ℕ, zero, suc, ◌+◌, Bool, true, false, not, ◌&&◌, List, [], ◌∷◌, ◌++◌, eqb, pos, negsuc, length, take, drop, replicate, Float}
use Rattle.std.proofs.Math.Option.{Option, none, some}
use Rattle.std.specs.Float.{nan, inf, fin, binary32, binary64}
use Rattle.std.specs.Float.Ieee.{to_bits}
use Rattle.event.specs.declared.Event.{Event}
use Rattle.event.specs.declared.Edit.{Edit}
use Rattle.event.specs.declared.StoredEdit.{StoredEdit}
use Rattle.event.specs.declared.ReplayMode.{ReplayMode}
use Rattle.event.specs.declared.Source.{Source}
use Rattle.event.specs.declared.Source.TheVariants.{Held, Ramp, Clip}
use Rattle.event.specs.Events.{number_of}
use Rattle.event.specs.Numbers.{curve_number, source_number, first_word, second_word}
use Rattle.event.specs.Placings.{no_placings}
use Rattle.ledger.specs.Calls.{Call, Answer, number, applied, past, stored, done, rendered, refused, Reply}
use Rattle.ledger.specs.Lists.{edit_of}
use Rattle.ledger.specs.Ledger.{Ledger, create}
use Rattle.ledger.specs.Steps.{run}
use Rattle.ledger.specs.Computes.{computes}

-- the pool that every list's clips play from
abbrev pub pool : List Float
pool = (fin false 1 (negsuc 0)) ∷ (fin true 3 (negsuc 1)) ∷ (fin false 3 (negsuc 0)) ∷ (fin false 13421773 (negsuc 26)) ∷ (fin true 1 (pos 1)) ∷ (fin false 5033165 (negsuc 23)) ∷ (fin false 1 (pos 0)) ∷ []

-- ---- what is lent has 0.25 in every place, so that it shows what is not written

abbrev pub quarters : ℕ → List Float
quarters n = replicate n (fin false 1 (negsuc 1))

is_quarter : Float → Bool
is_quarter nan = false
is_quarter (inf s) = false
is_quarter (fin s m (pos e)) = false
is_quarter (fin s m (negsuc e)) = not s && eqb m 1 && eqb e 1

-- ---- a trial

-- a stored edit: number, end and fade-out
pub record WantEdit : Type 0 where
  pub id : ℕ
  pub end : ℕ
  pub fade : ℕ

-- What a call must give back: its answer; of an accepted tick (stride 1) or block (stride 64) the first samples of each of `channels` channels, what follows being as it was lent; and a block's scratch, as far as samples were given.
-- A refused call has channels 0: all that is lent is as it was.
pub record Want : Type 0 where
  pub answer : Answer
  pub channels : ℕ
  pub stride : ℕ
  pub samples : List ℕ
  pub scratch : List ℕ

-- a call to which nothing is lent, or a refused one
abbrev pub says : Answer → Want
says a = record { answer = a; channels = 0; stride = 1; samples = []; scratch = [] }

-- an accepted tick
abbrev pub ticks : (channels sample : ℕ) → Want
ticks channels sample = record { answer = done; channels = channels; stride = 1; samples = sample ∷ []; scratch = [] }

-- an accepted block; how its places came is not compared here, since the Rust has no such answer
abbrev pub blocks : (channels : ℕ) → (samples scratch : List ℕ) → Want
blocks channels samples scratch = record { answer = rendered no_placings; channels = channels; stride = 64; samples = samples; scratch = scratch }

-- a creation, each call with what it must give back, and what is held at the end
pub record Trial : Type 0 where
  pub channels : ℕ
  pub mode : ReplayMode
  pub first : ℕ
  pub created : Answer
  pub calls : List (Call × Want)
  pub state : List ℕ
  pub edits : List WantEdit

abbrev calls_of : List (Call × Want) → List Call
calls_of [] = []
calls_of (c ∷ l) = c.0 ∷ calls_of l

-- ---- equal answers

abbrev tag : Answer → ℕ
tag (number k) = 0
tag applied = 1
tag past = 2
tag stored = 3
tag done = 4
tag (refused k) = 5
tag (rendered c) = 6

abbrev argument : Answer → ℕ
argument (number k) = k
argument applied = 0
argument past = 0
argument stored = 0
argument done = 0
argument (refused k) = k
argument (rendered c) = 0

abbrev same_answer : Answer → Answer → Bool
same_answer a b = eqb (tag a) (tag b) && eqb (argument a) (argument b)

-- ---- equal samples

-- the first samples by their bits, then quarters
same_samples : List ℕ → List Float → Bool
unfolding to_bits is_quarter
same_samples [] [] = true
same_samples [] (x ∷ l) = is_quarter x && same_samples [] l
same_samples (b ∷ m) [] = false
same_samples (b ∷ m) (x ∷ l) = eqb (to_bits binary32 x) b && same_samples m l

same_out : (channels stride : ℕ) → List ℕ → List Float → Bool
unfolding same_samples
same_out zero stride m l = same_samples [] l
same_out (suc c) stride m l = same_samples m (take stride l) && same_out c stride m (drop stride l)

-- k samples by their bits
same_part : (k : ℕ) → List ℕ → List Float → Bool
unfolding to_bits
same_part zero m l = true
same_part (suc k) [] l = false
same_part (suc k) (b ∷ m) [] = false
same_part (suc k) (b ∷ m) (x ∷ l) = eqb (to_bits binary32 x) b && same_part k m l

-- of a refused call (channels 0) all of it, as it was lent
same_scratch : (channels given : ℕ) → List ℕ → Option (List Float) → Bool
unfolding same_part same_samples
same_scratch c given m none = true
same_scratch zero given m (some l) = same_samples [] l
same_scratch (suc c) given m (some l) = same_part given m l

same_replies : List Reply → List (Call × Want) → Bool
unfolding same_out same_scratch
same_replies [] [] = true
same_replies [] (c ∷ m) = false
same_replies (r ∷ l) [] = false
same_replies (r ∷ l) (c ∷ m) =
    let w = c.1 in
    same_answer r.answer w.answer
    && (same_out w.channels w.stride w.samples r.out
    && (same_scratch w.channels r.filled w.scratch r.scratch && same_replies l m))

-- ---- equal states

same_numbers : List ℕ → List ℕ → Bool
same_numbers [] [] = true
same_numbers [] (y ∷ m) = false
same_numbers (x ∷ l) [] = false
same_numbers (x ∷ l) (y ∷ m) = eqb x y && same_numbers l m

-- where a ramp stands
abbrev ramp_value : Source → Float → ℕ
ramp_value (Held level) x = 0
ramp_value (Ramp value step) x = to_bits binary32 x
ramp_value (Clip offset length) x = 0

event_numbers : List Event → List ℕ
unfolding to_bits
event_numbers [] = []
event_numbers (e ∷ l) =
    number_of e
    ∷ to_bits binary64 e.start_time ∷ to_bits binary64 e.end_time ∷ to_bits binary64 e.fade_in ∷ to_bits binary64 e.fade_out
    ∷ curve_number e.fade_ease ∷ source_number e.unit.source ∷ first_word e.unit.source ∷ second_word e.unit.source
    ∷ ramp_value e.unit.source e.unit.value ∷ e.unit.place ∷ event_numbers l

state_numbers : Ledger → List ℕ
unfolding to_bits event_numbers
state_numbers l =
    length l.waiting
    ∷ length l.sounding ∷ length l.finished ∷ length l.gone
    ∷ to_bits binary64 l.clock ∷ to_bits binary64 l.threshold ∷ to_bits binary64 l.rate ∷ to_bits binary64 l.duration
    ∷ l.next ∷ event_numbers l.waiting ++ (event_numbers l.sounding ++ event_numbers l.finished)

same_edit : Option Edit → WantEdit → Bool
unfolding to_bits
same_edit none w = false
same_edit (some d) w = eqb (to_bits binary64 d.end_time) w.end && eqb (to_bits binary64 d.fade_out) w.fade

-- the same edits, whatever their order: the Rust has a map
same_edits : List StoredEdit → List WantEdit → Bool
unfolding edit_of same_edit
same_edits x [] = true
same_edits x (w ∷ m) = same_edit (edit_of w.id x) w && same_edits x m

-- ---- the test

agrees : Trial → Bool
unfolding computes same_replies same_numbers state_numbers same_edits
agrees t =
    let new = create t.channels t.mode t.first in
    let r = run (calls_of t.calls) new.ledger in
    same_answer new.answer t.created
    && (same_replies r.replies t.calls
    && (same_numbers (state_numbers r.ledger) t.state
    && (eqb (length r.ledger.edits) (length t.edits) && same_edits r.ledger.edits t.edits)))

unfoldable pub all_agree : List Trial → Bool
unfolding agrees
all_agree [] = true
all_agree (t ∷ l) = agrees t && all_agree l

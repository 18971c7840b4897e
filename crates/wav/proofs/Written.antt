-- What `trail_wav` puts down record after record, with `apply` and `put_frames`, is the data that the plain ledger gives the tape. Assumes nothing.
use Rattle.std.specs.Prelude.{◌≡◌, ℕ, zero, suc, ◌*◌, ◌≤◌, Bool, true, false, cond, List, [], ◌++◌, length, replicate, ◌==◌, nat_eq, refl, Float}
use Rattle.std.proofs.Math.Path.{sym, ap}
use Rattle.std.proofs.Common.{◌∙◌, mul-le-mul_right, arith, le-ltb}
use Rattle.std.proofs.Math.Option.{none}
use Rattle.std.proofs.lemmas.List.{length-replicate}
use Rattle.apply.specs.declared.Applied.{Applied}
use Rattle.apply.specs.Applying as Engine
use Rattle.apply.specs.Applying.{applied_to, applied_out, silent_of, sounding_of, lent_tick, lent_block, ticking, processing}
use Rattle.event.specs.declared.MixOrder.TheVariants.{Forward}
use Rattle.event.specs.declared.ReplayMode.TheVariants.{All}
use Rattle.floats.specs.Arithmetic.{zeroᶠ}
use Rattle.ledger.specs.Ledger.{Ledger, fresh}
use Rattle.ledger.specs.Calls.{tick, block}
use Rattle.little_endian.specs.Samples.{bytes_of}
use Rattle.render.specs.Follows.{Follows, Followed, Readable, outputs, starts, follows, readable}
use Rattle.render.specs.Heard.{step_channels}
use Rattle.sequencer.specs.declared.Sequencer.{Sequencer}
use Rattle.sequencer.specs.declared.Outcome.{Outcome}
use Rattle.sequencer.specs.Creation.{created}
use Rattle.sequencer.specs.Rendering.{ticks, blocks}
use Rattle.tape.specs.declared.reader.Call.{Call}
use Rattle.tape.specs.declared.reader.Call.TheVariants.{Create, Push, PushRelative, PushDuration, Edit, EditRelative, Tick, Process, Reset, SetSampleRate}
use Rattle.tape.specs.declared.reader.Cursor.{Cursor}
use Rattle.tape.specs.declared.reader.Read.{Read}
use Rattle.tape.specs.declared.reader.Read.TheVariants.{Record, Refused, End}
use Rattle.tape.specs.Fields.{Bytes}
use Rattle.tape.specs.Tape.{read_at}
use Rattle.tape_extent.specs.Extents.{frames_of}
use Rattle.tape_extent.specs.Playing.{Played, heard, play}
use Rattle.wav.specs.Data as Data
use Rattle.wav.specs.Data.{record_data, data_from, tape_data}
use Rattle.wav.specs.Frames.{frames_from, data_bytes}
use Rattle.wav.proofs.Interleaved.{frames_long, interleaved}
use Rattle.wav.specs.Written.{Rest, after_call, after_read, written_from, written, interleave, Same}

-- a call without samples
none-heard : (p : Played) (xs : List Float) → interleave 0 0 xs ≡ interleave p.ledger.channels (cond (p.refusal == 0) 0 0) xs
unfolding frames_from
none-heard p xs = go (p.refusal == 0)
  where
    go : (b : Bool) → [] ≡ interleave p.ledger.channels (cond b 0 0) xs
    go true = refl
    go false = refl

-- a tick or block, accepted or refused
all-heard : (r : Outcome) (c e w : ℕ) (p : Played) (xs : List Float) → (sounding_of r c e w).refusal ≡ p.refusal → c ≡ p.ledger.channels
    → interleave (sounding_of r c e w).channels (sounding_of r c e w).each xs ≡ interleave p.ledger.channels (cond (p.refusal == 0) e 0) xs
unfolding sounding_of frames_from
all-heard r c e w p xs = go (turned == 0) refl
  where
    turned : ℕ
    turned = Engine.refusal_of r.answer

    engine : Bool → Applied
    engine b = cond b (record { sequencer = r.sequencer; refusal = 0; channels = c; each = e; stride = w }) (silent_of r)

    go : (b : Bool) → (turned == 0) ≡ b → (engine b).refusal ≡ p.refusal → c ≡ p.ledger.channels
        → interleave (engine b).channels (engine b).each xs ≡ interleave p.ledger.channels (cond (p.refusal == 0) e 0) xs
    go true q same each =
        ap (λ (k : ℕ). interleave k e xs) each ∙ ap (λ (z : ℕ). interleave p.ledger.channels (cond (z == 0) e 0) xs) same
    go false q same each =
        ap (λ (z : Bool). interleave p.ledger.channels (cond z e 0) xs) (sym q ∙ ap (λ (z : ℕ). nat_eq z 0) same)

module _ (pool : List Float) (s : Sequencer) (l : Ledger) (f : Follows s l) (out : List Float) where
  same_frames : (call : Call) → (applied_to pool s call out).refusal ≡ (play pool l call).refusal → (xs : List Float)
      → interleave (applied_to pool s call out).channels (applied_to pool s call out).each xs ≡ interleave (play pool l call).ledger.channels (frames_of call (play pool l call)) xs
  unfolding applied_to ticking processing play heard
  same_frames (Create channels mode first) same xs = none-heard (play pool l (Create channels mode first)) xs
  same_frames (Push p) same xs = none-heard (play pool l (Push p)) xs
  same_frames (PushRelative p) same xs = none-heard (play pool l (PushRelative p)) xs
  same_frames (PushDuration p) same xs = none-heard (play pool l (PushDuration p)) xs
  same_frames (Edit p) same xs = none-heard (play pool l (Edit p)) xs
  same_frames (EditRelative p) same xs = none-heard (play pool l (EditRelative p)) xs
  same_frames Tick same xs =
      let c = tick Forward pool (replicate l.channels zeroᶠ) in
      all-heard (ticks Forward pool (lent_tick s out) s) (Engine.channels_of s) 1 1 (play pool l Tick) xs same (outputs s l f ∙ sym (step_channels l c))
  same_frames (Process n) same xs =
      let c = block Forward n pool (replicate (64 * l.channels) zeroᶠ) none in
      all-heard (blocks Forward pool n (lent_block s out) s) (Engine.channels_of s) n 64 (play pool l (Process n)) xs same (outputs s l f ∙ sym (step_channels l c))
  same_frames Reset same xs = none-heard (play pool l Reset) xs
  same_frames (SetSampleRate r) same xs = none-heard (play pool l (SetSampleRate r)) xs

  -- what is put down of a record is the ledger's data of it
  same_data : (call : Call) → Followed (applied_to pool s call out) (applied_out pool s call out) (play pool l call)
      → (let a = applied_to pool s call out in data_bytes a.channels a.each a.stride (applied_out pool s call out) ≡ record_data call (play pool l call))
  unfolding record_data
  same_data call w =
      let a = applied_to pool s call out in
      let p = play pool l call in
      interleaved a.channels a.each a.stride (applied_out pool s call out) p.samples w.stride (omega (arith, w.within, w.long)) w.samples
      ∙ ap bytes_of (same_frames call w.refusal p.samples)

-- What is put down of a record takes at most 2,048 bytes, the room that `trail_wav` always has: `put_frames` leaves none of it out.
pub room_enough : (a : Applied) (out : List Float) (p : Played) → Followed a out p → length (data_bytes a.channels a.each a.stride out) ≤ 2048
unfolding data_bytes
room_enough a out p w =
    let few : a.channels * a.each ≤ 8 * a.each = mul-le-mul_right a.each w.channels in
    rw (le-ltb a.stride a.each w.stride, le-ltb (length out) (a.channels * a.stride) (omega (arith, w.within, w.long)))
    (omega (arith, w.each, frames_long a.channels a.each a.stride out 0))

record_same : (pool : List Float) (s : Sequencer) (l : Ledger) (out : List Float) → length out ≡ 512 → Follows s l → (rest : Rest) (rest' : Data.Rest) → Same rest rest'
    → (k : ℕ) (call : Call) (next : Cursor) → Readable call → after_read pool rest (Record k call next) s out ≡ Data.after_read pool rest' (Record k call next) l
unfolding after_read after_call Data.after_read Data.after_record
record_same pool s l out long f rest rest' same k call next h =
    let w = follows pool s l call out h long f in
    let more = same (applied_to pool s call out).sequencer (play pool l call).ledger next (applied_out pool s call out) w.long w.after in
    (λ i. cond (w.refusal i == 1) [] (same_data pool s l f out call w i ++ more i))

from-same : (pool : List Float) (t : List ℕ) → Bytes t → (f : ℕ) → Same (written_from pool t f) (data_from pool t f)
unfolding written_from data_from
from-same pool t bytes zero s l c out long w = refl
from-same pool t bytes (suc f) s l c out long w = go (read_at t c) refl (from-same pool t bytes f)
  where
    go : (r : Read) → read_at t c ≡ r → Same (written_from pool t f) (data_from pool t f) → after_read pool (written_from pool t f) r s out ≡ Data.after_read pool (data_from pool t f) r l
    go (Record k call next) e same = record_same pool s l out long w (written_from pool t f) (data_from pool t f) same k call next (readable t c k call next bytes e)
    go (Refused k n) e same = refl
    go End e same = refl

-- for every pool and every tape
pub written_data : (pool : List Float) (t : List ℕ) → Bytes t → written pool t ≡ tape_data pool t
unfolding written tape_data
written_data pool t bytes = from-same pool t bytes (length t) (created 1 All 1).sequencer (fresh 1 All 1) (record { at = 0; first = true }) (replicate 512 zeroᶠ) (length-replicate 512 zeroᶠ) starts

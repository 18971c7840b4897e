-- A tape's records on the engine (crate player) are its records on the plain ledger: the engine follows the ledger from record to record. Assumes nothing.
use mathlib.Core.Path.{◌≡◌, refl, sym, ap, ◌∙◌}
use mathlib.Core.List.{List, [], ◌∷◌, ◌++◌}
use mathlib.Core.Bool.{Bool, true, false, cond}
use native.Mathlib.Omega.{arith}
use borrow.Author.Tests.{eqb-true, ne_eqb}
use mathlib.Core.Option.{none}
use Prim.Native.Nat.{ℕ, zero, suc, ◌-◌, ◌*◌}
use lib.ListN.{length, replicate, length-replicate}
use lib.Dec.{ltb, eqb}
use lib.Ieee.{Float}
use Rattle.event.specs.declared.MixOrder.TheVariants.{Forward}
use Rattle.event.specs.declared.ReplayMode.TheVariants.{All}
use Rattle.floats.specs.Arithmetic.{zeroᶠ}
use Rattle.ledger.specs.Ledger.{Ledger, fresh}
use Rattle.sequencer.specs.declared.Sequencer.{Sequencer}
use Rattle.sequencer.specs.Creation.{created}
use Rattle.sequencer.specs.Readers.{counts_of}
use Rattle.tape.specs.declared.reader.Cursor.{Cursor}
use Rattle.tape.specs.declared.reader.Call.{Call}
use Rattle.tape.specs.declared.reader.Call.TheVariants.{Create, Push, PushRelative, PushDuration, Edit, EditRelative, Tick, Process, Reset, SetSampleRate}
use Rattle.tape.specs.declared.reader.Read.{Read}
use Rattle.tape.specs.declared.reader.Read.TheVariants.{Record, Refused, End}
use Rattle.tape.specs.Tape.{read_at}
use Rattle.tape.specs.Fields.{Bytes}
use Rattle.apply.specs.declared.Applied.{Applied}
use Rattle.apply.specs.Applying.{applied_to, applied_out}
use Rattle.record_output.specs.Bytes.{bytes_of, channels_of}
use Rattle.record_output.specs.declared.Form.TheVariants.{Bytes as AsBytes}
use Rattle.record_output.specs.declared.Pause.TheVariants as Pause
use Rattle.record_output.specs.Lines.{leaves}
use Rattle.player.specs.Records as Engine
use Rattle.player.specs.Records.{Ran, stops, behind, ran_from, ran, played}
use Rattle.record_output.specs.Endings.{Ending, ending}
use Rattle.ledger.specs.Calls.{tick, block}
use Rattle.ledger.specs.Steps.{Outcome, step}
use Rattle.apply.specs.RecordCalls.{refusal_of}
use Rattle.tape_extent.specs.Playing.{Played, heard, play}
use Rattle.render.specs.Rendering.{after_record, after_read, rendered_from, rendered_with}
use Rattle.render.specs.Follows.{Follows, Followed, Readable, starts, follows, readable}

-- ---- a refused record has no samples

heard-refused : (c n w : ℕ) (o : Outcome) → (heard c n w o).refusal ≡ 1 → (heard c n w o).samples ≡ []
unfolding heard
heard-refused c n w o h = simp (ne_eqb (refusal_of o.reply.answer) 0 (λ z. omega arith))

silent-refused : (pool : List Float) (l : Ledger) (call : Call) → (play pool l call).refusal ≡ 1 → (play pool l call).samples ≡ []
unfolding play
silent-refused pool l (Create channels mode first) h = refl
silent-refused pool l (Push p) h = refl
silent-refused pool l (PushRelative p) h = refl
silent-refused pool l (PushDuration p) h = refl
silent-refused pool l (Edit p) h = refl
silent-refused pool l (EditRelative p) h = refl
silent-refused pool l Tick h = heard-refused l.channels 1 1 (step l (tick Forward pool (replicate l.channels zeroᶠ))) h
silent-refused pool l (Process n) h = heard-refused l.channels n 64 (step l (block Forward n pool (replicate (64 * l.channels) zeroᶠ) none)) h
silent-refused pool l Reset h = refl
silent-refused pool l (SetSampleRate r) h = refl

-- ---- one record

no_bytes : bytes_of [] ≡ []
unfolding bytes_of
no_bytes = refl

after_same : (rest : Engine.Rest) (rest' : Ledger → Cursor → ℕ → List ℕ) (s : Sequencer) (c : Cursor) (k : ℕ) (a : Applied) (o : List Float) (p : Played) (next : Cursor) (room : ℕ) → Followed a o p
    → (p.refusal ≡ 1 → p.samples ≡ []) → ((r : ℕ) → (rest a.sequencer next o r).written ≡ rest' p.ledger next r)
    → (Engine.after_call AsBytes rest s c k a o next room).written ≡ after_record rest' p next room
unfolding Engine.after_call after_record leaves
after_same rest rest' s c k a o p next room f quiet same =
    let sound : bytes_of (channels_of a.channels a.each a.stride o) ≡ bytes_of p.samples = ap bytes_of f.samples in
    (λ i. (cond (ltb room (length (sound i))) (stops s c [] Pause.Full) (cond (eqb (f.refusal i) 1) (stops a.sequencer next (sound i) (Pause.Refused 1)) (behind (sound i) (rest a.sequencer next o (room - length (sound i)))))).written)
    ∙ go (ltb room (length (bytes_of p.samples))) (eqb p.refusal 1) (eqb-true p.refusal 1)
  where
    go : (full stop : Bool) → (stop ≡ true → p.refusal ≡ 1)
        → (cond full (stops s c [] Pause.Full) (cond stop (stops a.sequencer next (bytes_of p.samples) (Pause.Refused 1)) (behind (bytes_of p.samples) (rest a.sequencer next o (room - length (bytes_of p.samples)))))).written
        ≡ cond stop [] (cond full [] (bytes_of p.samples ++ rest' p.ledger next (room - length (bytes_of p.samples))))
    go true true h = refl
    go true false h = refl
    go false true h = ap bytes_of (quiet (h refl)) ∙ no_bytes
    go false false h = ap (λ (x : List ℕ). bytes_of p.samples ++ x) (same (room - length (bytes_of p.samples)))

record_same : (pool : List Float) (s : Sequencer) (l : Ledger) (c : Cursor) (samples : List Float) (room : ℕ) → length samples ≡ 512 → Follows s l → (rest : Engine.Rest) (rest' : Ledger → Cursor → ℕ → List ℕ)
    → ((s : Sequencer) (l : Ledger) (c : Cursor) (samples : List Float) (room : ℕ) → length samples ≡ 512 → Follows s l → (rest s c samples room).written ≡ rest' l c room)
    → (k : ℕ) (call : Call) (next : Cursor) → Readable call → (Engine.after_read AsBytes pool rest (Record k call next) s c samples room).written ≡ after_read pool rest' (Record k call next) l room
unfolding Engine.after_read after_read
record_same pool s l c samples room long w rest rest' same k call next h =
    let f = follows pool s l call samples h long w in
    after_same rest rest' s c k (applied_to pool s call samples) (applied_out pool s call samples) (play pool l call) next room f (silent-refused pool l call)
    (λ r. same (applied_to pool s call samples).sequencer (play pool l call).ledger next (applied_out pool s call samples) r f.long f.after)

-- a record that is not read leaves no bytes
unread_same : (k n room : ℕ) (s : Sequencer) → (ending AsBytes (Refused k n) (counts_of s) room).written ≡ []
unfolding ending
unread_same k n room s = go (ltb room 0)
  where
    go : (b : Bool) → (cond {A = Ending} b (record { written = []; pause = Pause.Full }) (record { written = []; pause = Pause.Refused n })).written ≡ []
    go true = refl
    go false = refl

-- ---- all records

from-same : (pool : List Float) (t : List ℕ) → Bytes t → (f : ℕ) (s : Sequencer) (l : Ledger) (c : Cursor) (samples : List Float) (room : ℕ) → length samples ≡ 512 → Follows s l
    → (ran_from AsBytes pool t true f s c samples room).written ≡ rendered_from pool t f l c room
unfolding ran_from rendered_from
from-same pool t bytes zero s l c samples room long w = refl
from-same pool t bytes (suc f) s l c samples room long w = go (read_at t c) refl (from-same pool t bytes f)
  where
    go : (r : Read) → read_at t c ≡ r
        → ((s : Sequencer) (l : Ledger) (c : Cursor) (samples : List Float) (room : ℕ) → length samples ≡ 512 → Follows s l → (ran_from AsBytes pool t true f s c samples room).written ≡ rendered_from pool t f l c room)
        → (Engine.after_read AsBytes pool (ran_from AsBytes pool t true f) r s c samples room).written ≡ after_read pool (rendered_from pool t f) r l room
    go (Record k call next) e same = record_same pool s l c samples room long w (ran_from AsBytes pool t true f) (rendered_from pool t f) same k call next (readable t c k call next bytes e)
    go (Refused k n) e same = unread_same k n room s
    go End e same = refl

-- what `render` is to give is what the player gives
pub same_bytes : (pool : List Float) (t : List ℕ) (room : ℕ) → Bytes t → played pool t room ≡ rendered_with pool t room
unfolding ran rendered_with
same_bytes pool t room bytes = from-same pool t bytes (length t) (created 1 All 1).sequencer (fresh 1 All 1) (record { at = 0; first = true }) (replicate 512 zeroᶠ) room (length-replicate 512 zeroᶠ) starts

-- The engine follows the plain ledger through a tape: a record's call leaves an engine that stands for the ledger after the record, with the ledger's refusal, and in the front of the output the ledger's samples. Assumes nothing.
use Prim.Native.Nat.{ℕ, ◌*◌, ◌/◌, ◌^◌, ◌≤◌, ◌<◌}
use Rattle.std.specs.Prelude.{Bool, true, false, cond, ◌≡◌, refl, ltb, eqb}
use Rattle.std.proofs.Math.Path.{sym, ap, subst}
use Rattle.std.proofs.Common.{◌∙◌, lit≤, length-append, length-take, length-drop, eqb-true}
use mathlib.Core.List.{List, [], ◌++◌}
use Rattle.std.proofs.Math.Option.{none}
use native.Mathlib.Omega.{arith}
use Rattle.std.specs.Float.Ieee.{Float}
use Rattle.std.proofs.Math.ListN.{length, take, drop}
use Rattle.std.proofs.lemmas.List.{length-replicate}
use Rattle.std.proofs.Math.Seq.{length-take-le}
use Rattle.event.specs.declared.MixOrder.TheVariants.{Forward}
use Rattle.event.specs.declared.ReplayMode.{ReplayMode}
use Rattle.event.specs.declared.ReplayMode.TheVariants.{All}
use Rattle.ledger.specs.Calls as Calls
use Rattle.ledger.specs.Calls.{PushKind, absolute, relative, by_duration, EditKind, absolute_end, relative_end, tick, block, rate, reset}
use Rattle.ledger.specs.Ledger.{Ledger, fresh, create}
use Rattle.ledger.specs.Steps.{step}
use Rattle.ledger.specs.Lawful.{Lawful}
use Rattle.ledger.proofs.Lawful.{create_lawful, step_lawful}
use Rattle.sequencer.specs.declared.Sequencer.{Sequencer}
use Rattle.sequencer.specs.declared.Outcome.{Outcome}
use Rattle.sequencer.specs.declared.Answer.{Answer}
use Rattle.sequencer.specs.declared.Answer.TheVariants.{Number, Applied as applied, Past, Stored, Done, Rendered, Refused}
use Rattle.sequencer.specs.Answers.{answer_of, accepts}
use Rattle.sequencer.specs.Creation.{created}
use Rattle.sequencer.specs.Pushes.{pushes}
use Rattle.sequencer.specs.Edits.{edits}
use Rattle.sequencer.specs.Moves.{advanced}
use Rattle.sequencer.specs.Rendering.{tick_end, tick_pass, rendered_tick_out, ticks, tick_outs, block_end, span_of, block_pass, rendered_block_out, blocks, block_outs}
use Rattle.refusals.specs.Refusals.{tick_refusal, process_refusal}
use Rattle.sequencer.specs.Resets.{rates, resets}
use Rattle.claim.specs.Related.{Related}
use Rattle.claim.specs.Creating.{related_creation}
use Rattle.claim.specs.EngineCalls.{gives}
use Rattle.claim.specs.Steps.{Keeps}
use Rattle.claim.proofs.Steps.{keep-push, keep-edit, keep_tick, keep-block, keep-rate, keep-reset}
use Rattle.tape.specs.declared.reader.Call.{Call}
use Rattle.tape.specs.declared.reader.Call.TheVariants.{Create, Push, PushRelative, PushDuration, Edit, EditRelative, Tick, Process, Reset, SetSampleRate}
use Rattle.tape.specs.declared.reader.Cursor.{Cursor}
use Rattle.tape.specs.declared.reader.Read.{Read}
use Rattle.tape.specs.declared.reader.Read.TheVariants.{Record, Refused as Unread, End}
use Rattle.tape.specs.Tape.{read_at, record_of, unknown, size_of, kind_of, plain_kind, call_of}
use Rattle.tape.specs.Fields.{Bytes, bytes_drop, field_below}
use Rattle.tape.specs.declared.reader.PushRecord.{PushRecord}
use Rattle.tape.specs.declared.reader.EditRecord.{EditRecord}
use Rattle.apply.specs.declared.Applied.{Applied}
use Rattle.apply.specs.Applying as Engine
use Rattle.apply.specs.Applying.{applied_to, applied_out, silent_of, sounding_of, lent_tick, lent_block, ticking, ticking_out, processing, processing_out}
use Rattle.apply.specs.RecordCalls.{refusal_of, push_call, edit_call}
use Rattle.tape_extent.specs.Playing.{Played, silent, heard, play}
use Rattle.record_output.specs.Rows.{length-overlay}
use Rattle.record_output.specs.Bytes.{channels_of}
use Rattle.render.specs.Heard.{step_channels, create-few, channels_front, accepted_size, plays_tick, plays-block}

pub record Follows (s : Sequencer) (l : Ledger) : Type 0 where
  pub related : Related s l
  pub lawful : Lawful l
  pub few : l.channels ≤ 8

-- no channel is left out of the 8
pub outputs : (s : Sequencer) (l : Ledger) → Follows s l → Engine.channels_of s ≡ l.channels
outputs s l f = omega (arith, f.related.plain.4, f.few)

-- the engine and the ledger before a tape's first record
pub starts : Follows (created 1 All 1).sequencer (fresh 1 All 1)
unfolding create fresh
starts = record { related = (related_creation 1 All 1 (omega arith)).0; lawful = create_lawful 1 All 1 (omega arith); few = omega arith }

-- what a call gave on the engine, with the output after it, and what the record gives on the ledger
pub record Followed (a : Applied) (out : List Float) (p : Played) : Type 0 where
  pub after : Follows a.sequencer p.ledger
  pub refusal : a.refusal ≡ p.refusal
  pub samples : channels_of a.channels a.each a.stride out ≡ p.samples
  pub long : length out ≡ 512
  -- the samples stand within the output
  pub channels : a.channels ≤ 8
  pub each : a.each ≤ 64
  pub stride : a.each ≤ a.stride
  pub within : a.channels * a.stride ≤ 512

-- a creation's first number is one of 8 bytes
abbrev pub Readable : Call → Type 0
Readable (Create channels mode first) = first < 2 ^ 64
Readable (Push p) = Unit {0}
Readable (PushRelative p) = Unit {0}
Readable (PushDuration p) = Unit {0}
Readable (Edit p) = Unit {0}
Readable (EditRelative p) = Unit {0}
Readable Tick = Unit {0}
Readable (Process n) = Unit {0}
Readable Reset = Unit {0}
Readable (SetSampleRate r) = Unit {0}

-- ---- answers

same-refusal : (a : Answer) → Engine.refusal_of a ≡ refusal_of (answer_of a)
same-refusal (Number k) = refl
same-refusal applied = refl
same-refusal Past = refl
same-refusal Stored = refl
same-refusal Done = refl
same-refusal (Rendered c) = refl
same-refusal (Refused n) = refl

kept : (s : Sequencer) (l : Ledger) (c : Calls.Call) → Follows s l → {t : Sequencer} → Related t (step l c).ledger → Follows t (step l c).ledger
kept s l c f r = record { related = r; lawful = step_lawful l c f.lawful; few = omega (arith, step_channels l c, f.few) }

-- ---- a call without samples

soundless : (s : Sequencer) (n : ℕ) (p : Played) (out : List Float) → Follows s p.ledger → n ≡ p.refusal → [] ≡ p.samples → length out ≡ 512 → Followed (Engine.silent s n) out p
unfolding channels_of
soundless s n p out f q e long = record {
  after = f;
  refusal = q;
  samples = e;
  long = long;
  channels = omega arith;
  each = omega arith;
  stride = omega arith;
  within = omega arith;
}

module _ (s : Sequencer) (l : Ledger) (f : Follows s l) (out : List Float) (long : length out ≡ 512) where
  quiet : (c : Calls.Call) (r : Outcome) (x : List Float) → Keeps (gives r x) (step l c) → Followed (silent_of r) out (silent (step l c))
  quiet c r x k = soundless r.sequencer (Engine.refusal_of r.answer) (silent (step l c)) out (kept s l c f k.0) (same-refusal r.answer ∙ ap refusal_of k.1.answer) refl long

  follows-push : (kind : PushKind) (p : PushRecord)
      → Followed (silent_of (pushes kind s p.start_time p.end_time p.fade_ease p.fade_in p.fade_out p.source p.gain)) out (silent (step l (push_call kind p)))
  follows-push kind p =
      quiet (push_call kind p) (pushes kind s p.start_time p.end_time p.fade_ease p.fade_in p.fade_out p.source p.gain) []
      (keep-push s l kind p.start_time p.end_time p.fade_ease p.fade_in p.fade_out p.source p.gain f.lawful f.related)

  follows-edit : (kind : EditKind) (p : EditRecord) → Followed (silent_of (edits kind s p.id p.end_time p.fade_out)) out (silent (step l (edit_call kind p)))
  follows-edit kind p = quiet (edit_call kind p) (edits kind s p.id p.end_time p.fade_out) [] (keep-edit s l kind p.id.0 p.end_time p.fade_out f.related)

-- a creation puts a new engine and a new ledger in the place of both
follows-create : (pool : List Float) (channels : ℕ) (mode : ReplayMode) (first : ℕ) → first < 2 ^ 64 → (out : List Float) → length out ≡ 512 → (l : Ledger)
    → Followed (silent_of (created channels mode first)) out (play pool l (Create channels mode first))
unfolding play
follows-create pool channels mode first h out long l =
    let o = created channels mode first in
    let r = related_creation channels mode first h in
    soundless o.sequencer (Engine.refusal_of o.answer) (play pool l (Create channels mode first)) out
    (record { related = r.0; lawful = create_lawful channels mode first (omega arith); few = create-few channels mode first })
    (same-refusal o.answer ∙ ap refusal_of r.1) refl long

-- ---- a tick or block: x is what the engine wrote to the first m places of the output, n channels w apart

module _ (s : Sequencer) (l : Ledger) (f : Follows s l) (out : List Float) (long : length out ≡ 512) (c : Calls.Call) (r : Outcome) (x : List Float) (k : Keeps (gives r x) (step l c)) (m n e w : ℕ) where
  sounds : length x ≡ m → m ≤ 512 → n * w ≤ m → n ≤ 8 → (refusal_of (step l c).reply.answer ≡ 0 → (e ≤ w) × (e ≤ 64)) → Followed (sounding_of r n e w) (x ++ drop m out) (heard n e w (step l c))
  unfolding sounding_of heard channels_of
  sounds size lent there few small = subst (λ (z : ℕ). Followed (engine (eqb turned 0)) (x ++ drop m out) (ledger z)) same (go (eqb turned 0) refl)
    where
      turned : ℕ
      turned = Engine.refusal_of r.answer

      same : turned ≡ refusal_of (step l c).reply.answer
      same = same-refusal r.answer ∙ ap refusal_of k.1.answer

      engine : Bool → Applied
      engine b = cond b (record { sequencer = r.sequencer; refusal = 0; channels = n; each = e; stride = w }) (silent_of r)

      ledger : ℕ → Played
      ledger z = record { ledger = (step l c).ledger; refusal = z; samples = cond (eqb z 0) (channels_of n e w (step l c).reply.out) [] }

      all : length (x ++ drop m out) ≡ 512
      all = omega (arith, length-append x (drop m out), length-drop m out)

      go : (b : Bool) → eqb turned 0 ≡ b → Followed (engine b) (x ++ drop m out) (ledger turned)
      go true q =
          let fits = small (sym same ∙ eqb-true turned 0 q) in
          record {
            after = kept s l c f k.0;
            refusal = sym (eqb-true turned 0 q);
            samples = rw q (channels_front n e w x (drop m out) fits.0 (omega arith) ∙ ap (channels_of n e w) k.1.out);
            long = all;
            channels = few;
            each = fits.1;
            stride = fits.0;
            within = omega arith;
          }
      go false q = soundless r.sequencer turned (ledger turned) (x ++ drop m out) (kept s l c f k.0) refl (rw q refl) all

-- the engine gives back an output of the length that was lent to it

length-ticked : (pool : List Float) (s : Sequencer) (out : List Float) → length (tick_outs Forward pool s out) ≡ length out
unfolding tick_outs rendered_tick_out
length-ticked pool s out = go (eqb (tick_refusal (length out) s.outputs s.time s.sample_duration) 0)
  where
    go : (b : Bool) → length (cond b (rendered_tick_out Forward pool s out) out) ≡ length out
    go true = length-replicate (length out) (tick_pass Forward pool s.time (advanced s (tick_end s))).sum
    go false = refl

length-blocked : (pool : List Float) (n : ℕ) (s : Sequencer) (out : List Float) → length (block_outs Forward pool n s out) ≡ length out
unfolding block_outs rendered_block_out
length-blocked pool n s out = go (eqb (process_refusal n (length out) s.outputs s.time s.sample_duration) 0)
  where
    sum : List Float
    sum = (block_pass Forward pool (span_of s n) n (advanced s (block_end s n))).sum

    go : (b : Bool) → length (cond b (rendered_block_out Forward pool n s out) out) ≡ length out
    go true = length-overlay (take 64 sum) (omega (arith, length-take 64 sum)) (length out / 64) out (omega arith)
    go false = refl

module _ (pool : List Float) (s : Sequencer) (l : Ledger) (f : Follows s l) (out : List Float) (long : length out ≡ 512) where
  follows_tick : Followed (ticking pool s out) (ticking_out pool s out) (play pool l Tick)
  unfolding ticking ticking_out
  follows_tick =
      let n : ℕ = Engine.channels_of s in
      let m : ℕ = lent_tick s out in
      let lent : List Float = take m out in
      let o = step l (tick Forward pool lent) in
      let size : m ≡ n = omega arith in
      let part : length lent ≡ m = length-take-le m out (omega arith) in
      let k = subst (λ (j : ℕ). Keeps (gives (ticks Forward pool j s) (tick_outs Forward pool s lent)) o) part (keep_tick s l Forward pool lent f.lawful f.related) in
      let plays : heard n 1 1 o ≡ play pool l Tick = ap (λ (c : ℕ). heard c 1 1 o) (outputs s l f) ∙ sym (plays_tick pool l lent (part ∙ size ∙ outputs s l f)) in
      subst (λ (p : Played). Followed (ticking pool s out) (ticking_out pool s out) p) plays
      (sounds s l f out long (tick Forward pool lent) (ticks Forward pool m s) (tick_outs Forward pool s lent) k m n 1 1
      (length-ticked pool s lent ∙ part) (omega arith) (omega arith) (omega arith) (λ h. (omega arith, omega arith)))

  follows-block : (size : ℕ) → Followed (processing pool size s out) (processing_out pool size s out) (play pool l (Process size))
  unfolding processing processing_out
  follows-block e =
      let n : ℕ = Engine.channels_of s in
      let m : ℕ = lent_block s out in
      let lent : List Float = take m out in
      let o = step l (block Forward e pool lent none) in
      let size : m ≡ 64 * n = omega arith in
      let part : length lent ≡ m = length-take-le m out (omega arith) in
      let k = subst (λ (j : ℕ). Keeps (gives (blocks Forward pool e j s) (block_outs Forward pool e s lent)) o) part (keep-block s l Forward e pool lent f.lawful f.related) in
      let plays : heard n e 64 o ≡ play pool l (Process e) = ap (λ (c : ℕ). heard c e 64 o) (outputs s l f) ∙ sym (plays-block pool l e lent (part ∙ size ∙ ap (λ (c : ℕ). 64 * c) (outputs s l f))) in
      subst (λ (p : Played). Followed (processing pool e s out) (processing_out pool e s out) p) plays
      (sounds s l f out long (block Forward e pool lent none) (blocks Forward pool e m s) (block_outs Forward pool e s lent) k m n e 64
      (length-blocked pool e s lent ∙ part) (omega arith) (omega arith) (omega arith) (λ h. let b = accepted_size l e pool lent h in (b, b)))

-- ---- every record

pub follows : (pool : List Float) (s : Sequencer) (l : Ledger) (call : Call) (out : List Float) → Readable call → length out ≡ 512 → Follows s l
    → Followed (applied_to pool s call out) (applied_out pool s call out) (play pool l call)
unfolding applied_to applied_out play
follows pool s l (Create channels mode first) out h long f = follows-create pool channels mode first h out long l
follows pool s l (Push p) out h long f = follows-push s l f out long absolute p
follows pool s l (PushRelative p) out h long f = follows-push s l f out long relative p
follows pool s l (PushDuration p) out h long f = follows-push s l f out long by_duration p
follows pool s l (Edit p) out h long f = follows-edit s l f out long absolute_end p
follows pool s l (EditRelative p) out h long f = follows-edit s l f out long relative_end p
follows pool s l Tick out h long f = follows_tick pool s l f out long
follows pool s l (Process n) out h long f = follows-block pool s l f out long n
follows pool s l Reset out h long f = quiet s l f out long reset (accepts (resets s)) [] (keep-reset s l f.lawful f.related)
follows pool s l (SetSampleRate r) out h long f = quiet s l f out long (rate r) (rates s r) [] (keep-rate s l r f.lawful f.related)

-- ---- the call that was read has a number that the machine can hold

readable-cond : (b : Bool) (x y : Call) → Readable x → Readable y → Readable (cond b x y)
readable-cond true x y p q = p
readable-cond false x y p q = q

readable-call : (bs : List ℕ) → Bytes bs → Readable (call_of bs)
unfolding call_of
readable-call bs h =
    let k = plain_kind (kind_of bs) in
    readable-cond (eqb k 0) _ _ (field_below 8 bs 3 8 h (lit≤ tt))
    (readable-cond (eqb k 1) _ _ tt
    (readable-cond (eqb k 2) _ _ tt
    (readable-cond (eqb k 3) _ _ tt
    (readable-cond (eqb k 4) _ _ tt
    (readable-cond (eqb k 5) _ _ tt
    (readable-cond (eqb k 6) _ _ tt
    (readable-cond (eqb k 7) _ _ tt
    (readable-cond (eqb k 8) _ _ tt tt))))))))

abbrev ReadableRead : Read → Type 0
ReadableRead (Record k call next) = Readable call
ReadableRead (Unread k n) = Unit {0}
ReadableRead End = Unit {0}

readable-cond-read : (b : Bool) (x y : Read) → ReadableRead x → ReadableRead y → ReadableRead (cond b x y)
readable-cond-read true x y p q = p
readable-cond-read false x y p q = q

readable-read : (t : List ℕ) (c : Cursor) → Bytes t → ReadableRead (read_at t c)
unfolding read_at record_of
readable-read t c h =
    let bs = drop c.at t in
    readable-cond-read (ltb c.at (length t)) _ _
    (readable-cond-read (unknown c.first bs) _ _ tt
    (readable-cond-read (ltb (length bs) (size_of (kind_of bs))) _ _ tt (readable-call bs (bytes_drop c.at t h)))) tt

pub readable : (t : List ℕ) (c : Cursor) (k : ℕ) (call : Call) (next : Cursor) → Bytes t → read_at t c ≡ Record k call next → Readable call
readable t c k call next h e = subst ReadableRead e (readable-read t c h)

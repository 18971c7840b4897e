-- A tape's records on the engine (crate player), as lines: with room enough they write the listing over the plain ledger. Assumes nothing.
use Prim.Native.Nat.{ℕ, zero, suc, ◌+◌, ◌-◌, ◌*◌, ◌≤◌}
use Rattle.std.proofs.Math.Bool.{Bool, cond}
use Rattle.std.specs.Prelude.{true, false, ◌≡◌, eqb, Float, take, drop, replicate}
use Rattle.std.proofs.Math.Path.{refl, sym, ap₂}
use Rattle.std.proofs.Common.{ap, ◌∙◌, arith, le-ltb, length-append, length-drop, length-take-le, take_at, drop_at}
use mathlib.Core.List.{List, [], ◌++◌, append-nil}
use Rattle.std.proofs.Math.Option.{none}
use Rattle.std.proofs.Math.ListN.{length}
use Rattle.std.proofs.lemmas.List.{length-replicate}
use Rattle.event.specs.declared.MixOrder.TheVariants.{Forward}
use Rattle.event.specs.declared.ReplayMode.TheVariants.{All}
use Rattle.floats.specs.Arithmetic.{zeroᶠ}
use Rattle.ledger.specs.Calls.{tick, block}
use Rattle.ledger.specs.Claim as Claim
use Rattle.ledger.specs.Ledger.{Ledger, fresh}
use Rattle.listing.specs.Text.{counts_line, samples_line}
use Rattle.sequencer.specs.declared.Sequencer.{Sequencer}
use Rattle.sequencer.specs.declared.Outcome.{Outcome}
use Rattle.sequencer.specs.declared.readers.Counts.{Counts}
use Rattle.sequencer.specs.Creation.{created}
use Rattle.sequencer.specs.Readers.{counts_of}
use Rattle.sequencer.specs.Rendering.{ticks, blocks}
use Rattle.claim.specs.Shows.{shows}
use Rattle.tape.specs.declared.reader.Call.{Call}
use Rattle.tape.specs.declared.reader.Call.TheVariants.{Create, Push, PushRelative, PushDuration, Edit, EditRelative, Tick, Process, Reset, SetSampleRate}
use Rattle.tape.specs.declared.reader.Cursor.{Cursor}
use Rattle.tape.specs.declared.reader.Read.{Read}
use Rattle.tape.specs.declared.reader.Read.TheVariants.{Record, Refused, End}
use Rattle.tape.specs.Fields.{Bytes}
use Rattle.tape.specs.Tape.{read_at}
use Rattle.apply.specs.declared.Applied.{Applied}
use Rattle.apply.specs.Applying as Engine
use Rattle.apply.specs.Applying.{applied_to, applied_out, silent_of, sounding_of, lent_tick, lent_block, ticking, processing}
use Rattle.record_output.specs.declared.Form.TheVariants.{Lines}
use Rattle.record_output.specs.declared.Pause.TheVariants as Pause
use Rattle.record_output.specs.Bytes.{channels_of}
use Rattle.record_output.specs.Endings.{Ending, ending}
use Rattle.record_output.specs.Lines as Output
use Rattle.record_output.specs.Lines.{channel_lines, leaves}
use Rattle.player.specs.Records as Player
use Rattle.player.specs.Records.{Ran, stops, behind, left_by, ran_from, ran}
use Rattle.tape_extent.specs.Playing.{Played, heard, play}
use Rattle.render.specs.Heard.{step_channels}
use Rattle.render.specs.Follows.{Follows, Followed, Readable, outputs, starts, follows, readable}
use Rattle.tape_listing.specs.Listing.{record_line, lines_per_channel, sound_lines, lines_of, Rest, after_record, after_read, listed_from, listed_with}
use Rattle.tape_listing.specs.Listed.{Writes}

-- ---- a record's line: the engine's counts are the ledger's

counts_line_lem : (k n : ℕ) (s : Sequencer) (l : Ledger) → Follows s l → Output.record_line k n (counts_of s) ≡ record_line k n l
counts_line_lem k n s l f =
    ap (λ (c : Claim.Counts). counts_line k n c.waiting c.sounding c.finished c.gone) (shows s l f.lawful f.related).0.counts

-- ---- the lines of the channels: the engine's stand w places apart, the ledger's one after the other

lines_apart : (c n w : ℕ) (out : List Float) → n ≤ w → c * w ≤ length out → channel_lines c n w out ≡ channel_lines c n n (channels_of c n w out)
unfolding channel_lines channels_of
lines_apart zero n w out p q = refl
lines_apart (suc c) n w out p q =
    let front : List Float = take n out in
    let rest : List Float = channels_of c n w (drop w out) in
    let size : length front ≡ n = length-take-le n out (omega arith) in
    ap₂ (λ (a b : List ℕ). a ++ b) (ap samples_line (sym (take_at front rest n size)))
    (lines_apart c n w (drop w out) p (omega (arith, length-drop w out)) ∙ ap (channel_lines c n n) (sym (drop_at front rest n size)))

-- a tick or block of n samples
sounds : (r : Outcome) (c n w : ℕ) (o : List Float) (p : Played) → Followed (sounding_of r c n w) o p → c ≡ p.ledger.channels
    → (let a = sounding_of r c n w in channel_lines a.channels a.each a.stride o) ≡ lines_per_channel p n
unfolding sounding_of channel_lines
sounds r c n w o p f same = go (eqb (Engine.refusal_of r.answer) 0) refl f
  where
    engine : Bool → Applied
    engine b = cond b (record { sequencer = r.sequencer; refusal = 0; channels = c; each = n; stride = w }) (silent_of r)

    go : (b : Bool) → eqb (Engine.refusal_of r.answer) 0 ≡ b → Followed (engine b) o p
        → channel_lines (engine b).channels (engine b).each (engine b).stride o ≡ lines_per_channel p n
    go true q g =
        lines_apart c n w o g.stride (omega (arith, g.within, g.long))
        ∙ ap₂ (λ (k : ℕ) (x : List Float). channel_lines k n n x) same g.samples
        ∙ ap (λ (z : ℕ). cond (eqb z 0) (channel_lines p.ledger.channels n n p.samples) []) g.refusal
    go false q g = ap (λ (b : Bool). cond b (channel_lines p.ledger.channels n n p.samples) []) (sym q ∙ ap (λ (z : ℕ). eqb z 0) g.refusal)

-- every record: what its call a leaves in the output o, on an engine that follows the ledger
module _ (pool : List Float) (s : Sequencer) (l : Ledger) (w : Follows s l) (out : List Float) where
  same-sound : (call : Call) → Followed (applied_to pool s call out) (applied_out pool s call out) (play pool l call)
      → (let a = applied_to pool s call out in channel_lines a.channels a.each a.stride (applied_out pool s call out))
      ≡ sound_lines call (play pool l call)
  unfolding applied_to ticking processing play heard channel_lines
  same-sound (Create channels mode first) f = refl
  same-sound (Push p) f = refl
  same-sound (PushRelative p) f = refl
  same-sound (PushDuration p) f = refl
  same-sound (Edit p) f = refl
  same-sound (EditRelative p) f = refl
  same-sound Tick f =
      sounds (ticks Forward pool (lent_tick s out) s) (Engine.channels_of s) 1 1 (applied_out pool s Tick out) (play pool l Tick) f
      (outputs s l w ∙ sym (step_channels l (tick Forward pool (replicate l.channels zeroᶠ))))
  same-sound (Process n) f =
      sounds (blocks Forward pool n (lent_block s out) s) (Engine.channels_of s) n 64 (applied_out pool s (Process n) out) (play pool l (Process n)) f
      (outputs s l w ∙ sym (step_channels l (block Forward n pool (replicate (64 * l.channels) zeroᶠ) none)))
  same-sound Reset f = refl
  same-sound (SetSampleRate r) f = refl

  same_lines : (k : ℕ) (call : Call) → Followed (applied_to pool s call out) (applied_out pool s call out) (play pool l call)
      → left_by Lines k (applied_to pool s call out) (applied_out pool s call out) ≡ lines_of k call (play pool l call)
  unfolding leaves lines_of
  same_lines k call f =
      let a = applied_to pool s call out in
      let p = play pool l call in
      let counts : Counts = counts_of a.sequencer in
      ap₂ (λ (x y : List ℕ). x ++ y)
      (ap (λ (n : ℕ). Output.record_line k n counts) f.refusal ∙ counts_line_lem k p.refusal a.sequencer p.ledger f.after)
      (same-sound call f)

module _ (rest : Player.Rest) (rest' : Rest) (writes : Writes rest rest') where
  after_same : (s : Sequencer) (c : Cursor) (k : ℕ) (call : Call) (a : Applied) (o : List Float) (p : Played) (next : Cursor) (room : ℕ)
      → Followed a o p → left_by Lines k a o ≡ lines_of k call p → length (after_record rest' k call p next) + 4716 ≤ room
      → (Player.after_call Lines rest s c k a o next room).written ≡ after_record rest' k call p next
  unfolding Player.after_call after_record
  after_same s c k call a o p next room f same h =
      (λ i. (cond (le-ltb room 4716 (omega arith) i) (stops s c [] Pause.Full) (engine (eqb (f.refusal i) 1) (same i))).written) ∙ go (eqb p.refusal 1) h
    where
      engine : Bool → List ℕ → Ran
      engine b x = cond b (stops a.sequencer next x (Pause.Refused 1)) (behind x (rest a.sequencer next o (room - length x)))

      lines : List ℕ
      lines = lines_of k call p

      go : (b : Bool) → length (lines ++ cond b [] (rest' p.ledger next)) + 4716 ≤ room
          → (engine b lines).written ≡ lines ++ cond b [] (rest' p.ledger next)
      go true m = sym (append-nil lines)
      go false m =
          let n = length-append lines (rest' p.ledger next) in
          ap (λ (x : List ℕ). lines ++ x) (writes a.sequencer p.ledger next o (room - length lines) f.long f.after (omega arith))

  read_same : (pool : List Float) (s : Sequencer) (l : Ledger) (c : Cursor) (samples : List Float) (room : ℕ) → length samples ≡ 512 → Follows s l
      → (r : Read) → ((k : ℕ) (call : Call) (next : Cursor) → r ≡ Record k call next → Readable call)
      → length (after_read pool rest' r l) + 4716 ≤ room
      → (Player.after_read Lines pool rest r s c samples room).written ≡ after_read pool rest' r l
  unfolding Player.after_read after_read ending
  read_same pool s l c samples room long w (Record k call next) reads h =
      let f = follows pool s l call samples (reads k call next refl) long w in
      after_same s c k call (applied_to pool s call samples) (applied_out pool s call samples) (play pool l call) next room f
      (same_lines pool s l w samples k call f) h
  read_same pool s l c samples room long w (Refused k n) reads h =
      let line : List ℕ = Output.record_line k n (counts_of s) in
      let full : Ending = record { written = []; pause = Pause.Full } in
      let stop : Ending = record { written = line; pause = Pause.Refused n } in
      (λ i. (cond (le-ltb room 4716 (omega arith) i) full stop).written) ∙ counts_line_lem k n s l w
  read_same pool s l c samples room long w End reads h = refl

-- ---- all records

from-same : (pool : List Float) (t : List ℕ) → Bytes t → (f : ℕ) → Writes (ran_from Lines pool t true f) (listed_from pool t f)
unfolding ran_from listed_from
from-same pool t bytes zero s l c samples room long w h = refl
from-same pool t bytes (suc f) s l c samples room long w h =
    read_same (ran_from Lines pool t true f) (listed_from pool t f) (from-same pool t bytes f) pool s l c samples room long w (read_at t c)
    (λ k call next e. readable t c k call next bytes e) h

-- what a run from a tape's beginning writes, in room for the listing and for one record more
pub runs_listed : (pool : List Float) (t : List ℕ) (room : ℕ) → Bytes t → length (listed_with pool t) + 4716 ≤ room
    → (ran Lines pool t true (created 1 All 1).sequencer (record { at = 0; first = true }) room).written ≡ listed_with pool t
unfolding ran listed_with
runs_listed pool t room bytes h =
    from-same pool t bytes (length t) (created 1 All 1).sequencer (fresh 1 All 1) (record { at = 0; first = true })
    (replicate 512 zeroᶠ) room (length-replicate 512 zeroᶠ) starts h

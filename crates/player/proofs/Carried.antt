-- The room that a record needs, and what it leaves put into the output.
use mathlib.Core.Path.{◌≡◌, sym, ap, ◌∙◌, subst}
use mathlib.Core.List.{List}
use Prim.Native.Nat.{ℕ, ◌+◌}
use native.Mathlib.Omega.{arith}
use lib.Ieee.{Float, nan}
use lib.ListN.{get_or, length}
use lib.Seq.{sets}
use Rattle.sequencer.specs.declared.Sequencer.{Sequencer}
use Rattle.sequencer.specs.declared.readers.Counts.{Counts}
use Rattle.sequencer.specs.Readers.{counts_of}
use Rattle.memory.specs.Memory.{Cells, engine_of}
use Rattle.memory.specs.Clock.{clock_in, duration_in, channels_in}
use Rattle.tape.specs.declared.reader.Call.{Call}
use Rattle.apply.specs.declared.Applied.{Applied}
use Rattle.apply.specs.Applying.{applied_to, applied_out}
use Rattle.record_output.specs.declared.Form.{Form}
use Rattle.record_output.specs.declared.Form.TheVariants.{Bytes}
use Rattle.record_output.specs.declared.Left.{Left}
use Rattle.record_output.specs.Lines.{leaves, room_for, left_in, Fits, Stands}
use Rattle.record_output.specs.Rows.{row-leaves}
use Rattle.listing.specs.Pieces.{joined}
use Rattle.live_apply.specs.Leaving.{left_of}
use Rattle.player.specs.Records.{left_by}
use Rattle.player.specs.Carrying.{sound_bytes, Puts}
use Rattle.player.specs.Heard.{heard}

-- ---- the room that a record needs

pub room_bytes : (s : Sequencer) (call : Call) {n : ℕ} → n ≡ sound_bytes call s.outputs s.time s.sample_duration
    → (kind : ℕ) (pool x : List Float) → length x ≡ 512 → n ≡ room_for Bytes (left_by Bytes kind (applied_to pool s call x) (applied_out pool s call x))
unfolding leaves
room_bytes s call q kind pool x h = q ∙ sym (heard pool s x h call).size

-- the same, by what the cells hold
pub room_in : (c : Cells) (call : Call) {n : ℕ} → n ≡ sound_bytes call (get_or c.numbers 1284 0) (get_or c.times 3072 nan) (get_or c.times 3075 nan)
    → (kind : ℕ) (pool x : List Float) → length x ≡ 512 → n ≡ room_for Bytes (left_by Bytes kind (applied_to pool (engine_of c) call x) (applied_out pool (engine_of c) call x))
room_in c call q = room_bytes (engine_of c) call (q ∙ (λ i. sound_bytes call (channels_in c i) (clock_in c i) (duration_in c i)))

-- ---- what the record leaves is put

pub puts : (form : Form) (kind : ℕ) (pool : List Float) (s : Sequencer) (call : Call) (x : List Float) {left : Left} {counts : Counts} {row : List Float} {s₁ : Sequencer}
    → s₁ ≡ (applied_to pool s call x).sequencer → left ≡ left_of kind (applied_to pool s call x) → row ≡ applied_out pool s call x → counts ≡ counts_of s₁
    → (given : List ℕ) (at : ℕ) {out : List ℕ} {to : ℕ} → (Fits form left counts row at (length given) → Stands form left counts row given at out to)
    → Puts form kind pool s call x given at out to
unfolding leaves joined
puts form kind pool s call x {left} {counts} {row} {s₁} es el er ec given at {out} {to} put long room =
    let a : Applied = applied_to pool s call x in
    let o : List Float = applied_out pool s call x in
    let h = heard pool s x long call in
    let small = h.small in
    let few = h.few in
    let same : counts ≡ counts_of a.sequencer = ec ∙ ap counts_of es in
    let there : Fits form (left_of kind a) (counts_of a.sequencer) o at (length given) → Stands form (left_of kind a) (counts_of a.sequencer) o given at out to =
    subst (λ (l : Left). Fits form l (counts_of a.sequencer) o at (length given) → Stands form l (counts_of a.sequencer) o given at out to) el
    (subst (λ (c : Counts). Fits form left c o at (length given) → Stands form left c o given at out to) same
    (subst (λ (y : List Float). Fits form left counts y at (length given) → Stands form left counts y given at out to) er put)) in
    let shown : left_in form (left_of kind a) (counts_of a.sequencer) o ≡ left_by form kind a o =
    row-leaves form kind a.refusal (counts_of a.sequencer) a.channels a.each a.stride o o h.rows in
    let needed = ap (room_for form) shown in
    let st = there (small, (few, omega arith)) in
    (st.0 ∙ ap (sets given at) shown, (st.1.0 ∙ ap (λ (b : List ℕ). at + length b) shown, st.1.1))

-- The room that a record needs in the output, and what is put there.
use Rattle.std.specs.Prelude.{◌≡◌, cond, List, ℕ, ◌+◌, ◌*◌, ◌≤◌, min, eqb, Float, length}
use Rattle.std.proofs.lemmas.List.Edits.{sets}
use Rattle.refusals.specs.Refusals.{tick_refusal, process_refusal}
use Rattle.sequencer.specs.declared.Sequencer.{Sequencer}
use Rattle.tape.specs.declared.reader.Call.{Call}
use Rattle.tape.specs.declared.reader.Call.TheVariants.{Create, Push, PushRelative, PushDuration, Edit, EditRelative, Tick, Process, Reset, SetSampleRate}
use Rattle.apply.specs.Applying.{applied_to, applied_out}
use Rattle.record_output.specs.declared.Form.{Form}
use Rattle.record_output.specs.Lines.{room_for}
use Rattle.tape.specs.declared.reader.Cursor.{Cursor}
use Rattle.record_output.specs.declared.Pause.{Pause}
use Rattle.player.specs.declared.Played.{Played}
use Rattle.player.specs.Records.{left_by}

-- ---- the bytes of its samples, four each; a refused call has none

unfoldable pub tick_bytes : (outputs : ℕ) → (time duration : Float) → ℕ
tick_bytes outputs t d =
    let k = min outputs 8 in
    cond (eqb (tick_refusal k outputs t d) 0) (4 * k) 0

unfoldable pub block_bytes : (size outputs : ℕ) → (time duration : Float) → ℕ
block_bytes n outputs t d =
    let k = min outputs 8 in
    cond (eqb (process_refusal n (64 * k) outputs t d) 0) (4 * (k * n)) 0

abbrev pub sound_bytes : Call → (outputs : ℕ) → (time duration : Float) → ℕ
sound_bytes (Create channels mode first) outputs t d = 0
sound_bytes (Push p) outputs t d = 0
sound_bytes (PushRelative p) outputs t d = 0
sound_bytes (PushDuration p) outputs t d = 0
sound_bytes (Edit p) outputs t d = 0
sound_bytes (EditRelative p) outputs t d = 0
sound_bytes Tick outputs t d = tick_bytes outputs t d
sound_bytes (Process n) outputs t d = block_bytes n outputs t d
sound_bytes Reset outputs t d = 0
sound_bytes (SetSampleRate rate) outputs t d = 0

-- ---- what the record leaves lies in the output from `at` on and ends before `to`, where there is room for it
abbrev pub Puts : Form → (kind : ℕ) → (pool : List Float) → Sequencer → Call → (samples : List Float) → (given : List ℕ) → (at : ℕ) → (out : List ℕ) → (to : ℕ) → Type 0
Puts form kind pool s call x given at out to =
    length x ≡ 512 → at + room_for form (left_by form kind (applied_to pool s call x) (applied_out pool s call x)) ≤ length given
    → (out ≡ sets given at (left_by form kind (applied_to pool s call x) (applied_out pool s call x)))
    × ((to ≡ at + length (left_by form kind (applied_to pool s call x) (applied_out pool s call x))) × (to ≤ length given))

-- the answer of a run that stops at a cursor, with n bytes in use
abbrev pub stopped_at : Cursor → (n : ℕ) → Pause → Played
stopped_at c n p = record { cursor = c; used = n; pause = p }

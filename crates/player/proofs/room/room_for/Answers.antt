-- `player::room::room_for` meets its contract: by the form.
use mathlib.Core.Path.{◌≡◌, refl, sym, subst}
use mathlib.Core.List.{List}
use Prim.Native.Nat.{ℕ}
use lib.Ieee.{Float}
use lib.ListN.{length}
use Rattle.apply.specs.Applying.{applied_to, applied_out}
use Rattle.memory.specs.Memory.{Cells, cells_of, engine_of}
use Rattle.record_output.specs.declared.Form.{Form}
use Rattle.record_output.specs.Lines.{room_for}
use Rattle.tape.specs.declared.reader.Call.{Call}
use Rattle.player.specs.Records.{left_by}
use Rattle.player.proofs.Carried.{room_in}
use borrow.Author.Rules.{rules}
use Rattle.player.proofs.room.room_for.Goals as goal

-- n is the room that the call needs in that form
abbrev Room : Cells → Call → (n : ℕ) → Form → Type 0
Room d call n f = (kind : ℕ) (pool x : List Float) → length x ≡ 512
    → n ≡ room_for f (left_by f kind (applied_to pool (engine_of d) call x) (applied_out pool (engine_of d) call x))

pub returns-in-Bytes : goal.returns-in-Bytes
returns-in-Bytes c =
    let a = c.args in
    let d = cells_of a.times.now a.levels.now a.marks.now a.numbers.now in
    subst (Room d a.call c.sound_bytes.result) (sym c.in-Bytes.is) (room_in d a.call c.sound_bytes.ensures)

pub returns-in-Lines : goal.returns-in-Lines
returns-in-Lines c =
    let a = c.args in
    let d = cells_of a.times.now a.levels.now a.marks.now a.numbers.now in
    subst (Room d a.call 4716) (sym c.in-Lines.is) (λ kind pool x h. refl)

-- A tape's records on the engine that four lent arrays hold.
use Rattle.std.specs.Prelude.{Bool, ℕ, Float, List, length}
use Rattle.memory.specs.Memory.{Cells, engine_of}
use Rattle.tape.specs.declared.reader.Cursor.{Cursor}
use Rattle.record_output.specs.declared.Form.{Form}
use Rattle.player.specs.Records.{Ran, ran}

-- what `run` is to give, by what it is lent
abbrev pub ran_on : Cells → Cursor → (tape : List ℕ) → (whole : Bool) → (pool : List Float) → Form → (out : List ℕ) → Ran
ran_on c cursor tape whole pool form out = ran form pool tape whole (engine_of c) cursor (length out)

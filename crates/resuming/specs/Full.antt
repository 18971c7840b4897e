-- A run of lines that stopped for room, record by record. Assumes nothing.
use Rattle.std.specs.Prelude.{◌≡◌, true, false, ◌<◌}
use Rattle.std.proofs.Math.Bool.{Bool}
use Rattle.tape.specs.declared.reader.Cursor.{Cursor}
use Rattle.record_output.specs.declared.Pause.{Pause}
use Rattle.record_output.specs.declared.Pause.TheVariants.{End, Refused, Full, Short}
use Rattle.player.specs.Records.{Ran}

-- ---- a run of lines that stopped for room

abbrev pub is_full : Pause → Bool
is_full Full = true
is_full Short = false
is_full End = false
is_full (Refused k) = false

-- it stopped for room, further on
abbrev pub Moved : Cursor → Ran → Type 0
Moved c r = is_full r.pause ≡ true → c.at < r.cursor.at

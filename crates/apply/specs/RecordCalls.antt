-- A record's call, as the plain ledger has it, and an answer's refusal. Assumes nothing.
use Rattle.std.specs.Prelude.{ℕ}
use Rattle.ledger.specs.Calls.{Call, PushKind, EditKind, push, edit, Answer, number, applied, past, stored, done, rendered, refused}
use Rattle.tape.specs.declared.reader.PushRecord.{PushRecord}
use Rattle.tape.specs.declared.reader.EditRecord.{EditRecord}

abbrev pub push_call : PushKind → PushRecord → Call
push_call kind p = push kind p.start_time p.end_time p.fade_in p.fade_out p.fade_ease p.source p.gain

abbrev pub edit_call : EditKind → EditRecord → Call
edit_call kind p = edit kind p.id.0 p.end_time p.fade_out

-- what refused a call, 0 if nothing did
abbrev pub refusal_of : Answer → ℕ
refusal_of (refused n) = n
refusal_of (number k) = 0
refusal_of applied = 0
refusal_of past = 0
refusal_of stored = 0
refusal_of done = 0
refusal_of (rendered c) = 0

-- The clips that are held, and what a record says of one. They run.
use Rattle.std.specs.Prelude.{ℕ, ◌+◌, ◌%◌, ◌^◌, Bool, true, false, cond, Option, None, Some, ◌&&◌, ◌==◌, nat_lt, set, replicate}
use Rattle.sequencer.specs.declared.Sequencer.{Sequencer}
use Rattle.sequencer.specs.declared.readers.Counts.{Counts}
use Rattle.sequencer.specs.declared.Answer.{Answer}
use Rattle.sequencer.specs.declared.Answer.TheVariants.{Done}
use Rattle.standing.specs.declared.Standing.{Standing}
use Rattle.standing.specs.declared.Standing.TheVariants.{Waiting, Sounding, Finished, LetGo}
use Rattle.standing.specs.Standings.{standing_in, edit_answer}
use Rattle.standing.specs.Theorem.{is_let_go}
use Rattle.tape.specs.declared.reader.Call.{Call}
use Rattle.tape.specs.declared.reader.Call.TheVariants.{Create, Push, PushRelative, PushDuration, Edit, EditRelative, Tick, Process, Reset, SetSampleRate}
use Rattle.tape_tracks.specs.declared.Track.{Track}
use Rattle.tape_tracks.specs.declared.Tracks.{Tracks}

-- 0 waiting, 1 sounding, 2 finished, 3 let go
unfoldable pub number_of : Standing → ℕ
number_of Waiting = 0
number_of Sounding = 1
number_of Finished = 2
number_of LetGo = 3

-- no clip
unfoldable pub no_tracks : Tracks
no_tracks = record { held = replicate 256 (record { clip = 0; place = Waiting; since = 0 }); count = 0 }

-- one more clip behind the others: what was let go is held no longer, and no more than 256 are
unfoldable pub held_with : Tracks → Track → Tracks
held_with t x = cond (is_let_go x.place) t (cond (nat_lt t.count 256) (record { held = set t.held t.count x; count = t.count + 1 }) t)

-- where a clip that was laid stands
unfoldable pub laid_at : (laid : Bool) → Sequencer → (clip : ℕ) → Option Standing
laid_at laid s k = cond laid (Some (standing_in s k)) None

-- whether all four counts are as they were
unfoldable pub same_counts : Counts → Counts → Bool
same_counts a b = a.waiting == b.waiting && (a.sounding == b.sounding && (a.finished == b.finished && a.let_go == b.let_go))

-- the accepted pushes, with one more where a clip was laid
unfoldable pub one_more : (laid : Bool) → (pushes : ℕ) → ℕ
one_more laid n = cond laid ((n + 1) % 2 ^ 64) n

-- a refusal by its number; 0 is none
unfoldable pub refusal_of : ℕ → Option ℕ
refusal_of n = cond (n == 0) None (Some n)

-- the number that an edit names
unfoldable pub edited_number : Call → Option ℕ
edited_number (Edit p) = Some p.id.0
edited_number (EditRelative p) = Some p.id.0
edited_number (Create c m n) = None
edited_number (Push p) = None
edited_number (PushRelative p) = None
edited_number (PushDuration p) = None
edited_number Tick = None
edited_number (Process n) = None
edited_number Reset = None
edited_number (SetSampleRate r) = None

-- what becomes of an edit; any other call is done
unfoldable pub edit_answer_of : Sequencer → Call → Answer
edit_answer_of s (Edit p) = edit_answer false s p
edit_answer_of s (EditRelative p) = edit_answer true s p
edit_answer_of s (Create c m n) = Done
edit_answer_of s (Push p) = Done
edit_answer_of s (PushRelative p) = Done
edit_answer_of s (PushDuration p) = Done
edit_answer_of s Tick = Done
edit_answer_of s (Process n) = Done
edit_answer_of s Reset = Done
edit_answer_of s (SetSampleRate r) = Done

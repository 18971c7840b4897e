-- Document 02, Paper 13: the levels that a pushed event rises, and what the rises of a list of pushes add up to.
use Rattle.std.specs.Prelude.{ℕ, zero, suc, ◌+◌, Bool, true, false, cond, List, [], ◌∷◌}
use Rattle.std.specs.Float.Ieee.{lt}
use Rattle.event.specs.declared.Event.{Event}
use Rattle.event.specs.Events.{earlier}
use Rattle.event.specs.Blank.{blank}
use Rattle.ledger.specs.Calls.{PushKind}
use Rattle.tape.specs.declared.reader.PushRecord.{PushRecord}
use Rattle.sequencer.specs.declared.Sequencer.{Sequencer}
use Rattle.sequencer.specs.declared.Pushed.{Pushed}
use Rattle.sequencer.specs.declared.Answer.{Answer}
use Rattle.sequencer.specs.declared.Answer.TheVariants.{Number, Applied, Past, Stored, Done, Rendered, Refused}
use Rattle.sequencer.specs.Rises.{pushes_told}
use Rattle.rises.specs.Way.{floor_log2, way_up, later_at}

-- "how many levels its event rose: 0 if straight to S, else the number of events, on the way from the heap's first free place before the push up to the top, that come after the new one in the heap's order"
unfoldable pub levels_risen : Sequencer → Event → ℕ
unfolding way_up later_at lt
levels_risen s e =
    let free = s.ready_len in
    cond (lt e.start_time s.active_threshold) 0 (later_at earlier blank (way_up free free) s.ready e)

-- a push of any kind, and what it says
abbrev pub Push : Type 0
Push = PushKind × PushRecord

abbrev pub pushed_by : Sequencer → Push → Pushed
pushed_by s p = pushes_told p.0 s p.1.start_time p.1.end_time p.1.fade_ease p.1.fade_in p.1.fade_out p.1.source p.1.gain

-- "A push is accepted when its answer is an event number" (document 01)
abbrev pub is_number : Answer → Bool
is_number (Number k) = true
is_number Applied = false
is_number Past = false
is_number Stored = false
is_number Done = false
is_number (Rendered c) = false
is_number (Refused k) = false

-- "with no other call between them, the rises of any n accepted pushes add up to": refused ones between them have none
unfoldable pub total_rise : Sequencer → List Push → ℕ
total_rise s [] = 0
total_rise s (p ∷ ps) = (pushed_by s p).rise + total_rise (pushed_by s p).sequencer ps

unfoldable pub accepted_of : Sequencer → List Push → ℕ
accepted_of s [] = 0
accepted_of s (p ∷ ps) = cond (is_number (pushed_by s p).answer) 1 0 + accepted_of (pushed_by s p).sequencer ps

-- "the sum over k = 1 to n of floor(log2 k)"
unfoldable pub bound : ℕ → ℕ
unfolding floor_log2
bound zero = 0
bound (suc n) = bound n + floor_log2 (suc n)

-- The clock's part of a record: its time, rate and channels alone say which ticks and blocks are accepted, and how long the samples are. It is what the code keeps. Assumes nothing.
use Rattle.std.specs.Prelude.{ℕ, ◌*◌, Bool, true, false, cond, ◌&&◌, ◌==◌, nat_le, Float}
use Rattle.std.specs.Float.Ieee.{div}
use Rattle.floats.specs.Arithmetic.{◌+ᵈ◌, ◌×ᵈ◌, ◌÷ᵈ◌, ◌≈ᶠ◌, zeroᶠ, oneᶠ, whole}
use Rattle.refusals.specs.Refusals.{tick_refusal, process_refusal, rate_refusal}
use Rattle.tape.specs.declared.reader.Call.{Call}
use Rattle.tape.specs.declared.reader.Call.TheVariants.{Create, Push, PushRelative, PushDuration, Edit, EditRelative, Tick, Process, Reset, SetSampleRate}
use Rattle.tape_extent.specs.declared.Pace.{Pace}
use Rattle.tape_extent.specs.declared.Paced.{Paced}

unfoldable pub fresh_pace : (channels : ℕ) → Pace
unfolding div whole
fresh_pace k = record { time = zeroᶠ; rate = whole 44_100; duration = oneᶠ ÷ᵈ whole 44_100; channels = k }

abbrev pub at : Pace → (time : Float) → Pace
at p t = record { time = t; rate = p.rate; duration = p.duration; channels = p.channels }

-- a record without samples
abbrev pub soundless : Pace → Paced
soundless p = record { pace = p; refused = false; frames = 0 }

-- a tick or block of n frames, with its refusal or 0, that ends at e
abbrev pub rendering : Pace → (n refusal : ℕ) → (e : Float) → Paced
rendering p n refusal e = cond (refusal == 0) (record { pace = at p e; refused = false; frames = n }) (soundless p)

-- 1
abbrev pub creates : (channels first : ℕ) → Bool
creates k first = nat_le 1 k && nat_le k 8 && nat_le 1 first

-- A refused creation hands back a one-channel engine.
abbrev pub creating : (channels first : ℕ) → Paced
creating k first = cond (creates k first) (soundless (fresh_pace k)) (record { pace = fresh_pace 1; refused = true; frames = 0 })

abbrev pub with_rate : Pace → (rate : Float) → Pace
with_rate p r = record { time = p.time; rate = r; duration = oneᶠ ÷ᵈ r; channels = p.channels }

unfoldable pub paced : Pace → Call → Paced
unfolding fresh_pace
paced p (Create k m first) = creating k first
paced p (Push q) = soundless p
paced p (PushRelative q) = soundless p
paced p (PushDuration q) = soundless p
paced p (Edit q) = soundless p
paced p (EditRelative q) = soundless p
paced p Tick = rendering p 1 (tick_refusal p.channels p.channels p.time p.duration) (p.time +ᵈ p.duration)
paced p (Process n) = rendering p n (process_refusal n (64 * p.channels) p.channels p.time p.duration) (p.time +ᵈ p.duration ×ᵈ whole n)
paced p Reset = soundless (at p zeroᶠ)
paced p (SetSampleRate r) = cond (rate_refusal r == 0) (cond (p.rate ≈ᶠ r) (soundless p) (soundless (with_rate p r))) (soundless p)

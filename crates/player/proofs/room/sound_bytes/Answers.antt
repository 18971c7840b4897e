-- `player::room::sound_bytes` meets its contract: by the kind of call.
use mathlib.Core.Path.{◌≡◌, refl, sym, ap, ◌∙◌}
use Prim.Native.Nat.{ℕ, ◌<◌}
use lib.Ieee.{Float}
use Rattle.tape.specs.declared.reader.Call.{Call}
use Rattle.tape.specs.declared.reader.Call.TheVariants.{Create, Push, PushRelative, PushDuration, Edit, EditRelative, Tick, Process, Reset, SetSampleRate}
use Rattle.player.specs.Carrying.{sound_bytes}
use Rattle.player.proofs.room.sound_bytes.Goals as goal

-- a call that is neither a tick nor a block has no samples
silent-call : (call : Call) (outputs : ℕ) (t d : Float) → (call ≡ Tick → ⊥) → ((n : ℕ) → call ≡ Process n → ⊥) → 0 ≡ sound_bytes call outputs t d
silent-call (Create channels mode first) outputs t d h k = refl
silent-call (Push p) outputs t d h k = refl
silent-call (PushRelative p) outputs t d h k = refl
silent-call (PushDuration p) outputs t d h k = refl
silent-call (Edit p) outputs t d h k = refl
silent-call (EditRelative p) outputs t d h k = refl
silent-call Tick outputs t d h k = absurd (h refl)
silent-call (Process n) outputs t d h k = absurd (k n refl)
silent-call Reset outputs t d h k = refl
silent-call (SetSampleRate rate) outputs t d h k = refl

pub returns-in-Tick : goal.returns-in-Tick
returns-in-Tick c =
    let a = c.args in
    c.tick_bytes.ensures ∙ ap (λ (m : Call). sound_bytes m a.outputs a.time a.duration) (sym c.in-Tick.is)

pub returns-in-Process : goal.returns-in-Process
returns-in-Process c =
    let a = c.args in
    c.block_bytes.ensures ∙ ap (λ (m : Call). sound_bytes m a.outputs a.time a.duration) (sym c.in-Process.is)

pub returns-in_default : goal.returns-in_default
returns-in_default c =
    let a = c.args in
    silent-call a.call a.outputs a.time a.duration c.in_default.not-Tick c.in_default.not-Process

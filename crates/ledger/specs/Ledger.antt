-- Document 01, "The plain ledger": its state, and creation.
use Rattle.std.specs.Prelude.{ℕ, ◌+◌, true, false, ◌&&◌, List, [], leb, length, Float}
use Rattle.event.specs.declared.Event.{Event}
use Rattle.event.specs.declared.StoredEdit.{StoredEdit}
use Rattle.event.specs.declared.ReplayMode.{ReplayMode}
use Rattle.event.specs.declared.ReplayMode.TheVariants.{All}
use Rattle.floats.specs.Arithmetic.{◌÷ᵈ◌, zeroᶠ, oneᶠ, -∞, whole}
use Rattle.ledger.specs.Calls.{Answer, done, refused}

pub record Ledger : Type 0 where
  pub waiting : List Event  -- W, sorted by start then number
  pub sounding : List Event  -- S, in order
  pub finished : List Event  -- F, in order
  pub edits : List StoredEdit  -- E, one per number
  pub clock : Float  -- t
  pub threshold : Float  -- θ
  pub rate : Float  -- r
  pub duration : Float  -- d = 1 / r
  pub gone : List ℕ  -- G, the let-go numbers; L is its length
  pub next : ℕ  -- the next number
  pub channels : ℕ
  pub mode : ReplayMode

-- the events held in W, S and F
abbrev pub held : Ledger → ℕ
held l = length l.waiting + (length l.sounding + length l.finished)

-- clock t = 0, threshold θ = -infinity, rate r = 44,100
unfoldable pub fresh : (channels : ℕ) → ReplayMode → (first : ℕ) → Ledger
fresh channels mode first = record {
  waiting = [];
  sounding = [];
  finished = [];
  edits = [];
  clock = zeroᶠ;
  threshold = -∞;
  rate = whole 44_100;
  duration = oneᶠ ÷ᵈ whole 44_100;
  gone = [];
  next = first;
  channels = channels;
  mode = mode;
}

pub record Created : Type 0 where
  pub ledger : Ledger
  pub answer : Answer

-- 1: channels are not 1 to 8, or the first number is 0. A refused creation hands back an empty one-channel engine, mode All, first number 1.
unfoldable pub create : (channels : ℕ) → ReplayMode → (first : ℕ) → Created
create channels mode first =
    elim (leb 1 channels && leb channels 8 && leb 1 first) [
      | true ↦ record { ledger = fresh channels mode first; answer = done }
      | false ↦ record { ledger = fresh 1 All 1; answer = refused 1 }
    ]

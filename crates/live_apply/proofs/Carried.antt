-- A record's call on the lent engine, against the definition of a record's step (crate apply).
use mathlib.Core.Path.{◌≡◌, refl, sym, ap, ◌∙◌, subst}
use mathlib.Core.Bool.{Bool, true, false, cond}
use mathlib.Core.List.{List, ◌++◌}
use Prim.Native.Nat.{ℕ, min}
use native.Mathlib.Omega.{arith}
use lib.Dec.{eqb}
use lib.Ieee.{Float}
use lib.ListN.{get_or, length, take, drop}
use lib.Seq.{length-take-le}
use Rattle.sequencer.specs.declared.Sequencer.{Sequencer}
use Rattle.sequencer.specs.declared.Outcome.{Outcome}
use Rattle.sequencer.specs.declared.Answer.{Answer}
use Rattle.memory.specs.Memory.{Cells, engine_of}
use Rattle.memory.specs.Clock.{channels_in}
use Rattle.tape.specs.declared.reader.Call.{Call}
use Rattle.apply.specs.Applying.{refusal_of, silent_of, sounding_of, applied_to, applied_out}
use Rattle.record_output.specs.declared.Left.{Left}
use Rattle.live_apply.specs.Leaving.{answered_left, sound_left, left_of}

-- the engine s₁, what is to be put and the samples o are those that the call m gives on s, lent x
abbrev pub Meets : (pool : List Float) → Sequencer → (kind : ℕ) → (x : List Float) → Call → Sequencer → Left → List Float → Type 0
Meets pool s kind x m s₁ l o = (s₁ ≡ (applied_to pool s m x).sequencer) × ((l ≡ left_of kind (applied_to pool s m x)) × (o ≡ applied_out pool s m x))

-- what an arm shows of its call m holds of the call that came
pub of_arm : (pool : List Float) (s : Sequencer) (kind : ℕ) (x : List Float) {n m : Call} {s₁ : Sequencer} {l : Left} {o : List Float} → n ≡ m
    → Meets pool s kind x m s₁ l o → Meets pool s kind x n s₁ l o
of_arm pool s kind x {s₁ = s₁} {l = l} {o = o} e = subst (λ (z : Call). Meets pool s kind x z s₁ l o) (sym e)

-- a call without samples
pub silent-left : (kind : ℕ) {l : Left} {a b : Answer} → l ≡ answered_left kind (refusal_of a) → a ≡ b → l ≡ answered_left kind (refusal_of b)
silent-left kind p q = p ∙ ap (λ (z : Answer). answered_left kind (refusal_of z)) q

-- ---- a tick or block

-- the channels that a call reads are those of the engine that the cells hold
pub channels_of_lem : (c : Cells) {k : ℕ} → k ≡ min (get_or c.numbers 1284 0) 8 → k ≡ min (engine_of c).outputs 8
channels_of_lem c h = h ∙ ap (λ (z : ℕ). min z 8) (channels_in c)

sounding_engine : (r : Outcome) (c e w : ℕ) → r.sequencer ≡ (sounding_of r c e w).sequencer
unfolding sounding_of
sounding_engine r c e w = go (eqb (refusal_of r.answer) 0)
  where
    go : (b : Bool) → r.sequencer ≡ (cond b (record { sequencer = r.sequencer; refusal = 0; channels = c; each = e; stride = w }) (silent_of r)).sequencer
    go true = refl
    go false = refl

sounding_left : (kind : ℕ) (r : Outcome) (c e w : ℕ) → sound_left kind (refusal_of r.answer) c e ≡ left_of kind (sounding_of r c e w)
unfolding sounding_of
sounding_left kind r c e w = go (eqb (refusal_of r.answer) 0)
  where
    go : (b : Bool) → cond b (record { any = true; kind = kind; refusal = 0; channels = c; each = e }) (answered_left kind (refusal_of r.answer))
        ≡ left_of kind (cond b (record { sequencer = r.sequencer; refusal = 0; channels = c; each = e; stride = w }) (silent_of r))
    go true = refl
    go false = refl

-- the front of n places has n
pub front_length : (x : List Float) (w : ℕ) {n : ℕ} → n ≡ min w (length x) → length (take n x) ≡ n
front_length x w {n = n} h = length-take-le n x (omega arith)

-- k channels, which the definition calls m, ask for `asked k` places; n of them are lent. The outcome f goes by the number of places.
module _ (x : List Float) (asked : ℕ → ℕ) {k m n : ℕ} (channels : k ≡ m) (places : n ≡ min (asked k) (length x)) where
  abbrev lent : n ≡ min (asked m) (length x)
  lent = places ∙ ap (λ (z : ℕ). min (asked z) (length x)) channels

  abbrev counted : length (take n x) ≡ min (asked m) (length x)
  counted = front_length x (asked k) places ∙ lent

  pub lent-engine : (f : ℕ → Outcome) (each stride : ℕ) {s₁ : Sequencer} → s₁ ≡ (f (length (take n x))).sequencer → s₁ ≡ (sounding_of (f (min (asked m) (length x))) m each stride).sequencer
  lent-engine f each stride e = e ∙ ap (λ (z : ℕ). (f z).sequencer) counted ∙ sounding_engine (f (min (asked m) (length x))) m each stride

  pub lent-left : (f : ℕ → Outcome) (kind each stride : ℕ) {a : Answer} {l : Left} → a ≡ (f (length (take n x))).answer → l ≡ sound_left kind (refusal_of a) k each
      → l ≡ left_of kind (sounding_of (f (min (asked m) (length x))) m each stride)
  lent-left f kind each stride {a} e q =
      let same : a ≡ (f (min (asked m) (length x))).answer = e ∙ ap (λ (z : ℕ). (f z).answer) counted in
      q ∙ (λ i. sound_left kind (refusal_of (same i)) (channels i) each) ∙ sounding_left kind (f (min (asked m) (length x))) m each stride

  -- what the engine leaves in the front, g of it, and the rest as it was
  pub lent_output : (g : List Float → List Float) {o : List Float} → o ≡ g (take n x) → o ++ drop n x ≡ g (take (min (asked m) (length x)) x) ++ drop (min (asked m) (length x)) x
  lent_output g p = ap (λ (z : List Float). z ++ drop n x) p ∙ ap (λ (z : ℕ). g (take z x) ++ drop z x) lent

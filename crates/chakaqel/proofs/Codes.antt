-- From a live call's contract to its entry's: the numbers that cross are those of the values.
use mathlib.Core.Bool.{Bool, true, false, true≢false}
use mathlib.Core.List.{List}
use mathlib.Core.Path.{◌≡◌, refl, sym, ap, subst, ◌∙◌}
use Prim.Native.Nat.{ℕ}
use lib.Dec.{T}
use lib.Ieee.{Float}
use lib.ListN.{length}
use Rattle.std.specs.declared.option.Option.{Option}
use Rattle.std.specs.declared.option.Option.TheVariants.{Some, None}
use Rattle.event.specs.declared.Fade.{Fade}
use Rattle.event.specs.declared.MixOrder.{MixOrder}
use Rattle.event.specs.declared.Source.{Source}
use Rattle.ledger.specs.Calls.{PushKind}
use Rattle.sequencer.specs.declared.Answer.{Answer}
use Rattle.sequencer.specs.declared.Answer.TheVariants.{Number, Applied, Past, Stored, Done, Rendered, Refused}
use Rattle.sequencer.specs.declared.Sequencer.{Sequencer}
use Rattle.sequencer.specs.Rendering.{ticks, tick_outs, blocks, block_outs}
use Rattle.sequencer.specs.Rises.{pushes_told}
use Rattle.memory.specs.Memory.{Cells, engine_of}
use Rattle.live.specs.CallContracts.{Refuses}
use Rattle.chakaqel.specs.Entries.{known, or_else, code_of, refusal, told_by, places_by}

-- ---- numbers to values

-- the value where there is one, and whether there is
value_or : {A : Type 0} → A → Option A → A
value_or d (Some x) = x
value_or d None = d

is-some : {A : Type 0} → Option A → Bool
is-some (Some x) = true
is-some None = false

module _ {A : Type 0} (x : A) (o : Option A) where
  -- no value: the number is unknown
  pub unknown_is : (u : Bool) → o ≡ known u x → o ≡ None → u ≡ true
  unfolding is-some
  unknown_is true q h = refl
  unknown_is false q h = absurd (true≢false (ap is-some (sym q ∙ h)))

  -- a value: the number is known, and the value is its
  pub known-is : (u : Bool) → o ≡ known u x → (y : A) → o ≡ Some y → (u ≡ false) × (y ≡ x)
  unfolding is-some value_or
  known-is true q y h = absurd (true≢false (ap is-some (sym h ∙ q)))
  known-is false q y h = (refl, ap (value_or x) (sym h ∙ q))

-- ---- answers to numbers

-- a number of a refusal is that of a refused call
pub refuses : (a : Answer) → T (refusal (code_of a)) → Refuses a
refuses (Number k) h = absurd h
refuses Applied h = absurd h
refuses Past h = absurd h
refuses Stored h = absurd h
refuses Done h = absurd h
refuses (Rendered c) h = absurd h
refuses (Refused n) h = tt

-- so what a refused call leaves is left where the number is a refusal's
pub kept : (c d : Cells) → (a : Answer) → (Refuses a → d ≡ c) → (r : ℕ) → r ≡ code_of a → T (refusal r) → d ≡ c
kept c d a left r p h = left (refuses a (subst (λ (x : ℕ). T (refusal x)) p h))

-- a call that tells nothing but its answer
pub answered-entry : (c d : Cells) → (s : Sequencer) → (a b : Answer)
    → (engine_of d ≡ s) × ((a ≡ b) × (Refuses a → d ≡ c))
    → (r : ℕ) → r ≡ code_of a
    → (engine_of d ≡ s) × ((r ≡ code_of b) × (T (refusal r) → d ≡ c))
answered-entry c d s a b e r t = (e.0, (t ∙ ap code_of e.1.0, kept c d a e.1.1 r t))

-- a push of any kind
pub pushed-entry : (kind : PushKind) → (c d : Cells) → (u : Bool) → u ≡ false → (k k' : Fade) → k' ≡ k → (s s' : Source) → s' ≡ s
    → (start end fade_in fade_out gain : Float) → (a : Answer) → (n : ℕ)
    → (engine_of d ≡ (pushes_told kind (engine_of c) start end k' fade_in fade_out s' gain).sequencer)
    × ((a ≡ (pushes_told kind (engine_of c) start end k' fade_in fade_out s' gain).answer)
    × ((n ≡ (pushes_told kind (engine_of c) start end k' fade_in fade_out s' gain).rise)
    × (Refuses a → d ≡ c)))
    → (r : ℕ) → (l m : List ℕ) → (r ≡ code_of a) × (m ≡ told_by a n l)
    → (engine_of d ≡ or_else u (engine_of c) (pushes_told kind (engine_of c) start end k fade_in fade_out s gain).sequencer)
    × ((r ≡ or_else u 14 (code_of (pushes_told kind (engine_of c) start end k fade_in fade_out s gain).answer))
    × ((m ≡ or_else u l (told_by (pushes_told kind (engine_of c) start end k fade_in fade_out s gain).answer
    (pushes_told kind (engine_of c) start end k fade_in fade_out s gain).rise l))
    × (T (refusal r) → d ≡ c)))
pushed-entry kind c d u known k k' hk s s' hs start end fi fo gain a n e r l m t =
    let p : pushes_told kind (engine_of c) start end k' fi fo s' gain ≡ pushes_told kind (engine_of c) start end k fi fo s gain =
    ap (λ (x : Fade). pushes_told kind (engine_of c) start end x fi fo s' gain) hk
    ∙ ap (λ (x : Source). pushes_told kind (engine_of c) start end k fi fo x gain) hs in
    let q = e.1.0 ∙ ap (λ x. x.answer) p in
    rw known (
      e.0 ∙ ap (λ x. x.sequencer) p,
      (
        t.0 ∙ ap code_of q,
        (
          t.1 ∙ ap (λ (x : Answer). told_by x n l) q
              ∙ ap (λ (x : ℕ). told_by (pushes_told kind (engine_of c) start end k fi fo s gain).answer x l) (e.1.1.0 ∙ ap (λ x. x.rise) p),
          kept c d a e.1.1.1 r t.0,
        ),
      ),
    )

pub ticked-entry : (c d : Cells) → (u : Bool) → u ≡ false → (o o' : MixOrder) → o' ≡ o → (pool out heard : List Float) → (a : Answer)
    → (engine_of d ≡ (ticks o' pool (length out) (engine_of c)).sequencer)
    × ((heard ≡ tick_outs o' pool (engine_of c) out)
    × ((a ≡ (ticks o' pool (length out) (engine_of c)).answer)
    × (Refuses a → d ≡ c)))
    → (r : ℕ) → r ≡ code_of a
    → (engine_of d ≡ or_else u (engine_of c) (ticks o pool (length out) (engine_of c)).sequencer)
    × ((heard ≡ or_else u out (tick_outs o pool (engine_of c) out))
    × ((r ≡ or_else u 14 (code_of (ticks o pool (length out) (engine_of c)).answer))
    × (T (refusal r) → d ≡ c)))
ticked-entry c d u known o o' ho pool out heard a e r t =
    rw known (
      e.0 ∙ ap (λ (x : MixOrder). (ticks x pool (length out) (engine_of c)).sequencer) ho,
      (
        e.1.0 ∙ ap (λ (x : MixOrder). tick_outs x pool (engine_of c) out) ho,
        (
          t ∙ ap code_of (e.1.1.0 ∙ ap (λ (x : MixOrder). (ticks x pool (length out) (engine_of c)).answer) ho),
          kept c d a e.1.1.1 r t,
        ),
      ),
    )

pub rendered-entry : (c d : Cells) → (u : Bool) → u ≡ false → (o o' : MixOrder) → o' ≡ o → (pool : List Float) → (size : ℕ) → (out heard : List Float)
    → (a : Answer)
    → (engine_of d ≡ (blocks o' pool size (length out) (engine_of c)).sequencer)
    × ((heard ≡ block_outs o' pool size (engine_of c) out)
    × ((a ≡ (blocks o' pool size (length out) (engine_of c)).answer)
    × (Refuses a → d ≡ c)))
    → (r : ℕ) → (l m : List ℕ) → (r ≡ code_of a) × (m ≡ places_by a l)
    → (engine_of d ≡ or_else u (engine_of c) (blocks o pool size (length out) (engine_of c)).sequencer)
    × ((heard ≡ or_else u out (block_outs o pool size (engine_of c) out))
    × ((r ≡ or_else u 14 (code_of (blocks o pool size (length out) (engine_of c)).answer))
    × ((m ≡ or_else u l (places_by (blocks o pool size (length out) (engine_of c)).answer l))
    × (T (refusal r) → d ≡ c))))
rendered-entry c d u known o o' ho pool size out heard a e r l m t =
    let q = e.1.1.0 ∙ ap (λ (x : MixOrder). (blocks x pool size (length out) (engine_of c)).answer) ho in
    rw known (
      e.0 ∙ ap (λ (x : MixOrder). (blocks x pool size (length out) (engine_of c)).sequencer) ho,
      (
        e.1.0 ∙ ap (λ (x : MixOrder). block_outs x pool size (engine_of c) out) ho,
        (t.0 ∙ ap code_of q, (t.1 ∙ ap (λ (x : Answer). places_by x l) q, kept c d a e.1.1.1 r t.0)),
      ),
    )

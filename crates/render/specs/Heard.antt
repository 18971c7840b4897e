-- Records on the ledger alone: a ledger keeps its channels, of which there are at most 8; and what a tick or block lets be heard does not depend on what stood in the output lent to it. Assumes nothing.
use Prim.Native.Nat.{ℕ, zero, suc, ◌+◌, ◌*◌, ◌/◌, ◌≤◌}
use Rattle.std.proofs.Math.Bool.{Bool, true, false, not}
use Rattle.std.specs.Prelude.{◌&&◌, ◌≡◌, leb, eqb, length, take, replicate}
use Rattle.std.proofs.Math.Path.{refl, sym, ap, ap₂}
use Rattle.std.proofs.Common.{◌∙◌, arith, length-append, length-take-le}
use mathlib.Core.List.{List, [], ◌∷◌, ◌++◌, append_assoc}
use Rattle.std.proofs.Math.Option.{Option, none, some}
use Rattle.std.proofs.Math.Dec.{ltb}
use Rattle.std.specs.Float.Ieee.{Float}
use Rattle.std.proofs.Math.ListN.{drop, length-drop}
use Rattle.std.proofs.lemmas.List.{length-replicate, take-append-le, drop-append-le}
use Rattle.std.proofs.Math.Seq.{drop_at}
use borrow.Author.Tests.{ltb-false, leb-true}
use Rattle.event.specs.declared.Edit.{Edit}
use Rattle.event.specs.declared.MixOrder.TheVariants.{Forward}
use Rattle.event.specs.declared.ReplayMode.{ReplayMode}
use Rattle.event.specs.declared.ReplayMode.TheVariants.{All, None}
use Rattle.floats.specs.Arithmetic.{◌<ᶠ◌, ◌≈ᶠ◌, ◌≤ᶠ◌, zeroᶠ, whole}
use Rattle.ledger.specs.Calls.{Call, push, edit, tick, block, rate, reset, done, refused}
use Rattle.ledger.specs.Lists.{has}
use Rattle.ledger.specs.BlockSamples.{overlay}
use Rattle.ledger.specs.Ledger.{Ledger, Created, fresh, create}
use Rattle.ledger.specs.Refusals.{refuses, first_of, checks, refusal, edit_end, tick_end, block_end}
use Rattle.ledger.specs.Steps.{Outcome, step, decide, accept, enter, change, advance, set_rate, restart}
use Rattle.tape.specs.declared.reader.Call.TheVariants.{Tick, Process}
use Rattle.record_output.specs.Rows.{length-row}
use Rattle.record_output.specs.Bytes.{channels_of}
use Rattle.apply.specs.RecordCalls.{refusal_of}
use Rattle.tape_extent.specs.Playing.{heard, play}
use Rattle.tape_extent.specs.PacesPlay.{summed, length-summed}

-- ---- channels

change_channels : (l : Ledger) (k : ℕ) (d : Edit) (a b : Bool) → (change l k d a b).ledger.channels ≡ l.channels
unfolding change
change_channels l k d true b = refl
change_channels l k d false true = refl
change_channels l k d false false = refl

rate_channels : (l : Ledger) (r : Float) (b : Bool) → (set_rate l r b).channels ≡ l.channels
unfolding set_rate
rate_channels l r true = refl
rate_channels l r false = refl

restart_channels : (l : Ledger) (m : ReplayMode) → (restart l m).channels ≡ l.channels
unfolding restart
restart_channels l All = refl
restart_channels l None = refl

accept_channels : (l : Ledger) (c : Call) → (accept l c).ledger.channels ≡ l.channels
unfolding accept enter advance
accept_channels l (push kind start end fade_in fade_out curve source gain) = refl
accept_channels l (edit kind k end fade_out) =
    change_channels l k (record { end_time = edit_end kind l.clock end; fade_out = fade_out }) (has k l.sounding) (edit_end kind l.clock end <ᶠ l.threshold)
accept_channels l (tick order pool out) = refl
accept_channels l (block order n pool out scratch) = refl
accept_channels l (rate r) = rate_channels l r (l.rate ≈ᶠ r)
accept_channels l reset = restart_channels l l.mode

pub step_channels : (l : Ledger) (c : Call) → (step l c).ledger.channels ≡ l.channels
unfolding step decide
step_channels l c = go (refusal l c)
  where
    go : (o : Option ℕ) → (decide o l c).ledger.channels ≡ l.channels
    go (some k) = refl
    go none = accept_channels l c

pub create-few : (channels : ℕ) (mode : ReplayMode) (first : ℕ) → (create channels mode first).ledger.channels ≤ 8
unfolding create fresh
create-few channels mode first = go (leb 1 channels) (leb channels 8) refl (leb 1 first)
  where
    made : Bool → Created
    made b = elim b [ true ↦ record { ledger = fresh channels mode first; answer = done } | false ↦ record { ledger = fresh 1 All 1; answer = refused 1 } ]

    go : (a b : Bool) → leb channels 8 ≡ b → (c : Bool) → (made (a && b && c)).ledger.channels ≤ 8
    go true true q true = leb-true channels 8 q
    go true true q false = omega arith
    go true false q c = omega arith
    go false b q c = omega arith

-- ---- the samples of every channel

-- what stands behind the channels is not heard
pub channels_front : (c n w : ℕ) (out rest : List Float) → n ≤ w → c * w ≤ length out → channels_of c n w (out ++ rest) ≡ channels_of c n w out
unfolding channels_of
channels_front zero n w out rest p q = refl
channels_front (suc c) n w out rest p q =
    ap₂ (λ (a b : List Float). a ++ b) (take-append-le n out rest (omega arith))
    (ap (channels_of c n w) (drop-append-le w out rest (omega arith)) ∙ channels_front c n w (drop w out) rest p (omega (arith, length-drop w out)))

-- ---- channels written over

module _ (run : List Float) (short : length run ≤ 64) where
  -- the run is heard once for each channel, whatever stood in the lent output
  pub heard-overlay : (c n : ℕ) (lent : List Float) → n ≤ length run → 64 * c ≤ length lent → channels_of c n 64 (overlay c run lent) ≡ channels_of c n 0 run
  unfolding overlay channels_of
  heard-overlay zero n lent p h = refl
  heard-overlay (suc c) n lent p h =
      let kept : List Float = drop (length run) (take 64 lent) in
      let rest : List Float = overlay c run (drop 64 lent) in
      ap₂ (λ (a b : List Float). a ++ b) (take-append-le n run (kept ++ rest) p)
      (ap (channels_of c n 64) (ap (drop 64) (sym (append_assoc run kept rest)) ∙ drop_at (run ++ kept) rest 64 (length-row run short lent (omega arith)))
      ∙ heard-overlay c n (drop 64 lent) p (omega (arith, length-drop 64 lent)))

-- ---- a tick, and a block that is lent no scratch: what is heard depends on the length of the output lent, and on nothing that stands in it

module _ (l : Ledger) (pool a b : List Float) (same : length a ≡ length b) where
  pub heard_tick : heard l.channels 1 1 (step l (tick Forward pool a)) ≡ heard l.channels 1 1 (step l (tick Forward pool b))
  unfolding step decide refusal checks first_of accept heard
  heard_tick =
      ap (λ (k : ℕ). heard l.channels 1 1 (decided (not (eqb k l.channels)) late a)) same ∙ go (not (eqb (length b) l.channels)) late
    where
      late : Bool
      late = not (tick_end l ≤ᶠ whole 1_000_000_000)

      decided : (x y : Bool) → List Float → Outcome
      decided x y out = decide (first_of (refuses 10 x ∷ refuses 12 y ∷ [])) l (tick Forward pool out)

      go : (x y : Bool) → heard l.channels 1 1 (decided x y a) ≡ heard l.channels 1 1 (decided x y b)
      go true y = refl
      go false true = refl
      go false false = refl

module _ (l : Ledger) (n : ℕ) (pool : List Float) where
  -- by what the checks 10, 11 and 12 give
  decided : (x y z : Bool) → List Float → Outcome
  decided x y z out = decide (first_of (refuses 10 x ∷ refuses 11 y ∷ refuses 12 z ∷ [])) l (block Forward n pool out none)

  -- 12
  late : Bool
  late = not (block_end l n ≤ᶠ whole 1_000_000_000)

  -- 10, of an output of k places
  other : ℕ → Bool
  other k = not (eqb k (64 * l.channels) && true)

  -- a block that is not refused has at most 64 samples
  pub accepted_size : (out : List Float) → refusal_of (step l (block Forward n pool out none)).reply.answer ≡ 0 → n ≤ 64
  unfolding decided late other step decide refusal checks first_of
  accepted_size out = go (other (length out)) (ltb 64 n) refl late
    where
      go : (x y : Bool) → ltb 64 n ≡ y → (z : Bool) → refusal_of (decided x y z out).reply.answer ≡ 0 → n ≤ 64
      go true y q z h = absurd (omega arith)
      go false true q z h = absurd (omega arith)
      go false false q z h = ltb-false 64 n q

  pub heard-block : (a b : List Float) → length a ≡ 64 * l.channels → length b ≡ 64 * l.channels
      → heard l.channels n 64 (step l (block Forward n pool a none)) ≡ heard l.channels n 64 (step l (block Forward n pool b none))
  unfolding decided late other step decide refusal checks first_of accept heard summed
  heard-block a b p q =
      ap (λ (k : ℕ). heard l.channels n 64 (decided (other k) (ltb 64 n) late a)) (p ∙ sym q) ∙ go (other (length b)) (ltb 64 n) refl late
    where
      run : List Float
      run = summed l n pool

      go : (x y : Bool) → ltb 64 n ≡ y → (z : Bool) → heard l.channels n 64 (decided x y z a) ≡ heard l.channels n 64 (decided x y z b)
      go true y k z = refl
      go false true k z = refl
      go false false k true = refl
      go false false k false =
          let size : n ≤ 64 = ltb-false 64 n k in
          let long = length-summed l n pool in
          let short : length run ≤ 64 = omega arith in
          let enough : n ≤ length run = omega arith in
          let each = heard-overlay run short l.channels n in
          ap (λ (x : List Float). record { ledger = (accept l (block Forward n pool a none)).ledger; refusal = 0; samples = x }) (each a enough (omega arith) ∙ sym (each b enough (omega arith)))

-- a record's tick or block may be lent any output of the length that it wants

pub plays_tick : (pool : List Float) (l : Ledger) (out : List Float) → length out ≡ l.channels → play pool l Tick ≡ heard l.channels 1 1 (step l (tick Forward pool out))
unfolding play
plays_tick pool l out h = heard_tick l pool (replicate l.channels zeroᶠ) out (length-replicate l.channels zeroᶠ ∙ sym h)

pub plays-block : (pool : List Float) (l : Ledger) (n : ℕ) (out : List Float) → length out ≡ 64 * l.channels
    → play pool l (Process n) ≡ heard l.channels n 64 (step l (block Forward n pool out none))
unfolding play
plays-block pool l n out h = heard-block l n pool (replicate (64 * l.channels) zeroᶠ) out (length-replicate (64 * l.channels) zeroᶠ) h

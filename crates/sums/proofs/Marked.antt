-- Document 02, Paper 9: "each sample at which all contributions qualify equals that of the same call, lent the same, unmarked on the same engine". On every ledger that holds at most 256 events, so on every one that a list of calls reaches. Assumes nothing.
use Rattle.std.specs.Prelude.{ℕ, zero, suc, ◌+◌, ◌*◌, ◌/◌, ◌^◌, ◌≤◌, ◌<◌, ◌≡◌, Bool, true, false, not, ◌&&◌, T, eqb, Float, length, take, drop, get_or, replicate}
use Rattle.std.proofs.Math.Path.{refl}
use Rattle.std.proofs.Common.{sym, ap, ◌∙◌, arith, eqb→eq, nltb→le, length-take, length-drop}
use mathlib.Core.List.Perm
use mathlib.Core.List.{List, [], ◌∷◌, ◌++◌, Perm, reverse_perm}
use Rattle.std.proofs.Math.Option.{Option, none, some}
use Rattle.std.specs.Float.Ieee.Fits.{and_l}
use Rattle.std.proofs.lemmas.List.{length-replicate}
use Rattle.std.proofs.Math.ListN.{get_or-append}
use Rattle.floats.specs.Arithmetic.{zeroᶠ}
use Rattle.event.specs.declared.Event.{Event}
use Rattle.event.specs.declared.MixOrder.{MixOrder}
use Rattle.event.specs.declared.MixOrder.TheVariants.{Forward, Backward}
use Rattle.event.specs.declared.ReplayMode.{ReplayMode}
use Rattle.ledger.specs.BlockSamples.{block_sum, overlay}
use Rattle.ledger.specs.Calls.{Call, tick, block}
use Rattle.ledger.proofs.Conservation.{held_sum_advance, event_sum_stays}
use Rattle.ledger.proofs.FormerMethod.{length-sum}
use Rattle.ledger.proofs.Lawful.{create_lawful, run_lawful}
use Rattle.ledger.specs.Ledger.{Ledger, held, create}
use Rattle.ledger.proofs.Limits.{held-is}
use Rattle.ledger.specs.Refusals.{checks, refusal, length_or, tick_end, block_end}
use Rattle.ledger.proofs.Refused.{all_pass}
use Rattle.ledger.specs.Steps.{advance, in_order, span_of, cleared, accept, decide, step, run}
use Rattle.ledger.proofs.Sums.{event_sum_one}
use Rattle.sums.specs.Contributions.{All, TickQualifies, BlockQualifies}
use Rattle.sums.proofs.AnyOrder.{tick_any_order, block-any_order}
use Rattle.sums.proofs.Qualifying.{tick_qualifies, block_qualifies}
use Rattle.sums.specs.Marked.{WithoutConsequence}

-- ---- a sample of the channels written over

skip : (xs ys : List Float) (i j : ℕ) → i ≡ length xs + j → get_or (xs ++ ys) i zeroᶠ ≡ get_or ys j zeroᶠ
skip [] ys i j h = ap (λ (n : ℕ). get_or ys n zeroᶠ) (omega arith)
skip (x ∷ xs) ys zero j h = absurd (omega arith)
skip (x ∷ xs) ys (suc i) j h = skip xs ys i j (omega arith)

overlay-at : (run : List Float) → length run ≤ 64 → (c m : ℕ) (lent : List Float) (k : ℕ) → c < m → k < length run → 64 * m ≤ length lent
    → get_or (overlay m run lent) (64 * c + k) zeroᶠ ≡ get_or run k zeroᶠ
unfolding overlay
overlay-at run short c zero lent k h i n = absurd (omega arith)
overlay-at run short zero (suc m) lent k h i n =
    let rest : List Float = drop (length run) (take 64 lent) ++ overlay m run (drop 64 lent) in
    ap (λ (j : ℕ). get_or (run ++ rest) j zeroᶠ) (at k) ∙ get_or-append run rest zeroᶠ k i
  where
    at : (k : ℕ) → 64 * 0 + k ≡ k
    at k = omega arith
overlay-at run short (suc c) (suc m) lent k h i n =
    let kept : List Float = drop (length run) (take 64 lent) in
    let rest : List Float = overlay m run (drop 64 lent) in
    skip run (kept ++ rest) (64 * suc c + k) (length kept + (64 * c + k)) (omega (arith, length-drop (length run) (take 64 lent), length-take 64 lent))
    ∙ skip kept rest (length kept + (64 * c + k)) (64 * c + k) refl
    ∙ overlay-at run short c m (drop 64 lent) k (omega arith) i (omega (arith, length-drop 64 lent))

-- ---- the theorem

order_perm : (o : MixOrder) (s : List Event) → Perm s (in_order o s)
order_perm Forward s = Perm.refl s
order_perm Backward s = Perm.symm (reverse_perm s)

-- no more events sound than are held
few : (l : Ledger) (e : Float) → held l ≤ 256 → length (advance l e).sounding ≤ 256
few l e h = omega (arith, held-is l, held_sum_advance (λ x n. 1) l e, event_sum_stays (λ x n. 1) l.mode l.finished, event_sum_one (advance l e).sounding)

not-not : (b : Bool) → T (not (not b)) → T b
not-not true t = tt
not-not false t = t

module _ (l : Ledger) (h : held l ≤ 256) where
  tick_same : (o : MixOrder) (pool out : List Float) → All (TickQualifies pool l.clock) (advance l (tick_end l)).sounding
      → (step l (tick o pool out)).reply.out ≡ (step l (tick Forward pool out)).reply.out
  unfolding step refusal checks decide accept
  tick_same o pool out q = go (refusal l (tick Forward pool out))
    where
      s : List Event
      s = (advance l (tick_end l)).sounding

      go : (r : Option ℕ) → (decide r l (tick o pool out)).reply.out ≡ (decide r l (tick Forward pool out)).reply.out
      go (some k) = refl
      go none = ap (replicate l.channels) (tick_any_order pool l.clock s (few l (tick_end l) h) (tick_qualifies pool l.clock s q) (in_order o s) (order_perm o s))

  block_same : (o : MixOrder) (n : ℕ) (pool out : List Float) (scratch : Option (List Float)) (c k : ℕ) → c < l.channels → k < n
      → All (BlockQualifies pool (span_of l n) k) (advance l (block_end l n)).sounding
      → get_or (step l (block o n pool out scratch)).reply.out (64 * c + k) zeroᶠ ≡ get_or (step l (block Forward n pool out scratch)).reply.out (64 * c + k) zeroᶠ
  unfolding step refusal checks decide accept
  block_same o n pool out scratch c k i j q = go (refusal l (block Forward n pool out scratch)) refl
    where
      s : List Event
      s = (advance l (block_end l n)).sounding

      channel : List Event → List Float
      channel r = (block_sum pool (span_of l n) r (cleared n) []).channel

      long : (r : List Event) → length (channel r) ≡ 8 * ((n + 7) / 8)
      long r = length-sum pool (span_of l n) r (cleared n) [] ∙ length-replicate (8 * ((n + 7) / 8)) zeroᶠ

      heard : (r : List Event) → length out ≡ 64 * l.channels → n ≤ 64 → get_or (overlay l.channels (channel r) out) (64 * c + k) zeroᶠ ≡ get_or (channel r) k zeroᶠ
      heard r x y = overlay-at (channel r) (omega (arith, long r)) c l.channels out k i (omega (arith, long r)) (omega arith)

      go : (r : Option ℕ) → refusal l (block Forward n pool out scratch) ≡ r
          → get_or (decide r l (block o n pool out scratch)).reply.out (64 * c + k) zeroᶠ ≡ get_or (decide r l (block Forward n pool out scratch)).reply.out (64 * c + k) zeroᶠ
      go (some r) g = refl
      go none g =
          let p = all_pass (checks l (block Forward n pool out scratch)) g in
          let fits : Bool = eqb (length out) (64 * l.channels) in
          let lent : Bool = eqb (length_or 64 scratch) 64 in
          let x : length out ≡ 64 * l.channels = eqb→eq (length out) (64 * l.channels) (and_l fits lent (not-not (fits && lent) p.0)) in
          let y : n ≤ 64 = nltb→le 64 n p.1.0 in
          heard (in_order o s) x y
          ∙ block-any_order pool (span_of l n) k s (few l (block_end l n) h) (block_qualifies pool (span_of l n) k s q) (8 * ((n + 7) / 8)) (omega arith) (in_order o s) (order_perm o s)
          ∙ sym (heard s x y)

  pub without_consequence : WithoutConsequence l
  without_consequence = record { tick_samples = tick_same; block_samples = block_same }

-- after any list of calls, marked ones among them, from any creation
pub reached : (channels : ℕ) (mode : ReplayMode) (first : ℕ) (cs : List Call) → first ≤ 2 ^ 64 → WithoutConsequence (run cs (create channels mode first).ledger).ledger
reached channels mode first cs h =
    let l : Ledger = (create channels mode first).ledger in
    without_consequence (run cs l).ledger (run_lawful cs l (create_lawful channels mode first h)).events

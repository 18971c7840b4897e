-- Document 02, Paper 7: "The samples, source places and lists of every block equal those of the former method." The former method as it was, and the theorem, for any number of channels, any events and any lent outputs. Assumes nothing.
use Prim.Native.Nat.{ℕ, zero, suc, ◌+◌, ◌*◌, ◌/◌, ◌≤◌, ◌<◌}
use Rattle.std.specs.Prelude.{◌≡◌, Bool, true, false, cond, ltb, length, take}
use Rattle.std.proofs.Math.Path.{refl, ap}
use Rattle.std.proofs.Common.{sym, ◌∙◌, arith, ltb-true, length-drop, length-append, length-take-le, take_at, drop_at, drop-drop}
use mathlib.Core.List.{List, [], ◌∷◌, ◌++◌, map, append_assoc}
use Rattle.std.proofs.Math.Option.{none, some}
use Rattle.std.specs.Float.Ieee.{Float}
use Rattle.std.proofs.Math.ListN.{drop}
use Rattle.std.proofs.lemmas.List.{length-replicate}
use Rattle.std.proofs.Math.Seq.{take-append_seam}
use Rattle.floats.specs.Arithmetic.{◌+ˢ◌, zeroᶠ}
use Rattle.event.specs.declared.Event.{Event}
use Rattle.event.specs.declared.MixOrder.{MixOrder}
use Rattle.ledger.specs.BlockSamples.{Span, end_place, first_place, faded_run, add_at, channel_after, scratch_after, after_block, block_sum, overlay}
use Rattle.ledger.specs.Calls.{block}
use Rattle.ledger.proofs.FadesByPlace.{length-faded-run}
use Rattle.ledger.specs.Ledger.{Ledger}
use Rattle.ledger.specs.Refusals.{block_end}
use Rattle.ledger.specs.Steps.{advance, in_order, span_of, with_sounding, cleared, accept}
use Rattle.ledger.proofs.WithinBlock.{end_within}
use Rattle.ledger.specs.FormerMethod.{every_channel, mixed, cleared_first, written, filled, former_block, channel_of, take_lent}

-- ---- adding stays before what follows the run
added-before : (s : ℕ) (run xs ys : List Float) → s + length run ≤ length xs → add_at s run (xs ++ ys) ≡ add_at s run xs ++ ys
unfolding add_at
added-before zero [] [] [] h = refl
added-before zero [] [] (y ∷ ys) h = refl
added-before zero (r ∷ run) [] ys h = absurd (omega arith)
added-before (suc s) run [] ys h = absurd (omega arith)
added-before zero [] (x ∷ xs) ys h = refl
added-before zero (r ∷ run) (x ∷ xs) ys h = ap (λ (l : List Float). (x +ˢ r) ∷ l) (added-before zero run xs ys (omega arith))
added-before (suc s) run (x ∷ xs) ys h = ap (λ (l : List Float). x ∷ l) (added-before s run xs ys (omega arith))

length-added : (s : ℕ) (run xs : List Float) → length (add_at s run xs) ≡ length xs
unfolding add_at
length-added s run [] = refl
length-added (suc s) run (x ∷ l) = ap suc (length-added s run l)
length-added zero [] (x ∷ l) = refl
length-added zero (y ∷ run) (x ∷ l) = ap suc (length-added zero run l)

module _ (pool : List Float) (b : Span) where
  channel_before : (e : Event) (xs ys : List Float) → b.size ≤ length xs → channel_after pool b e (xs ++ ys) ≡ channel_after pool b e xs ++ ys
  unfolding channel_after
  channel_before e xs ys h = go (ltb (first_place b e) (end_place b e)) refl
    where
      run : List Float
      run = faded_run pool b (first_place b e) (end_place b e) e

      go : (t : Bool) → ltb (first_place b e) (end_place b e) ≡ t → cond t (add_at (first_place b e) run (xs ++ ys)) (xs ++ ys) ≡ cond t (add_at (first_place b e) run xs) xs ++ ys
      go true q =
          let p = ltb-true (first_place b e) (end_place b e) q in
          added-before (first_place b e) run xs ys (omega (arith, end_within b e, length-faded-run pool b (first_place b e) (end_place b e) e))
      go false q = refl

  pub length_channel : (e : Event) (xs : List Float) → length (channel_after pool b e xs) ≡ length xs
  unfolding channel_after
  length_channel e xs = go (ltb (first_place b e) (end_place b e))
    where
      run : List Float
      run = faded_run pool b (first_place b e) (end_place b e) e

      go : (t : Bool) → length (cond t (add_at (first_place b e) run xs) xs) ≡ length xs
      go true = length-added (first_place b e) run xs
      go false = refl

  mixed-before : (l : List Event) (xs ys scratch : List Float) → b.size ≤ length xs → mixed pool b l (xs ++ ys) ≡ (block_sum pool b l xs scratch).channel ++ ys
  unfolding block_sum
  mixed-before [] xs ys scratch h = refl
  mixed-before (e ∷ l) xs ys scratch h =
      ap (mixed pool b l) (channel_before e xs ys h)
      ∙ mixed-before l (channel_after pool b e xs) ys (scratch_after pool b e scratch) (omega (arith, length_channel e xs))

  pub length-sum : (l : List Event) (xs scratch : List Float) → length (block_sum pool b l xs scratch).channel ≡ length xs
  unfolding block_sum
  length-sum [] xs scratch = refl
  length-sum (e ∷ l) xs scratch = length-sum l (channel_after pool b e xs) (scratch_after pool b e scratch) ∙ length_channel e xs

  pub events_once : (l : List Event) (xs scratch : List Float) → map (after_block b) l ≡ (block_sum pool b l xs scratch).events
  unfolding block_sum
  events_once [] xs scratch = refl
  events_once (e ∷ l) xs scratch = ap (λ (r : List Event). after_block b e ∷ r) (events_once l (channel_after pool b e xs) (scratch_after pool b e scratch))

  -- every channel has the one channel's samples
  channels_alike : (n : ℕ) (l : List Event) (scratch : List Float) (c : ℕ) (out : List Float) → b.size ≤ length (cleared n)
      → every_channel (λ channel. mixed pool b l (cleared_first n channel)) c out ≡ overlay c (block_sum pool b l (cleared n) scratch).channel out
  unfolding every_channel overlay
  channels_alike n l scratch zero out h = refl
  channels_alike n l scratch (suc c) out h =
      let run : List Float = (block_sum pool b l (cleared n) scratch).channel in
      let rest : List Float = overlay c run (drop 64 out) in
      ap (λ (k : List Float). k ++ every_channel (λ channel. mixed pool b l (cleared_first n channel)) c (drop 64 out)) (mixed-before l (cleared n) (drop (length (cleared n)) (take 64 out)) scratch h)
      ∙ ap (λ (k : List Float). (run ++ drop (length (cleared n)) (take 64 out)) ++ k) (channels_alike n l scratch c (drop 64 out) h)
      ∙ append_assoc run (drop (length (cleared n)) (take 64 out)) rest
      ∙ ap (λ (k : ℕ). run ++ (drop k (take 64 out) ++ rest)) (sym (length-sum l (cleared n) scratch))

  -- and every scratch the run given last
  scratches_alike : (l : List Event) (channel x run : List Float) → take (length run) x ≡ run → let r = (block_sum pool b l channel run).scratch in take (length r) (filled pool b l x) ≡ r
  unfolding block_sum scratch_after
  scratches_alike [] channel x run h = h
  scratches_alike (e ∷ l) channel x run h =
      go (ltb (first_place b e) (end_place b e)) (λ y g q. scratches_alike l (channel_after pool b e channel) y g q)
    where
      given : List Float
      given = faded_run pool b (first_place b e) (end_place b e) e

      Alike : (y g : List Float) → Type 0
      Alike y g = let r = (block_sum pool b l (channel_after pool b e channel) g).scratch in take (length r) (filled pool b l y) ≡ r

      go : (t : Bool) → ((y g : List Float) → take (length g) y ≡ g → Alike y g) → Alike (cond t (written given x) x) (cond t given run)
      go true all = all (written given x) given (take-append_seam given (drop (length given) x))
      go false all = all x run h

-- ---- each channel by itself

-- what is done to 64 samples of each channel, and keeps their number, is found in each
every_channel_at : (f : List Float → List Float) → ((x : List Float) → length x ≡ 64 → length (f x) ≡ 64)
    → (i c : ℕ) (l : List Float) → i < c → length l ≡ 64 * c → channel_of i (every_channel f c l) ≡ f (channel_of i l)
unfolding every_channel
every_channel_at f keeps i zero l h n = absurd (omega arith)
every_channel_at f keeps zero (suc c) l h n =
    take_at (f (take 64 l)) (every_channel f c (drop 64 l)) 64 (keeps (take 64 l) (length-take-le 64 l (omega arith)))
every_channel_at f keeps (suc i) (suc c) l h n =
    let next : 64 * suc i ≡ 64 + 64 * i = omega arith in
    let rest : List Float = every_channel f c (drop 64 l) in
    let front : drop 64 (f (take 64 l) ++ rest) ≡ rest = drop_at (f (take 64 l)) rest 64 (keeps (take 64 l) (length-take-le 64 l (omega arith))) in
    rw (next, sym (drop-drop (64 * i) 64 (f (take 64 l) ++ rest)), sym (drop-drop (64 * i) 64 l), front)
    (every_channel_at f keeps i c (drop 64 l) (omega arith) (omega (arith, length-drop 64 l)))

length-filled : (pool : List Float) (b : Span) (l : List Event) (x : List Float) → b.size ≤ length x → length (filled pool b l x) ≡ length x
length-filled pool b [] x h = refl
length-filled pool b (e ∷ l) x h = go (ltb (first_place b e) (end_place b e)) (length-filled pool b l)
  where
    run : List Float
    run = faded_run pool b (first_place b e) (end_place b e) e

    go : (t : Bool) → ((y : List Float) → b.size ≤ length y → length (filled pool b l y) ≡ length y)
        → length (filled pool b l (cond t (written run x) x)) ≡ length x
    go true all =
        let given = length-faded-run pool b (first_place b e) (end_place b e) e in
        let same : length (written run x) ≡ length x
        = omega (arith, length-append run (drop (length run) x), length-drop (length run) x, end_within b e, given) in
        all (written run x) (omega arith) ∙ same
    go false all = all x h

-- ---- the theorem: ledger and samples, whatever is lent
pub same_as_former : (l : Ledger) (order : MixOrder) (n : ℕ) (pool out scratch : List Float)
    → let f = former_block l order n pool out scratch in
    let o = accept l (block order n pool out none) in
    (f.ledger ≡ o.ledger) × (f.out ≡ o.reply.out)
unfolding former_block accept
same_as_former l order n pool out scratch =
    let m = advance l (block_end l n) in (
      ap (with_sounding m) (events_once pool (span_of l n) m.sounding (cleared n) []),
      channels_alike pool (span_of l n) n (in_order order m.sounding) [] l.channels out (omega (arith, length-replicate (8 * ((n + 7) / 8)) zeroᶠ)),
    )

-- "All channels of an event share the source's samples before fading, so one faded run serves them all": each channel of the former scratch, which 10 asked to
-- be 64 × channels long, has up to the samples given what the one scratch has, whatever stood in either.
pub same-scratch : (l : Ledger) (order : MixOrder) (n : ℕ) (pool out scratch lent : List Float) (c : ℕ)
    → n ≤ 64 → length scratch ≡ 64 * l.channels → c < l.channels
    → let f = former_block l order n pool out scratch in
    let r = (accept l (block order n pool out (some lent))).reply in
    some (take r.filled (channel_of c f.scratch)) ≡ take_lent r.filled r.scratch
unfolding former_block accept
same-scratch l order n pool out scratch lent c h e i =
    let b = span_of l n in
    let s = in_order order (advance l (block_end l n)).sounding in
    let r = (block_sum pool b s (cleared n) []).scratch in
    let keeps : (x : List Float) → length x ≡ 64 → length (filled pool b s x) ≡ 64 = λ x k. length-filled pool b s x (omega arith) ∙ k in
    ap (λ (x : List Float). some (take (length r) x)) (every_channel_at (filled pool b s) keeps c l.channels scratch i e)
    ∙ ap some (scratches_alike pool b s (cleared n) (channel_of c scratch) [] refl ∙ sym (take-append_seam r (drop (length r) lent)))

-- What a call leaves in the 512 samples that it is lent: all channels are equal, and how many bytes they have is known before.
use Rattle.std.specs.Prelude.{Bool, true, false, not, ◌&&◌, ◌≡◌, ltb, leb, eqb, get_or, set, take, replicate}
use Rattle.std.proofs.Math.Bool.{cond}
use mathlib.Core.List.{List, [], ◌∷◌, ◌++◌}
use Rattle.std.proofs.Math.Path.{refl, ap, subst}
use Rattle.std.proofs.Common.{sym, ◌∙◌, ltb-false, eqb-true, take-append-drop, length-append, length-drop}
use Prim.Native.Nat.{ℕ, zero, suc, ◌+◌, ◌*◌, ◌/◌, ◌%◌, ◌≤◌, ◌<◌, min}
use native.Mathlib.Omega.{arith}
use Rattle.std.specs.Float.Ieee.{Float}
use Rattle.std.proofs.Math.ListN.{length, drop, length-take}
use Rattle.std.proofs.lemmas.List.{length-replicate}
use Rattle.std.proofs.Math.Seq.{length-take-le}
use Rattle.event.specs.declared.Event.{Event}
use Rattle.event.specs.declared.MixOrder.{MixOrder}
use Rattle.event.specs.declared.MixOrder.TheVariants.{Forward}
use Rattle.event.specs.Blank.{blank}
use Rattle.floats.specs.Arithmetic.{◌+ᵈ◌, ◌×ᵈ◌, ◌≤ᶠ◌, zeroᶠ, whole}
use Rattle.ledger.specs.BlockSamples.{Span, after_block, overlay}
use Rattle.ledger.proofs.FormerMethod.{length_channel}
use Rattle.mixing.specs.Blocks.{cleared_places}
use Rattle.refusals.specs.Refusals.{tick_refusal, process_refusal}
use Rattle.sequencer.specs.declared.Sequencer.{Sequencer}
use Rattle.sequencer.specs.declared.Outcome.{Outcome}
use Rattle.sequencer.specs.Answers.{accepts}
use Rattle.sequencer.specs.Moves.{advanced}
use Rattle.sequencer.specs.Outcomes.{renders, refuses}
use Rattle.sequencer.specs.Rendering.{mix_place, passes, add_block, tick_end, tick_pass, rendered_tick, rendered_tick_out, ticks, tick_outs, block_end, span_of, block_pass, rendered_block, rendered_places, rendered_block_out, blocks, block_outs}
use Rattle.tape.specs.declared.reader.Call.{Call}
use Rattle.tape.specs.declared.reader.Call.TheVariants as Call
use Rattle.apply.specs.declared.Applied.{Applied}
use Rattle.apply.specs.Applying.{silent, silent_of, sounding_of, lent_tick, lent_block, ticking, ticking_out, processing, processing_out, applied_to, applied_out}
use Rattle.record_output.specs.Bytes.{bytes_of, channels_of, length-sound}
use Rattle.record_output.specs.Rows.{Rows, rows_alike, tick_rows, length-overlay, block-rows}
use Rattle.player.specs.Carrying.{tick_bytes, block_bytes, sound_bytes}

-- a is what a call gives and o the samples after it: the first channel serves all, and `bytes` is how many bytes they have
pub record Heard (a : Applied) (o : List Float) (bytes : ℕ) : Type 0 where
  pub long : length o ≡ 512
  pub few : a.channels ≤ 8
  pub small : a.each ≤ 64
  pub rows : Rows a.channels a.each a.stride o o
  pub size : length (bytes_of (channels_of a.channels a.each a.stride o)) ≡ bytes

-- channels that are those of a row are those of their first
own : (c n w : ℕ) (row o : List Float) → Rows c n w row o → Rows c n w o o
own zero n w row o r = tt
own (suc c) n w row o r = rows_alike (suc c) n w row o o (sym r.0) r

silent-heard : (t : Sequencer) (n : ℕ) (o : List Float) → length o ≡ 512 → Heard (silent t n) o 0
unfolding bytes_of channels_of
silent-heard t n o h = record { long = h; few = omega arith; small = omega arith; rows = tt; size = refl }

pub refused-silent : (s : Sequencer) (n c e w : ℕ) → eqb n 0 ≡ false → sounding_of (refuses s n) c e w ≡ silent s n
unfolding sounding_of
refused-silent s n c e w q = rw q

-- a tick or block that is accepted
sounding_heard : (t : Sequencer) (c n w : ℕ) (o : List Float) → length o ≡ 512 → c ≤ 8 → n ≤ 64 → n ≤ w → c * w ≤ 512 → (row : List Float) → Rows c n w row o
    → Heard (record { sequencer = t; refusal = 0; channels = c; each = n; stride = w }) o (4 * (c * n))
sounding_heard t c n w o l few small wide inside row r = record { long = l; few = few; small = small; rows = own c n w row o r; size = length-sound c n w o wide (omega arith) }

-- ---- a block that is not refused has at most 64 samples
pub block-small : (n len outputs : ℕ) (t d : Float) → process_refusal n len outputs t d ≡ 0 → n ≤ 64
unfolding process_refusal
block-small n len outputs t d = go (not (eqb (len % 64) 0 && eqb (len / 64) outputs)) (ltb 64 n) (cond (not (t +ᵈ d ×ᵈ whole n ≤ᶠ whole 1_000_000_000)) 12 0) (ltb-false 64 n)
  where
    go : (a b : Bool) (r : ℕ) → (b ≡ false → n ≤ 64) → cond a 10 (cond b 11 r) ≡ 0 → n ≤ 64
    go true b r k h = absurd (omega arith)
    go false true r k h = absurd (omega arith)
    go false false r k h = k refl

-- ---- the row of a block is as long as it has to be

length-passed : {A B : Type 0} (next : A → A) (plus : List B → A → List B) (d : A) → ((l : List B) (a : A) → length (plus l a) ≡ length l)
    → (order : MixOrder) (f : ℕ) (xs : List A) (i : ℕ) (sum : List B) → length (passes next plus d order f xs i sum).sum ≡ length sum
unfolding passes
length-passed next plus d same order zero xs i sum = refl
length-passed next plus d same order (suc f) xs i sum =
    let k = mix_place order i f in
    length-passed next plus d same order f (set xs k (next (get_or xs k d))) (suc i) (plus sum (get_or xs k d)) ∙ same sum (get_or xs k d)

length-block : (pool : List Float) (b : Span) (n : ℕ) (a : Sequencer) → length (block_pass Forward pool b n a).sum ≡ cleared_places n
unfolding block_pass
length-block pool b n a =
    length-passed (after_block b) (add_block pool b) blank (λ l e. length_channel pool b e l) Forward (min a.active_len 256) a.active 0 (replicate (cleared_places n) zeroᶠ)
    ∙ length-replicate (cleared_places n) zeroᶠ

module _ (pool : List Float) (s : Sequencer) (x : List Float) (long : length x ≡ 512) where
  unfoldable pub channels : ℕ
  channels = min s.outputs 8

  unfoldable pub tick-no : ℕ
  tick-no = tick_refusal channels s.outputs s.time s.sample_duration

  pub tick_gives : ticking pool s x ≡ sounding_of (cond (eqb tick-no 0) (accepts (rendered_tick Forward pool s)) (refuses s tick-no)) channels 1 1
  unfolding channels tick-no ticking ticks
  tick_gives =
      let q : lent_tick s x ≡ min s.outputs 8 = omega arith in
      ap (λ (n : ℕ). let no = tick_refusal n s.outputs s.time s.sample_duration in sounding_of (cond (eqb no 0) (accepts (rendered_tick Forward pool s)) (refuses s no)) (min s.outputs 8) 1 1) q

  pub tick_leaves : ticking_out pool s x ≡ cond (eqb tick-no 0) (replicate channels (tick_pass Forward pool s.time (advanced s (tick_end s))).sum) (take channels x) ++ drop channels x
  unfolding channels tick-no ticking_out tick_outs rendered_tick_out
  tick_leaves =
      let q : lent_tick s x ≡ min s.outputs 8 = omega arith in
      let l : length (take (lent_tick s x) x) ≡ min s.outputs 8 = length-take-le (lent_tick s x) x (omega arith) ∙ q in
      let sum = (tick_pass Forward pool s.time (advanced s (tick_end s))).sum in
      ap (λ (n : ℕ). cond (eqb (tick_refusal n s.outputs s.time s.sample_duration) 0) (replicate n sum) (take (lent_tick s x) x) ++ drop (lent_tick s x) x) l
      ∙ ap (λ (n : ℕ). cond (eqb (tick_refusal (min s.outputs 8) s.outputs s.time s.sample_duration) 0) (replicate (min s.outputs 8) sum) (take n x) ++ drop n x) q

  tick_heard : Heard (ticking pool s x) (ticking_out pool s x) (tick_bytes s.outputs s.time s.sample_duration)
  unfolding channels tick-no tick_bytes sounding_of
  tick_heard =
      subst (λ (a : Applied). Heard a (ticking_out pool s x) (tick_bytes s.outputs s.time s.sample_duration)) (sym tick_gives)
      (subst (λ (o : List Float). Heard (sounding_of (cond (eqb tick-no 0) (accepts (rendered_tick Forward pool s)) (refuses s tick-no)) channels 1 1) o (tick_bytes s.outputs s.time s.sample_duration))
      (sym tick_leaves) (go (eqb tick-no 0) refl))
    where
      sum : Float
      sum = (tick_pass Forward pool s.time (advanced s (tick_end s))).sum

      out : List Float
      out = replicate channels sum ++ drop channels x

      go : (c : Bool) → eqb tick-no 0 ≡ c
          → Heard (sounding_of (cond c (accepts (rendered_tick Forward pool s)) (refuses s tick-no)) channels 1 1) (cond c (replicate channels sum) (take channels x) ++ drop channels x) (cond c (4 * channels) 0)
      go true q =
          let size : 4 * (channels * 1) ≡ 4 * channels = omega arith in
          subst (Heard (record { sequencer = rendered_tick Forward pool s; refusal = 0; channels = channels; each = 1; stride = 1 }) out) size
          (sounding_heard (rendered_tick Forward pool s) channels 1 1 out
          (omega (arith, length-append (replicate channels sum) (drop channels x), length-replicate channels sum, length-drop channels x))
          (omega arith) (omega arith) (omega arith) (omega arith) (sum ∷ []) (tick_rows channels sum (sum ∷ []) (drop channels x) refl))
      go false q =
          subst (λ (a : Applied). Heard a (take channels x ++ drop channels x) 0) (sym (refused-silent s tick-no channels 1 1 q))
          (silent-heard s tick-no (take channels x ++ drop channels x) (ap length (take-append-drop channels x) ∙ long))

  module _ (n : ℕ) where
    unfoldable pub lent : ℕ
    lent = 64 * channels

    unfoldable pub block_no : ℕ
    block_no = process_refusal n lent s.outputs s.time s.sample_duration

    unfoldable pub run : List Float
    run = (block_pass Forward pool (span_of s n) n (advanced s (block_end s n))).sum

    unfoldable pub accepted : Outcome
    accepted = renders (rendered_block Forward pool n s) (rendered_places Forward n s)

    pub block-gives : processing pool n s x ≡ sounding_of (cond (eqb block_no 0) accepted (refuses s block_no)) channels n 64
    unfolding channels lent block_no accepted processing blocks
    block-gives =
        let q : lent_block s x ≡ 64 * min s.outputs 8 = omega arith in
        ap (λ (m : ℕ). let no = process_refusal n m s.outputs s.time s.sample_duration in sounding_of (cond (eqb no 0) (renders (rendered_block Forward pool n s) (rendered_places Forward n s)) (refuses s no)) (min s.outputs 8) n 64) q

    pub block-leaves : processing_out pool n s x ≡ cond (eqb block_no 0) (overlay (lent / 64) (take 64 run) (take lent x)) (take lent x) ++ drop lent x
    unfolding channels lent block_no run processing_out block_outs rendered_block_out
    block-leaves =
        let q : lent_block s x ≡ 64 * min s.outputs 8 = omega arith in
        let l : length (take (lent_block s x) x) ≡ 64 * min s.outputs 8 = length-take-le (lent_block s x) x (omega arith) ∙ q in
        ap (λ (m : ℕ). cond (eqb (process_refusal n m s.outputs s.time s.sample_duration) 0) (overlay (m / 64) (take 64 run) (take (lent_block s x) x)) (take (lent_block s x) x) ++ drop (lent_block s x) x) l
        ∙ ap (λ (m : ℕ). cond (eqb (process_refusal n (64 * min s.outputs 8) s.outputs s.time s.sample_duration) 0) (overlay (64 * min s.outputs 8 / 64) (take 64 run) (take m x)) (take m x) ++ drop m x) q

    pub block-shown : n ≤ 64 → Rows channels n 64 (take 64 run) (overlay (lent / 64) (take 64 run) (take lent x) ++ drop lent x)
    unfolding channels lent run
    block-shown small =
        let short : length (take 64 run) ≤ 64 = omega (arith, length-take 64 run) in
        let size : length (take lent x) ≡ lent = length-take-le lent x (omega arith) in
        let count : channels ≡ lent / 64 = omega arith in
        let wide = length-block pool (span_of s n) n (advanced s (block_end s n)) in
        subst (λ (k : ℕ). Rows channels n 64 (take 64 run) (overlay k (take 64 run) (take lent x) ++ drop lent x)) count
        (block-rows (take 64 run) short channels n (take 64 run) (take lent x) (drop lent x) (omega (arith, length-take 64 run, wide)) refl (omega arith))

    block-heard : Heard (processing pool n s x) (processing_out pool n s x) (block_bytes n s.outputs s.time s.sample_duration)
    unfolding channels lent block_no run accepted block_bytes sounding_of
    block-heard =
        subst (λ (a : Applied). Heard a (processing_out pool n s x) (block_bytes n s.outputs s.time s.sample_duration)) (sym block-gives)
        (subst (λ (o : List Float). Heard (sounding_of (cond (eqb block_no 0) accepted (refuses s block_no)) channels n 64) o (block_bytes n s.outputs s.time s.sample_duration))
        (sym block-leaves) (go (eqb block_no 0) refl))
      where
        out : List Float
        out = overlay (lent / 64) (take 64 run) (take lent x) ++ drop lent x

        all : length out ≡ 512
        all =
            let short : length (take 64 run) ≤ 64 = omega (arith, length-take 64 run) in
            let size : length (take lent x) ≡ lent = length-take-le lent x (omega arith) in
            let o = length-overlay (take 64 run) short (lent / 64) (take lent x) (omega arith) in
            omega (arith, length-append (overlay (lent / 64) (take 64 run) (take lent x)) (drop lent x), o, size, length-drop lent x)

        go : (c : Bool) → eqb block_no 0 ≡ c
            → Heard (sounding_of (cond c accepted (refuses s block_no)) channels n 64) (cond c (overlay (lent / 64) (take 64 run) (take lent x)) (take lent x) ++ drop lent x) (cond c (4 * (channels * n)) 0)
        go true q =
            let small = block-small n lent s.outputs s.time s.sample_duration (eqb-true block_no 0 q) in
            sounding_heard (rendered_block Forward pool n s) channels n 64 out all (omega arith) small small (omega arith) (take 64 run) (block-shown small)
        go false q =
            subst (λ (a : Applied). Heard a (take lent x ++ drop lent x) 0) (sym (refused-silent s block_no channels n 64 q))
            (silent-heard s block_no (take lent x ++ drop lent x) (ap length (take-append-drop lent x) ∙ long))

  -- ---- every record
  pub heard : (call : Call) → Heard (applied_to pool s call x) (applied_out pool s call x) (sound_bytes call s.outputs s.time s.sample_duration)
  unfolding applied_to applied_out
  heard (Call.Push p) = silent-heard _ _ x long
  heard (Call.PushRelative p) = silent-heard _ _ x long
  heard (Call.PushDuration p) = silent-heard _ _ x long
  heard Call.Tick = tick_heard
  heard (Call.Process n) = block-heard n
  heard (Call.Create k m n) = silent-heard _ _ x long
  heard (Call.Edit p) = silent-heard _ _ x long
  heard (Call.EditRelative p) = silent-heard _ _ x long
  heard Call.Reset = silent-heard _ _ x long
  heard (Call.SetSampleRate r) = silent-heard _ _ x long

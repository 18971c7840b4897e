-- Channels that are all equal: what they leave is what one row of samples leaves, once for each of them. Assumes nothing.
use Rattle.std.specs.Prelude.{◌≡◌, true, replicate}
use Rattle.std.proofs.Math.Path.{refl, ap, subst}
use Rattle.std.proofs.Common.{sym, ◌∙◌, arith, length-take-le}
use mathlib.Core.List.{List, [], ◌∷◌, ◌++◌, append_assoc}
use Prim.Native.Nat.{ℕ, zero, suc, ◌+◌, ◌*◌, ◌≤◌}
use Rattle.std.specs.Float.Ieee.{Float}
use Rattle.std.proofs.Math.ListN.{length, take, drop, length-append, length-drop}
use Rattle.std.proofs.Math.Seq.{take-append-le, drop_at}
use Rattle.sequencer.specs.declared.readers.Counts.{Counts}
use Rattle.ledger.specs.BlockSamples.{overlay}
use Rattle.listing.specs.Pieces.{joined}
use Rattle.listing.specs.Text.{samples_line}
use Rattle.record_output.specs.declared.Form.{Form}
use Rattle.record_output.specs.declared.Form.TheVariants.{Bytes, Lines}
use Rattle.record_output.specs.Bytes.{bytes_of, bytes_append, channels_of}
use Rattle.record_output.specs.Lines.{record_line, channel_lines, leaves, pieces}

-- the first n samples of each of c channels, which begin w places apart, are those of the row
abbrev pub Rows : (c n w : ℕ) → (row samples : List Float) → Type 0
Rows zero n w row samples = Unit {0}
Rows (suc c) n w row samples = (take n samples ≡ take n row) × Rows c n w row (drop w samples)

as_bytes : (c n w : ℕ) (row samples : List Float) → Rows c n w row samples → joined (replicate c (bytes_of (take n row))) ≡ bytes_of (channels_of c n w samples)
unfolding joined channels_of bytes_of
as_bytes zero n w row samples r = refl
as_bytes (suc c) n w row samples r =
    (λ i. bytes_of (sym r.0 i) ++ as_bytes c n w row (drop w samples) r.1 i) ∙ sym (bytes_append (take n samples) (channels_of c n w (drop w samples)))

as_lines : (c n w : ℕ) (row samples : List Float) → Rows c n w row samples → joined (replicate c (samples_line (take n row))) ≡ channel_lines c n w samples
unfolding joined channel_lines
as_lines zero n w row samples r = refl
as_lines (suc c) n w row samples r = λ i. samples_line (sym r.0 i) ++ as_lines c n w row (drop w samples) r.1 i

-- another row that begins alike
pub rows_alike : (c n w : ℕ) (row other samples : List Float) → take n row ≡ take n other → Rows c n w row samples → Rows c n w other samples
rows_alike zero n w row other samples e r = tt
rows_alike (suc c) n w row other samples e r = (r.0 ∙ e, rows_alike c n w row other (drop w samples) e r.1)

-- so the pieces of the row are what the channels leave
pub row-leaves : (form : Form) (kind refusal : ℕ) (counts : Counts) (c n w : ℕ) (row samples : List Float) → Rows c n w row samples
    → joined (pieces form (record { any = true; kind = kind; refusal = refusal; channels = c; each = n }) counts row) ≡ leaves form kind refusal counts c n w samples
unfolding leaves joined
row-leaves Bytes kind refusal counts c n w row samples r = as_bytes c n w row samples r
row-leaves Lines kind refusal counts c n w row samples r = ap (λ (x : List ℕ). record_line kind refusal counts ++ x) (as_lines c n w row samples r)

-- ---- the channels of a tick and of a block

pub tick_rows : (c : ℕ) (x : Float) (row rest : List Float) → x ∷ [] ≡ take 1 row → Rows c 1 1 row (replicate c x ++ rest)
tick_rows zero x row rest h = tt
tick_rows (suc c) x row rest h = (h, tick_rows c x row rest h)

module _ (run : List Float) (short : length run ≤ 64) where
  -- a channel's first places are the run, and its places remain 64
  pub length-row : (lent : List Float) → 64 ≤ length lent → length (run ++ drop (length run) (take 64 lent)) ≡ 64
  length-row lent h =
      omega (arith, length-append run (drop (length run) (take 64 lent)), length-drop (length run) (take 64 lent), length-take-le 64 lent h)

  pub length-overlay : (c : ℕ) (lent : List Float) → 64 * c ≤ length lent → length (overlay c run lent) ≡ length lent
  unfolding overlay
  length-overlay zero lent h = refl
  length-overlay (suc c) lent h =
      let rest : List Float = overlay c run (drop 64 lent) in
      let k : length (overlay c run (drop 64 lent)) ≡ length (drop 64 lent) = length-overlay c (drop 64 lent) (omega (arith, length-drop 64 lent)) in
      ap length (sym (append_assoc run (drop (length run) (take 64 lent)) rest))
      ∙ omega (arith, length-append (run ++ drop (length run) (take 64 lent)) rest, length-row lent (omega arith), k, length-drop 64 lent)

  pub block-rows : (c n : ℕ) (row lent rest : List Float) → n ≤ length run → take n run ≡ take n row → 64 * c ≤ length lent → Rows c n 64 row (overlay c run lent ++ rest)
  unfolding overlay
  block-rows zero n row lent rest g e h = tt
  block-rows (suc c) n row lent rest g e h =
      let more : List Float = overlay c run (drop 64 lent) in
      let first : List Float = run ++ drop (length run) (take 64 lent) in
      let all : (run ++ (drop (length run) (take 64 lent) ++ overlay c run (drop 64 lent))) ++ rest ≡ first ++ (more ++ rest) =
      ap (λ (x : List Float). x ++ rest) (sym (append_assoc run (drop (length run) (take 64 lent)) more)) ∙ append_assoc first more rest in
      let behind : drop 64 ((run ++ (drop (length run) (take 64 lent) ++ overlay c run (drop 64 lent))) ++ rest) ≡ more ++ rest =
      ap (drop 64) all ∙ drop_at first (more ++ rest) 64 (length-row lent (omega arith)) in
      let ahead : take n ((run ++ (drop (length run) (take 64 lent) ++ overlay c run (drop 64 lent))) ++ rest) ≡ take n run =
      ap (take n) (all ∙ append_assoc run (drop (length run) (take 64 lent)) (more ++ rest)) ∙ take-append-le n run (drop (length run) (take 64 lent) ++ (more ++ rest)) g in
      (ahead ∙ e, subst (λ (x : List Float). Rows c n 64 row x) (sym behind) (block-rows c n row (drop 64 lent) rest g e (omega (arith, length-drop 64 lent))))

-- `little_endian::put_sample` meets its contract. Assumes nothing.
use mathlib.Core.Path.{ap, ◌∙◌}
use Prim.Native.Nat.{ℕ, ◌+◌, ◌≤◌}
use native.Mathlib.Omega.{arith}
use lib.ListN.{length}
use lib.Seq.{sets}
use Rattle.little_endian.specs.LowBytes.{little_endian}
use Rattle.little_endian.specs.Samples.{sample_bytes, length_sample}
use Rattle.little_endian.proofs.Steps.{no_place, placed}
use Rattle.little_endian.proofs.put_sample.Goals as goal

pub returns-then-out-at : goal.returns-then-out-at
returns-then-out-at c = let l = length_sample c.args.sample in no_place _ _ _ (omega arith)

pub returns-then-out-at-lt4 : goal.returns-then-out-at-lt4
returns-then-out-at-lt4 c = let l = length_sample c.args.sample in no_place _ _ _ (omega (arith, c.if-out-at.false))

pub put_word-requires : goal.put_word-requires
put_word-requires c = omega (arith, c.if-out-at.false, c.if-out-at-lt4.false)

pub returns : goal.returns
returns c =
    let d = c.before in
    let a = d.args in
    let l = length_sample a.sample in
    let room : a.at + length (sample_bytes a.sample) ≤ length a.out.now = omega (arith, d.if-out-at.false, d.if-out-at-lt4.false) in
    placed _ _ _ room _ _ (c.put_word.ensures ∙ ap (λ (n : ℕ). sets a.out.now a.at (little_endian 4 n)) d.f32_to_bits-bits.ensures) (omega arith)

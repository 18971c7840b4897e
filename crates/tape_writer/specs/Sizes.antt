-- The answer of a writing by its tests, and the length of what it puts down. Assumes nothing.
use Rattle.std.specs.Prelude.{◌≡◌, Bool, List, ℕ, ◌+◌, ◌-◌, ◌≤◌, ◌<◌, ltb, Ok, Err}
use Rattle.std.proofs.Math.Path.{refl}
use Rattle.std.proofs.Math.Bool.{true, false, cond}
use Rattle.std.proofs.Common.{true≢false, arith}
use borrow.Author.Tests.{ltb-false, lt-ltb, le-ltb}
use Rattle.std.proofs.Math.ListN.{length}
use Rattle.tape.specs.Tape.{sizes, size_of}
use Rattle.tape.specs.Kinds.{each_kind}
use Rattle.tape_writer.specs.declared.Arguments.{Arguments}
use Rattle.tape_writer.specs.declared.Refusal.TheVariants.{Undefined, NoRoom}
use Rattle.little_endian.specs.LowBytes.{little_endian}
use Rattle.little_endian.specs.Fields.{joined}
use Rattle.tape_writer.specs.Writing.{body_parts, bytes_by, bytes_of, undefined_by, undefined, too_short, answered, laid, buffer_after}

-- ---- a record is as long as its kind says
pub long_as : (k : ℕ) (a : Arguments) → k < 13 → length (bytes_by k a) ≡ size_of k
unfolding bytes_by body_parts joined little_endian size_of sizes
long_as k a h = each_kind (λ (n : ℕ). length (bytes_by n a) ≡ size_of n) refl refl refl refl refl refl refl refl refl refl refl refl refl k h

pub kind_known : (k : ℕ) (a : Arguments) → undefined_by k a ≡ false → k < 13
unfolding undefined_by
kind_known k a h = go (ltb 12 k) (ltb-false 12 k) _ h
  where
    go : (t : Bool) → (t ≡ false → k ≤ 12) → (r : Bool) → cond t true r ≡ false → k < 13
    go true e r h = absurd (true≢false h)
    go false e r h = let z = e refl in omega arith

pub some_bytes : (k : ℕ) (a : Arguments) → 0 < length (bytes_by k a)
unfolding bytes_by joined little_endian
some_bytes k a = omega arith

-- ---- the tests in turn
module _ (a : Arguments) (buf : List ℕ) (at : ℕ) where
  pub refused-14 : undefined a ≡ true → (answered a buf at ≡ Err Undefined) × (buffer_after a buf at ≡ buf)
  unfolding answered buffer_after
  refused-14 h = (simp h, simp h)

  pub refused-19 : undefined a ≡ false → too_short buf at (size_of a.kind) ≡ true → (answered a buf at ≡ Err NoRoom) × (buffer_after a buf at ≡ buf)
  unfolding answered buffer_after
  refused-19 h k = (simp (h, k), simp (h, k))

  pub accepted : undefined a ≡ false → too_short buf at (size_of a.kind) ≡ false → (answered a buf at ≡ Ok (at + size_of a.kind)) × (buffer_after a buf at ≡ laid buf at (bytes_of a))
  unfolding answered buffer_after
  accepted h k = (simp (h, k), simp (h, k))

-- ---- the tests of 19
module _ (buf : List ℕ) (at n : ℕ) where
  pub past_end : length buf < at → too_short buf at n ≡ true
  unfolding too_short
  past_end h = simp (lt-ltb (length buf) at h)

  pub short_rest : at ≤ length buf → length buf - at < n → too_short buf at n ≡ true
  unfolding too_short
  short_rest h k = simp (le-ltb (length buf) at h, lt-ltb (length buf - at) n k)

  pub enough_rest : at ≤ length buf → n ≤ length buf - at → too_short buf at n ≡ false
  unfolding too_short
  enough_rest h k = simp (le-ltb (length buf) at h, le-ltb (length buf - at) n k)

  pub room_of : too_short buf at n ≡ false → (at ≤ length buf) × (n ≤ length buf - at)
  unfolding too_short
  room_of = go (ltb (length buf) at) (ltb-false (length buf) at)
    where
      go : (p : Bool) → (p ≡ false → at ≤ length buf) → cond p true (ltb (length buf - at) n) ≡ false → (at ≤ length buf) × (n ≤ length buf - at)
      go true e h = absurd (true≢false h)
      go false e h = (e refl, ltb-false (length buf - at) n h)

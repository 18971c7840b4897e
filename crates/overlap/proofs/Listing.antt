-- What a drained heap of the clips' keys is to the definition: the clips' numbers, as far as the slice goes. Assumes nothing.
use mathlib.Core.Bool.{true, false, and-false}
use mathlib.Core.Path.{◌≡◌, refl, sym, ap, ◌∙◌}
use mathlib.Core.List.{List, ◌++◌, map}
use Prim.Native.Nat.{ℕ, min, ◌<◌}
use native.Mathlib.Omega.{arith}
use native.Mathlib.Decide.{dec_lt}
use borrow.Author.Tests.{ne_eqb}
use lib.Ieee.{Float}
use lib.ListN.{length, take, drop, length-take, length-map}
use lib.Seq.{take_all}
use Rattle.floats.specs.Arithmetic.{◌<ᶠ◌}
use Rattle.event.specs.declared.Event.{Event}
use Rattle.ledger.specs.Lists.{numbers}
use Rattle.ready.proofs.Stands.{stands-length}
use Rattle.ready.specs.Stands.{Stands}
use Rattle.std.proofs.Common.{Ok, Err}
use Rattle.overlap.specs.declared.Refusal.TheVariants.{Improper}
use Rattle.overlap.specs.Stretch.{Found, those, in_stretch, clips_of, written, clips_answer, clips_listed}
use Rattle.overlap.specs.Keys.{Key, key_of, key_less, no_key, keys_in_order, sorted_keys, keys_perm, sorted_length, numbers-length}
use Rattle.overlap.specs.Draining.{Drainable}

-- as many as there are, and as the slice has places
take-least : (n : ℕ) (ns : List ℕ) → n ≡ min (length ns) 256 → take n ns ≡ take 256 ns
take-least n ns h = go (dec_lt 256 (length ns))
  where
    go : Dec (256 < length ns) → take n ns ≡ take 256 ns
    go (yes p) = let q : n ≡ 256 = omega arith in ap (λ (k : ℕ). take k ns) q
    go (no p) = take_all n ns (omega arith) ∙ sym (take_all 256 ns (omega arith))

written_is : (n : ℕ) (ns out : List ℕ) → n ≡ min (length ns) 256 → take n ns ++ drop n out ≡ written ns out
written_is n ns out h =
    let q : n ≡ length (take 256 ns) = omega (arith, length-take 256 ns, h) in
    ap (λ (k : ℕ). take n ns ++ drop k out) q ∙ ap (λ (l : List ℕ). l ++ drop (length (take 256 ns)) out) (take-least n ns h)

module _ (from to : Float) (held : List Event) (xs : List Key) (count : ℕ) (s : Stands key_less no_key xs count (map key_of (those (in_stretch from to) held))) where
  pub counted : count ≡ length (clips_of from to held)
  unfolding clips_of
  counted =
      stands-length key_less no_key s ∙ length-map (those (in_stretch from to) held) key_of ∙ sym (sorted_length (those (in_stretch from to) held))

  all_listed : keys_in_order (take count xs) ≡ numbers (clips_of from to held)
  unfolding clips_of
  all_listed = keys_perm s.same ∙ sym (sorted_keys (those (in_stretch from to) held))

  pub listed : (n : ℕ) (out : List ℕ) → n ≡ min count 256 → take n (keys_in_order (take count xs)) ++ drop n out ≡ written (numbers (clips_of from to held)) out
  listed n out h =
      rw all_listed (written_is n (numbers (clips_of from to held)) out (h ∙ ap (λ (k : ℕ). min k 256) (counted ∙ sym (numbers-length (clips_of from to held)))))

pub drainable : (count n : ℕ) (ks : List Key) (out : List ℕ) (w : List Key) → length out ≡ 256 → n ≡ min count 256 → Stands key_less no_key ks count w → Drainable count n ks out
drainable count n ks out w r h s = record { fits = s.fits; ordered = s.ordered; has = omega arith; room = omega arith }

-- ---- which of the three

module _ (from to : Float) (out : List ℕ) (l : List Event) where
  abbrev pub Gives : Found → List ℕ → Type 0
  Gives a ns = (a ≡ clips_answer from to out l) × (ns ≡ clips_listed from to out l)

  pub no_stretch : (from <ᶠ to) ≡ false → Gives (Err Improper) out
  unfolding clips_answer clips_listed
  no_stretch h = (rw h refl, rw h refl)

  pub no_slice : (length out ≡ 256 → ⊥) → Gives (Err Improper) out
  unfolding clips_answer clips_listed
  no_slice n = let h = ne_eqb (length out) 256 n in (rw (h, and-false) refl, rw (h, and-false) refl)

  pub all_well : (from <ᶠ to) ≡ true → length out ≡ 256 → (n : ℕ) (ns : List ℕ) → n ≡ length (clips_of from to l) → ns ≡ written (numbers (clips_of from to l)) out → Gives (Ok n) ns
  unfolding clips_answer clips_listed
  all_well h k n ns p q = (rw (h, k, p) refl, rw (h, k, q) refl)

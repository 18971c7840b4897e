-- Document 02, Paper 2: "the comparison looks at the starts first and opens the event numbers only when the starts are equal in bits. .. a law says that numbers never change the answer between starts of
-- different bits." Told of `earlier`, the comparison of the waiting heap, for starts that an f64 holds; the logic's one NaN has one pattern. Assumes nothing.
use Rattle.std.specs.Prelude.{◌≡◌, ℕ, Bool, true, false, cond, not, ◌&&◌, ◌||◌, ◌≢◌, ◌↔◌, from_bits, nat_lt, to_bits, refl, Float}
use Rattle.std.proofs.Common.{sym, ap, ◌∙◌}
use Rattle.std.proofs.lemmas.Bool.{false≢true}
use Rattle.std.specs.Float.{binary64}
use Rattle.std.specs.Float.Ieee.Bits.{of_bits-to_bits}
use Rattle.floats.specs.Floats.{total_less, sooner}
use Rattle.floats.specs.Ordered.{ordered}
use Rattle.floats.specs.TotalOrder.{total_less_irreflexive, total_less_connected, ordered_equal}
use Rattle.std.specs.declared.cmp.Ordering.TheVariants.{Less, Equal, Greater}
use Rattle.event.specs.declared.Event.{Event}
use Rattle.event.specs.Events.{earlier, number_of}
use Rattle.event.specs.StartsFirst.{start_bits, Starts, numbered, is_equal}

-- between starts of different bits the starts decide ..
pub starts-decide : (a b : Event) → Starts a → Starts b → start_bits a ≢ start_bits b → earlier a b ≡ total_less a.start_time b.start_time
unfolding sooner
starts-decide a b f g n = go (total_less a.start_time b.start_time) (total_less b.start_time a.start_time) refl refl
  where
    go : (p q : Bool) → total_less a.start_time b.start_time ≡ p → total_less b.start_time a.start_time ≡ q → (p || (not q && nat_lt (number_of a) (number_of b))) ≡ p
    go true q l m = refl
    go false true l m = refl
    go false false l m = absurd (n (ap (to_bits binary64) (total_less_connected binary64 a.start_time b.start_time f g l m)))

same_start : (a b : Event) → Starts a → Starts b → start_bits a ≡ start_bits b → a.start_time ≡ b.start_time
same_start a b f g q = sym (of_bits-to_bits binary64 a.start_time f) ∙ ap (from_bits binary64) q ∙ of_bits-to_bits binary64 b.start_time g

-- .. and between starts of equal bits the numbers do
pub numbers-decide : (a b : Event) → Starts a → Starts b → start_bits a ≡ start_bits b → earlier a b ≡ nat_lt (number_of a) (number_of b)
unfolding sooner
numbers-decide a b f g q = rw (same_start a b f g q, total_less_irreflexive) refl

pub opened : (a b : Event) → Starts a → Starts b → (ordered a.start_time b.start_time ≡ Equal) ↔ (start_bits a ≡ start_bits b)
unfolding ordered
opened a b f g = (λ h. go (total_less x y) (total_less y x) refl refl h, λ q. rw (same_start a b f g q) (ordered_equal y y (total_less_irreflexive y) (total_less_irreflexive y)))
  where
    x : Float
    x = a.start_time

    y : Float
    y = b.start_time

    go : (p q : Bool) → total_less x y ≡ p → total_less y x ≡ q → cond p Less (cond q Greater Equal) ≡ Equal → start_bits a ≡ start_bits b
    go true q l m h = absurd (false≢true (ap is_equal h))
    go false true l m h = absurd (false≢true (ap is_equal h))
    go false false l m h = ap (to_bits binary64) (total_less_connected binary64 a.start_time b.start_time f g l m)

-- so numbers never change the answer between starts of different bits
pub numbers-late : (a b : Event) (i j : ℕ) → Starts a → Starts b → start_bits a ≢ start_bits b → earlier (numbered i a) (numbered j b) ≡ earlier a b
numbers-late a b i j f g n = starts-decide (numbered i a) (numbered j b) f g n ∙ sym (starts-decide a b f g n)

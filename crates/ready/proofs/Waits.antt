-- The waiting heap stands for the ledger's W: push for sorted insertion, peek for W's head and pop for its tail. Assumes nothing.
use Rattle.std.specs.Prelude.{◌≡◌, refl, List, [], ◌∷◌, map, ℕ, suc, ◌-◌, ◌<◌, get_or, length, take}
use Rattle.std.proofs.Common.{sym, ap, ◌∙◌, subst, arith, add-one, length-take-le, get_or-take, lt-ltb, le-leb}
use mathlib.Core.List.Perm
use Rattle.std.proofs.lemmas.List.{length-map}
use Rattle.std.proofs.Math.ListN.{get_or-map}
use Rattle.event.specs.declared.Event.{Event}
use Rattle.event.specs.Events.{earlier}
use Rattle.event.specs.Blank.{blank}
use Rattle.ledger.specs.Lists.{insert}
use Rattle.ready.specs.declared.Ready.{Ready}
use Rattle.event.specs.Runs.{get_or_in}
use Rattle.ready.specs.Sift.{sink, parent}
use Rattle.ready.specs.Waiting.{peeked, pushed, popped, emptied}
use Rattle.ready.specs.HeapOrder.{Heap-ordered}
use Rattle.ready.proofs.HeapOrder.{perm_eq, rise_moves, sink_moves, moves-length}
use Rattle.ledger.specs.Sorted.{Sorted}
use Rattle.ready.specs.Sorted.{insert_perm, earlier_order}
use Rattle.ready.specs.Stands.{Stands}
use Rattle.ready.proofs.Stands.{stands-length, stands-push, stands_pop}
use Rattle.ready.specs.EventSet.{Event_set}
use Rattle.ready.specs.Waits.{Waits}

pub waits-length : {h : Ready} {w : List Event} → Waits h w → h.len ≡ length w
waits-length s = stands-length earlier blank s.stands

-- a heap whose array is whole and whose count is 0 stands for no event
pub waits-none : (xs : List Event) → length xs ≡ 256 → Waits (record { items = xs; len = 0 }) []
unfolding Heap-ordered
waits-none xs h = record { sized = h; stands = record { fits = omega arith; ordered = λ j p k. absurd (omega arith); same = Perm.refl [] } }

-- a change of every event that keeps their order, as a reset's rewinding of the sources: the heap stays a heap
pub waits-map : (f : Event → Event) → ((a b : Event) → earlier (f a) (f b) ≡ earlier a b) → (h : Ready) (ys w : List Event) → length ys ≡ 256 → take h.len ys ≡ map f (take h.len h.items) → Waits h w
    → Waits (record { items = ys; len = h.len }) (map f w)
unfolding Heap-ordered
waits-map f keeps h ys w sized front s = record {
  sized = sized;
  stands = record {
    fits = omega (arith, s.sized, s.stands.fits);
    ordered = λ j p k.
        ap (λ (e : Event). earlier e (get_or ys (parent j) blank)) (at j k) ∙ ap (λ (e : Event). earlier (f (get_or h.items j blank)) e) (at (parent j) (omega arith))
        ∙ keeps (get_or h.items j blank) (get_or h.items (parent j) blank) ∙ s.stands.ordered j p k;
    same = Perm.trans (perm_eq front) (Perm.map f s.stands.same);
  };
}
  where
    at : (j : ℕ) → j < h.len → get_or ys j blank ≡ f (get_or h.items j blank)
    at j k =
        let n : length (map f (take h.len h.items)) ≡ h.len = length-map (take h.len h.items) f ∙ length-take-le h.len h.items s.stands.fits in
        sym (get_or-take h.len ys j blank k) ∙ ap (λ (l : List Event). get_or l j blank) front ∙ get_or_in (map f (take h.len h.items)) j blank (f blank) (omega arith)
        ∙ get_or-map f (take h.len h.items) j blank ∙ ap f (get_or-take h.len h.items j blank k)

pub waits_new : Waits emptied []
unfolding emptied
waits_new = waits-none emptied.items refl

pub waits-push : (h : Ready) (w : List Event) (e : Event) → h.len < 256 → Waits h w → Waits (pushed h e) (insert e w)
unfolding pushed
waits-push h w e k s =
    rw (lt-ltb h.len 256 k)
    (record {
      sized = moves-length earlier blank (rise_moves earlier blank h.len (suc h.len) h.items h.len e (omega arith)) ∙ s.sized;
      stands = rw add-one (stands-push earlier blank earlier_order h.items h.len w (insert e w) e (omega (arith, s.sized)) (Perm.symm (insert_perm e w)) s.stands);
    })

pub waits_pop : (h : Ready) (e : Event) (w : List Event) → Sorted (e ∷ w) → Waits h (e ∷ w) → (peeked h ≡ e) × Waits (popped h) w
unfolding popped
waits_pop h e w q s =
    rw (lt-ltb 0 h.len some, le-leb h.len 256 (omega (arith, s.stands.fits, s.sized)))
    (r.0, record { sized = moves-length earlier blank (sink_moves earlier blank n n h.items 0 (get_or h.items n blank) (omega arith)) ∙ s.sized; stands = r.1 })
  where
    n : ℕ
    n = h.len - 1

    some : 0 < h.len
    some = omega (arith, waits-length s)

    one_more : h.len ≡ suc n
    one_more = omega (arith, some)

    r : (get_or h.items 0 blank ≡ e) × Stands earlier blank (sink earlier blank n h.items n 0 (get_or h.items n blank)) n w
    r = stands_pop earlier blank earlier_order Event_set h.items n e w q.0 (subst (λ (k : ℕ). Stands earlier blank h.items k (e ∷ w)) one_more s.stands)

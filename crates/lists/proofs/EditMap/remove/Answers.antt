use Rattle.std.proofs.Common.{◌-◌, ◌<◌, ◌≤◌, ℕ, List, sym, refl, ap₂, ◌∙◌, arith}
use Rattle.event.specs.declared.StoredEdit.{StoredEdit}
use Rattle.lists.specs.Edits.{removed, no_edit}
use Rattle.lists.specs.Rounds.{placed-inside, shifting_on, shifted}
use Rattle.lists.proofs.EditMap.remove.Goals as goal
use Rattle.lists.proofs.EditMap.remove.Goals.{In-Some}

inside : (c : In-Some) → (c.in-Some.at < c.args.self.len) × (c.args.self.len ≤ 256)
inside c = placed-inside c.args.self c.args.id c.in-Some.at (sym c.place.ensures ∙ c.in-Some.is)

pub overflow_sub-self : goal.overflow_sub-self
overflow_sub-self c = let h = inside c in omega arith

pub loop-i-init : goal.loop-i-init
loop-i-init c =
    let h = inside c in
    (omega arith, omega arith, refl, record { fuel = c.args.self.len - 1 - c.in-Some.at; exact = omega arith; gives = refl })

pub offset_bounds-self-i : goal.offset_bounds-self-i
offset_bounds-self-i c = omega (arith, c.loop-i.invariant.1)

pub bounds-self-i : goal.bounds-self-i
bounds-self-i c = omega (arith, c.loop-i.invariant.1)

pub offset_bounds-self-i-in-loop-i : goal.offset_bounds-self-i-in-loop-i
offset_bounds-self-i-in-loop-i c = omega (arith, c.before.loop-i.invariant.1)

pub bounds-self-i-in-loop-i : goal.bounds-self-i-in-loop-i
bounds-self-i-in-loop-i c = omega (arith, c.before.loop-i.invariant.1)

pub loop-i-preserved : goal.loop-i-preserved
loop-i-preserved c =
    let v = c.before.loop-i.invariant in
    (v.0, v.1, v.2, shifting_on no_edit _ _ _ _ c.before.loop-i-test.true v.3)

pub returns-after-loop-i : goal.returns-after-loop-i
unfolding removed
returns-after-loop-i c =
    let v = c.loop-i.invariant in
    rw (sym c.place.ensures ∙ c.in-Some.is)
    (ap₂ (λ (l : List StoredEdit) (n : ℕ). record { items = l; len = n }) (shifted no_edit _ _ _ _ c.loop-i-test.false v.3) v.2)

pub returns-in_default : goal.returns-in_default
unfolding removed
returns-in_default c = rw (sym c.place.ensures ∙ c.in_default.is)

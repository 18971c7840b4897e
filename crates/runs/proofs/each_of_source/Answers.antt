-- `runs::each_of_source` meets its contract. Assumes nothing.
use borrow.Author.Rules.{rules, of_calls}
use mathlib.Core.Path.{◌∙◌, sym, ap}
use mathlib.Core.List.{List}
use lib.Ieee.{Float}
use lib.ListN.{length}
use Rattle.runs.specs.Walk.{zipped}
use Rattle.runs.proofs.Given.{held_given, held_after, ramp_given, ramp-after, clip_given, clip-after}
use Rattle.runs.proofs.Adds.{zipped_level}
use Rattle.runs.proofs.each_of_source.Goals as goal

pub returns-in-Held-clause-samples : goal.returns-in-Held-clause-samples
returns-in-Held-clause-samples g c = λ h p.
    let a = c.args in
    let l = a.s.now in
    let v = c.in-Held.level in
    let e = c.each.ensures (λ a. h a v) (λ a x e. p a v x (search (rules, of_calls))) in
    let given = held_given a.pool.now a.unit v c.in-Held.is (length l) in
    rw (e, given) (zipped_level h v l)

pub returns-in-Held-clause-unit : goal.returns-in-Held-clause-unit
returns-in-Held-clause-unit g c = sym (held_after c.args.pool.now c.args.unit c.in-Held.level c.in-Held.is (length c.args.s.now))

pub returns-in-Ramp-clause-samples : goal.returns-in-Ramp-clause-samples
returns-in-Ramp-clause-samples g c = λ h p.
    let a = c.args in
    let l = a.s.now in
    let i = c.in-Ramp in
    c.each_on_ramp.ensures.samples h p ∙ ap (λ (r : List Float). zipped h r l) (sym (ramp_given a.pool.now a.unit i.field-0 i.step i.is (length l)))

pub returns-in-Ramp-clause-unit : goal.returns-in-Ramp-clause-unit
returns-in-Ramp-clause-unit g c =
    let a = c.args in
    let i = c.in-Ramp in
    rw c.each_on_ramp.ensures.value (sym (ramp-after a.pool.now a.unit i.field-0 i.step i.is (length a.s.now)))

pub returns-in-Clip-clause-samples : goal.returns-in-Clip-clause-samples
returns-in-Clip-clause-samples g c = λ h p.
    let a = c.args in
    let l = a.s.now in
    let i = c.in-Clip in
    c.each_on_clip.ensures.samples h p ∙ ap (λ (r : List Float). zipped h r l) (sym (clip_given a.pool.now a.unit i.offset i.length i.is (length l)))

pub returns-in-Clip-clause-unit : goal.returns-in-Clip-clause-unit
returns-in-Clip-clause-unit g c =
    let a = c.args in
    let i = c.in-Clip in
    rw c.each_on_clip.ensures.place (sym (clip-after a.pool.now a.unit i.offset i.length i.is (length a.s.now)))

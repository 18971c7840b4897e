use mathlib.Core.Path.{sym, ap, ◌∙◌}
use native.Mathlib.Omega.{arith}
use lib.ListN.{length, length-set}
use Rattle.peak.proofs.Turns.{inside, room, last, goes_on, turns, length-suffix_maxima_to}
use borrow.Author.Rules.{rules}
use Rattle.peak.proofs.RunningPeak.advance.Goals as goal

pub returns-then-w-le1 : goal.returns-then-w-le1
returns-then-w-le1 c = sym (last _ _ _ c.if-w-le1.true)

pub offset_bounds-row-at : goal.offset_bounds-row-at
offset_bounds-row-at c = let a = inside _ _ c.requires in let b = room _ _ c.requires c.if-w-le1.false in search rules

pub bounds-row-at : goal.bounds-row-at
bounds-row-at c = omega (arith, inside _ _ c.requires, room _ _ c.requires c.if-w-le1.false)

pub overflow_add-at : goal.overflow_add-at
overflow_add-at c = let a = inside _ _ c.requires in search rules

pub returns-then-at-w : goal.returns-then-at-w
returns-then-at-w c = rw c.max.ensures (sym (goes_on _ _ _ c.if-w-le1.false c.if-at-w.true))

pub suffix_maxima-requires : goal.suffix_maxima-requires
suffix_maxima-requires c = rw length-set (room _ _ c.requires c.if-w-le1.false)

pub shape_of-row : goal.shape_of-row
shape_of-row c = ap length c.suffix_maxima.ensures ∙ simp (length-suffix_maxima_to, length-set)

pub returns : goal.returns
returns c =
    rw c.suffix_maxima.ensures (sym (turns _ _ _ c.if-w-le1.false c.if-at-w.false))

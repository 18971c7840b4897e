use Rattle.std.proofs.Common.{rules, ◌≡◌, refl, sym, ◌∙◌, arith, ℕ, ◌-◌, length, Bool, true, false}
use Rattle.std.specs.Prelude.{cond, None, Some}
use Rattle.std.specs.Bool.{then_some}
use Rattle.pool_file.specs.declared.Place.{Place}
use borrow.Author.Tests.{eq-eqb, ne_eqb}
use Rattle.pool_file.specs.Pools.{data_from, place_of}
use Rattle.pool_file.proofs.Chunks.{behind, too_far, found, on, turn, no_turn}
use Rattle.pool_file.proofs.find_samples.Goals as goal

all : (n : ℕ) → n - 0 ≡ n
all n = omega arith

found_if : (known : Bool) (p : Place) → then_some known p ≡ cond known (Some p) None
found_if true p = refl
found_if false p = refl

pub returns-then-word32-ne1179011410 : goal.returns-then-word32-ne1179011410
unfolding place_of
returns-then-word32-ne1179011410 c = rw (← c.word32.ensures, ne_eqb _ _ c.if-word32-ne1179011410.true) refl

pub loop-init : goal.loop-init
unfolding place_of
loop-init c = rw (← c.word32.ensures, eq-eqb _ _ c.if-word32-ne1179011410.false, all (length c.args.head.now)) refl

pub returns-then-at-gt65536 : goal.returns-then-at-gt65536
returns-then-at-gt65536 c = sym (too_far _ _ _ _ c.if-at-gt65536.true) ∙ sym (turn _ _ _ _ _ (search rules)) ∙ c.loop.invariant

pub returns-then-head-at : goal.returns-then-head-at
returns-then-head-at c =
    sym (behind _ _ _ _ c.if-at-gt65536.false c.if-head-at.true) ∙ sym (turn _ _ _ _ _ (search rules)) ∙ c.loop.invariant

pub returns-then-name-eq1635017060 : goal.returns-then-name-eq1635017060
returns-then-name-eq1635017060 c =
    c.then_some.ensures ∙ found_if _ _ ∙ rw c.word32-size.ensures (sym (found _ _ _ c.if-at-gt65536.false c.if-head-at.false _ (sym c.word32-name.ensures ∙ c.if-name-eq1635017060.true)) ∙ sym (turn _ _ _ _ _ (search rules)) ∙ c.loop.invariant)

pub loop-preserved : goal.loop-preserved
loop-preserved c =
    rw (c.known_by-known.ensures, c.word32-size.ensures) (sym (on _ _ _ c.if-at-gt65536.false c.if-head-at.false _ (λ e. c.if-name-eq1635017060.false (c.word32-name.ensures ∙ e))) ∙ sym (turn _ _ _ _ _ (search rules)) ∙ c.loop.invariant)

pub returns : goal.returns
returns c = sym (no_turn _ _ _ _ _ (search rules)) ∙ c.loop.invariant

use Prim.Native.Nat.{◌≤◌}
use mathlib.Core.Path.{ap}
use native.Mathlib.Omega.{arith}
use Rattle.refusal_texts.specs.Texts.{text_of, texts}
use Rattle.refusal_texts.proofs.Wording.{worded, above, none}
use borrow.Author.Rules.{rules}
use Rattle.refusal_texts.proofs.refusal_text.Goals as goal

pub returns-in-1 : goal.returns-in-1
unfolding text_of texts
returns-in-1 c =
    worded _ (ap text_of c.in-1.is) c.put_bytes.ensures

pub returns-in-2 : goal.returns-in-2
unfolding text_of texts
returns-in-2 c =
    worded _ (ap text_of c.in-2.is) c.put_bytes-in-2.ensures

pub returns-in-3 : goal.returns-in-3
unfolding text_of texts
returns-in-3 c =
    worded _ (ap text_of c.in-3.is) c.put_bytes-in-3.ensures

pub returns-in-4 : goal.returns-in-4
unfolding text_of texts
returns-in-4 c =
    worded _ (ap text_of c.in-4.is) c.put_bytes-in-4.ensures

pub returns-in-5 : goal.returns-in-5
unfolding text_of texts
returns-in-5 c =
    worded _ (ap text_of c.in-5.is) c.put_bytes-in-5.ensures

pub returns-in-6 : goal.returns-in-6
unfolding text_of texts
returns-in-6 c =
    worded _ (ap text_of c.in-6.is) c.put_bytes-in-6.ensures

pub returns-in-7 : goal.returns-in-7
unfolding text_of texts
returns-in-7 c =
    worded _ (ap text_of c.in-7.is) c.put_bytes-in-7.ensures

pub returns-in-8 : goal.returns-in-8
unfolding text_of texts
returns-in-8 c =
    worded _ (ap text_of c.in-8.is) c.put_bytes-in-8.ensures

pub returns-in-9 : goal.returns-in-9
unfolding text_of texts
returns-in-9 c =
    worded _ (ap text_of c.in-9.is) c.put_bytes-in-9.ensures

pub returns-in-10 : goal.returns-in-10
unfolding text_of texts
returns-in-10 c =
    worded _ (ap text_of c.in-10.is) c.put_bytes-in-10.ensures

pub returns-in-11 : goal.returns-in-11
unfolding text_of texts
returns-in-11 c =
    worded _ (ap text_of c.in-11.is) c.put_bytes-in-11.ensures

pub returns-in-12 : goal.returns-in-12
unfolding text_of texts
returns-in-12 c =
    worded _ (ap text_of c.in-12.is) c.put_bytes-in-12.ensures

pub returns-in-13 : goal.returns-in-13
unfolding text_of texts
returns-in-13 c =
    worded _ (ap text_of c.in-13.is) c.put_bytes-in-13.ensures

pub returns-in-14 : goal.returns-in-14
unfolding text_of texts
returns-in-14 c =
    worded _ (ap text_of c.in-14.is) c.put_bytes-in-14.ensures

pub returns-in-15 : goal.returns-in-15
unfolding text_of texts
returns-in-15 c =
    worded _ (ap text_of c.in-15.is) c.put_bytes-in-15.ensures

pub returns-in-16 : goal.returns-in-16
unfolding text_of texts
returns-in-16 c =
    worded _ (ap text_of c.in-16.is) c.put_bytes-in-16.ensures

pub returns-in-17 : goal.returns-in-17
unfolding text_of texts
returns-in-17 c =
    worded _ (ap text_of c.in-17.is) c.put_bytes-in-17.ensures

pub returns-in-18 : goal.returns-in-18
unfolding text_of texts
returns-in-18 c =
    worded _ (ap text_of c.in-18.is) c.put_bytes-in-18.ensures

pub returns-in-19 : goal.returns-in-19
unfolding text_of texts
returns-in-19 c =
    worded _ (ap text_of c.in-19.is) c.put_bytes-in-19.ensures

pub returns-in-20 : goal.returns-in-20
unfolding text_of texts
returns-in-20 c =
    worded _ (ap text_of c.in-20.is) c.put_bytes-in-20.ensures

pub returns-in-21 : goal.returns-in-21
unfolding text_of texts
returns-in-21 c =
    worded _ (ap text_of c.in-21.is) c.put_bytes-in-21.ensures

pub returns-in-22 : goal.returns-in-22
unfolding text_of texts
returns-in-22 c =
    worded _ (ap text_of c.in-22.is) c.put_bytes-in-22.ensures

pub returns-in-23 : goal.returns-in-23
unfolding text_of texts
returns-in-23 c =
    worded _ (ap text_of c.in-23.is) c.put_bytes-in-23.ensures

pub returns-in-24 : goal.returns-in-24
unfolding text_of texts
returns-in-24 c =
    worded _ (ap text_of c.in-24.is) c.put_bytes-in-24.ensures

pub returns-in_default : goal.returns-in_default
returns-in_default c =
    let n = c.args.number in
    let h : 1 ≤ n → 25 ≤ n = λ l. omega arith in
    worded _ (none _ h) c.put_bytes-in_default.ensures

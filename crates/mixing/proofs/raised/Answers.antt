-- `mixing::raised` meets its contract. Assumes nothing.
use Rattle.std.proofs.Common.{◌≡◌, max, arith, le-ltb, lt-ltb}
use Rattle.mixing.proofs.raised.Goals as goal

pub returns-then-place-s : goal.returns-then-place-s
returns-then-place-s c =
    let p = c.args.place.at in
    let s = c.args.s in
    let m : max p s ≡ s = omega arith in
    rw (lt-ltb p s c.if-place-s.true, m)

pub returns : goal.returns
returns c =
    let p = c.args.place.at in
    let s = c.args.s in
    let m : max p s ≡ p = omega arith in
    rw (le-ltb p s c.if-place-s.false, m)

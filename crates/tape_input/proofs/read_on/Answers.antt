-- `read_on` meets its contract: the reader's answer is a count that fits, or below 0 where it failed.
use Rattle.std.proofs.Common.{◌≡◌, refl, sym, ap, ◌∙◌, arith, ◌++◌, ◌-◌, ◌≤◌, ◌<◌, length, take, drop, ℕ, ℤ, List, [], pos, negsuc, false}
use Rattle.std.specs.Int.Signed.{lt_z}
use Rattle.std.specs.Prelude.{Result, Ok, Err, IsErrAnd, MatchResult, IfOk}
use Rattle.std.specs.Io.{ReadsAtMost}
use Rattle.std.proofs.lemmas.List.{length-drop, length-take, append-nil, take_all}
use Rattle.std.proofs.Math.Nat.{min-eq_left}
use borrow.Author.Tests.{lt-ltb, le-ltb}
use Rattle.std.specs.Counts.{clamp_len}
use Rattle.std.proofs.Math.Seq.{length_front}
use Rattle.tape_input.specs.declared.Unread.{Unread}
use Rattle.tape_input.specs.Reading.{ReadOn, came_of, unread}
use Rattle.tape_input.proofs.read_on.Goals as goal

-- where there are fewer bytes, nothing changes
no_room : (l : List ℕ) {have : ℕ} → length l < have → ReadOn l have l (Err unread)
unfolding came_of
no_room l {have} h =
    record {
      got = pos 0;
      bytes = [];
      long = omega arith;
      came = rw (lt-ltb _ _ h) refl;
      lent = sym (append-nil (take have l) ∙ take_all have l (omega arith));
    }

not-below : (n : ℕ) → lt_z (pos n) (pos 0) ≡ false
not-below n = le-ltb n 0 (omega arith)

-- what came is within the part that was lent
within : {E : Type 0} (r : Result ℕ E) (new : List ℕ) {m : ℕ} → length new ≤ m → ReadsAtMost r new → IfOk r (λ n. n ≤ m)
within (Ok n) new e fits = let f = fits.0 in omega arith
within (Err _) new e fits = tt

-- else what the reader left takes the place of the bytes behind
read : {E : Type 0} (P : E → Unread → Type 0) (l bytes : List ℕ) {have : ℕ} (r : Result ℕ E) (r' : Result ℕ Unread) → (have ≤ length l) → length bytes ≡ length l - have → IfOk r (λ n. n ≤ length l - have) → MatchResult r (λ n. r' ≡ Ok n) (λ e. IsErrAnd r' (P e)) → ReadOn l have (take have l ++ bytes) r'
unfolding came_of
read P l bytes {have} (Ok n) r' h e fits is =
    record {
      got = pos n;
      bytes = bytes;
      long = e;
      came = is ∙ sym (rw (le-ltb _ _ h, not-below n, min-eq_left fits) refl);
      lent = refl;
    }
read P l bytes {have} (Err _) (Ok n) h e fits is = absurd is
read P l bytes {have} (Err _) (Err u) h e fits is =
    record {
      got = negsuc 0;
      bytes = bytes;
      long = e;
      came = rw (le-ltb _ _ h) refl;
      lent = refl;
    }

pub returns-then-buf-have-clause-read : goal.returns-then-buf-have-clause-read
returns-then-buf-have-clause-read g c = no_room _ c.if-buf-have.true

pub returns-clause-read : goal.returns-clause-read
returns-clause-read g c =
    let d = length-drop c.args.have c.args.buf.now in
    let e = length_front (drop c.args.have c.args.buf.now) c.read.new.buf (length c.args.buf.now - c.args.have) c.read.auto.buf ∙ d in
    let m : length c.read.new.buf ≤ length c.args.buf.now - c.args.have = omega (arith, c.read.auto.buf, d, length-take (length c.args.buf.now - c.args.have) (drop c.args.have c.args.buf.now)) in
    read _ _ _ c.read.result _ c.if-buf-have.false e (within _ _ m c.read.ensures.bound) c.map_err.ensures.cases

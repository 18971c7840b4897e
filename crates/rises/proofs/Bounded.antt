-- Document 02, Paper 13: "From a fresh engine, with no other call between them, the rises of any n accepted pushes add up to at most the sum over k = 1 to n of floor(log2 k)." Assumes nothing.
use Rattle.std.specs.Prelude.{◌≡◌, ℕ, zero, suc, ◌+◌, ◌<◌, ◌≤◌, Bool, true, false, cond, List, [], ◌∷◌, ◌==◌, refl}
use Rattle.std.proofs.Common.{sym, subst, add-one, arith}
use Rattle.std.proofs.Math.Decide.{dec_lt}
use Rattle.event.specs.declared.ReplayMode.{ReplayMode}
use Rattle.sequencer.specs.declared.Sequencer.{Sequencer}
use Rattle.sequencer.specs.declared.Pushed.{Pushed}
use Rattle.event.specs.declared.ReplayMode.TheVariants.{All}
use Rattle.sequencer.specs.Answers.{accepts}
use Rattle.sequencer.specs.Outcomes.{refuses}
use Rattle.sequencer.specs.Creation.{created, fresh_engine, refuses_creation}
use Rattle.sequencer.specs.Pushes.{admitted}
use Rattle.sequencer.specs.Rises.{with_rise}
use Rattle.rises.specs.Way.{floor_log2}
use Rattle.rises.specs.Totals.{Push, pushed_by, is_number, total_rise, accepted_of, bound}
use Rattle.rises.specs.Single.{no_of, event_of, entered_by}
use Rattle.rises.proofs.Single.{push-is, event-bounded}

bound_grows : (m n : ℕ) → m ≤ n → bound m ≤ bound n
unfolding bound
bound_grows m zero h = let q : m ≡ 0 = omega arith in rw q (omega arith)
bound_grows m (suc n) h = go (dec_lt n m) (bound_grows m n)
  where
    go : Dec (n < m) → (m ≤ n → bound m ≤ bound n) → bound m ≤ bound (suc n)
    go (yes k) ih = let q : m ≡ suc n = omega arith in rw q (omega arith)
    go (no k) ih = let r = ih (omega arith) in omega (arith, r)

pub bound-next : (k : ℕ) → bound (k + 1) ≡ bound k + floor_log2 (k + 1)
unfolding bound
bound-next k = rw add-one

-- from any engine: with what the waiting ones may have risen
pub bounded : (s : Sequencer) (ps : List Push) → total_rise s ps + bound s.ready_len ≤ bound (s.ready_len + accepted_of s ps)
unfolding total_rise accepted_of admitted
bounded s [] = let g = bound_grows s.ready_len (s.ready_len + 0) (omega arith) in omega (arith, g)
bounded s (p ∷ ps) = go (no_of s p == 0) refl (bounded (pushed_by s p).sequencer ps)
  where
    Fine : Pushed → Type 0
    Fine o = total_rise o.sequencer ps + bound o.sequencer.ready_len ≤ bound (o.sequencer.ready_len + accepted_of o.sequencer ps)
        → o.rise + total_rise o.sequencer ps + bound s.ready_len ≤ bound (s.ready_len + (cond (is_number o.answer) 1 0 + accepted_of o.sequencer ps))

    by : (b : Bool) → Fine (cond b (entered_by s p) (with_rise (refuses s (no_of s p)) 0))
    by true ih =
        let e = event-bounded s (event_of s p) in
        let t = (entered_by s p).sequencer in
        let more = bound_grows (t.ready_len + accepted_of t ps) (s.ready_len + (1 + accepted_of t ps)) (omega (arith, e.1)) in
        omega (arith, ih, e.0, more)
    by false ih =
        let more = bound_grows (s.ready_len + accepted_of s ps) (s.ready_len + (0 + accepted_of s ps)) (omega arith) in
        omega (arith, ih, more)

    go : (b : Bool) → (no_of s p == 0) ≡ b → Fine (pushed_by s p)
    go b h = subst Fine (sym (push-is s p b h)) (by b)

none-waits : (s : Sequencer) (ps : List Push) → s.ready_len ≡ 0 → total_rise s ps ≤ bound (accepted_of s ps)
none-waits s ps z =
    let r = bounded s ps in
    let more = bound_grows (s.ready_len + accepted_of s ps) (accepted_of s ps) (omega (arith, z)) in
    omega (arith, r, more)

-- from a fresh engine, one that a creation handed back
pub from-fresh : (channels : ℕ) (mode : ReplayMode) (first : ℕ) (ps : List Push)
    → (let s = (created channels mode first).sequencer in total_rise s ps ≤ bound (accepted_of s ps))
unfolding created fresh_engine
from-fresh c m k ps = go (refuses_creation c k)
  where
    go : (b : Bool) → (let s = (cond b (refuses (fresh_engine 1 All 1) 1) (accepts (fresh_engine c m k))).sequencer in total_rise s ps ≤ bound (accepted_of s ps))
    go true = none-waits (fresh_engine 1 All 1) ps refl
    go false = none-waits (fresh_engine c m k) ps refl

-- The loop over the arrangement's pushes: what is added up, and what is left. Assumes nothing.
use Rattle.std.proofs.Common.{◌≡◌, ℕ, suc, ◌+◌, ◌-◌, ◌*◌, ◌<◌, ◌≤◌, sym, ap, ◌∙◌, subst, arith}
use Rattle.event.specs.declared.ReplayMode.TheVariants.{All}
use Rattle.ledger.specs.Calls.{absolute}
use Rattle.tape.specs.declared.reader.PushRecord.{PushRecord}
use Rattle.sequencer.specs.declared.Sequencer.{Sequencer}
use Rattle.sequencer.specs.declared.Outcome.{Outcome}
use Rattle.sequencer.specs.declared.Pushed.{Pushed}
use Rattle.sequencer.specs.Creation.{created}
use Rattle.rises.specs.Totals.{pushed_by, total_rise}
use Rattle.rises.proofs.Single.{rise_few}
use Rattle.rises.specs.Arrangement.{fresh_one, kth_push, pushes_from, arrangement}

-- what the pushes behind the k-th add up to
abbrev left : (n k : ℕ) → Sequencer → ℕ
left n k s = total_rise s (pushes_from n (k + 1) (n - k))

-- k of the n pushes are done
pub record Arranging (n : ℕ) (s : Sequencer) (total k : ℕ) : Type 0 where
  pub inside : k ≤ n
  pub gives : total + left n k s ≡ total_rise fresh_one (arrangement n)
  pub few : total ≤ 256 * k

pub none_done : (n : ℕ) (o : Outcome) → o ≡ created 1 All 1 → Arranging n o.sequencer 0 0
unfolding fresh_one arrangement
none_done n o h = subst (λ (o : Outcome). Arranging n o.sequencer 0 0) (sym h) (record {
  inside = omega arith;
  gives = let q : n - 0 ≡ n = omega arith in ap (λ (f : ℕ). 0 + total_rise fresh_one (pushes_from n 1 f)) q ∙ omega arith;
  few = omega arith;
})

one_more : (n k : ℕ) (s : Sequencer) → k < n → left n k s ≡ (pushed_by s (absolute, kth_push n (k + 1))).rise + left n (k + 1) (pushed_by s (absolute, kth_push n (k + 1))).sequencer
unfolding total_rise pushes_from
one_more n k s h =
    let q : n - k ≡ suc (n - (k + 1)) = omega arith in
    let r : suc (k + 1) ≡ k + 1 + 1 = omega arith in
    ap (λ (f : ℕ). total_rise s (pushes_from n (k + 1) f)) q
    ∙ ap (λ (i : ℕ). (pushed_by s (absolute, kth_push n (k + 1))).rise + total_rise (pushed_by s (absolute, kth_push n (k + 1))).sequencer (pushes_from n i (n - (k + 1)))) r

pub one_done : (n k total : ℕ) (s : Sequencer) (p : PushRecord) (r : Pushed) → k < n → p ≡ kth_push n (k + 1) → r ≡ pushed_by s (absolute, p) → Arranging n s total k
    → Arranging n r.sequencer (total + r.rise) (k + 1)
one_done n k total s p r h hp hr a = subst (λ (r : Pushed). Arranging n r.sequencer (total + r.rise) (k + 1)) (sym (hr ∙ ap (λ (p : PushRecord). pushed_by s (absolute, p)) hp)) (record {
  inside = omega arith;
  gives = let m = one_more n k s h in let g = a.gives in omega (arith, m, g);
  few = let f = rise_few s (absolute, kth_push n (k + 1)) in omega (arith, f, a.few);
})

pub rise_fits : (s : Sequencer) (p : PushRecord) (r : Pushed) → r ≡ pushed_by s (absolute, p) → r.rise ≤ 256
rise_fits s p r h = subst (λ (r : Pushed). r.rise ≤ 256) (sym h) (rise_few s (absolute, p))

pub all_done : (n k total : ℕ) (s : Sequencer) → n ≤ k → Arranging n s total k → total ≡ total_rise fresh_one (arrangement n)
unfolding total_rise pushes_from
all_done n k total s h a =
    let q : n - k ≡ 0 = omega arith in
    let z : left n k s ≡ 0 = ap (λ (f : ℕ). total_rise s (pushes_from n (k + 1) f)) q in
    let g = a.gives in
    omega (arith, g, z)

-- Paper 9 of the desk: of the desk ledger, by the plain ledger's theorem after draining; then of every desk that meets the desk's claim.
use Rattle.std.specs.Prelude.{ℕ, ◌+◌, ◌*◌, ◌^◌, ◌≤◌, ◌<◌, ◌≡◌}
use Rattle.std.proofs.Math.Path.{refl, sym}
use Rattle.std.proofs.Common.{ap, ◌∙◌, arith}
use mathlib.Core.List.{List, [], ◌∷◌, ◌++◌, head-eq_of_cons-eq, tail-eq_of_cons-eq}
use Rattle.std.proofs.Math.Option.{Option, none, some}
use Rattle.std.specs.Float.Ieee.{Float}
use Rattle.std.proofs.Math.ListN.{get_or}
use Rattle.floats.specs.Arithmetic.{zeroᶠ}
use Rattle.event.specs.declared.MixOrder.{MixOrder}
use Rattle.event.specs.declared.MixOrder.TheVariants.{Forward}
use Rattle.event.specs.declared.ReplayMode.{ReplayMode}
use Rattle.ledger.specs.Calls as Calls
use Rattle.ledger.specs.Ledger.{Ledger, create}
use Rattle.ledger.specs.Refusals.{checks, refusal}
use Rattle.ledger.specs.Steps as Steps
use Rattle.ledger.specs.Steps.{accept}
use Rattle.sums.specs.Marked.{WithoutConsequence}
use Rattle.sums.proofs.Marked.{without_consequence}
use Rattle.desk.specs.Desk.{BackCall, tick, block, Call, back, back_call, Reply, Desk, opened, drained, acts, carried_out, desk_refusal, decide, step, run}
use Rattle.desk.specs.Claim.{DeskEngine, calls, desk_after, DeskClaim}
use Rattle.desk.specs.DeskMeets.{desk_itself}
use Rattle.desk.specs.Lawful.{DeskLawful}
use Rattle.desk.proofs.Lawful.{drained_lawful, drained-kept, drained_free}
use Rattle.desk.proofs.LawfulCalls.{opened_lawful, run_lawful}
use Rattle.order_claim.specs.DeskOrder.{TickAllQualify, BlockAllQualify, SameDeskSamples}

-- ---- the desk ledger

-- what the plain ledger's step gives where nothing refuses it
carried : (l : Ledger) (c : Calls.Call) → refusal l c ≡ none → Steps.step l c ≡ accept l c
unfolding Steps.step Steps.decide
carried l c h = ap (λ (o : Option ℕ). Steps.decide o l c) h

module _ (d : Desk) (w : DeskLawful d) where
  -- the ledger after draining
  abbrev l : Ledger
  l = (drained d).back

  plain : WithoutConsequence l
  plain = without_consequence l (drained_lawful d w).lawful.events

  out_is : (c : BackCall) → refusal d.back (back_call c) ≡ none → (Steps.step l (back_call c)).reply.out ≡ (accept l (back_call c)).reply.out
  out_is c h = ap (λ (o : Steps.Outcome). o.reply.out) (carried l (back_call c) (drained_free d w c h))

  tick_same : (o : MixOrder) (pool out : List Float) → TickAllQualify d pool
      → (step d (back (tick o pool out))).reply.out ≡ (step d (back (tick Forward pool out))).reply.out
  unfolding step desk_refusal refusal checks decide carried_out acts
  tick_same o pool out q = go (refusal d.back (Calls.tick Forward pool out)) refl
    where
      go : (r : Option ℕ) → refusal d.back (Calls.tick Forward pool out) ≡ r
          → (decide r d (back (tick o pool out))).reply.out ≡ (decide r d (back (tick Forward pool out))).reply.out
      go (some k) h = refl
      go none h = sym (out_is (tick o pool out) h) ∙ plain.tick_samples o pool out q ∙ out_is (tick Forward pool out) h

  block_same : (o : MixOrder) (n : ℕ) (pool out : List Float) (c k : ℕ) → c < d.back.channels → k < n → BlockAllQualify d pool n k
      → get_or (step d (back (block o n pool out))).reply.out (64 * c + k) zeroᶠ
      ≡ get_or (step d (back (block Forward n pool out))).reply.out (64 * c + k) zeroᶠ
  unfolding step desk_refusal refusal checks decide carried_out acts
  block_same o n pool out c k i j q = go (refusal d.back (Calls.block Forward n pool out none)) refl
    where
      at : List Float → Float
      at r = get_or r (64 * c + k) zeroᶠ

      go : (r : Option ℕ) → refusal d.back (Calls.block Forward n pool out none) ≡ r
          → at (decide r d (back (block o n pool out))).reply.out ≡ at (decide r d (back (block Forward n pool out))).reply.out
      go (some r) h = refl
      go none h =
          ap at (sym (out_is (block o n pool out) h))
          ∙ plain.block_samples o n pool out none c k (omega (arith, (drained-kept d).channels)) j q
          ∙ ap at (out_is (block Forward n pool out) h)

  pub desk_without_consequence : SameDeskSamples desk_itself d d
  desk_without_consequence = record { tick_samples = tick_same; block_samples = block_same }

-- after any list of front and back calls, marked ones among them, from any creation
pub reached : (channels : ℕ) (mode : ReplayMode) (first : ℕ) (cs : List Call) → first ≤ 2 ^ 64
    → (let d = (desk_after channels mode first cs).desk in SameDeskSamples desk_itself d d)
reached channels mode first cs h =
    let d : Desk = opened (create channels mode first).ledger in
    desk_without_consequence (run cs d).desk (run_lawful cs d (opened_lawful channels mode first h))

-- ---- every desk that meets the claim

module _ (E : DeskEngine) where
  -- the reply to the last call of a list
  last_reply_lem : (cs : List Call) (s : E.State) (d : Desk) (c : Call) → (calls E (cs ++ (c ∷ [])) s).1 ≡ (run (cs ++ (c ∷ [])) d).replies
      → (E.call (calls E cs s).0 c).1 ≡ (step (run cs d).desk c).reply
  unfolding calls run
  last_reply_lem [] s d c h = head-eq_of_cons-eq h
  last_reply_lem (b ∷ cs) s d c h = last_reply_lem cs (E.call s b).0 (step d b).desk c (tail-eq_of_cons-eq h)

  module _ (claim : DeskClaim E) (channels : ℕ) (mode : ReplayMode) (first : ℕ) (cs : List Call) (f : first < 2 ^ 64) where
    abbrev d : Desk
    d = (desk_after channels mode first cs).desk

    abbrev s : E.State
    s = (calls E cs (E.new channels mode first).0).0

    out_of : (c : Call) → (E.call s c).1.out ≡ (step d c).reply.out
    out_of c =
        ap (λ (r : Reply). r.out)
        (last_reply_lem cs (E.new channels mode first).0 (opened (create channels mode first).ledger) c (claim channels mode first (cs ++ (c ∷ [])) f).replies)

    pub same-desk_samples : SameDeskSamples E (calls E cs (E.new channels mode first).0).0 (desk_after channels mode first cs).desk
    same-desk_samples =
        let w = reached channels mode first cs (omega arith) in
        record {
          tick_samples = λ o pool out q. out_of (back (tick o pool out)) ∙ w.tick_samples o pool out q ∙ sym (out_of (back (tick Forward pool out)));
          block_samples = λ o n pool out c k i j q.
              let at : List Float → Float = λ (r : List Float). get_or r (64 * c + k) zeroᶠ in
              ap at (out_of (back (block o n pool out))) ∙ w.block_samples o n pool out c k i j q ∙ ap at (sym (out_of (back (block Forward n pool out))));
        }

-- The desk's claim. After any list of front and back calls from any creation, the desk is the desk ledger: one claim, whose sentences are those of `DeskClaimAt`. And a call that no refusal names is carried out: what it gives back and leaves is the desk ledger's `carried_out`. Assumes nothing.
use Rattle.std.specs.Prelude.{ℕ, ◌^◌, ◌%◌, ◌<◌, ◌≡◌, List, map}
use Rattle.std.proofs.Common.{ap, ◌∙◌, subst}
use Rattle.std.proofs.Math.Option.{Option, none}
use Rattle.event.specs.declared.ReplayMode.{ReplayMode}
use Rattle.ledger.specs.Ledger.{Ledger, create}
use Rattle.ledger.specs.Claim.{SameState, IndexGivesPlaces}
use Rattle.sequencer.specs.declared.Sequencer.{Sequencer}
use Rattle.sequencer.specs.Creation.{created}
use Rattle.sequencer.specs.Parts.{with_next}
use Rattle.claim.specs.Creating.{related_creation}
use Rattle.claim.specs.Shows as Claim
use Rattle.claim.specs.View.{view_of}
use Rattle.desk.specs.Desk.{push, edit, reset, tick, block, rate, Call, front, back, Desk, Outcome, next_number, opened, desk_refusal, carried_out, decide, step}
use Rattle.desk.specs.Claim.{calls, desk_after, DeskClaim, sent_from}
use Rattle.desk.specs.Lawful.{DeskLawful}
use Rattle.desk.proofs.LawfulCalls.{step_lawful}
use Rattle.desk.proofs.ClaimByRelation.{desk-claim_by_relation, reached}
use Rattle.realseq.specs.declared.SequencerBackend.{SequencerBackend}
use Rattle.desk_claim.specs.Related.{shown, DeskRelated}
use Rattle.desk_claim.proofs.Related.{messages_shown, opened_related}
use Rattle.desk_claim.specs.EngineCalls.{desk_new, desk_call, desk_view, desk_engine}
use Rattle.desk_claim.specs.CarriedOut.{after, Shows, Does}
use Rattle.desk_claim.specs.Refusals.{Keeps}
use Rattle.desk_claim.proofs.Fronts.{keep-push, keep-edit, keep-reset}
use Rattle.desk_claim.proofs.Backs.{keep_tick, keep-block, keep-rate, keep-restart}

start : (channels : ℕ) (mode : ReplayMode) (first : ℕ) → first < 2 ^ 64
    → ((desk_new channels mode first).1 ≡ (create channels mode first).answer) × DeskRelated (desk_new channels mode first).0 (opened (create channels mode first).ledger)
start channels mode first f =
    let r = related_creation channels mode first f in
    (r.1, opened_related (created channels mode first).sequencer (create channels mode first).ledger r.0)

pub keep : (d : SequencerBackend) (D : Desk) (c : Call) → DeskLawful D → DeskRelated d D → Keeps (desk_call d c) (step D c)
keep d D (front (push kind start end fade_in fade_out curve source gain)) w r = keep-push d D w r kind start end curve fade_in fade_out source gain
keep d D (front (edit kind k end fade_out)) w r = keep-edit d D w r kind k end fade_out
keep d D (front reset) w r = keep-reset d D w r
keep d D (back (tick order pool out)) w r = keep_tick d D w r order pool out
keep d D (back (block order n pool out)) w r = keep-block d D w r order n pool out
keep d D (back (rate x)) w r = keep-rate d D w r x
keep d D (back reset) w r = keep-restart d D w r

-- the state does not speak of the next number
same_back : (s : Sequencer) (n : ℕ) (l : Ledger) → SameState (view_of (with_next s n)) l → SameState (view_of s) l
same_back s n l h = record {
  heap = h.heap;
  sounding = h.sounding;
  finished = h.finished;
  counts = h.counts;
  clock = h.clock;
  threshold = h.threshold;
  edits = h.edits;
  rate = h.rate;
  duration = h.duration;
  channels = h.channels;
  mode = h.mode;
}

pub shows : (d : SequencerBackend) (D : Desk) → DeskLawful D → DeskRelated d D → Shows d D
shows d D w r =
    let n = D.back.next % 2 ^ 64 in
    let v = Claim.shows (with_next d.sequencer n) D.back w.lawful r.engine in
    (same_back d.sequencer n D.back v.0, v.1, ap (map shown) r.queue.lists ∙ messages_shown D.back.next D.queued, r.returns.lists, r.next)

pub desk-claim : DeskClaim desk_engine
desk-claim = desk-claim_by_relation desk_engine DeskRelated start keep shows

-- ---- a call that no refusal names is carried out, after any list of calls

pub carried_out_lem : (channels : ℕ) (mode : ReplayMode) (first : ℕ) (cs : List Call) (c : Call) → first < 2 ^ 64
    → (let D = (desk_after channels mode first cs).desk in desk_refusal D c ≡ none → Does (after channels mode first cs) c (carried_out D c))
unfolding step decide
carried_out_lem channels mode first cs c f free =
    let D = (desk_after channels mode first cs).desk in
    let d = after channels mode first cs in
    let at = reached desk_engine DeskRelated start keep shows channels mode first cs f in
    let kept = keep d D c at.1 at.0 in
    let view = shows (desk_call d c).0 (step D c).desk (step_lawful D c at.1) kept.0 in
    subst (λ (o : Option ℕ). Does d c (decide o D c)) free (kept.1, view)

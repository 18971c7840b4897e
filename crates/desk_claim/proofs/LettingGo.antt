-- What the desk lets go of, after a tick or block and when a reset acts, and the numbers that it returns: the engine's and the desk ledger's. Assumes nothing.
use Rattle.std.specs.Prelude.{◌≡◌, refl, List, [], ◌++◌, reverse, ◌+◌, length}
use Rattle.std.proofs.Common.{sym, ◌∙◌, subst, arith, length-append}
use Rattle.std.proofs.lemmas.List.{length-reverse}
use Rattle.event.specs.declared.Event.{Event}
use Rattle.event.specs.declared.ReplayMode.{ReplayMode}
use Rattle.event.specs.declared.ReplayMode.TheVariants.{All, None}
use Rattle.ledger.specs.Lists.{numbers}
use Rattle.ledger.specs.Steps.{restart}
use Rattle.ledger.specs.Lawful.{Lawful}
use Rattle.lists.specs.Holds.{holds-length, holds-none}
use Rattle.sequencer.specs.Moves.{heap_of, released_past}
use Rattle.sequencer.specs.Resets.{reset_by}
use Rattle.claim.specs.Related.{Related}
use Rattle.claim.specs.Advance.{numbers-length}
use Rattle.claim.specs.Resetting.{related_reset}
use Rattle.desk.specs.Desk as Plain
use Rattle.desk.specs.Desk.{Desk, send_finished, reset_of}
use Rattle.realseq.specs.declared.SequencerBackend.{SequencerBackend}
use Rattle.realseq.specs.Handling.{past_sent_by, returned_by, restarted}
use Rattle.desk_claim.specs.ReturnQueue.{returns_to, returns-list, returns-heap, three-sent}
use Rattle.desk_claim.specs.Related.{DeskRelated}
use Rattle.desk_claim.proofs.Related.{plain_of, empty_related}
use Rattle.desk_claim.specs.LettingGo.{restarts}

-- ---- how many are let go: from either end it is as many

reversed_length : (f : List Event) → length (numbers (reverse f)) ≡ length f
reversed_length f = numbers-length (reverse f) ∙ length-reverse f

three-length : (f w s : List Event) → length (numbers (reverse f ++ (w ++ reverse s))) ≡ length f + (length w + length s)
three-length f w s =
    omega (
      arith,
      numbers-length (reverse f ++ (w ++ reverse s)),
      length-append (reverse f) (w ++ reverse s),
      length-append w (reverse s),
      length-reverse f,
      length-reverse s,
    )

-- ---- after a tick or block

pub past_related : (m : ReplayMode) (d : SequencerBackend) (D : Desk) → Lawful D.back → DeskRelated d D → DeskRelated (past_sent_by m d) (send_finished m D)
unfolding past_sent_by released_past send_finished
past_related All d D w r = r
past_related None d D w r =
    let s = d.sequencer in
    let l = D.back in
    let h = r.engine in
    record {
      engine = record {
        lists = (h.lists.0, h.lists.1, h.lists.2, holds-none s.past h.lists.3.sized, h.lists.4);
        plain = (
          h.plain.0,
          h.plain.1,
          h.plain.2,
          h.plain.3,
          h.plain.4,
          h.plain.5,
          refl,
          omega (arith, w.counted, h.plain.7, holds-length h.lists.3, length-append l.gone (numbers (reverse l.finished)), reversed_length l.finished),
        );
      };
      next = r.next;
      queue = r.queue;
      returns = returns-list s.past s.past_len l.finished d.returned D.returned h.lists.3 r.returns;
    }

restarted_by : (m : ReplayMode) (d : SequencerBackend) (D : Desk) → D.queued ≡ [] → Lawful D.back → DeskRelated d D → Related (reset_by d.sequencer m) (restart D.back m)
    → DeskRelated (restarts m d) (Plain.restarted m D)
unfolding returned_by Plain.restarted restart
restarted_by All d D e w r x = empty_related d D (reset_by d.sequencer All) (restart D.back All) d.returned D.returned e r x r.returns
restarted_by None d D e w r x =
    let s = d.sequencer in
    let l = D.back in
    let h = r.engine in
    let f = reverse l.finished in
    let a = reverse l.sounding in
    let ks = numbers (f ++ (l.waiting ++ a)) in
    let nf = numbers l.finished in
    let nw = numbers l.waiting in
    let ns = numbers l.sounding in
    let sent =
    returns-list s.active s.active_len l.sounding _ _ h.lists.1
    (returns-heap (heap_of s) l.waiting _ _ w.sorted h.lists.0
    (returns-list s.past s.past_len l.finished d.returned D.returned h.lists.3 r.returns)) in
    empty_related d D (reset_by s None) (Plain.restarted None D).back (returned_by None s d.returned) (Plain.restarted None D).returned e r
    (record {
      lists = x.lists;
      plain = (
        x.plain.0,
        x.plain.1,
        x.plain.2,
        x.plain.3,
        x.plain.4,
        x.plain.5,
        x.plain.6,
        omega (
          arith,
          x.plain.7,
          length-append l.gone ks,
          three-length l.finished l.waiting l.sounding,
          length-append l.gone (nf ++ (nw ++ ns)),
          length-append nf (nw ++ ns),
          length-append nw ns,
          numbers-length l.finished,
          numbers-length l.waiting,
          numbers-length l.sounding,
        ),
      );
    })
    (returns_to (three-sent D.returned f l.waiting a) sent)

pub restarted_related : (d : SequencerBackend) (D : Desk) → D.queued ≡ [] → Lawful D.back → DeskRelated d D → DeskRelated (restarted d) (reset_of D)
unfolding restarted
restarted_related d D e w r =
    let s = d.sequencer in
    let l = D.back in
    let p = plain_of d D e r in
    let x : Related (reset_by s l.mode) (restart l l.mode) = subst (λ (m : ReplayMode). Related (reset_by s m) (restart l l.mode)) p.plain.5 (related_reset s l w p) in
    subst (λ (m : ReplayMode). DeskRelated (restarts m d) (reset_of D)) (sym p.plain.5) (restarted_by l.mode d D e w r x)

-- A pushed event enters S or W and takes the next number: the engine's and the ledger's. Assumes nothing.
use Rattle.std.specs.Prelude.{Bool, true, false, ◌≡◌, refl, List, [], ◌∷◌, ◌++◌, ℕ, suc, ◌+◌, ◌^◌, ◌%◌, ◌<◌, Float, set}
use Rattle.std.proofs.Common.{sym, ap, ◌∙◌, subst, arith}
use Rattle.std.specs.Float.Ieee.{lt}
use Rattle.event.specs.declared.Event.{Event}
use Rattle.event.specs.declared.Fade.{Fade}
use Rattle.event.specs.declared.Source.{Source}
use Rattle.event.specs.Events.{new_event}
use Rattle.ledger.specs.Calls.{number}
use Rattle.ledger.specs.Lists.{insert}
use Rattle.ledger.specs.Ledger.{Ledger, held}
use Rattle.ledger.specs.Steps.{enter}
use Rattle.ready.proofs.Waits.{waits-length}
use Rattle.lists.specs.Holds.{holds-length}
use Rattle.sequencer.specs.declared.Sequencer.{Sequencer}
use Rattle.sequencer.specs.Parts.{with_active, with_next}
use Rattle.sequencer.specs.Moves.{pushed_ready, pushed_active, pushed_event}
use Rattle.sequencer.specs.Answers.{answer_of}
use Rattle.sequencer.specs.Pushes.{enters, admitted}
use Rattle.claim.specs.Related.{Lists, Related, active_is, lists_active, lists_ready}

-- ---- straight into S, or into W

module _ (s : Sequencer) (e : Event) where
  pushed_active_lem : lt e.start_time s.active_threshold ≡ true → pushed_event s e ≡ pushed_active s e
  unfolding pushed_event
  pushed_active_lem h = rw h

  pushed_ready_lem : lt e.start_time s.active_threshold ≡ false → pushed_event s e ≡ pushed_ready s e
  unfolding pushed_event
  pushed_ready_lem h = rw h

module _ (l : Ledger) (e : Event) where
  enter_active : lt e.start_time l.threshold ≡ true → (l.waiting ≡ (enter l e).waiting) × (l.sounding ++ (e ∷ []) ≡ (enter l e).sounding)
  unfolding enter
  enter_active h = (rw (h, enter), rw (h, enter))

  enter_ready : lt e.start_time l.threshold ≡ false → (insert e l.waiting ≡ (enter l e).waiting) × (l.sounding ≡ (enter l e).sounding)
  unfolding enter
  enter_ready h = (rw (h, enter), rw (h, enter))

pub related_push-event : (s : Sequencer) (l : Ledger) (e : Event) → held l < 256 → Related s l → Related (enters s e) (enter l e)
unfolding pushed_ready enter
related_push-event s l e room r = go (lt e.start_time l.threshold) refl
  where
    n : (s.next + 1) % 2 ^ 64 ≡ suc l.next % 2 ^ 64
    n = omega (arith, r.plain.6)

    at : (b : Bool) → lt e.start_time l.threshold ≡ b → lt e.start_time s.active_threshold ≡ b
    at b h = ap (lt e.start_time) r.plain.1 ∙ h

    turn : (t : Sequencer) {w w' a a' : List Event} → w ≡ w' → a ≡ a' → Lists t w a l.finished l.edits → Lists t w' a' l.finished l.edits
    turn t {w} {w'} {a} {a'} c d y = subst (λ (z : List Event). Lists t z a' l.finished l.edits) c (subst (λ (z : List Event). Lists t w z l.finished l.edits) d y)

    Goal : Sequencer → Type 0
    Goal t = Related (with_next t ((s.next + 1) % 2 ^ 64)) (enter l e)

    go : (b : Bool) → lt e.start_time l.threshold ≡ b → Goal (pushed_event s e)
    go true h =
        let k = enter_active l e h in
        let p : s.active_len < 256 = omega (arith, room, holds-length r.lists.1) in
        let t = with_active s (set s.active s.active_len e) (set s.active_map s.active_len e.id) (s.active_len + 1) in
        subst Goal (sym (active_is s e p) ∙ sym (pushed_active_lem s e (at true h)))
        (record {
          lists = turn t k.0 k.1 (subst (λ (t : Sequencer). Lists t l.waiting (l.sounding ++ (e ∷ [])) l.finished l.edits) (active_is s e p) (lists_active s e _ _ _ _ p r.lists));
          plain = (r.plain.0, r.plain.1, r.plain.2, r.plain.3, r.plain.4, r.plain.5, n, r.plain.7);
        })
    go false h =
        let k = enter_ready l e h in
        let p : s.ready_len < 256 = omega (arith, room, waits-length r.lists.0) in
        subst Goal (sym (pushed_ready_lem s e (at false h)))
        (record {
          lists = turn (pushed_ready s e) k.0 k.1 (lists_ready s e _ _ _ _ p r.lists);
          plain = (r.plain.0, r.plain.1, r.plain.2, r.plain.3, r.plain.4, r.plain.5, n, r.plain.7);
        })

-- ---- the event of an admitted push has the ledger's next number, which is the answer

pub same_next : {s : Sequencer} {l : Ledger} → l.next < 2 ^ 64 → Related s l → s.next ≡ l.next
same_next h r = omega (arith, r.plain.6)

pub related_admitted : (s : Sequencer) (l : Ledger) (start end : Float) (curve : Fade) (fade_in fade_out : Float) (source : Source) (gain : Float) → held l < 256 → l.next < 2 ^ 64 → Related s l
    → Related (admitted s start end curve fade_in fade_out source gain).sequencer (enter l (new_event start end fade_in fade_out curve source gain l.next))
    × (answer_of (admitted s start end curve fade_in fade_out source gain).answer ≡ number l.next)
unfolding admitted
related_admitted s l start end curve fade_in fade_out source gain room h r =
    let q = same_next h r in (
      subst (λ (k : ℕ). Related (enters s (new_event start end fade_in fade_out curve source gain k)) (enter l (new_event start end fade_in fade_out curve source gain l.next))) (sym q)
          (related_push-event s l (new_event start end fade_in fade_out curve source gain l.next) room r),
      ap number q,
    )

-- Handling one message: the engine's and the desk ledger's. The engine's next number, which the front has moved on already, stays. Assumes nothing.
use Rattle.std.specs.Prelude.{◌≡◌, refl, Bool, true, false, cond, List, [], ◌∷◌, ℕ, suc, ◌+◌, ◌^◌, ◌%◌, ◌<◌, ltb, Float, length, set}
use Rattle.std.proofs.Common.{sym, ap, ◌∙◌, subst, arith}
use Rattle.std.specs.Float.Ieee.{lt}
use Rattle.event.specs.declared.Edit.{Edit}
use Rattle.event.specs.declared.Event.{Event}
use Rattle.event.specs.declared.EventId.{EventId}
use Rattle.event.specs.declared.Fade.{Fade}
use Rattle.event.specs.declared.Source.{Source}
use Rattle.floats.specs.Arithmetic.{◌<ᶠ◌}
use Rattle.event.specs.Events.{new_event}
use Rattle.ledger.specs.Calls.{PushKind, absolute, relative, by_duration, EditKind, absolute_end, relative_end}
use Rattle.ledger.specs.Ledger.{Ledger, held}
use Rattle.ledger.specs.Refusals.{stated_end, edit_end}
use Rattle.ledger.specs.Steps.{pushed_time, enter, accept}
use Rattle.std.specs.declared.option.Option.{Option}
use Rattle.std.specs.declared.option.Option.TheVariants.{Some, None as Missing}
use Rattle.lists.specs.Index.{found_id}
use Rattle.sequencer.specs.declared.Sequencer.{Sequencer}
use Rattle.sequencer.specs.Parts.{with_active, with_next}
use Rattle.sequencer.specs.Moves.{pushed_ready, pushed_active, pushed_event, pushed_relative, shifted}
use Rattle.sequencer.specs.Edits.{index_of, changed_by, changed}
use Rattle.claim.specs.Related.{Related}
use Rattle.claim.specs.Entering.{related_push-event}
use Rattle.claim.specs.Changing.{related_change}
use Rattle.desk.specs.Desk as Plain
use Rattle.desk.specs.Desk.{push, edit, reset, pushes_in}
use Rattle.desk.specs.Relative.{is_relative, end_relative}
use Rattle.desk.specs.Lawful.{DeskLawful, desk_of, handled}
use Rattle.desk.proofs.Lawful.{handled-next, pushes-first}
use Rattle.realseq.specs.declared.SequencerBackend.{SequencerBackend}
use Rattle.realseq.specs.declared.queues.Message.{Message}
use Rattle.realseq.specs.declared.queues.Message.TheVariants.{Reset, Push, PushRelative, Edit as Amend, EditRelative}
use Rattle.realseq.specs.Queues.{peeked, popped}
use Rattle.realseq.specs.Handling.{later, acted, stepped}
use Rattle.realseq.specs.Fronts.{push_message, edit_message}
use Rattle.desk_claim.specs.Ring.{Queued, queued_first, queued_rest}
use Rattle.desk_claim.specs.Related.{message_of, messages_from, Backed, DeskRelated}
use Rattle.desk_claim.specs.Messages.{changed_ledger}

-- ---- an engine with another next number acts alike

cond-next : (b : Bool) (x y : Sequencer) (n : ℕ) → cond b (with_next x n) (with_next y n) ≡ with_next (cond b x y) n
cond-next true x y n = refl
cond-next false x y n = refl

active_next : (s : Sequencer) (n : ℕ) (e : Event) → pushed_active (with_next s n) e ≡ with_next (pushed_active s e) n
unfolding pushed_active
active_next s n e =
    cond-next (ltb s.active_len 256) (with_active s (set s.active s.active_len e) (set s.active_map s.active_len e.id) (s.active_len + 1)) s n

ready_next : (s : Sequencer) (n : ℕ) (e : Event) → pushed_ready (with_next s n) e ≡ with_next (pushed_ready s e) n
unfolding pushed_ready
ready_next s n e = refl

pushed-next : (s : Sequencer) (n : ℕ) (e : Event) → pushed_event (with_next s n) e ≡ with_next (pushed_event s e) n
unfolding pushed_event
pushed-next s n e =
    let b = lt e.start_time s.active_threshold in
    ap (λ (x : Sequencer). cond b x (pushed_ready (with_next s n) e)) (active_next s n e)
    ∙ ap (λ (x : Sequencer). cond b (with_next (pushed_active s e) n) x) (ready_next s n e)
    ∙ cond-next b (pushed_active s e) (pushed_ready s e) n

changed_by_next : (s : Sequencer) (n : ℕ) (k : EventId) (d : Edit) (f : Option ℕ) (over : Bool) → (changed_by (with_next s n) k d f over).sequencer ≡ with_next (changed_by s k d f over).sequencer n
unfolding changed_by
changed_by_next s n k d (Some i) over = refl
changed_by_next s n k d Missing true = refl
changed_by_next s n k d Missing false = refl

changed-next : (s : Sequencer) (n : ℕ) (k : EventId) (d : Edit) → (changed (with_next s n) k d).sequencer ≡ with_next (changed s k d).sequencer n
unfolding changed
changed-next s n k d = changed_by_next s n k d (found_id (index_of s) k) (d.end_time <ᶠ s.active_threshold)

acted-next : (m : Message) (s : Sequencer) (n : ℕ) → acted m (with_next s n) ≡ with_next (acted m s) n
unfolding acted pushed_relative
acted-next Reset s n = refl
acted-next (Push e) s n = pushed-next s n e
acted-next (PushRelative e) s n = pushed-next s n (shifted s.time e)
acted-next (Amend k d) s n = changed-next s n k d
acted-next (EditRelative k d) s n = changed-next s n k (later s.time d)

-- so it stays
acted-keeps : (m : Message) (s : Sequencer) → (acted m s).next ≡ s.next
acted-keeps m s = ap (λ (t : Sequencer). t.next) (acted-next m s s.next)

-- ---- a push

acts-push : (kind : PushKind) (start end fade_in fade_out : Float) (curve : Fade) (source : Source) (gain : Float) (k : ℕ) (s : Sequencer)
    → acted (push_message (is_relative kind) (new_event start end fade_in fade_out curve source gain k)) s
    ≡ pushed_event s (new_event (pushed_time kind s.time start) (pushed_time kind s.time end) fade_in fade_out curve source gain k)
unfolding acted pushed_relative pushed_time
acts-push absolute start end fade_in fade_out curve source gain k s = refl
acts-push relative start end fade_in fade_out curve source gain k s = refl
acts-push by_duration start end fade_in fade_out curve source gain k s = refl

backed_push : (s : Sequencer) (l : Ledger) (e : Event) → held l < 256 → Backed s l → Backed (pushed_event s e) (enter l e)
unfolding enter
backed_push s l e room r =
    let n = l.next % 2 ^ 64 in
    let q : (n + 1) % 2 ^ 64 ≡ suc l.next % 2 ^ 64 = omega arith in
    subst (λ (m : ℕ). Related (with_next (pushed_event s e) m) (enter l e)) q
    (subst (λ (t : Sequencer). Related (with_next t ((n + 1) % 2 ^ 64)) (enter l e)) (pushed-next s n e) (related_push-event (with_next s n) l e room r))

-- ---- an edit

acts-edit : (kind : EditKind) (k : EventId) (end fade_out : Float) (s : Sequencer)
    → acted (edit_message (end_relative kind) k (record { end_time = end; fade_out = fade_out })) s ≡ (changed s k (record { end_time = edit_end kind s.time end; fade_out = fade_out })).sequencer
unfolding acted edit_end
acts-edit absolute_end k end fade_out s = refl
acts-edit relative_end k end fade_out s = refl

backed_change : (s : Sequencer) (l : Ledger) (k : EventId) (d : Edit) → length l.edits < 256 → (changed_ledger l k d).next ≡ l.next → Backed s l → Backed (changed s k d).sequencer (changed_ledger l k d)
backed_change s l k d room h r =
    let n = l.next % 2 ^ 64 in
    subst (λ (m : ℕ). Related (with_next (changed s k d).sequencer (m % 2 ^ 64)) (changed_ledger l k d)) (sym h)
    (subst (λ (t : Sequencer). Related t (changed_ledger l k d)) (changed-next s n k d) (related_change (with_next s n) l k d (λ a b c. room) r).0)

-- ---- any message

backed_handled : (l : Ledger) (m : Plain.Message) (q : List Plain.Message) (r : List ℕ) (s : Sequencer) → DeskLawful (desk_of l (m ∷ q) r) → Backed s l
    → Backed (acted (message_of l.next m) s) (handled l m)
unfolding accept acted
backed_handled l (push kind start end fade_in fade_out curve source gain) q r s w h =
    let e : Float → Event = λ t. new_event (pushed_time kind t start) (pushed_time kind t (stated_end kind start end)) fade_in fade_out curve source gain l.next in
    subst (λ (t : Sequencer). Backed t (enter l (e l.clock))) (sym (acts-push kind start (stated_end kind start end) fade_in fade_out curve source gain l.next s))
    (subst (λ (t : Float). Backed (pushed_event s (e t)) (enter l (e l.clock))) (sym h.plain.0) (backed_push s l (e l.clock) (omega (arith, w.events)) h))
backed_handled l (edit kind k end fade_out) q r s w h =
    let id : EventId = record { 0 = k } in
    let d : Float → Edit = λ t. record { end_time = edit_end kind t end; fade_out = fade_out } in
    let n : (changed_ledger l id (d l.clock)).next ≡ l.next = omega (arith, handled-next l (edit kind k end fade_out)) in
    subst (λ (t : Sequencer). Backed t (changed_ledger l id (d l.clock))) (sym (acts-edit kind id end fade_out s))
    (subst (λ (t : Float). Backed (changed s id (d t)).sequencer (changed_ledger l id (d l.clock))) (sym h.plain.0) (backed_change s l id (d l.clock) (omega (arith, w.edits)) n h))
backed_handled l reset q r s w h = h

-- the first message is taken off and handled
pub stepped_related : (d : SequencerBackend) (l : Ledger) (m : Plain.Message) (q : List Plain.Message) (r : List ℕ) → DeskLawful (desk_of l (m ∷ q) r) → DeskRelated d (desk_of l (m ∷ q) r)
    → DeskRelated (stepped d) (desk_of (handled l m) q r)
stepped_related d l m q r w h =
    let first = message_of l.next m in
    let rest = messages_from (l.next + pushes_in (m ∷ [])) q in
    let n : l.next + pushes_in (m ∷ q) ≡ (handled l m).next + pushes_in q = omega (arith, handled-next l m, pushes-first m q) in
    record {
      engine = subst (λ (x : Message). Backed (acted x d.sequencer) (handled l m)) (sym (queued_first d.messages first rest h.queue)) (backed_handled l m q r d.sequencer w h.engine);
      next = acted-keeps (peeked d.messages) d.sequencer ∙ h.next ∙ ap (λ (k : ℕ). k % 2 ^ 64) n;
      queue = subst (λ (k : ℕ). Queued (popped d.messages) (messages_from k q)) (sym (handled-next l m)) (queued_rest d.messages first rest h.queue);
      returns = h.returns;
    }

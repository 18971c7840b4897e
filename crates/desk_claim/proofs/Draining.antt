-- Handling all queued messages, first to last, what is behind a reset before the reset acts: the engine's and the desk ledger's. Assumes nothing.
use Rattle.std.specs.Prelude.{◌≡◌, refl, Bool, true, false, cond, List, [], ◌∷◌, ℕ, ◌+◌, length}
use Rattle.std.proofs.Common.{sym, ap, ◌∙◌, subst}
use Rattle.event.specs.declared.Edit.{Edit}
use Rattle.event.specs.declared.Event.{Event}
use Rattle.event.specs.declared.EventId.{EventId}
use Rattle.event.specs.Events.{new_event}
use Rattle.ledger.specs.Ledger.{Ledger}
use Rattle.ledger.specs.Refusals.{stated_end}
use Rattle.desk.specs.Desk as Plain
use Rattle.desk.specs.Desk.{push, edit, reset, Desk, pushes_in, drain}
use Rattle.desk.specs.Relative.{is_relative, end_relative}
use Rattle.desk.specs.Lawful as Laws
use Rattle.desk.specs.Lawful.{DeskLawful, desk_of}
use Rattle.desk.proofs.Lawful.{handled_lawful, drain_lawful, drain_queued}
use Rattle.realseq.specs.declared.SequencerBackend.{SequencerBackend}
use Rattle.realseq.specs.Queues.{is_reset}
use Rattle.realseq.specs.Handling.{restarted, stepped, handled, drained}
use Rattle.realseq.specs.Fronts.{push_message, edit_message}
use Rattle.desk_claim.specs.Ring.{queued_first, queued_count}
use Rattle.desk_claim.specs.Related.{message_of, messages_from, DeskRelated}
use Rattle.desk_claim.proofs.Related.{messages_length}
use Rattle.desk_claim.proofs.Messages.{stepped_related}
use Rattle.desk_claim.proofs.LettingGo.{restarted_related}

push-stays : (b : Bool) (e : Event) → is_reset (push_message b e) ≡ false
push-stays true e = refl
push-stays false e = refl

edit-stays : (b : Bool) (k : EventId) (x : Edit) → is_reset (edit_message b k x) ≡ false
edit-stays true k x = refl
edit-stays false k x = refl

-- by whether the first is a reset
handled-first : (d : SequencerBackend) (l : Ledger) (m : Plain.Message) (q : List Plain.Message) (r : List ℕ) (b : Bool) → is_reset (message_of l.next m) ≡ b → DeskRelated d (desk_of l (m ∷ q) r)
    → handled (length (m ∷ q)) d ≡ cond b (restarted (handled (length q) (stepped d))) (handled (length q) (stepped d))
unfolding handled
handled-first d l m q r b h g =
    let x = handled (length q) (stepped d) in
    ap (λ (c : Bool). cond c (restarted x) x)
    (ap is_reset (queued_first d.messages (message_of l.next m) (messages_from (l.next + pushes_in (m ∷ [])) q) g.queue) ∙ h)

handled_related : (q : List Plain.Message) (d : SequencerBackend) (l : Ledger) (r : List ℕ) → DeskLawful (desk_of l q r) → DeskRelated d (desk_of l q r)
    → DeskRelated (handled (length q) d) (drain q (desk_of l [] r))
unfolding handled drain
handled_related [] d l r w g = g
handled_related (push kind start end fade_in fade_out curve source gain ∷ q) d l r w g =
    let m = push kind start end fade_in fade_out curve source gain in
    subst (λ (e : SequencerBackend). DeskRelated e (drain q (desk_of (Laws.handled l m) [] r)))
    (sym (handled-first d l m q r false (push-stays (is_relative kind) (new_event start (stated_end kind start end) fade_in fade_out curve source gain l.next)) g))
    (handled_related q (stepped d) (Laws.handled l m) r (handled_lawful l m q r w) (stepped_related d l m q r w g))
handled_related (edit kind k end fade_out ∷ q) d l r w g =
    let m = edit kind k end fade_out in
    subst (λ (e : SequencerBackend). DeskRelated e (drain q (desk_of (Laws.handled l m) [] r)))
    (sym (handled-first d l m q r false (edit-stays (end_relative kind) (record { 0 = k }) (record { end_time = end; fade_out = fade_out })) g))
    (handled_related q (stepped d) (Laws.handled l m) r (handled_lawful l m q r w) (stepped_related d l m q r w g))
handled_related (reset ∷ q) d l r w g =
    let D = drain q (desk_of l [] r) in
    let v = handled_lawful l reset q r w in
    subst (λ (e : SequencerBackend). DeskRelated e (Plain.reset_of D)) (sym (handled-first d l reset q r true refl g))
    (restarted_related (handled (length q) (stepped d)) D (drain_queued q (desk_of l [] r)) (drain_lawful q l r v).lawful
    (handled_related q (stepped d) l r v (stepped_related d l reset q r w g)))

pub drained_related : (d : SequencerBackend) (D : Desk) → DeskLawful D → DeskRelated d D → DeskRelated (drained d) (Plain.drained D)
unfolding drained
drained_related d D w g =
    subst (λ (n : ℕ). DeskRelated (handled n d) (Plain.drained D)) (sym (queued_count g.queue ∙ messages_length D.back.next D.queued))
    (handled_related D.queued d D.back D.returned w g)

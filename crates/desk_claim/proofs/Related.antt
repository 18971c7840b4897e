-- The relation between the desk and the desk ledger: the engine up to its next number, that number, and both queues. Assumes nothing.
use Rattle.std.specs.Prelude.{◌≡◌, refl, Bool, true, false, cond, List, [], ◌∷◌, ◌++◌, map, ℕ, suc, ◌+◌, ◌^◌, ◌%◌, eqb, length}
use Rattle.std.proofs.Common.{sym, ap, ◌∙◌, subst, arith}
use Rattle.event.specs.declared.Edit.{Edit}
use Rattle.event.specs.declared.Event.{Event}
use Rattle.event.specs.declared.EventId.{EventId}
use Rattle.event.specs.Events.{new_event}
use Rattle.ledger.specs.Ledger.{Ledger}
use Rattle.ledger.specs.Refusals.{stated_end}
use Rattle.sequencer.specs.declared.Sequencer.{Sequencer}
use Rattle.sequencer.specs.Parts.{with_next}
use Rattle.claim.specs.Related.{Related}
use Rattle.desk.specs.Desk as Plain
use Rattle.desk.specs.Desk.{push, edit, reset, Desk, pushes_in, edits_in, next_number}
use Rattle.desk.specs.Claim.{Sent, event, change, restart, sent_from}
use Rattle.desk.specs.Relative.{is_relative, end_relative}
use Rattle.desk.specs.Lawful.{desk_of}
use Rattle.desk.proofs.Lawful.{pushes-first, edits-first}
use Rattle.realseq.specs.declared.SequencerBackend.{SequencerBackend}
use Rattle.realseq.specs.declared.queues.Message.{Message}
use Rattle.realseq.specs.declared.queues.Message.TheVariants.{Reset, Push, PushRelative, Edit as Amend, EditRelative}
use Rattle.realseq.specs.declared.queues.Returned.{Returned}
use Rattle.realseq.specs.Queues.{kind_of, counted, opened}
use Rattle.realseq.specs.Fronts.{push_message, edit_message}
use Rattle.desk_claim.specs.Ring.{Queued, queued_none, tally_of}
use Rattle.desk_claim.specs.ReturnQueue.{Returns, returns-none}
use Rattle.desk_claim.specs.Related.{message_of, messages_from, shown, Backed, DeskRelated}

shown-push : (b : Bool) (e : Event) → shown (push_message b e) ≡ event b e
shown-push true e = refl
shown-push false e = refl

shown-edit : (b : Bool) (k : EventId) (d : Edit) → shown (edit_message b k d) ≡ change b k.0 d
shown-edit true k d = refl
shown-edit false k d = refl

pub messages_shown : (k : ℕ) (q : List Plain.Message) → map shown (messages_from k q) ≡ sent_from k q
messages_shown k [] = refl
messages_shown k (push kind start end fade_in fade_out curve source gain ∷ q) =
    let e = new_event start (stated_end kind start end) fade_in fade_out curve source gain k in
    let n : k + 1 ≡ suc k = omega arith in
    ap (λ (x : Sent). x ∷ map shown (messages_from (k + 1) q)) (shown-push (is_relative kind) e)
    ∙ ap (λ (l : List Sent). event (is_relative kind) e ∷ l) (ap (λ (j : ℕ). map shown (messages_from j q)) n ∙ messages_shown (suc k) q)
messages_shown k (edit kind n end fade_out ∷ q) =
    let d : Edit = record { end_time = end; fade_out = fade_out } in
    let z : k + 0 ≡ k = omega arith in
    ap (λ (x : Sent). x ∷ map shown (messages_from (k + 0) q)) (shown-edit (end_relative kind) (record { 0 = n }) d)
    ∙ ap (λ (l : List Sent). change (end_relative kind) n d ∷ l) (ap (λ (j : ℕ). map shown (messages_from j q)) z ∙ messages_shown k q)
messages_shown k (reset ∷ q) =
    let z : k + 0 ≡ k = omega arith in
    ap (λ (l : List Sent). restart ∷ l) (ap (λ (j : ℕ). map shown (messages_from j q)) z ∙ messages_shown k q)

pub messages_length : (k : ℕ) (q : List Plain.Message) → length (messages_from k q) ≡ length q
messages_length k [] = refl
messages_length k (m ∷ q) = ap suc (messages_length (k + pushes_in (m ∷ [])) q)

pub messages_last : (k : ℕ) (q : List Plain.Message) (m : Plain.Message) → messages_from k (q ++ (m ∷ [])) ≡ messages_from k q ++ (message_of (k + pushes_in q) m ∷ [])
messages_last k [] m = let z : k ≡ k + 0 = omega arith in ap (λ (j : ℕ). message_of j m ∷ []) z
messages_last k (n ∷ q) m =
    let p = pushes_in (n ∷ []) in
    let z : k + p + pushes_in q ≡ k + pushes_in (n ∷ q) = omega (arith, pushes-first n q) in
    ap (λ (l : List Message). message_of k n ∷ l) (messages_last (k + p) q m ∙ ap (λ (j : ℕ). messages_from (k + p) q ++ (message_of j m ∷ [])) z)

-- ---- how many are pushes and edits

push_kind_lem : (b : Bool) (e : Event) → kind_of (push_message b e) ≡ 1
push_kind_lem true e = refl
push_kind_lem false e = refl

edit_kind : (b : Bool) (k : EventId) (d : Edit) → kind_of (edit_message b k d) ≡ 2
edit_kind true k d = refl
edit_kind false k d = refl

push_counts : (k : ℕ) (m : Plain.Message) → counted (message_of k m) 1 ≡ pushes_in (m ∷ [])
push_counts k (push kind start end fade_in fade_out curve source gain) =
    ap (λ (n : ℕ). cond (eqb n 1) 1 0) (push_kind_lem (is_relative kind) (new_event start (stated_end kind start end) fade_in fade_out curve source gain k))
push_counts k (edit kind n end fade_out) = ap (λ (n : ℕ). cond (eqb n 1) 1 0) (edit_kind (end_relative kind) (record { 0 = n }) (record { end_time = end; fade_out = fade_out }))
push_counts k reset = refl

edit_counts : (k : ℕ) (m : Plain.Message) → counted (message_of k m) 2 ≡ edits_in (m ∷ [])
edit_counts k (push kind start end fade_in fade_out curve source gain) =
    ap (λ (n : ℕ). cond (eqb n 2) 1 0) (push_kind_lem (is_relative kind) (new_event start (stated_end kind start end) fade_in fade_out curve source gain k))
edit_counts k (edit kind n end fade_out) = ap (λ (n : ℕ). cond (eqb n 2) 1 0) (edit_kind (end_relative kind) (record { 0 = n }) (record { end_time = end; fade_out = fade_out }))
edit_counts k reset = refl

pub pushes-tally : (k : ℕ) (q : List Plain.Message) → tally_of 1 (messages_from k q) ≡ pushes_in q
pushes-tally k [] = refl
pushes-tally k (m ∷ q) = omega (arith, push_counts k m, pushes-tally (k + pushes_in (m ∷ [])) q, pushes-first m q)

pub edits-tally : (k : ℕ) (q : List Plain.Message) → tally_of 2 (messages_from k q) ≡ edits_in q
edits-tally k [] = refl
edits-tally k (m ∷ q) = omega (arith, edit_counts k m, edits-tally (k + pushes_in (m ∷ [])) q, edits-first m q)

pub backed_of : (s : Sequencer) (l : Ledger) → Related s l → Backed s l
backed_of s l r = subst (λ (n : ℕ). Related (with_next s n) l) r.plain.6 r

-- ---- where nothing is queued, the engine is the back's

none_more : (l : Ledger) (q : List Plain.Message) → q ≡ [] → (l.next + pushes_in q) % 2 ^ 64 ≡ l.next % 2 ^ 64
none_more l q e = let z : l.next + pushes_in q ≡ l.next = omega (arith, ap pushes_in e) in ap (λ (n : ℕ). n % 2 ^ 64) z

pub plain_of : (d : SequencerBackend) (D : Desk) → D.queued ≡ [] → DeskRelated d D → Related d.sequencer D.back
plain_of d D e r = subst (λ (n : ℕ). Related (with_next d.sequencer n) D.back) (sym (r.next ∙ none_more D.back D.queued e)) r.engine

pub empty_related : (d : SequencerBackend) (D : Desk) (s : Sequencer) (l : Ledger) (b : Returned) (ks : List ℕ) → D.queued ≡ [] → DeskRelated d D → Related s l → Returns b ks
    → DeskRelated (record { sequencer = s; messages = d.messages; returned = b }) (desk_of l D.queued ks)
empty_related d D s l b ks e r h k = record {
  engine = backed_of s l h;
  next = h.plain.6 ∙ sym (none_more l D.queued e);
  queue = subst (Queued d.messages) (ap (messages_from D.back.next) e ∙ sym (ap (messages_from l.next) e)) r.queue;
  returns = k;
}

-- ---- at the beginning

pub opened_related : (s : Sequencer) (l : Ledger) → Related s l → DeskRelated (opened s) (Plain.opened l)
unfolding opened
opened_related s l r = record {
  engine = backed_of s l r;
  next = r.plain.6 ∙ sym (none_more l [] refl);
  queue = queued_none;
  returns = returns-none;
}

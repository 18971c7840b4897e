-- Every call of the front, refused or not, keeps the relation and gives back what the desk ledger's gives. Assumes nothing.
use Prim.Native.Nat.{ℕ, ◌+◌, ◌^◌, ◌%◌, ◌<◌}
use Rattle.std.specs.Prelude.{◌≡◌, Bool, true, false, [], ◌∷◌, ◌++◌, leb, eqb, Float}
use Rattle.std.proofs.Math.Path.{refl, ap, subst}
use Rattle.std.proofs.Common.{sym, ◌∙◌, arith}
use Rattle.std.proofs.Math.Bool.{cond}
use Rattle.std.proofs.Math.Option.{none}
use Rattle.std.proofs.Math.ListN.{length, length-append}
use Rattle.event.specs.declared.Fade.{Fade}
use Rattle.event.specs.declared.Source.{Source}
use Rattle.floats.specs.Arithmetic.{◌-ᵈ◌}
use Rattle.event.specs.Events.{new_event}
use Rattle.ledger.specs.Calls.{PushKind, EditKind}
use Rattle.ledger.specs.Refusals.{first_of, stated_end}
use Rattle.sequencer.specs.Parts.{with_next}
use Rattle.desk.specs.Desk as Plain
use Rattle.desk.specs.Desk.{push, edit, reset, front, Reply, number, Desk, pushes_in, next_number, front_checks, desk_refusal, sends, carried_out, step}
use Rattle.desk.specs.Relative.{is_relative}
use Rattle.desk.specs.Lawful.{DeskLawful}
use Rattle.desk.proofs.LawfulCalls.{pushes-last, sends_lawful}
use Rattle.realseq.specs.declared.SequencerBackend.{SequencerBackend}
use Rattle.realseq.specs.declared.Outcome.{Outcome}
use Rattle.realseq.specs.declared.Answer.TheVariants.{Number, Queued}
use Rattle.realseq.specs.declared.queues.Message.{Message}
use Rattle.realseq.specs.declared.queues.Message.TheVariants.{Reset}
use Rattle.realseq.specs.Queues.{pushed, emptied}
use Rattle.realseq.specs.Fronts.{queued_with, numbered, push_refused, push_message, sends_push, pushes, edit_refused, sends_edit, edits, resets}
use Rattle.realseq.specs.Answers.{refuses}
use Rattle.desk_claim.specs.Ring as Ring
use Rattle.desk_claim.specs.Ring.{queued_push}
use Rattle.desk_claim.specs.ReturnQueue.{returns-emptied}
use Rattle.desk_claim.specs.Related.{message_of, messages_from, DeskRelated}
use Rattle.desk_claim.proofs.Related.{messages_length, messages_last}
use Rattle.desk_claim.specs.EngineCalls.{gives}
use Rattle.desk_claim.specs.Refusals.{Keeps}
use Rattle.desk_claim.proofs.Refusals.{by_refusal, push-agrees, edit-agrees, reset-agrees}

module _ (d : SequencerBackend) (D : Desk) (w : DeskLawful D) (r : DeskRelated d D) where
  -- the desk with a message queued and k as its next number
  abbrev sent_with : (k : ℕ) → Message → SequencerBackend
  sent_with k m = record { sequencer = with_next d.sequencer k; messages = pushed d.messages m; returned = emptied d.returned }

  -- ---- a message is queued, and the return queue emptied

  room : (m : Plain.Message) → first_of (front_checks D m) ≡ none → length D.queued < 64
  unfolding sends
  room m h = omega (arith, (sends_lawful D m h w).messages, length-append D.queued (m ∷ []))

  sends_related : (m : Plain.Message) (k : ℕ) → first_of (front_checks D m) ≡ none → k ≡ (next_number D + pushes_in (m ∷ [])) % 2 ^ 64
      → DeskRelated (sent_with k (message_of (next_number D) m)) (sends D m).desk
  unfolding sends
  sends_related m k h e =
      let n : next_number D + pushes_in (m ∷ []) ≡ D.back.next + pushes_in (D.queued ++ (m ∷ [])) = omega (arith, pushes-last D.queued m) in
      let q = messages_from D.back.next D.queued in
      let x = message_of (next_number D) m in
      let few : length q < 64 = omega (arith, messages_length D.back.next D.queued, room m h) in
      record {
        engine = r.engine;
        next = e ∙ ap (λ (j : ℕ). j % 2 ^ 64) n;
        queue = subst (Ring.Queued (pushed d.messages x)) (sym (messages_last D.back.next D.queued m)) (queued_push d.messages q x few r.queue);
        returns = returns-emptied r.returns;
      }

  -- ---- a push

  module _ (kind : PushKind) (start end : Float) (curve : Fade) (fade_in fade_out : Float) (source : Source) (gain : Float) where
    pub keep-push : Keeps (gives (pushes kind d start end curve fade_in fade_out source gain) []) (step D (front (push kind start end fade_in fade_out curve source gain)))
    unfolding pushes sends_push queued_with numbered desk_refusal carried_out sends
    keep-push = by_refusal d D (front M) N X r (push-agrees d D w r kind start end fade_in fade_out curve source gain) refl carried
      where
        M : Plain.Message
        M = push kind start end fade_in fade_out curve source gain

        N : ℕ
        N = push_refused d start end (stated_end kind start end -ᵈ start) fade_in fade_out source gain

        message : ℕ → Message
        message k = push_message (is_relative kind) (new_event start (stated_end kind start end) fade_in fade_out curve source gain k)

        K : ℕ
        K = d.sequencer.next

        X : Bool → SequencerBackend × Reply
        X b = gives (cond b (record { backend = queued_with (message K) (numbered d); answer = Number (record { 0 = K }) }) (refuses d N)) []

        carried : first_of (front_checks D M) ≡ none → Keeps (X true) (sends D M)
        carried h =
            let k : K ≡ next_number D = omega (arith, r.next, (sends_lawful D M h w).next, pushes-last D.queued M) in
            let n : (K + 1) % 2 ^ 64 ≡ (next_number D + pushes_in (M ∷ [])) % 2 ^ 64 = omega (arith, k) in (
              subst (λ (j : ℕ). DeskRelated (sent_with ((K + 1) % 2 ^ 64) (message j)) (sends D M).desk) (sym k) (sends_related M ((K + 1) % 2 ^ 64) h n),
              ap (λ (j : ℕ). record { answer = number j; out = [] }) k,
            )

  -- ---- an edit

  module _ (kind : EditKind) (k : ℕ) (end fade_out : Float) where
    pub keep-edit : Keeps (gives (edits kind d (record { 0 = k }) end fade_out) []) (step D (front (edit kind k end fade_out)))
    unfolding sends_edit queued_with desk_refusal carried_out sends
    keep-edit = by_refusal d D (front M) N X r (edit-agrees d D w r kind k end fade_out) refl carried
      where
        M : Plain.Message
        M = edit kind k end fade_out

        N : ℕ
        N = edit_refused d end fade_out

        X : Bool → SequencerBackend × Reply
        X b = gives (cond b (record { backend = queued_with (message_of 0 M) d; answer = Queued }) (refuses d N)) []

        carried : first_of (front_checks D M) ≡ none → Keeps (X true) (sends D M)
        carried h =
            let n : d.sequencer.next ≡ (next_number D + pushes_in (M ∷ [])) % 2 ^ 64 = omega (arith, r.next) in
            (sends_related M d.sequencer.next h n, refl)

  -- ---- a reset

  by_number : (b : Bool) (x : Outcome) → cond b (refuses d 13) x ≡ cond (eqb (cond b 13 0) 0) x (refuses d (cond b 13 0))
  by_number true x = refl
  by_number false x = refl

  pub keep-reset : Keeps (gives (resets d) []) (step D (front reset))
  unfolding resets queued_with desk_refusal carried_out sends
  keep-reset = subst (λ (o : Outcome). Keeps (gives o []) (step D (front reset))) (sym (by_number (leb 64 d.messages.count) S)) (by_refusal d D (front reset) N X r (reset-agrees d D w r) refl carried)
    where
      N : ℕ
      N = cond (leb 64 d.messages.count) 13 0

      S : Outcome
      S = record { backend = queued_with Reset d; answer = Queued }

      X : Bool → SequencerBackend × Reply
      X b = gives (cond b S (refuses d N)) []

      carried : first_of (front_checks D reset) ≡ none → Keeps (X true) (sends D reset)
      carried h =
          let n : d.sequencer.next ≡ (next_number D + pushes_in (reset ∷ [])) % 2 ^ 64 = omega (arith, r.next) in
          (sends_related reset d.sequencer.next h n, refl)

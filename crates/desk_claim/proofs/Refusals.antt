-- The desk's refusals are the desk ledger's: of the front's calls with what is queued, then 13. Assumes nothing.
use Prim.Native.Nat.{ℕ, ◌+◌, ◌^◌, min}
use Rattle.std.specs.Prelude.{◌≡◌, refl, Bool, true, false, ◌&&◌, ◌||◌, cond, [], ◌∷◌, leb, eqb, Float, length}
use Rattle.std.proofs.Common.{sym, ap, ◌∙◌, arith, eq-eqb, ne_eqb}
use Rattle.std.proofs.Math.Path.{subst}
use Rattle.std.proofs.Math.Bool.{not}
use Rattle.std.proofs.Math.Option.{Option, none, some}
use Rattle.std.specs.Float.Ieee.Scale.{finite}
use Rattle.event.specs.declared.Fade.{Fade}
use Rattle.event.specs.declared.Source.{Source}
use Rattle.floats.specs.Arithmetic.{◌-ᵈ◌, ◌<ᶠ◌}
use Rattle.ready.proofs.Waits.{waits-length}
use Rattle.lists.specs.Holds.{holds-length}
use Rattle.ledger.specs.Calls.{PushKind, EditKind}
use Rattle.ledger.specs.Ledger.{held}
use Rattle.ledger.specs.Refusals.{refuses, first_of, within, within_end, finite_source, stated_end}
use Rattle.refusals.specs.Refusals.{push_refusal, edit_limits}
use Rattle.claim.specs.RefusalsAgree.{Agrees, in_order, agrees, spent}
use Rattle.desk.specs.Desk.{push, edit, reset, Call, Reply, Desk, Outcome, pushes_in, edits_in, next_number, front_checks, desk_refusal, carried_out, decide, step}
use Rattle.desk.specs.Lawful.{DeskLawful}
use Rattle.realseq.specs.declared.SequencerBackend.{SequencerBackend}
use Rattle.realseq.specs.Queues.{tallied}
use Rattle.realseq.specs.Fronts.{push_refused, edit_refused}
use Rattle.desk_claim.specs.Ring.{queued_count, queued_tally}
use Rattle.desk_claim.specs.Related.{DeskRelated}
use Rattle.desk_claim.proofs.Related.{messages_length, pushes-tally, edits-tally}
use Rattle.desk_claim.specs.Refusals.{Keeps, refused_reply, of_push}

-- X is the engine's call, by whether its number of a refusal is 0
pub by_refusal : (d : SequencerBackend) (D : Desk) (c : Call) (n : ℕ) (X : Bool → SequencerBackend × Reply) → DeskRelated d D → Agrees n (desk_refusal D c)
    → X false ≡ (d, refused_reply n c) → (desk_refusal D c ≡ none → Keeps (X true) (carried_out D c)) → Keeps (X (eqb n 0)) (step D c)
unfolding step decide
by_refusal d D c n X r h f t = go (desk_refusal D c) refl h
  where
    go : (o : Option ℕ) → desk_refusal D c ≡ o → Agrees n o → Keeps (X (eqb n 0)) (decide o D c)
    go none q h = subst (λ (b : Bool). Keeps (X b) (carried_out D c)) (sym (eq-eqb n 0 h)) (t q)
    go (some k) q h =
        let turned_down : Outcome = record { desk = D; reply = refused_reply k c } in
        subst (λ (b : Bool). Keeps (X b) turned_down) (sym (ne_eqb n 0 (λ z. omega (arith, h.0, h.1))))
        (subst (λ (a : SequencerBackend × Reply). Keeps a turned_down) (sym f) (r, ap (λ (m : ℕ). refused_reply m c) h.0))

push_order : (a b c g h n f : Bool) → cond (eqb (of_push a b c g h n) 0) (cond f 13 0) (of_push a b c g h n)
    ≡ in_order (refuses 3 a ∷ refuses 4 b ∷ refuses 5 c ∷ refuses 18 g ∷ refuses 6 h ∷ refuses 7 n ∷ refuses 13 f ∷ [])
push_order true b c g h n f = refl
push_order false true c g h n f = refl
push_order false false true g h n f = refl
push_order false false false true h n f = refl
push_order false false false false true n f = refl
push_order false false false false false true f = refl
push_order false false false false false false f = refl

edit_order : (a e f : Bool) → cond (eqb (cond a 8 0) 0) (cond e 9 (cond f 13 0)) (cond a 8 0) ≡ in_order (refuses 8 a ∷ refuses 9 e ∷ refuses 13 f ∷ [])
edit_order true e f = refl
edit_order false e f = refl

-- ---- what they look at

module _ (d : SequencerBackend) (D : Desk) (w : DeskLawful D) (r : DeskRelated d D) where
  count_is : d.messages.count ≡ length D.queued
  count_is = queued_count r.queue ∙ messages_length D.back.next D.queued

  held-is : min (d.sequencer.ready_len + (d.sequencer.active_len + d.sequencer.past_len)) 256 + tallied d.messages 1 ≡ held D.back + pushes_in D.queued
  held-is =
      omega (
        arith,
        waits-length r.engine.lists.0,
        holds-length r.engine.lists.1,
        holds-length r.engine.lists.3,
        w.events,
        queued_tally 1 r.queue,
        pushes-tally D.back.next D.queued,
      )

  edits_are : d.sequencer.edit_map.len + tallied d.messages 2 ≡ length D.back.edits + edits_in D.queued
  edits_are = omega (arith, holds-length r.engine.lists.4, queued_tally 2 r.queue, edits-tally D.back.next D.queued)

  none_left : eqb d.sequencer.next 0 ≡ leb (2 ^ 64) (next_number D)
  none_left = spent (next_number D) d.sequencer.next (omega (arith, w.lawful.positive)) w.next r.next

  pub full_is : leb 64 d.messages.count ≡ leb 64 (length D.queued)
  full_is = ap (leb 64) count_is

  pub push-agrees : (kind : PushKind) (start end fade_in fade_out : Float) (curve : Fade) (source : Source) (gain : Float)
      → Agrees (push_refused d start end (stated_end kind start end -ᵈ start) fade_in fade_out source gain) (first_of (front_checks D (push kind start end fade_in fade_out curve source gain)))
  unfolding push_refused push_refusal front_checks
  push-agrees kind start end fade_in fade_out curve source gain =
      let C = front_checks D (push kind start end fade_in fade_out curve source gain) in
      let lasts = stated_end kind start end -ᵈ start in
      let a = not (within start && within_end end && within fade_in && within fade_out) in
      let b = lasts <ᶠ fade_in || lasts <ᶠ fade_out in
      let c = not (finite_source source) in
      let g = not (finite gain) in
      let H = min (d.sequencer.ready_len + (d.sequencer.active_len + d.sequencer.past_len)) 256 + tallied d.messages 1 in
      let same : push_refused d start end lasts fade_in fade_out source gain ≡ in_order C =
      push_order a b c g (leb 256 H) (eqb d.sequencer.next 0) (leb 64 d.messages.count)
      ∙ (λ i. in_order (refuses 3 a ∷ refuses 4 b ∷ refuses 5 c ∷ refuses 18 g ∷ refuses 6 (leb 256 (held-is i)) ∷ refuses 7 (none_left i) ∷ refuses 13 (full_is i) ∷ [])) in
      subst (λ (n : ℕ). Agrees n (first_of C)) (sym same) (agrees C (tt, (tt, (tt, (tt, (tt, (tt, (tt, tt))))))))

  pub edit-agrees : (kind : EditKind) (k : ℕ) (end fade_out : Float) → Agrees (edit_refused d end fade_out) (first_of (front_checks D (edit kind k end fade_out)))
  unfolding edit_refused edit_limits front_checks
  edit-agrees kind k end fade_out =
      let C = front_checks D (edit kind k end fade_out) in
      let a = not (within_end end && within fade_out) in
      let E = d.sequencer.edit_map.len + tallied d.messages 2 in
      let same : edit_refused d end fade_out ≡ in_order C =
      edit_order a (leb 256 E) (leb 64 d.messages.count)
      ∙ (λ i. in_order (refuses 8 a ∷ refuses 9 (leb 256 (edits_are i)) ∷ refuses 13 (full_is i) ∷ [])) in
      subst (λ (n : ℕ). Agrees n (first_of C)) (sym same) (agrees C (tt, (tt, (tt, tt))))

  pub reset-agrees : Agrees (cond (leb 64 d.messages.count) 13 0) (first_of (front_checks D reset))
  unfolding front_checks
  reset-agrees =
      let C = front_checks D reset in
      subst (λ (b : Bool). Agrees (cond b 13 0) (first_of C)) (sym full_is) (agrees C (tt, tt))

-- Every call, refused or not, keeps the relation, and gives back what the ledger's gives: the answer or refusal and the output. Assumes nothing.
use Rattle.std.specs.Prelude.{ℕ, ◌+◌, ◌*◌, ◌/◌, ◌^◌, ◌≤◌, min, Bool, true, false, not, ◌&&◌, cond, ◌≡◌, List, [], T, leb, eqb, Float, length, replicate, take}
use Rattle.std.proofs.Common.{true≢false, sym, ap, ◌∙◌, subst, arith, nltb→le, eqb→eq, eq-eqb, ne_eqb}
use Rattle.std.proofs.Math.Path.{refl}
use Rattle.std.proofs.Math.Option.{Option, none, some}
use Rattle.std.proofs.Math.Dec.{nleb→lt}
use Rattle.event.specs.declared.Edit.{Edit}
use Rattle.event.specs.declared.Event.{Event}
use Rattle.event.specs.declared.EventId.{EventId}
use Rattle.event.specs.declared.Fade.{Fade}
use Rattle.event.specs.declared.MixOrder.{MixOrder}
use Rattle.event.specs.declared.Source.{Source}
use Rattle.floats.specs.Arithmetic.{◌+ᵈ◌, ◌-ᵈ◌, ◌×ᵈ◌, ◌<ᶠ◌, zeroᶠ, whole}
use Rattle.ready.proofs.Waits.{waits-length}
use Rattle.lists.specs.Holds.{holds-length}
use Rattle.lists.specs.EditList.{edits_find}
use Rattle.lists.specs.Sounding.{index_find}
use Rattle.event.specs.Placings.{tally}
use Rattle.ledger.specs.Places.{placings}
use Rattle.ledger.specs.Calls.{Call, PushKind, EditKind, push, edit, tick, block, rate, reset, Answer, Reply, done, rendered}
use Rattle.ledger.specs.Lists.{has, edit_of}
use Rattle.ledger.specs.TickSamples.{tick_sum}
use Rattle.ledger.specs.BlockSamples.{Span, BlockSum, block_sum, overlay}
use Rattle.ledger.specs.Ledger.{Ledger, held}
use Rattle.ledger.specs.Refusals.{first_of, checks, push_checks, edit_checks, refusal, stated_end, edit_end, missing}
use Rattle.ledger.specs.Refusals as Checks
use Rattle.ledger.specs.Refused.{AllPass}
use Rattle.ledger.proofs.Refused.{all_pass}
use Rattle.ledger.specs.Steps as Plain
use Rattle.ledger.specs.Steps.{step, decide, accept, refused_reply, pushed_time, change, advance, in_order, cleared}
use Rattle.ledger.specs.Lawful.{Lawful}
use Rattle.ledger.proofs.LedgerMeets.{same_reply}
use Rattle.ledger.specs.Claim.{SameReply, Lends}
use Rattle.sequencer.specs.declared.Sequencer.{Sequencer}
use Rattle.sequencer.specs.Answers.{answer_of, accepts}
use Rattle.sequencer.specs.Outcomes.{renders, refuses}
use Rattle.sequencer.specs.Parts.{with_sounding}
use Rattle.sequencer.specs.Moves.{advanced}
use Rattle.refusals.specs.Refusals.{push_refusal, edit_refusal, tick_refusal, process_refusal, rate_refusal}
use Rattle.sequencer.specs.Pushes.{admitted, pushes_to, pushes}
use Rattle.sequencer.specs.Edits.{changed, amended, edits}
use Rattle.sequencer.specs.Readers.{place_in}
use Rattle.sequencer.specs.Rendering.{tick_end, tick_pass, rendered_tick, rendered_tick_out, ticks, tick_outs, block_end, span_of, block_pass, places_pass, rendered_block, rendered_places, rendered_block_out, blocks, block_outs}
use Rattle.sequencer.specs.Resets.{re_rated, rates, resets}
use Rattle.claim.specs.Related.{Related}
use Rattle.claim.specs.Entering.{related_admitted}
use Rattle.claim.specs.Advance.{related_advance}
use Rattle.claim.specs.AllToReady.{related_rate}
use Rattle.claim.specs.Resetting.{related_reset}
use Rattle.claim.specs.Changing.{related_change}
use Rattle.claim.specs.RefusalsAgree.{Agrees, spent, push-refused, edit-refused, tick_refused, block_refused, rate-refused}
use Rattle.claim.specs.SamplesAgree.{related_tick, related_block, related_places}
use Rattle.claim.specs.EngineCalls.{gives, engine_call}
use Rattle.claim.specs.Steps.{Keeps}

-- ---- a call is refused by both with one number, or carried out by both

-- X is the engine's call, by whether its number of a refusal is 0
by_refusal : (s : Sequencer) (l : Ledger) (c : Call) (n : ℕ) (X : Bool → Sequencer × Reply) → Related s l → Agrees n (refusal l c)
    → X false ≡ (s, refused_reply n c) → (refusal l c ≡ none → Keeps (X true) (accept l c)) → Keeps (X (eqb n 0)) (step l c)
unfolding step decide
by_refusal s l c n X r h f t = go (refusal l c) refl h
  where
    turned_down : ℕ → Plain.Outcome
    turned_down k = record { ledger = l; reply = refused_reply k c }

    go : (o : Option ℕ) → refusal l c ≡ o → Agrees n o → Keeps (X (eqb n 0)) (decide o l c)
    go none q h = subst (λ (b : Bool). Keeps (X b) (accept l c)) (sym (eq-eqb n 0 h)) (t q)
    go (some k) q h =
        subst (λ (b : Bool). Keeps (X b) (turned_down k)) (sym (ne_eqb n 0 (λ z. omega (arith, h.0, h.1))))
        (subst (λ (a : Sequencer × Reply). Keeps a (turned_down k)) (sym f) (subst (λ (m : ℕ). Keeps (s, refused_reply m c) (turned_down k)) (sym h.0) (r, same_reply (refused_reply k c))))

-- a call that no refusal names passed every check
passed : (l : Ledger) (c : Call) → refusal l c ≡ none → AllPass (checks l c)
unfolding refusal
passed l c h = all_pass (checks l c) h

not-not : (b : Bool) → T (not (not b)) → T b
not-not true h = tt
not-not false h = h

first_of_lem : (a b : Bool) → T (not (not (a && b))) → T a
first_of_lem true b h = tt
first_of_lem false b h = h

-- ---- a push

module _ (s : Sequencer) (l : Ledger) (kind : PushKind) (start end : Float) (curve : Fade) (fade_in fade_out : Float) (source : Source) (gain : Float) where
  pub keep-push : Lawful l → Related s l → Keeps (gives (pushes kind s start end curve fade_in fade_out source gain) []) (step l (push kind start end fade_in fade_out curve source gain))
  unfolding pushes pushes_to admitted accept checks push_checks
  keep-push w r = by_refusal s l C N X r (push-refused l kind start end fade_in fade_out curve source gain H s.next counts (spent l.next s.next w.positive w.next r.plain.6)) refl carried
    where
      C : Call
      C = push kind start end fade_in fade_out curve source gain

      H : ℕ
      H = min (s.ready_len + (s.active_len + s.past_len)) 256

      N : ℕ
      N = push_refusal start end (stated_end kind start end -ᵈ start) fade_in fade_out source gain H s.next

      counts : leb 256 H ≡ leb 256 (held l)
      counts =
          let q : H ≡ held l = omega (arith, waits-length r.lists.0, holds-length r.lists.1, holds-length r.lists.3, w.events) in
          ap (leb 256) q

      X : Bool → Sequencer × Reply
      X b = gives (cond b (admitted s (pushed_time kind s.time start) (pushed_time kind s.time (stated_end kind start end)) curve fade_in fade_out source gain) (refuses s N)) []

      carried : refusal l C ≡ none → Keeps (X true) (accept l C)
      carried q =
          let p = passed l C q in
          subst
          (λ (t : Float). let o = admitted s (pushed_time kind t start) (pushed_time kind t (stated_end kind start end)) curve fade_in fade_out source gain in Keeps (gives o []) (accept l C))
          (sym r.plain.0)
          (let k = related_admitted s l (pushed_time kind l.clock start) (pushed_time kind l.clock (stated_end kind start end)) curve fade_in fade_out source gain
          (nleb→lt 256 (held l) p.1.1.1.1.0) (nleb→lt (2 ^ 64) l.next p.1.1.1.1.1.0) r in
          (k.0, record { answer = k.1; out = refl; scratch = tt }))

-- ---- an edit

-- what a passed check 9 says
room-left : (a b c d : Bool) → T (not (not a && not b && c && d)) → a ≡ false → b ≡ false → c ≡ true → T (not d)
room-left true b c d h p q o = absurd (true≢false p)
room-left false true c d h p q o = absurd (true≢false q)
room-left false false true d h p q o = h
room-left false false false d h p q o = absurd (true≢false (sym o))

change-replies : (l : Ledger) (k : ℕ) (d : Edit) (a b : Bool) (x : Answer) → x ≡ (change l k d a b).reply.answer → SameReply (Plain.answers x) (change l k d a b).reply
unfolding change
change-replies l k d true b x h = record { answer = h; out = refl; scratch = tt }
change-replies l k d false true x h = record { answer = h; out = refl; scratch = tt }
change-replies l k d false false x h = record { answer = h; out = refl; scratch = tt }

module _ (s : Sequencer) (l : Ledger) (kind : EditKind) (k : ℕ) (end fade_out : Float) where
  abbrev id : EventId
  id = record { 0 = k }

  pub keep-edit : Related s l → Keeps (gives (edits kind s id end fade_out) []) (step l (edit kind k end fade_out))
  unfolding edits amended accept checks edit_checks
  keep-edit r = by_refusal s l C N X r agreed refl carried
    where
      C : Call
      C = edit kind k end fade_out

      N : ℕ
      N = edit_refusal (place_in s id) s.edit_map s.active_threshold id end (edit_end kind s.time end) fade_out

      agreed : Agrees N (refusal l C)
      agreed =
          edit-refused l kind k end fade_out (place_in s id) s.edit_map s.active_threshold (edit_end kind s.time end)
          (index_find id (r.lists.1, r.lists.2)) (edits_find s.edit_map id l.edits r.lists.4) (sym (holds-length r.lists.4))
          r.plain.1 (ap (λ (t : Float). edit_end kind t end) r.plain.0)

      by : Float → Edit
      by t = record { end_time = edit_end kind t end; fade_out = fade_out }

      X : Bool → Sequencer × Reply
      X b = gives (cond b (changed s id (by s.time)) (refuses s N)) []

      sounds : Bool
      sounds = has k l.sounding

      over : Bool
      over = edit_end kind l.clock end <ᶠ l.threshold

      carried : refusal l C ≡ none → Keeps (X true) (accept l C)
      carried q =
          let p = passed l C q in
          let c = related_change s l id (by l.clock)
          (λ a b o. nleb→lt 256 (length l.edits) (room-left sounds over (missing (edit_of k l.edits)) (leb 256 (length l.edits)) p.1.0 a b (ap missing o))) r in
          subst (λ (t : Float). Keeps (gives (changed s id (by t)) []) (change l k (by l.clock) sounds over)) (sym r.plain.0)
          (c.0, change-replies l k (by l.clock) sounds over (answer_of (changed s id (by l.clock)).answer) c.1)

-- ---- a tick

module _ (s : Sequencer) (l : Ledger) (order : MixOrder) (pool out : List Float) where
  pub keep_tick : Lawful l → Related s l → Keeps (gives (ticks order pool (length out) s) (tick_outs order pool s out)) (step l (tick order pool out))
  unfolding ticks tick_outs rendered_tick rendered_tick_out accept checks Checks.tick_end
  keep_tick w r = by_refusal s l C N X r (tick_refused l order pool out s.outputs s.time s.sample_duration r.plain.4 r.plain.0 r.plain.3) refl carried
    where
      C : Call
      C = tick order pool out

      N : ℕ
      N = tick_refusal (length out) s.outputs s.time s.sample_duration

      X : Bool → Sequencer × Reply
      X b = gives (cond b (accepts (rendered_tick order pool s)) (refuses s N)) (cond b (rendered_tick_out order pool s out) out)

      E : Float
      E = l.clock +ᵈ l.duration

      ends : tick_end s ≡ E
      ends = λ i. r.plain.0 i +ᵈ r.plain.3 i

      Same : (e t : Float) → Type 0
      Same e t =
          let m = advance l E in
          Related (with_sounding (advanced s e) (tick_pass order pool t (advanced s e)).items) (Plain.with_sounding m (tick_sum pool l.clock m.sounding zeroᶠ).events)
          × ((tick_pass order pool t (advanced s e)).sum ≡ (tick_sum pool l.clock (in_order order m.sounding) zeroᶠ).out)

      same : Same (tick_end s) s.time
      same =
          subst (λ (t : Float). Same (tick_end s) t) (sym r.plain.0)
          (subst (λ (e : Float). Same e l.clock) (sym ends) (related_tick order pool l.clock (advanced s E) (advance l E) (related_advance s l E w r)))

      carried : refusal l C ≡ none → Keeps (X true) (accept l C)
      carried q =
          let p = passed l C q in
          let long : length out ≡ l.channels = eqb→eq (length out) l.channels (not-not (eqb (length out) l.channels) p.0) in
          (same.0, record { answer = refl; out = ap (replicate (length out)) same.1 ∙ ap (λ (c : ℕ). replicate c (tick_sum pool l.clock (in_order order (advance l E).sounding) zeroᶠ).out) long; scratch = tt })

-- ---- a block, which is lent no scratch

module _ (s : Sequencer) (l : Ledger) (order : MixOrder) (n : ℕ) (pool out : List Float) where
  pub keep-block : Lawful l → Related s l → Keeps (gives (blocks order pool n (length out) s) (block_outs order pool n s out)) (step l (block order n pool out none))
  unfolding blocks block_outs rendered_block rendered_places rendered_block_out accept checks Checks.block_end
  keep-block w r = by_refusal s l C N X r (block_refused l order n pool out s.outputs s.time s.sample_duration r.plain.4 r.plain.0 r.plain.3) refl carried
    where
      C : Call
      C = block order n pool out none

      N : ℕ
      N = process_refusal n (length out) s.outputs s.time s.sample_duration

      X : Bool → Sequencer × Reply
      X b = gives (cond b (renders (rendered_block order pool n s) (rendered_places order n s)) (refuses s N)) (cond b (rendered_block_out order pool n s out) out)

      E : Float
      E = l.clock +ᵈ l.duration ×ᵈ whole n

      ends : block_end s n ≡ E
      ends = λ i. r.plain.0 i +ᵈ r.plain.3 i ×ᵈ whole n

      spans : n ≤ 64 → span_of s n ≡ Plain.span_of l n
      spans h =
          let size : min 64 n ≡ n = omega arith in
          λ i. record { size = size i; clock = r.plain.0 i; upto = ends i; rate = r.plain.2 i; duration = r.plain.3 i }

      Sum : List Event → BlockSum
      Sum x = block_sum pool (Plain.span_of l n) x (cleared n) []

      channel : List Float
      channel = (Sum (in_order order (advance l E).sounding)).channel

      Same : Float → Span → Type 0
      Same e b =
          Related (with_sounding (advanced s e) (block_pass order pool b n (advanced s e)).items) (Plain.with_sounding (advance l E) (Sum (advance l E).sounding).events)
          × (take 64 (block_pass order pool b n (advanced s e)).sum ≡ channel)
          × ((places_pass order b (advanced s e)).sum ≡ tally (placings (Plain.span_of l n) (advance l E).sounding))

      same : n ≤ 64 → Same (block_end s n) (span_of s n)
      same h =
          subst (λ (b : Span). Same (block_end s n) b) (sym (spans h))
          (subst (λ (e : Float). Same e (Plain.span_of l n)) (sym ends)
          (let a = related_advance s l E w r in
          let k = related_block order pool (Plain.span_of l n) n (advanced s E) (advance l E) h a in
          (k.0, k.1, related_places order (Plain.span_of l n) (advanced s E) (advance l E) a)))

      carried : refusal l C ≡ none → Keeps (X true) (accept l C)
      carried q =
          let p = passed l C q in
          let long : length out ≡ 64 * l.channels = eqb→eq (length out) (64 * l.channels) (first_of_lem (eqb (length out) (64 * l.channels)) true p.0) in
          let rows : length out / 64 ≡ l.channels = omega arith in
          let k = same (nltb→le 64 n p.1.0) in
          (k.0, record { answer = ap rendered k.2; out = ap (λ (x : List Float). overlay (length out / 64) x out) k.1 ∙ ap (λ (c : ℕ). overlay c channel out) rows; scratch = tt })

-- ---- a rate and a reset

pub keep-rate : (s : Sequencer) (l : Ledger) (r : Float) → Lawful l → Related s l → Keeps (gives (rates s r) []) (step l (rate r))
unfolding rates accept
keep-rate s l r w h =
    by_refusal s l (rate r) (rate_refusal r) (λ b. gives (cond b (accepts (re_rated s r)) (refuses s (rate_refusal r))) []) h (rate-refused l r) refl
    (λ q. (related_rate s l r w h, same_reply (Plain.answers done)))

pub keep-reset : (s : Sequencer) (l : Ledger) → Lawful l → Related s l → Keeps (gives (accepts (resets s)) []) (step l reset)
unfolding step refusal checks first_of decide accept
keep-reset s l w r = (related_reset s l w r, same_reply (Plain.answers done))

-- ---- every call, blocks being lent no scratch

pub keep : (s : Sequencer) (l : Ledger) (c : Call) → Lends false c → Lawful l → Related s l → Keeps (engine_call s c) (step l c)
keep s l (push kind start end fade_in fade_out curve source gain) h w r = keep-push s l kind start end curve fade_in fade_out source gain w r
keep s l (edit kind k end fade_out) h w r = keep-edit s l kind k end fade_out r
keep s l (tick order pool out) h w r = keep_tick s l order pool out w r
keep s l (block order n pool out none) h w r = keep-block s l order n pool out w r
keep s l (block order n pool out (some x)) h w r = absurd (true≢false h)
keep s l (rate x) h w r = keep-rate s l x w r
keep s l reset h w r = keep-reset s l w r

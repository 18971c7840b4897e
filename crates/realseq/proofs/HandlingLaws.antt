-- Laws of the handling of messages.
use Rattle.std.specs.Prelude.{◌≡◌, ℕ, zero, suc, ◌-◌, ◌<◌, Bool, true, false, cond, List, slice_index_or, refl}
use Rattle.std.proofs.Common.{sym, ◌∙◌, inl, inr, ⊎_elim}
use Rattle.std.proofs.Math.Path.{ap}
use native.Mathlib.Omega.{arith}
use Rattle.event.specs.declared.Event.{Event}
use Rattle.event.specs.Blank.{blank}
use Rattle.ready.specs.declared.Ready.{Ready}
use Rattle.ready.specs.Waiting as Waiting
use Rattle.sequencer.specs.declared.Sequencer.{Sequencer}
use Rattle.realseq.specs.declared.SequencerBackend.{SequencerBackend}
use Rattle.realseq.specs.declared.queues.Message.{Message}
use Rattle.realseq.specs.declared.queues.Message.TheVariants.{Reset, Push, PushRelative, Edit, EditRelative}
use Rattle.realseq.specs.declared.queues.Messages.{Messages}
use Rattle.realseq.specs.declared.queues.Returned.{Returned}
use Rattle.realseq.specs.Queues.{is_reset, peeked, popped, sent}
use Rattle.realseq.specs.Handling.{acted, sent_down, sent_ready, restarted, stepped, handled, drained, reset, taken, handled_until, until_reset}
use Rattle.realseq.specs.QueueLaws.{popped_count, popped_slots}
use Rattle.realseq.specs.HandlingLaws.{Settled}

-- ---- none is queued

kept : (b : Bool) (d : SequencerBackend) → (cond b (restarted d) d).messages ≡ d.messages
unfolding restarted
kept true d = refl
kept false d = refl

-- once the messages are handled, none is queued
pub handled-empty : (n : ℕ) (d : SequencerBackend) → d.messages.count ≡ n → (handled n d).messages.count ≡ 0
unfolding handled
handled-empty zero d h = h
handled-empty (suc n) d h =
    ap (λ (q : Messages). q.count) (kept (is_reset (peeked d.messages)) (handled n (stepped d))) ∙ handled-empty n (stepped d) (popped_count d.messages ∙ omega arith)

pub drained-empty : (d : SequencerBackend) → (drained d).messages.count ≡ 0
unfolding drained
drained-empty d = handled-empty d.messages.count d refl

-- the slots stay as they are
pub handled_slots : (n : ℕ) (d : SequencerBackend) → (handled n d).messages.slots ≡ d.messages.slots
unfolding handled
handled_slots zero d = refl
handled_slots (suc n) d =
    ap (λ (q : Messages). q.slots) (kept (is_reset (peeked d.messages)) (handled n (stepped d))) ∙ handled_slots n (stepped d) ∙ popped_slots d.messages

pub drained-none : (d : SequencerBackend) → d.messages.count ≡ 0 → drained d ≡ d
unfolding drained handled
drained-none d h = ap (λ (n : ℕ). handled n d) h

pub until_none : (d : SequencerBackend) → d.messages.count ≡ 0 → until_reset d ≡ d
unfolding until_reset handled_until
until_none d h = ap (λ (n : ℕ). handled_until n d) h

-- ---- the first message

pub acted-reset : (m : Message) (s : Sequencer) → is_reset m ≡ true → acted m s ≡ s
unfolding acted
acted-reset Reset s h = refl
acted-reset (Push e) s h = cc
acted-reset (PushRelative e) s h = cc
acted-reset (Edit k x) s h = cc
acted-reset (EditRelative k x) s h = cc

pub handled_suc : (n : ℕ) (d : SequencerBackend) → handled (suc n) d ≡ cond (is_reset (peeked d.messages)) (restarted (handled n (stepped d))) (handled n (stepped d))
unfolding handled
handled_suc n d = refl

one_until : (n : ℕ) (d : SequencerBackend) → handled_until (suc n) d ≡ cond (is_reset (peeked d.messages)) d (handled_until n (stepped d))
unfolding handled_until
one_until n d = refl

module _ (d : SequencerBackend) (some : d.messages.count ≡ 0 → ⊥) where
  less : (popped d.messages).count < d.messages.count
  less = omega (arith, popped_count d.messages)

  pub first_off : drained d ≡ cond (is_reset (peeked d.messages)) (restarted (drained (stepped d))) (drained (stepped d))
  unfolding drained
  first_off =
      let n = d.messages.count - 1 in
      let e : d.messages.count ≡ suc n = omega arith in
      ap (λ (k : ℕ). handled k d) e ∙ handled_suc n d
      ∙ ap (λ (k : ℕ). cond (is_reset (peeked d.messages)) (restarted (handled k (stepped d))) (handled k (stepped d))) (sym (popped_count d.messages))

  first_until : until_reset d ≡ cond (is_reset (peeked d.messages)) d (until_reset (stepped d))
  unfolding until_reset
  first_until =
      let n = d.messages.count - 1 in
      let e : d.messages.count ≡ suc n = omega arith in
      ap (λ (k : ℕ). handled_until k d) e ∙ one_until n d
      ∙ ap (λ (k : ℕ). cond (is_reset (peeked d.messages)) d (handled_until k (stepped d))) (sym (popped_count d.messages))

  pub until_stop : is_reset (peeked d.messages) ≡ true → until_reset d ≡ d
  until_stop h = first_until ∙ ap (λ (b : Bool). cond b d (until_reset (stepped d))) h

  pub until_on : (m : Message) (q : Messages) (s : Sequencer) → m ≡ peeked d.messages → is_reset m ≡ false → q ≡ popped d.messages → s ≡ acted m d.sequencer
      → (q.count < d.messages.count) × (until_reset (record { sequencer = s; messages = q; returned = d.returned }) ≡ until_reset d)
  until_on m q s is k off h = (
    omega (arith, less, ap (λ (x : Messages). x.count) off),
    ap (λ (t : Sequencer). until_reset (record { sequencer = t; messages = q; returned = d.returned })) (h ∙ ap (λ (x : Message). acted x d.sequencer) is)
        ∙ ap (λ (x : Messages). until_reset (record { sequencer = acted (peeked d.messages) d.sequencer; messages = x; returned = d.returned })) off
        ∙ sym (first_until ∙ ap (λ (b : Bool). cond b d (until_reset (stepped d))) (ap is_reset (sym is) ∙ k)),
  )

  -- a reset is first: it acts when the others are handled
  pub drained-reset : is_reset (peeked d.messages) ≡ true → drained d ≡ reset (taken d)
  unfolding reset taken
  drained-reset h = first_off ∙ ap (λ (b : Bool). cond b (restarted (drained (stepped d))) (drained (stepped d))) h
      ∙ ap (λ (s : Sequencer). restarted (drained (record { sequencer = s; messages = popped d.messages; returned = d.returned }))) (acted-reset (peeked d.messages) d.sequencer h)

settled : (n : ℕ) (d : SequencerBackend) → d.messages.count ≡ n → Settled d (handled_until n d)
unfolding handled_until
settled zero d h = record { same = refl; less = omega arith; stops = inl h }
settled (suc n) d h = go (is_reset (peeked d.messages)) refl (settled n (stepped d) (popped_count d.messages ∙ omega arith))
  where
    go : (b : Bool) → is_reset (peeked d.messages) ≡ b → Settled (stepped d) (handled_until n (stepped d)) → Settled d (cond b d (handled_until n (stepped d)))
    go true e s = record { same = refl; less = omega arith; stops = inr e }
    go false e s = record {
      same = s.same ∙ sym (first_off d (λ z. omega arith) ∙ ap (λ (b : Bool). cond b (restarted (drained (stepped d))) (drained (stepped d))) e);
      less = omega (arith, s.less, popped_count d.messages);
      stops = s.stops;
    }

pub until_settled : (d : SequencerBackend) → Settled d (until_reset d)
unfolding until_reset
until_settled d = settled d.messages.count d refl

pub taken-less : (d : SequencerBackend) → 0 < d.messages.count → (taken d).messages.count < d.messages.count
unfolding taken
taken-less d h = less d (λ z. omega arith)

-- a message is first after all up to a reset, so it is one
pub settled-reset : (d r : SequencerBackend) → Settled d r → 0 < r.messages.count → reset (taken r) ≡ drained d
settled-reset d r s h = ⊎_elim (λ z. absurd (omega arith)) (λ e. sym (drained-reset r (λ z. omega arith) e) ∙ s.same) s.stops

-- ---- numbers sent back, one by one

down : (n : ℕ) (xs : List Event) (r : Returned) → sent_down (suc n) xs r ≡ sent_down n xs (sent r (slice_index_or xs n blank).id)
unfolding sent_down
down n xs r = refl

pub down-same : (i j : ℕ) (xs : List Event) (r : Returned) → i ≡ j → sent_down i xs r ≡ sent_down j xs r
down-same i j xs r h = ap (λ (k : ℕ). sent_down k xs r) h

pub down_on : (i : ℕ) (xs : List Event) (r q : Returned) → 0 < i → q ≡ sent r (slice_index_or xs (i - 1) blank).id → sent_down (i - 1) xs q ≡ sent_down i xs r
down_on i xs r q h g =
    let e : i ≡ suc (i - 1) = omega arith in
    ap (λ (x : Returned). sent_down (i - 1) xs x) g ∙ sym (down-same i (suc (i - 1)) xs r e ∙ down (i - 1) xs r)

pub down-none : (i : ℕ) (xs : List Event) (r : Returned) → i ≡ 0 → sent_down i xs r ≡ r
unfolding sent_down
down-none i xs r h = ap (λ (k : ℕ). sent_down k xs r) h

in_order : (n : ℕ) (w : Ready) (r : Returned) → sent_ready (suc n) w r ≡ sent_ready n (Waiting.popped w) (sent r (Waiting.peeked w).id)
unfolding sent_ready
in_order n w r = refl

pub ready_same : (i j : ℕ) (w : Ready) (r : Returned) → i ≡ j → sent_ready i w r ≡ sent_ready j w r
ready_same i j w r h = ap (λ (k : ℕ). sent_ready k w r) h

pub ready_on : (i : ℕ) (w v : Ready) (r q : Returned) (x : Event) → 0 < i → x ≡ Waiting.peeked w → q ≡ sent r x.id → v ≡ Waiting.popped w → sent_ready (i - 1) v q ≡ sent_ready i w r
ready_on i w v r q x h is g p =
    let e : i ≡ suc (i - 1) = omega arith in
    ap (λ (y : Ready). sent_ready (i - 1) y q) p ∙ ap (λ (y : Returned). sent_ready (i - 1) (Waiting.popped w) y) (g ∙ ap (λ (y : Event). sent r y.id) is)
    ∙ sym (ready_same i (suc (i - 1)) w r e ∙ in_order (i - 1) w r)

pub ready_none : (i : ℕ) (w : Ready) (r : Returned) → i ≡ 0 → sent_ready i w r ≡ r
unfolding sent_ready
ready_none i w r h = ap (λ (k : ℕ). sent_ready k w r) h

-- What the ledger does to its clock, rate and channels, and how many samples it gives, follows from its clock, rate and channels alone. Assumes nothing.
use Rattle.std.specs.Prelude.{◌≡◌, ℕ, ◌*◌, ◌/◌, ◌%◌, ◌≤◌, Bool, true, false, cond, not, ◌&&◌, List, [], ◌∷◌, length, replicate, ◌==◌, nat_lt, refl, Float}
use Rattle.std.proofs.Math.Path.{sym}
use Rattle.std.proofs.Common.{ap, ◌∙◌, subst, ltb-false, eq-eqb}
use Rattle.std.proofs.Math.Option.{Option, none, some}
use native.Mathlib.Omega.{arith}
use Rattle.std.proofs.lemmas.List.{length-replicate}
use Rattle.event.specs.declared.Edit as Event-edit
use Rattle.event.specs.declared.MixOrder.TheVariants.{Forward}
use Rattle.event.specs.declared.ReplayMode.{ReplayMode}
use Rattle.event.specs.declared.ReplayMode.TheVariants.{All, None}
use Rattle.floats.specs.Arithmetic.{◌≈ᶠ◌, ◌≤ᶠ◌, ◌<ᶠ◌, zeroᶠ, oneᶠ, whole}
use Rattle.ledger.specs.Calls as Calls
use Rattle.ledger.specs.Calls.{PushKind, EditKind, absolute, relative, by_duration, absolute_end, relative_end, tick, block, rate, reset, done, refused}
use Rattle.ledger.specs.Lists.{has}
use Rattle.ledger.specs.BlockSamples.{overlay}
use Rattle.ledger.specs.Ledger.{Ledger, Created, fresh, create}
use Rattle.ledger.specs.Refusals.{Check, refuses, first_of, checks, push_checks, edit_checks, refusal, edit_end, tick_end, block_end}
use Rattle.ledger.specs.Steps.{Outcome, step, decide, accept, enter, change, advance, set_rate, restart}
use Rattle.refusals.specs.Refusals.{tick_refusal, process_refusal, rate_refusal}
use Rattle.tape.specs.declared.reader.Call.{Call}
use Rattle.tape.specs.declared.reader.Call.TheVariants.{Create, Push, PushRelative, PushDuration, Edit, EditRelative, Tick, Process, Reset, SetSampleRate}
use Rattle.tape.specs.declared.reader.PushRecord.{PushRecord}
use Rattle.tape.specs.declared.reader.EditRecord.{EditRecord}
use Rattle.record_output.specs.Rows.{length-overlay}
use Rattle.record_output.specs.Bytes.{bytes_of, length_bytes, channels_of, length_channels}
use Rattle.tape_extent.specs.declared.Pace.{Pace}
use Rattle.apply.specs.RecordCalls.{refusal_of, push_call, edit_call}
use Rattle.tape_extent.specs.Playing.{silent, heard, play}
use Rattle.tape_extent.specs.Extents.{frames_in}
use Rattle.tape_extent.specs.Paces.{fresh_pace, at, soundless, rendering, creates, with_rate, paced}
use Rattle.tape_extent.specs.PacesPlay.{pace_of, Agrees, summed, length-summed}

-- ---- a call without samples

-- no check of a push, edit, tick, block or rate has the number 1
abbrev Other : Option ℕ → Type 0
Other none = Unit {0}
Other (some k) = (k == 1) ≡ false

abbrev Others : List Check → Type 0
Others [] = Unit {0}
Others (refuses k b ∷ l) = ((k == 1) ≡ false) × Others l

other : (l : List Check) → Others l → Other (first_of l)
unfolding first_of
other [] h = tt
other (refuses k true ∷ l) h = h.0
other (refuses k false ∷ l) h = other l h.1

abbrev edit_of : Ledger → EditKind → EditRecord → Event-edit.Edit
edit_of l kind p = record { end_time = edit_end kind l.clock p.end_time; fade_out = p.fade_out }

change_pace : (l : Ledger) (k : ℕ) (d : Event-edit.Edit) (a b : Bool) → pace_of (change l k d a b).ledger ≡ pace_of l
unfolding change
change_pace l k d true b = refl
change_pace l k d false true = refl
change_pace l k d false false = refl

no_frames : (call : Call) (b : Bool) → frames_in call ≡ 0 → cond b (frames_in call) 0 ≡ 0
no_frames call true h = h
no_frames call false h = refl

-- a call that gives no frames, and leaves the pace q
module _ (call : Call) (l : Ledger) (c : Calls.Call) (q : Pace) where
  quiet : frames_in call ≡ 0 → q ≡ pace_of (step l c).ledger → (refusal_of (step l c).reply.answer == 1) ≡ false → Agrees call (silent (step l c)) (soundless q)
  unfolding bytes_of
  quiet none-given same not-1 =
      record { pace = same; refused = sym not-1; frames = sym (no_frames call (refusal_of (step l c).reply.answer == 0) none-given); bytes = omega arith }

push_pace : (l : Ledger) (kind : PushKind) (p : PushRecord) → pace_of l ≡ pace_of (step l (push_call kind p)).ledger
unfolding step decide accept enter
push_pace l kind p = go (refusal l (push_call kind p))
  where
    go : (o : Option ℕ) → pace_of l ≡ pace_of (decide o l (push_call kind p)).ledger
    go none = refl
    go (some k) = refl

push-not-1 : (l : Ledger) (kind : PushKind) (p : PushRecord) → (refusal_of (step l (push_call kind p)).reply.answer == 1) ≡ false
unfolding step decide accept refusal checks push_checks
push-not-1 l kind p =
    go (refusal l (push_call kind p)) (other (checks l (push_call kind p)) (refl, (refl, (refl, (refl, (refl, (refl, tt)))))))
  where
    go : (o : Option ℕ) → Other o → (refusal_of (decide o l (push_call kind p)).reply.answer == 1) ≡ false
    go none h = refl
    go (some k) h = h

edit_pace : (l : Ledger) (kind : EditKind) (p : EditRecord) → pace_of l ≡ pace_of (step l (edit_call kind p)).ledger
unfolding step decide accept
edit_pace l kind p = go (refusal l (edit_call kind p))
  where
    go : (o : Option ℕ) → pace_of l ≡ pace_of (decide o l (edit_call kind p)).ledger
    go none = sym (change_pace l p.id.0 (edit_of l kind p) (has p.id.0 l.sounding) ((edit_of l kind p).end_time <ᶠ l.threshold))
    go (some k) = refl

change-not-1 : (l : Ledger) (k : ℕ) (d : Event-edit.Edit) (a b : Bool) → (refusal_of (change l k d a b).reply.answer == 1) ≡ false
unfolding change
change-not-1 l k d true b = refl
change-not-1 l k d false true = refl
change-not-1 l k d false false = refl

edit-not-1 : (l : Ledger) (kind : EditKind) (p : EditRecord) → (refusal_of (step l (edit_call kind p)).reply.answer == 1) ≡ false
unfolding step decide accept refusal checks edit_checks
edit-not-1 l kind p = go (refusal l (edit_call kind p)) (other (checks l (edit_call kind p)) (refl, (refl, tt)))
  where
    go : (o : Option ℕ) → Other o → (refusal_of (decide o l (edit_call kind p)).reply.answer == 1) ≡ false
    go none h = change-not-1 l p.id.0 (edit_of l kind p) (has p.id.0 l.sounding) ((edit_of l kind p).end_time <ᶠ l.threshold)
    go (some k) h = h

-- ---- a creation, a reset and a rate

create-plays : (pool : List Float) (l : Ledger) (k : ℕ) (m : ReplayMode) (first : ℕ) → Agrees (Create k m first) (play pool l (Create k m first)) (paced (pace_of l) (Create k m first))
unfolding play create fresh paced fresh_pace bytes_of
create-plays pool l k m first = go (creates k first)
  where
    made : Bool → Created
    made b = elim b [ true ↦ record { ledger = fresh k m first; answer = done } | false ↦ record { ledger = fresh 1 All 1; answer = refused 1 } ]

    go : (b : Bool) → Agrees (Create k m first) (record { ledger = (made b).ledger; refusal = refusal_of (made b).answer; samples = [] }) (cond b (soundless (fresh_pace k)) (record { pace = fresh_pace 1; refused = true; frames = 0 }))
    go true = record { pace = refl; refused = refl; frames = refl; bytes = omega arith }
    go false = record { pace = refl; refused = refl; frames = refl; bytes = omega arith }

restart_pace : (l : Ledger) (m : ReplayMode) → at (pace_of l) zeroᶠ ≡ pace_of (restart l m)
unfolding restart
restart_pace l All = refl
restart_pace l None = refl

reset-plays : (pool : List Float) (l : Ledger) → Agrees Reset (play pool l Reset) (paced (pace_of l) Reset)
unfolding play paced step refusal checks first_of decide accept bytes_of
reset-plays pool l = record { pace = restart_pace l l.mode; refused = refl; frames = refl; bytes = omega arith }

rate_pace : (l : Ledger) (r : Float) (b : Bool) → cond b (soundless (pace_of l)) (soundless (with_rate (pace_of l) r)) ≡ soundless (pace_of (set_rate l r b))
unfolding set_rate
rate_pace l r true = refl
rate_pace l r false = refl

rate-plays : (pool : List Float) (l : Ledger) (r : Float) → Agrees (SetSampleRate r) (play pool l (SetSampleRate r)) (paced (pace_of l) (SetSampleRate r))
unfolding play paced rate_refusal step refusal checks first_of decide accept bytes_of
rate-plays pool l r = go (not (oneᶠ ≤ᶠ r && r ≤ᶠ whole 1_000_000))
  where
    given : Bool → Outcome
    given x = decide (first_of (refuses 2 x ∷ [])) l (rate r)

    go : (x : Bool) → Agrees (SetSampleRate r) (silent (given x)) (cond (cond x 2 0 == 0) (cond (l.rate ≈ᶠ r) (soundless (pace_of l)) (soundless (with_rate (pace_of l) r))) (soundless (pace_of l)))
    go true = record { pace = refl; refused = refl; frames = refl; bytes = omega arith }
    go false =
        subst (Agrees (SetSampleRate r) (silent (given false))) (sym (rate_pace l r (l.rate ≈ᶠ r)))
        (record { pace = refl; refused = refl; frames = refl; bytes = omega arith })

-- ---- a tick

tick_plays : (pool : List Float) (l : Ledger) → Agrees Tick (play pool l Tick) (paced (pace_of l) Tick)
unfolding play heard paced tick_refusal step refusal checks first_of decide accept advance tick_end bytes_of
tick_plays pool l =
    rw (eq-eqb (length lent) k (length-replicate k zeroᶠ), eq-eqb k k refl) (go (not (tick_end l ≤ᶠ whole 1_000_000_000)))
  where
    k : ℕ
    k = l.channels

    lent : List Float
    lent = replicate k zeroᶠ

    given : Bool → Outcome
    given y = decide (first_of (refuses 12 y ∷ [])) l (tick Forward pool lent)

    go : (y : Bool) → Agrees Tick (heard k 1 1 (given y)) (rendering (pace_of l) 1 (cond y 12 0) (tick_end l))
    go true = record { pace = refl; refused = refl; frames = refl; bytes = omega arith }
    go false =
        let out : List Float = (given false).reply.out in
        let long : length out ≡ k = length-replicate k _ in
        record {
          pace = refl;
          refused = refl;
          frames = refl;
          bytes = sym (length_bytes (channels_of k 1 1 out) ∙ ap (λ (n : ℕ). 4 * n) (length_channels k 1 1 out (omega arith) (omega arith)));
        }

-- ---- a block

block-plays : (pool : List Float) (l : Ledger) (n : ℕ) → Agrees (Process n) (play pool l (Process n)) (paced (pace_of l) (Process n))
unfolding play heard paced process_refusal step refusal checks first_of decide accept advance block_end bytes_of summed
block-plays pool l n =
    let z : 64 * k % 64 ≡ 0 = omega arith in
    let w : 64 * k / 64 ≡ k = omega arith in
    rw (eq-eqb (length lent) (64 * k) (length-replicate (64 * k) zeroᶠ), eq-eqb (64 * k % 64) 0 z, eq-eqb (64 * k / 64) k w)
    (go (nat_lt 64 n) refl (not (block_end l n ≤ᶠ whole 1_000_000_000)))
  where
    k : ℕ
    k = l.channels

    lent : List Float
    lent = replicate (64 * k) zeroᶠ

    given : (x y : Bool) → Outcome
    given x y = decide (first_of (refuses 11 x ∷ refuses 12 y ∷ [])) l (block Forward n pool lent none)

    go : (x : Bool) → nat_lt 64 n ≡ x → (y : Bool) → Agrees (Process n) (heard k n 64 (given x y)) (rendering (pace_of l) n (cond x 11 (cond y 12 0)) (block_end l n))
    go true e y = record { pace = refl; refused = refl; frames = refl; bytes = omega arith }
    go false e true = record { pace = refl; refused = refl; frames = refl; bytes = omega arith }
    go false e false =
        let size : n ≤ 64 = ltb-false 64 n e in
        let run : List Float = summed l n pool in
        let of-run = length-summed l n pool in
        let short : length run ≤ 64 = omega arith in
        let of-lent = length-replicate (64 * k) zeroᶠ in
        let out : List Float = overlay k run lent in
        let long : length out ≡ length lent = length-overlay run short k lent (omega arith) in
        record {
          pace = refl;
          refused = refl;
          frames = refl;
          bytes = sym (length_bytes (channels_of k n 64 out) ∙ ap (λ (j : ℕ). 4 * j) (length_channels k n 64 out size (omega arith)));
        }

-- ---- every record

pub plays : (pool : List Float) (l : Ledger) (call : Call) → Agrees call (play pool l call) (paced (pace_of l) call)
unfolding play paced
plays pool l (Create k m first) = create-plays pool l k m first
plays pool l (Push p) = quiet (Push p) l (push_call absolute p) (pace_of l) refl (push_pace l absolute p) (push-not-1 l absolute p)
plays pool l (PushRelative p) = quiet (PushRelative p) l (push_call relative p) (pace_of l) refl (push_pace l relative p) (push-not-1 l relative p)
plays pool l (PushDuration p) = quiet (PushDuration p) l (push_call by_duration p) (pace_of l) refl (push_pace l by_duration p) (push-not-1 l by_duration p)
plays pool l (Edit p) = quiet (Edit p) l (edit_call absolute_end p) (pace_of l) refl (edit_pace l absolute_end p) (edit-not-1 l absolute_end p)
plays pool l (EditRelative p) = quiet (EditRelative p) l (edit_call relative_end p) (pace_of l) refl (edit_pace l relative_end p) (edit-not-1 l relative_end p)
plays pool l Tick = tick_plays pool l
plays pool l (Process n) = block-plays pool l n
plays pool l Reset = reset-plays pool l
plays pool l (SetSampleRate r) = rate-plays pool l r

-- A tick or a block before it sounds, which lets go, starts and finishes events: the engine's and the ledger's. Assumes nothing.
use Rattle.std.specs.Prelude.{◌≡◌, refl, List, [], ◌++◌, ℕ, ◌+◌, ◌≤◌, Float, length}
use Rattle.std.proofs.Common.{sym, ap, ◌∙◌, subst, append-nil, arith, length-append}
use Rattle.event.specs.declared.Event.{Event}
use Rattle.event.specs.declared.StoredEdit.{StoredEdit}
use Rattle.event.specs.declared.ReplayMode.{ReplayMode}
use Rattle.event.specs.declared.ReplayMode.TheVariants.{All, None}
use Rattle.floats.specs.Arithmetic.{◌+ᵈ◌, ◌-ᵈ◌, ◌×ᵈ◌, halfᶠ}
use Rattle.ledger.specs.Lists.{numbers, start, Started}
use Rattle.ledger.specs.Ledger.{Ledger}
use Rattle.ledger.specs.Steps.{with_lists, stays, leaves, advance}
use Rattle.ledger.proofs.Sums.{number_sum_one, number_sum_numbers, event_sum_one, event_sum_start}
use Rattle.ledger.proofs.Conservation.{event_sum_stays}
use Rattle.ledger.specs.Lawful.{Lawful}
use Rattle.ready.proofs.Waits.{waits-length}
use Rattle.lists.specs.Holds.{holds-length, holds-none}
use Rattle.sequencer.specs.declared.Sequencer.{Sequencer}
use Rattle.sequencer.specs.Parts.{with_times}
use Rattle.sequencer.specs.Moves.{released_past, ready_to_active, active_to_past, advanced}
use Rattle.claim.specs.Related.{Related}
use Rattle.claim.specs.Starts.{start-lists}
use Rattle.claim.specs.Sweeps.{sweep-lists}

-- ---- counts

abbrev one : Float → ℕ → ℕ
one x n = 1

pub numbers-length : (f : List Event) → length (numbers f) ≡ length f
numbers-length f = sym (number_sum_one (numbers f)) ∙ number_sum_numbers (λ n. 1) f ∙ event_sum_one f

start-length : (θ : Float) (w a : List Event) (x : List StoredEdit) → length (start θ w a x).waiting + length (start θ w a x).sounding ≡ length w + length a
start-length θ w a x =
    omega (arith, event_sum_start one θ w a x, event_sum_one w, event_sum_one a, event_sum_one (start θ w a x).waiting, event_sum_one (start θ w a x).sounding)

stays-length : (m : ReplayMode) (f : List Event) → length (stays m f) ≤ length f
stays-length m f = omega (arith, event_sum_stays one m f, event_sum_one f, event_sum_one (stays m f))

-- ---- in mode None the finished are let go; and the new threshold

abbrev begun : Ledger → (θ : Float) → ReplayMode → Ledger
begun l θ m = with_lists l l.waiting l.sounding (stays m l.finished) l.edits l.clock θ (l.gone ++ leaves m l.finished)

related_begin : (s : Sequencer) (l : Ledger) (t' θ : Float) (m : ReplayMode) → t' ≡ θ → Lawful l → Related s l → Related (with_times (released_past s m) (released_past s m).time t') (begun l θ m)
unfolding released_past
related_begin s l t' θ All q w r = record {
  lists = r.lists;
  plain = (r.plain.0, q, r.plain.2, r.plain.3, r.plain.4, r.plain.5, r.plain.6, r.plain.7 ∙ ap length (sym (append-nil l.gone)));
}
related_begin s l t' θ None q w r = record {
  lists = (r.lists.0, r.lists.1, r.lists.2, holds-none s.past r.lists.3.sized, r.lists.4);
  plain = (
    r.plain.0,
    q,
    r.plain.2,
    r.plain.3,
    r.plain.4,
    r.plain.5,
    r.plain.6,
    omega (arith, w.counted, r.plain.7, holds-length r.lists.3, length-append l.gone (numbers l.finished), numbers-length l.finished),
  );
}

-- ---- all of it: what is computed of the engine's clock, threshold and duration is what is computed of the ledger's

pub related_advance : (s : Sequencer) (l : Ledger) (e : Float) → Lawful l → Related s l → Related (advanced s e) (advance l e)
unfolding advanced advance ready_to_active active_to_past
related_advance s l e w r = finish
    (subst (λ (k : ReplayMode). Related (with_times (released_past s k) (released_past s k).time θ') B) (sym r.plain.5)
    (related_begin s l θ' θ l.mode (ap (λ (d : Float). e -ᵈ d ×ᵈ halfᶠ) r.plain.3) w r))
  where
    θ : Float
    θ = e -ᵈ l.duration ×ᵈ halfᶠ

    θ' : Float
    θ' = e -ᵈ s.sample_duration ×ᵈ halfᶠ

    B : Ledger
    B = begun l θ l.mode

    S : Sequencer
    S = with_times (released_past s s.mode) (released_past s s.mode).time θ'

    k : Started
    k = start θ l.waiting l.sounding l.edits

    limit : Float
    limit = l.clock +ᵈ halfᶠ ×ᵈ l.duration

    limit' : Float
    limit' = s.time +ᵈ halfᶠ ×ᵈ s.sample_duration

    same-limit : limit ≡ limit'
    same-limit = sym (ap (λ (t : Float). t +ᵈ halfᶠ ×ᵈ s.sample_duration) r.plain.0 ∙ ap (λ (d : Float). l.clock +ᵈ halfᶠ ×ᵈ d) r.plain.3)

    finish : Related S B → Related (with_times (active_to_past (ready_to_active S) limit') e (active_to_past (ready_to_active S) limit').active_threshold) (advance l e)
    finish n =
        let a =
        start-lists B B.finished B.waiting S.ready_len S B.sounding B.edits (omega (arith, waits-length n.lists.0)) (omega (arith, w.events))
        w.sorted (n.lists, n.plain) in
        let c =
        sweep-lists B limit k.waiting k.edits (ready_to_active S).active_len (length k.sounding) (ready_to_active S) [] k.sounding B.finished
        (omega (arith, holds-length a.0.1)) (omega arith)
        (omega (arith, start-length θ l.waiting l.sounding l.edits, stays-length l.mode l.finished, w.events)) a.0 a.1 in
        subst (λ (x : Float). Related (with_times (active_to_past (ready_to_active S) x) e (active_to_past (ready_to_active S) x).active_threshold) (advance l e)) same-limit
        (record { lists = c.0; plain = (refl, c.1.1, c.1.2, c.1.3, c.1.4, c.1.5, c.1.6, c.1.7) })

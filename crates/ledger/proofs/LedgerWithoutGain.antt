-- The plain ledger without gain, as document 01 has it: ticks and blocks by `WithoutGain`, every other call as it is. On any list of calls whose gains are all 1.0 the ledger is this one: answers, samples and states. Assumes nothing.
use Rattle.std.specs.Prelude.{ℕ, zero, suc, ◌-◌, ◌≡◌, refl, Bool, true, false, cond, ltb, eqb, length, Float}
use Rattle.std.proofs.Common.{ap, ap₂, ◌∙◌, subst}
use mathlib.Core.List.{List, [], ◌∷◌, ◌++◌, map, reverse_aux}
use Rattle.std.proofs.Math.Option.{Option, none, some}
use Rattle.std.specs.Float.Ieee.{lt, le}
use Rattle.event.specs.declared.Event.{Event}
use Rattle.event.specs.declared.Edit.{Edit}
use Rattle.event.specs.declared.StoredEdit.{StoredEdit}
use Rattle.event.specs.declared.MixOrder.{MixOrder}
use Rattle.event.specs.declared.MixOrder.TheVariants.{Forward, Backward}
use Rattle.event.specs.declared.ReplayMode.{ReplayMode}
use Rattle.event.specs.declared.ReplayMode.TheVariants.{All, None}
use Rattle.event.specs.declared.Source.{Source}
use Rattle.event.specs.declared.Source.TheVariants.{Held, Ramp, Clip}
use Rattle.event.specs.declared.Unit as Declared
use Rattle.event.specs.Events.{number_of, earlier, new_event, rewound, with_unit}
use Rattle.event.specs.Sources.{steps, first_value, advanced, advanced_by}
use Rattle.floats.specs.Arithmetic.{◌+ᵈ◌, ◌-ᵈ◌, ◌×ᵈ◌, ◌<ᶠ◌, ◌≈ᶠ◌, zeroᶠ, halfᶠ}
use Rattle.ledger.specs.Calls.{Call, push, edit, tick, block, rate, reset}
use Rattle.ledger.specs.Lists.{insert, insert_all, has, edit_of, drop_edit, with_edit, edit_in, start, last_of, but_last, last_first, sweep}
use Rattle.ledger.specs.Ledger.{Ledger, fresh}
use Rattle.ledger.specs.Refusals.{refusal, stated_end, edit_end, tick_end, block_end}
use Rattle.ledger.specs.Steps as Gained
use Rattle.ledger.specs.Steps.{Outcome, Run, refused_reply, pushed_time, enter, change, stays, advance, with_sounding, in_order, span_of, cleared, block_places, everything, set_rate, restart}
use Rattle.ledger.specs.TickSamples as Tick
use Rattle.ledger.specs.TickSamples.{TickSum}
use Rattle.ledger.specs.BlockSamples as Block
use Rattle.ledger.specs.BlockSamples.{Span, BlockSum, first_place, end_place, after_block, overlay, overlay_scratch}
use Rattle.ledger.specs.WithoutGain.{Single, AtOne, AllAtOne}
use Rattle.ledger.proofs.WithoutGain.{advanced-single, gains_of_one}
use Rattle.ledger.specs.LedgerWithoutGain.{ticked, blocked, accept, decide, step, run, CallAtOne, CallsAtOne, HeldAtOne}

append-at-one : (a b : List Event) → AllAtOne a → AllAtOne b → AllAtOne (a ++ b)
append-at-one [] b p q = q
append-at-one (e ∷ a) b p q = (p.0, append-at-one a b p.1 q)

reverse-at-one : (a r : List Event) → AllAtOne a → AllAtOne r → AllAtOne (reverse_aux a r)
reverse-at-one [] r p q = q
reverse-at-one (e ∷ a) r p q = reverse-at-one a (e ∷ r) p.1 (p.0, q)

order_at-one : (o : MixOrder) (s : List Event) → AllAtOne s → AllAtOne (in_order o s)
order_at-one Forward s p = p
order_at-one Backward s p = reverse-at-one s [] p tt

insert-at-one : (e : Event) (w : List Event) → AtOne e → AllAtOne w → AllAtOne (insert e w)
unfolding insert
insert-at-one e [] p q = (p, tt)
insert-at-one e (f ∷ w) p q = go (earlier e f) refl (insert-at-one e w p q.1)
  where
    go : (b : Bool) → earlier e f ≡ b → AllAtOne (insert e w) → AllAtOne (insert e (f ∷ w))
    go true h r = rw (h, insert) (p, q)
    go false h r = rw (h, insert) (q.0, r)

insert_all-at-one : (a w : List Event) → AllAtOne a → AllAtOne w → AllAtOne (insert_all a w)
unfolding insert_all
insert_all-at-one [] w p q = q
insert_all-at-one (e ∷ a) w p q = insert_all-at-one a (insert e w) p.1 (insert-at-one e w p.0 q)

edited-at-one : (o : Option Edit) (e : Event) → AtOne e → AtOne (with_edit o e)
edited-at-one none e p = p
edited-at-one (some d) e p = p

edit_in-at-one : (k : ℕ) (d : Edit) (a : List Event) → AllAtOne a → AllAtOne (edit_in k d a)
edit_in-at-one k d [] p = tt
edit_in-at-one k d (e ∷ a) p = go (eqb (number_of e) k) refl (edit_in-at-one k d a p.1)
  where
    go : (b : Bool) → eqb (number_of e) k ≡ b → AllAtOne (edit_in k d a) → AllAtOne (edit_in k d (e ∷ a))
    go true h r = rw (h, edit_in) p
    go false h r = rw (h, edit_in) (p.0, r)

start-at-one : (θ : Float) (w s : List Event) (x : List StoredEdit) → AllAtOne w → AllAtOne s → AllAtOne (start θ w s x).waiting × AllAtOne (start θ w s x).sounding
unfolding start
start-at-one θ [] s x p q = (tt, q)
start-at-one θ (e ∷ w) s x p q =
    go (lt e.start_time θ) refl
    (start-at-one θ w (s ++ (with_edit (edit_of (number_of e) x) e ∷ [])) (drop_edit (number_of e) x) p.1
    (append-at-one s (with_edit (edit_of (number_of e) x) e ∷ []) q (edited-at-one (edit_of (number_of e) x) e p.0, tt)))
  where
    s' : List Event
    s' = s ++ (with_edit (edit_of (number_of e) x) e ∷ [])

    x' : List StoredEdit
    x' = drop_edit (number_of e) x

    go : (b : Bool) → lt e.start_time θ ≡ b → AllAtOne (start θ w s' x').waiting × AllAtOne (start θ w s' x').sounding
        → AllAtOne (start θ (e ∷ w) s x).waiting × AllAtOne (start θ (e ∷ w) s x).sounding
    go true h r = rw (h, start) r
    go false h r = rw (h, start) (p, q)

but_last-at-one : (e : Event) (l : List Event) → AtOne e → AllAtOne l → AtOne (last_of e l) × AllAtOne (but_last e l)
but_last-at-one e [] p q = (p, tt)
but_last-at-one e (f ∷ l) p q = let r = but_last-at-one f l q.0 q.1 in (r.0, (p, r.1))

last_first-at-one : (l : List Event) → AllAtOne l → AllAtOne (last_first l)
last_first-at-one [] p = tt
last_first-at-one (e ∷ l) p = but_last-at-one e l p.0 p.1

sweep-at-one : (k : ℕ) (limit : Float) (s : List Event) → AllAtOne s → AllAtOne (sweep k limit s).sounding × AllAtOne (sweep k limit s).finished
unfolding sweep
sweep-at-one zero limit s p = (tt, tt)
sweep-at-one (suc k) limit [] p = (tt, tt)
sweep-at-one (suc k) limit (e ∷ s) p = go (le e.end_time limit) refl (sweep-at-one k limit (last_first s) (last_first-at-one s p.1)) (sweep-at-one k limit s p.1)
  where
    go : (b : Bool) → le e.end_time limit ≡ b → AllAtOne (sweep k limit (last_first s)).sounding × AllAtOne (sweep k limit (last_first s)).finished
        → AllAtOne (sweep k limit s).sounding × AllAtOne (sweep k limit s).finished
        → AllAtOne (sweep (suc k) limit (e ∷ s)).sounding × AllAtOne (sweep (suc k) limit (e ∷ s)).finished
    go true h r q = rw (h, sweep) (r.0, (p.0, r.1))
    go false h r q = rw (h, sweep) ((p.0, q.0), q.1)

stays-at-one : (m : ReplayMode) (f : List Event) → AllAtOne f → AllAtOne (stays m f)
stays-at-one All f p = p
stays-at-one None f p = tt

-- sources go on, and back to their beginning
steps-single : (u : Declared.Unit) (k : ℕ) → Single u.source u.value → Single (advanced_by u k).source (advanced_by u k).value
unfolding steps
steps-single u zero p = p
steps-single u (suc k) p = steps-single (advanced u) k (advanced-single u p)

tick_events : (pool : List Float) (t : Float) (s : List Event) (out : Float) → AllAtOne s → AllAtOne (Tick.tick_sum pool t s out).events
unfolding Tick.tick_sum
tick_events pool t [] out p = tt
tick_events pool t (e ∷ s) out p = ((p.0.0, advanced-single e.unit p.0.1), tick_events pool t s _ p.1)

after-block : (b : Span) (e : Event) → AtOne e → AtOne (after_block b e)
unfolding after_block
after-block b e p = go (ltb (first_place b e) (end_place b e))
  where
    go : (c : Bool) → AtOne (cond c (with_unit (advanced_by e.unit (end_place b e - first_place b e)) e) e)
    go true = (p.0, steps-single e.unit (end_place b e - first_place b e) p.1)
    go false = p

block_events : (pool : List Float) (b : Span) (s : List Event) (channel scratch : List Float) → AllAtOne s → AllAtOne (Block.block_sum pool b s channel scratch).events
unfolding Block.block_sum
block_events pool b [] channel scratch p = tt
block_events pool b (e ∷ s) channel scratch p = (after-block b e p.0, block_events pool b s _ _ p.1)

first-single : (source : Source) (value : Float) → Single source value → Single source (first_value source)
first-single (Held level) value p = p
first-single (Ramp first step) value p = (p.0, p.0)
first-single (Clip offset length) value p = p

rewound-at-one : (a : List Event) → AllAtOne a → AllAtOne (map rewound a)
rewound-at-one [] p = tt
rewound-at-one (e ∷ a) p = ((p.0.0, first-single e.unit.source e.unit.value p.0.1), rewound-at-one a p.1)

-- ---- each call

enter-at-one : (l : Ledger) (e : Event) → AtOne e → HeldAtOne l → HeldAtOne (enter l e)
unfolding enter
enter-at-one l e p h = (waiting (lt e.start_time l.threshold) refl, (sounding (lt e.start_time l.threshold) refl, h.1.1))
  where
    waiting : (b : Bool) → lt e.start_time l.threshold ≡ b → AllAtOne (enter l e).waiting
    waiting true q = rw (q, enter) h.0
    waiting false q = rw (q, enter) (insert-at-one e l.waiting p h.0)

    sounding : (b : Bool) → lt e.start_time l.threshold ≡ b → AllAtOne (enter l e).sounding
    sounding true q = rw (q, enter) (append-at-one l.sounding (e ∷ []) h.1.0 (p, tt))
    sounding false q = rw (q, enter) h.1.0

change-at-one : (l : Ledger) (k : ℕ) (d : Edit) (a b : Bool) → HeldAtOne l → HeldAtOne (change l k d a b).ledger
unfolding change
change-at-one l k d true b h = (h.0, (edit_in-at-one k d l.sounding h.1.0, h.1.1))
change-at-one l k d false true h = h
change-at-one l k d false false h = h

advance-at-one : (l : Ledger) (e : Float) → HeldAtOne l → HeldAtOne (advance l e)
unfolding advance
advance-at-one l e h =
    let θ = e -ᵈ l.duration ×ᵈ halfᶠ in
    let w = start θ l.waiting l.sounding l.edits in
    let p = start-at-one θ l.waiting l.sounding l.edits h.0 h.1.0 in
    let limit = l.clock +ᵈ halfᶠ ×ᵈ l.duration in
    let q = sweep-at-one (length w.sounding) limit w.sounding p.1 in
    (p.0, (q.0, append-at-one (stays l.mode l.finished) (sweep (length w.sounding) limit w.sounding).finished (stays-at-one l.mode l.finished h.1.1) q.1))

everything-at-one : (l : Ledger) → HeldAtOne l → AllAtOne (everything l)
everything-at-one l h = insert_all-at-one l.sounding (insert_all l.finished l.waiting) h.1.0 (insert_all-at-one l.finished l.waiting h.1.1 h.0)

rate-at-one : (l : Ledger) (r : Float) (b : Bool) → HeldAtOne l → HeldAtOne (set_rate l r b)
unfolding set_rate
rate-at-one l r true h = h
rate-at-one l r false h = (everything-at-one l h, (tt, tt))

restart-at-one : (l : Ledger) (m : ReplayMode) → HeldAtOne l → HeldAtOne (restart l m)
unfolding restart
restart-at-one l All h = (rewound-at-one (everything l) (everything-at-one l h), (tt, tt))
restart-at-one l None h = (tt, (tt, tt))

accept-at-one : (l : Ledger) (c : Call) → CallAtOne c → HeldAtOne l → HeldAtOne (Gained.accept l c).ledger
unfolding Gained.accept
accept-at-one l (push kind start end fade_in fade_out curve source gain) p h =
    enter-at-one l (new_event (pushed_time kind l.clock start) (pushed_time kind l.clock (stated_end kind start end)) fade_in fade_out curve source gain l.next) p h
accept-at-one l (edit kind k end fade_out) p h =
    change-at-one l k (record { end_time = edit_end kind l.clock end; fade_out = fade_out }) (has k l.sounding) (edit_end kind l.clock end <ᶠ l.threshold) h
accept-at-one l (tick order pool out) p h =
    let a = advance-at-one l (tick_end l) h in
    (a.0, (tick_events pool l.clock (advance l (tick_end l)).sounding zeroᶠ a.1.0, a.1.1))
accept-at-one l (block order n pool out scratch) p h =
    let a = advance-at-one l (block_end l n) h in
    (a.0, (block_events pool (span_of l n) (advance l (block_end l n)).sounding (cleared n) [] a.1.0, a.1.1))
accept-at-one l (rate r) p h = rate-at-one l r (l.rate ≈ᶠ r) h
accept-at-one l reset p h = restart-at-one l l.mode h

same-accept : (l : Ledger) (c : Call) → CallAtOne c → HeldAtOne l → Gained.accept l c ≡ accept l c
unfolding accept Gained.accept
same-accept l (push kind start end fade_in fade_out curve source gain) p h = refl
same-accept l (edit kind k end fade_out) p h = refl
same-accept l (tick order pool out) p h =
    let s = (advance l (tick_end l)).sounding in
    let a = (advance-at-one l (tick_end l) h).1.0 in
    ap₂ (ticked l) ((gains_of_one pool p s a).ticks l.clock zeroᶠ) ((gains_of_one pool p (in_order order s) (order_at-one order s a)).ticks l.clock zeroᶠ)
same-accept l (block order n pool out scratch) p h =
    let s = (advance l (block_end l n)).sounding in
    let a = (advance-at-one l (block_end l n) h).1.0 in
    ap₂ (blocked l n out scratch)
    ((gains_of_one pool p s a).blocks (span_of l n) (cleared n) [])
    ((gains_of_one pool p (in_order order s) (order_at-one order s a)).blocks (span_of l n) (cleared n) [])
same-accept l (rate r) p h = refl
same-accept l reset p h = refl

step-at-one : (l : Ledger) (c : Call) → CallAtOne c → HeldAtOne l → HeldAtOne (Gained.step l c).ledger × (Gained.step l c ≡ step l c)
unfolding step decide Gained.step Gained.decide
step-at-one l c p h = go (refusal l c)
  where
    go : (o : Option ℕ) → HeldAtOne (Gained.decide o l c).ledger × (Gained.decide o l c ≡ decide o l c)
    go (some k) = (h, refl)
    go none = (accept-at-one l c p h, same-accept l c p h)

-- ---- every list of calls
pub same-run : (cs : List Call) (l : Ledger) → CallsAtOne cs → HeldAtOne l → Gained.run cs l ≡ run cs l
unfolding run Gained.run
same-run [] l p h = refl
same-run (c ∷ cs) l p h =
    let s = step-at-one l c p.0 h in
    ap (λ (a : Outcome). joined a (Gained.run cs a.ledger)) s.1
    ∙ ap (joined (step l c)) (same-run cs (step l c).ledger p.1 (subst (λ (a : Outcome). HeldAtOne a.ledger) s.1 s.0))
  where
    joined : Outcome → Run → Run
    joined a r = record { ledger = r.ledger; replies = a.reply ∷ r.replies }

-- "it is the measure for tapes whose gains are all 1.0": from any fresh ledger
pub without_gain : (channels : ℕ) (mode : ReplayMode) (first : ℕ) (cs : List Call) → CallsAtOne cs → Gained.run cs (fresh channels mode first) ≡ run cs (fresh channels mode first)
unfolding fresh
without_gain channels mode first cs p = same-run cs (fresh channels mode first) p (tt, (tt, tt))

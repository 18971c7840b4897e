-- The pass of a tick and of a block over the sounding list.
use Rattle.std.specs.Prelude.{◌≡◌, ℕ, zero, suc, ◌+◌, ◌-◌, ◌<◌, ◌≤◌, min, List, [], ◌∷◌, get_or, set, slice_index_or, slice_set, refl, Float}
use Rattle.std.proofs.Common.{sym, ◌∙◌, subst, arith, add-one}
use Rattle.std.proofs.Math.Path.{ap}
use Rattle.event.specs.declared.Event.{Event}
use Rattle.event.specs.declared.MixOrder.{MixOrder}
use Rattle.event.specs.declared.Unit.{Unit}
use Rattle.event.specs.Events.{with_unit}
use Rattle.event.specs.Blank.{blank}
use Rattle.sequencer.specs.declared.Sequencer.{Sequencer}
use Rattle.sequencer.specs.Parts.{with_sounding}
use Rattle.sequencer.specs.Rendering.{Passed, mix_place, passes}

-- ---- a source that moves on where its event stands

abbrev pub with_value : (v : Float) → Event → Event
with_value v e = with_unit (record { source = e.unit.source; value = v; place = e.unit.place }) e

abbrev pub with_place : (n : ℕ) → Event → Event
with_place n e = with_unit (record { source = e.unit.source; value = e.unit.value; place = n }) e

-- the value and then the place of u are stored at place k
abbrev pub source_stored_at : List Event → (k : ℕ) → Unit → List Event
source_stored_at xs k u =
    let ys = set xs k (with_value u.value (slice_index_or xs k blank)) in
    slice_set ys k (with_place u.place (slice_index_or ys k blank))

twice : {A : Type 0} (f g : A → A) (d : A) (xs : List A) (i : ℕ) → slice_set (slice_set xs i (f (slice_index_or xs i d))) i (g (slice_index_or (slice_set xs i (f (slice_index_or xs i d))) i d)) ≡ slice_set xs i (g (f (slice_index_or xs i d)))
twice f g d [] i = refl
twice f g d (x ∷ xs) zero = refl
twice f g d (x ∷ xs) (suc i) = ap (λ (r : List _). x ∷ r) (twice f g d xs i)

-- ---- the pass: of the m active events of J, i have been added to x and replaced, which made S

module _ {T : Type 0} (next : Event → Event) (plus : T → Event → T) (z : T) (order : MixOrder) where
  pub record Passing (J : Sequencer) (m i : ℕ) (S : Sequencer) (x : T) : Type 0 where
    pub count : m ≡ min J.active_len 256
    pub same : S ≡ with_sounding J S.active
    pub fuel : ℕ
    pub exact : i + fuel ≡ m
    pub gives : passes next plus blank order fuel S.active i x ≡ passes next plus blank order m J.active 0 z

  abbrev pub pass_of : Sequencer → Passed Event T
  pass_of a = passes next plus blank order (min a.active_len 256) a.active 0 z

module _ {T : Type 0} {next : Event → Event} {plus : T → Event → T} {z : T} {order : MixOrder} {J : Sequencer} {m : ℕ} where
  pub passing_start : {x : T} → m ≡ min J.active_len 256 → x ≡ z → Passing next plus z order J m 0 J x
  passing_start h q = rw q (record { count = h; same = refl; fuel = m; exact = omega arith; gives = refl })

  module _ {i : ℕ} {S : Sequencer} {x : T} where
    pub passing_on : {k : ℕ} {e : Event} {y : T} → k ≡ mix_place order i (m - 1 - i) → e ≡ next (slice_index_or S.active k blank) → y ≡ plus x (slice_index_or S.active k blank) → i < m
        → Passing next plus z order J m i S x → Passing next plus z order J m (i + 1) (with_sounding S (slice_set S.active k e)) y
    unfolding passes
    passing_on {k} h p q l w = rw (p, q) (go w.fuel w.exact w.gives)
      where
        xs : List Event
        xs = slice_set S.active k (next (slice_index_or S.active k blank))

        go : (f : ℕ) → i + f ≡ m → passes next plus blank order f S.active i x ≡ passes next plus blank order m J.active 0 z
            → Passing next plus z order J m (i + 1) (with_sounding S xs) (plus x (slice_index_or S.active k blank))
        go zero e g = absurd (omega arith)
        go (suc f) e g =
            let left : f ≡ m - 1 - i = omega arith in
            let at : k ≡ mix_place order i f = h ∙ ap (mix_place order i) (sym left) in
            rw add-one (record { count = w.count; same = ap (λ (s : Sequencer). with_sounding s xs) w.same; fuel = f; exact = omega arith; gives = ap turn at ∙ g })
          where
            turn : ℕ → Passed Event T
            turn j = passes next plus blank order f (slice_set S.active j (next (slice_index_or S.active j blank))) (suc i) (plus x (slice_index_or S.active j blank))

    -- the same where only the value and the place of the event's source are stored, one after the other
    pub passing_stored : {k : ℕ} {u : Unit} {y : T} → ((e : Event) → with_place (next e).unit.place (with_value (next e).unit.value e) ≡ next e) → k ≡ mix_place order i (m - 1 - i)
        → u ≡ (next (slice_index_or S.active k blank)).unit → y ≡ plus x (slice_index_or S.active k blank) → i < m → Passing next plus z order J m i S x
        → Passing next plus z order J m (i + 1) (with_sounding S (source_stored_at S.active k u)) y
    passing_stored {k} {u} {y} only h p q l w =
        let e = get_or S.active k blank in
        let one = twice (with_value u.value) (with_place u.place) blank S.active k ∙ ap (λ (v : Unit). set S.active k (with_place v.place (with_value v.value e))) p ∙ ap (set S.active k) (only e) in
        subst (λ (xs : List Event). Passing next plus z order J m (i + 1) (with_sounding S xs) y) (sym one) (passing_on h refl q l w)

    pub passing_end : {a : Sequencer} → J ≡ a → m ≤ i → Passing next plus z order J m i S x → (S ≡ with_sounding a (pass_of next plus z order a).items) × (x ≡ (pass_of next plus z order a).sum)
    unfolding passes
    passing_end {a} j l w = go w.fuel w.exact w.gives
      where
        all : passes next plus blank order m J.active 0 z ≡ pass_of next plus z order a
        all = ap (λ (n : ℕ). passes next plus blank order n J.active 0 z) w.count ∙ ap (pass_of next plus z order) j

        go : (f : ℕ) → i + f ≡ m → passes next plus blank order f S.active i x ≡ passes next plus blank order m J.active 0 z
            → (S ≡ with_sounding a (pass_of next plus z order a).items) × (x ≡ (pass_of next plus z order a).sum)
        go zero e g = (
          w.same ∙ ap (λ (s : Sequencer). with_sounding s S.active) j ∙ ap (λ (r : Passed Event T). with_sounding a r.items) (g ∙ all),
          ap (λ (r : Passed Event T). r.sum) (g ∙ all),
        )
        go (suc f) e g = absurd (omega arith)

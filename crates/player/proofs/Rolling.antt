-- The loop over a tape's records: what has been written and what the rest of the tape will give make the whole.
use mathlib.Core.Path.{◌≡◌, refl, sym, ap, ◌∙◌, subst}
use mathlib.Core.List.{List, [], ◌∷◌, ◌++◌, append-nil, append_assoc}
use mathlib.Core.Bool.{Bool, true, false, cond, true≢false}
use Prim.Native.Nat.{ℕ, zero, suc, ◌+◌, ◌-◌, ◌≤◌, ◌<◌}
use native.Mathlib.Omega.{arith}
use borrow.Author.Tests.{ne_eqb, eq-eqb, le-ltb, lt-ltb}
use lib.ListN.{length, drop, replicate, length-append, length-replicate}
use lib.Seq.{sets, sets-eq, length-sets}
use lib.Dec.{ltb, eqb}
use lib.Ieee.{Float}
use Rattle.floats.specs.Arithmetic.{zeroᶠ}
use Rattle.sequencer.specs.declared.Sequencer.{Sequencer}
use Rattle.sequencer.specs.declared.readers.Counts.{Counts}
use Rattle.sequencer.specs.Readers.{counts_of}
use Rattle.tape.specs.declared.reader.Cursor.{Cursor}
use Rattle.tape.specs.declared.reader.Call.{Call}
use Rattle.tape.specs.declared.reader.Read.{Read}
use Rattle.tape.specs.declared.reader.Read.TheVariants.{Record, Refused, End}
use Rattle.tape.specs.Tape.{read_at}
use Rattle.tape.specs.Cursors.{is_record, moves}
use Rattle.listing.specs.Putting.{sets_append}
use Rattle.apply.specs.declared.Applied.{Applied}
use Rattle.apply.specs.Applying.{applied_to, applied_out}
use Rattle.record_output.specs.declared.Form.{Form}
use Rattle.record_output.specs.declared.Pause.{Pause}
use Rattle.record_output.specs.declared.Pause.TheVariants as Pause
use Rattle.record_output.specs.Lines.{room_for}
use Rattle.record_output.specs.Endings.{Ending, ending, is_short, Gives}
use Rattle.player.specs.declared.Played.{Played}
use Rattle.player.specs.Records.{Ran, Rest, stops, behind, answer_of, left_by, after_call, after_read, at_end, ran_from, ran}
use Rattle.player.specs.Carrying.{stopped_at, Puts}
use Rattle.player.specs.Heard.{heard}

-- ---- one turn of the definition

module _ (form : Form) (pool : List Float) (t : List ℕ) (whole : Bool) where
  turn_of : Rest → Sequencer → Cursor → (samples : List Float) → (room : ℕ) → Read → Ran
  turn_of rest s c samples room r = cond (is_short whole (length t) c.at) (stops s c [] Pause.Short) (after_read form pool rest r s c samples room)

  -- where no byte is left
  over : (w : Bool) (rest : Rest) (s : Sequencer) (c : Cursor) (samples : List Float) (room : ℕ) → length t ≤ c.at
      → stops s c [] (at_end w) ≡ cond (is_short w (length t) c.at) (stops s c [] Pause.Short) (after_read form pool rest End s c samples room)
  unfolding after_read
  over true rest s c samples room h = refl
  over false rest s c samples room h = simp (lt-ltb (length t - c.at) 47 (omega arith))

  turn : (f : ℕ) (s : Sequencer) (c : Cursor) (samples : List Float) (room : ℕ) → length t ≤ c.at + f
      → ran_from form pool t whole f s c samples room ≡ turn_of (ran_from form pool t whole (f - 1)) s c samples room (read_at t c)
  unfolding ran_from turn_of read_at
  turn zero s c samples room h =
      let end : read_at t c ≡ End = simp (le-ltb c.at (length t) (omega arith)) in
      over whole (ran_from form pool t whole (zero - 1)) s c samples room (omega arith) ∙ ap (turn_of (ran_from form pool t whole (zero - 1)) s c samples room) (sym end)
  turn (suc f) s c samples room h =
      let z : f ≡ suc f - 1 = omega arith in
      ap (λ (j : ℕ). turn_of (ran_from form pool t whole j) s c samples room (read_at t c)) z

  -- ---- the loop

  module _ (s₀ : Sequencer) (c₀ : Cursor) (out₀ : List ℕ) where
    abbrev pub all : Ran
    all = ran form pool t whole s₀ c₀ (length out₀)

    -- at the beginning of a turn
    pub record Rolling (out : List ℕ) (s : Sequencer) (c : Cursor) (samples : List Float) (at : ℕ) : Type 0 where
      pub long : length samples ≡ 512
      pub fuel : ℕ
      pub enough : length t ≤ c.at + fuel
      pub done : List ℕ
      pub is : out ≡ sets out₀ 0 done
      pub place : at ≡ length done
      pub gives : all ≡ behind done (ran_from form pool t whole fuel s c samples (length out₀ - at))
      pub within : at ≤ length out₀

    pub start : (samples : List Float) → samples ≡ replicate 512 zeroᶠ → Rolling out₀ s₀ c₀ samples 0
    unfolding ran
    start samples e =
        subst (λ (x : List Float). Rolling out₀ s₀ c₀ x 0) (sym e) (record {
          long = length-replicate 512 zeroᶠ;
          fuel = length t;
          enough = omega arith;
          done = [];
          is = refl;
          place = refl;
          gives = ap (ran_from form pool t whole (length t) s₀ c₀ (replicate 512 zeroᶠ)) (let z : length out₀ ≡ length out₀ - 0 = omega arith in z);
          within = omega arith;
        })

    -- what the loop is to give back: the engine, the answer and the output
    abbrev pub Whole : Sequencer → Played → (out : List ℕ) → Type 0
    Whole s p out = (s ≡ all.sequencer) × ((p ≡ answer_of all) × (out ≡ all.written ++ drop p.used out₀))

    module _ {out : List ℕ} {s : Sequencer} {c : Cursor} {samples : List Float} {at : ℕ} (w : Rolling out s c samples at) where
      pub answered : {s' : Sequencer} {p q : Played} {out' : List ℕ} → p ≡ q → Whole s' q out' → Whole s' p out'
      answered {s'} {p} {q} {out'} e = subst (λ (x : Played). Whole s' x out') (sym e)

      pub same_rest : length out ≡ length out₀
      same_rest = ap length w.is ∙ length-sets out₀ 0 w.done

      pub inside : at ≤ length out
      inside = let same = same_rest in let h = w.within in omega arith

      -- what is put leaves the length
      pub same_sets : (bytes : List ℕ) {out' : List ℕ} → out' ≡ sets out at bytes → length out' ≡ length out₀
      same_sets bytes e = ap length e ∙ length-sets out at bytes ∙ same_rest

      -- a stop: some more bytes come, and then nothing
      ended : {x : Sequencer} {d : Cursor} {bytes : List ℕ} {p : Pause} → ran_from form pool t whole w.fuel s c samples (length out₀ - at) ≡ stops x d bytes p
          → {out' : List ℕ} {n : ℕ} → out' ≡ sets out at bytes → n ≡ at + length bytes → n ≤ length out₀ → Whole x (stopped_at d n p) out'
      ended {x} {d} {bytes} {p} e {out'} {n} o m b =
          let g : all ≡ stops x d (w.done ++ bytes) p = w.gives ∙ ap (behind w.done) e in
          let q = w.place in
          let k = length-append w.done bytes in
          let size : n ≡ length (w.done ++ bytes) = omega arith in
          let zero-at : at ≡ 0 + length w.done = omega arith in
          let fit : 0 + length (w.done ++ bytes) ≤ length out₀ = omega arith in
          let z : 0 + length (w.done ++ bytes) ≡ n = omega arith in (
            sym (ap (λ (r : Ran). r.sequencer) g),
            (
              (λ i. stopped_at d (size i) p) ∙ sym (ap answer_of g),
              o ∙ (λ i. sets (w.is i) (zero-at i) bytes) ∙ sets_append out₀ 0 w.done bytes ∙ sets-eq (w.done ++ bytes) out₀ 0 fit
                  ∙ (λ i. (sym g i).written ++ drop (z i) out₀),
            ),
          )

      -- nothing more is written
      halted : {x : Sequencer} {d : Cursor} {p : Pause} → ran_from form pool t whole w.fuel s c samples (length out₀ - at) ≡ stops x d [] p → Whole x (stopped_at d at p) out
      halted e = ended e refl (let z : at ≡ at + 0 = omega arith in z) w.within

      onward : ran_from form pool t whole w.fuel s c samples (length out₀ - at) ≡ turn_of (ran_from form pool t whole (w.fuel - 1)) s c samples (length out₀ - at) (read_at t c)
      onward = turn w.fuel s c samples (length out₀ - at) w.enough

      pub ends-short : is_short whole (length t) c.at ≡ true → Whole s (stopped_at c at Pause.Short) out
      unfolding turn_of
      ends-short q = halted (onward ∙ ap (λ (b : Bool). cond b (stops s c [] Pause.Short) (after_read form pool (ran_from form pool t whole (w.fuel - 1)) (read_at t c) s c samples (length out₀ - at))) q)

      module _ (q : is_short whole (length t) c.at ≡ false) where
        read_on_lem : ran_from form pool t whole w.fuel s c samples (length out₀ - at) ≡ after_read form pool (ran_from form pool t whole (w.fuel - 1)) (read_at t c) s c samples (length out₀ - at)
        unfolding turn_of
        read_on_lem = onward ∙ ap (λ (b : Bool). cond b (stops s c [] Pause.Short) (after_read form pool (ran_from form pool t whole (w.fuel - 1)) (read_at t c) s c samples (length out₀ - at))) q

        unread : (r : Read) → is_record r ≡ false
            → (let e = ending form r (counts_of s) (length out₀ - at) in after_read form pool (ran_from form pool t whole (w.fuel - 1)) r s c samples (length out₀ - at) ≡ stops s c e.written e.pause)
        unfolding after_read ending
        unread (Record k call next) h = absurd (true≢false h)
        unread (Refused k n) h = refl
        unread End h = refl

        pub ends_unread : (r : Read) → r ≡ read_at t c → is_record r ≡ false → {k : Counts} → k ≡ counts_of s
            → {out' : List ℕ} {n : ℕ} {p : Pause} → Gives (ending form r k (length out - at)) out out' at p n → Whole s (stopped_at c n p) out'
        ends_unread r e u {k} ek {out'} {n} {p} given =
            let same = same_rest in
            let held = subst (λ (x : Counts). Gives (ending form r x (length out - at)) out out' at p n) ek given in
            let g = subst (λ (m : ℕ). Gives (ending form r (counts_of s) (m - at)) out out' at p n) same held in
            let b = g.1.1.1 in
            subst (λ (x : Pause). Whole s (stopped_at c n x) out') (sym g.0)
            (ended (read_on_lem ∙ ap (λ (x : Read). after_read form pool (ran_from form pool t whole (w.fuel - 1)) x s c samples (length out₀ - at)) (sym e) ∙ unread r u)
            g.1.1.0 g.1.0 (omega arith))

        -- one record: its call gives a, and o as the samples
        module _ (k : ℕ) (call : Call) (next : Cursor) (e : read_at t c ≡ Record k call next) {n : ℕ} (needs : n ≡ room_for form (left_by form k (applied_to pool s call samples) (applied_out pool s call samples))) where
          a : Applied
          a = applied_to pool s call samples

          o : List Float
          o = applied_out pool s call samples

          bytes : List ℕ
          bytes = left_by form k a o

          called : ran_from form pool t whole w.fuel s c samples (length out₀ - at) ≡ after_call form (ran_from form pool t whole (w.fuel - 1)) s c k a o next (length out₀ - at)
          unfolding a o after_read
          called = read_on_lem ∙ ap (λ (r : Read). after_read form pool (ran_from form pool t whole (w.fuel - 1)) r s c samples (length out₀ - at)) e

          pub ends-full : length out - at < n → Whole s (stopped_at c at Pause.Full) out
          unfolding a o after_call
          ends-full m =
              let same = same_rest in
              let f : ltb (length out₀ - at) (room_for form (left_by form k (applied_to pool s call samples) (applied_out pool s call samples))) ≡ true =
              lt-ltb (length out₀ - at) (room_for form (left_by form k (applied_to pool s call samples) (applied_out pool s call samples))) (omega arith) in
              halted (called ∙ simp f)

          -- there is room: what the record leaves has been put, n bytes are in use then, and s' and o' are the engine and the samples
          module _ (m : n ≤ length out - at) {out' : List ℕ} {n' : ℕ} (put : Puts form k pool s call samples out at out' n') where
            there : (out' ≡ sets out at bytes) × ((n' ≡ at + length bytes) × (n' ≤ length out))
            unfolding a o bytes
            there = let i = inside in put w.long (omega arith)

            pub same-put : length out' ≡ length out₀
            same-put = same_sets bytes there.0

            carried : ran_from form pool t whole w.fuel s c samples (length out₀ - at)
                ≡ cond (eqb a.refusal 1) (stops a.sequencer next bytes (Pause.Refused 1)) (behind bytes (ran_from form pool t whole (w.fuel - 1) a.sequencer next o (length out₀ - at - length bytes)))
            unfolding a o bytes after_call
            carried =
                let same = same_rest in
                let f : ltb (length out₀ - at) (room_for form (left_by form k (applied_to pool s call samples) (applied_out pool s call samples))) ≡ false =
                le-ltb (length out₀ - at) (room_for form (left_by form k (applied_to pool s call samples) (applied_out pool s call samples))) (omega arith) in
                called ∙ simp f

            pub ends-refused : {s' : Sequencer} → s' ≡ (applied_to pool s call samples).sequencer → (applied_to pool s call samples).refusal ≡ 1 → Whole s' (stopped_at next n' (Pause.Refused 1)) out'
            unfolding a
            ends-refused es h =
                let stop : ran_from form pool t whole w.fuel s c samples (length out₀ - at) ≡ stops a.sequencer next bytes (Pause.Refused 1) =
                carried ∙ simp (eq-eqb a.refusal 1 h) in
                let same = same_rest in
                let b = there.1.1 in
                subst (λ (x : Sequencer). Whole x (stopped_at next n' (Pause.Refused 1)) out') (sym es)
                (ended stop there.0 there.1.0 (omega arith))

            pub goes_on : {s' : Sequencer} {o' : List Float} → s' ≡ (applied_to pool s call samples).sequencer → o' ≡ applied_out pool s call samples
                → ((applied_to pool s call samples).refusal ≡ 1 → ⊥) → Rolling out' s' next o' n'
            unfolding a o
            goes_on {s'} {o'} es eo h =
                let v = moves t c k call next e in
                let x = v.0 in
                let y = v.1 in
                let g = w.enough in
                let same = same_rest in
                let p = w.place in
                let j = length-append w.done bytes in
                let u = there.1.0 in
                let b = there.1.1 in
                let zero-at : at ≡ 0 + length w.done = omega arith in
                let room : length out₀ - at - length bytes ≡ length out₀ - n' = omega arith in
                let r : Ran = ran_from form pool t whole (w.fuel - 1) a.sequencer next o (length out₀ - at - length bytes) in
                let on : ran_from form pool t whole w.fuel s c samples (length out₀ - at) ≡ behind bytes r = carried ∙ simp (ne_eqb a.refusal 1 h) in
                subst (λ (z : Sequencer). Rolling out' z next o' n') (sym es)
                (subst (λ (z : List Float). Rolling out' a.sequencer next z n') (sym eo) (record {
                  long = (heard pool s samples w.long call).long;
                  fuel = w.fuel - 1;
                  enough = omega arith;
                  done = w.done ++ bytes;
                  is = there.0 ∙ (λ i. sets (w.is i) (zero-at i) bytes) ∙ sets_append out₀ 0 w.done bytes;
                  place = omega arith;
                  gives = w.gives ∙ ap (behind w.done) on
                      ∙ ap (λ (l : List ℕ). stops r.sequencer r.cursor l r.pause) (sym (append_assoc w.done bytes r.written))
                      ∙ ap (λ (z : ℕ). behind (w.done ++ bytes) (ran_from form pool t whole (w.fuel - 1) a.sequencer next o z)) room;
                  within = omega arith;
                }))

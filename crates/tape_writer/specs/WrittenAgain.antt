-- Document 02, Paper 6: "a record that reads and is written again gives its own bytes, if a held source's unused word is 0 and no float is a NaN". Assumes nothing.
use Rattle.std.specs.Prelude.{◌≡◌, Bool, cond, ℕ, zero, suc, ◌+◌, ◌-◌, ◌≤◌, ◌<◌, ltb, eqb, length, take, drop, Float, Ok}
use Rattle.std.proofs.Math.Path.{refl, sym, ap}
use Rattle.std.proofs.Common.{◌∙◌, subst, true≢false, le_refl, arith, ltb-true, ltb-false, le-ltb, length-drop, take-append-drop, take-add, drop-drop, length-take-le}
use Rattle.std.proofs.Math.Bool.{true, false}
use mathlib.Core.List.{List, [], ◌∷◌, ◌++◌}
use Rattle.std.proofs.Math.ListN.{get_or}
use Rattle.std.specs.Float.{binary32, binary64}
use Rattle.std.specs.Float.Ieee.{to_bits}
use Rattle.std.specs.Float.Ieee.Bits.{to_bits-of_bits}
use Rattle.floats.specs.Arithmetic.{oneᶠ}
use Rattle.event.specs.declared.Fade.{Fade}
use Rattle.event.specs.declared.ReplayMode.{ReplayMode}
use Rattle.event.specs.declared.Source.{Source}
use Rattle.event.specs.declared.Source.TheVariants.{Held, Ramp, Clip}
use Rattle.event.specs.Numbers.{curve_number, source_number, first_word, second_word}
use Rattle.tape.specs.Fields.{from_little_endian, field, Bytes, bytes_drop, field_below}
use Rattle.tape.specs.Tape.{kind_of, sizes, size_of, gain_kind, plain_kind, push_kind, mode_byte, curve_byte, source_byte, unknown_mode, unknown_curve, unknown_source, unknown_push, unknown, f64_at, f32_at, mode_of, curve_of, source_of, gain_of, push_of, edit_of, call_at, call_of, record_of, read_at}
use Rattle.tape.specs.Kinds.{each_kind, known}
use Rattle.tape.specs.Numbering.{mode_read, curve-read, mode_known, curve-known, source_known, mode_not-unknown, curve-not-unknown, source_not-unknown}
use Rattle.tape.specs.declared.reader.Cursor.{Cursor}
use Rattle.tape.specs.declared.reader.PushRecord.{PushRecord}
use Rattle.tape.specs.declared.reader.Read.TheVariants.{Record, Refused, End}
use Rattle.tape.specs.declared.reader.Call.{Call}
use Rattle.tape.specs.declared.reader.Call.TheVariants.{Create, Push, PushRelative, PushDuration, Edit, EditRelative, Tick, Process, Reset, SetSampleRate}
use Rattle.tape_writer.specs.declared.Arguments.{Arguments}
use Rattle.little_endian.specs.LowBytes.{little_endian}
use Rattle.little_endian.specs.Fields.{Part, joined, byte, word, long}
use Rattle.tape_writer.specs.Writing.{source_from, push_from, edit_from, call_by, body_parts, bytes_by, bytes_of, undefined_by, laid}
use Rattle.tape_writer.specs.Claim.{value_of, step_of, offset_of, length_of, push_arguments, arguments_of, Number, SourceNumbers, PushNumbers, Numbers, unused_word, unused, WrittenAgain, WritesAgain}
use Rattle.tape_writer.specs.LittleEndian.{bytes_le}
use Rattle.tape_writer.specs.Sizes.{accepted, enough_rest}

-- ---- a part of the bytes cut into fields and put down again
cut : (widths : List ℕ) (at : ℕ) → List ℕ → List Part
cut [] at bs = []
cut (w ∷ ws) at bs = record { width = w; number = field bs at w } ∷ cut ws (at + w) bs

total : List ℕ → ℕ
total [] = 0
total (w ∷ ws) = w + total ws

joined-cut : (ws : List ℕ) (at : ℕ) (bs : List ℕ) → Bytes bs → at + total ws ≤ length bs → joined (cut ws at bs) ≡ take (total ws) (drop at bs)
unfolding joined cut total field
joined-cut [] at bs h l = refl
joined-cut (w ∷ ws) at bs h l =
    let first : little_endian w (from_little_endian (take w (drop at bs))) ≡ take w (drop at bs) = bytes_le w (drop at bs) (bytes_drop at bs h) (omega (arith, length-drop at bs)) in
    let others = joined-cut ws (at + w) bs h (omega arith) in
    let there : drop w (drop at bs) ≡ drop (at + w) bs = drop-drop w at bs in
    rw (first, others, take-add w (total ws) (drop at bs), there)

byte-field : (bs : List ℕ) (at : ℕ) → field bs at 1 ≡ get_or bs at 0
unfolding field from_little_endian
byte-field [] zero = refl
byte-field [] (suc at) = refl
byte-field (b ∷ bs) zero = omega arith
byte-field (b ∷ bs) (suc at) = byte-field bs at

module _ (bs : List ℕ) (b : Bytes bs) where
  double-kept : (at : ℕ) → Number (f64_at bs at) → to_bits binary64 (f64_at bs at) ≡ field bs at 8
  double-kept at h = to_bits-of_bits binary64 (field bs at 8) (field_below 8 bs at 8 b (le_refl 8)) h

  single-kept : (at : ℕ) → Number (f32_at bs at) → to_bits binary32 (f32_at bs at) ≡ field bs at 4
  single-kept at h = to_bits-of_bits binary32 (field bs at 4) (field_below 4 bs at 4 b (le_refl 4)) h

  first-kept : SourceNumbers (source_of bs) → first_word (source_of bs) ≡ field bs 35 4
  unfolding source_of
  first-kept = go (eqb (source_byte bs) 0) (eqb (source_byte bs) 1)
    where
      go : (p q : Bool) → SourceNumbers (cond p (Held (f32_at bs 35)) (cond q (Ramp (f32_at bs 35) (f32_at bs 39)) (Clip (field bs 35 4) (field bs 39 4))))
          → first_word (cond p (Held (f32_at bs 35)) (cond q (Ramp (f32_at bs 35) (f32_at bs 39)) (Clip (field bs 35 4) (field bs 39 4)))) ≡ field bs 35 4
      go true q n = single-kept 35 n
      go false true n = single-kept 35 n.0
      go false false n = refl

  second-kept : SourceNumbers (source_of bs) → unused_word bs (source_of bs) ≡ 0 → second_word (source_of bs) ≡ field bs 39 4
  unfolding source_of
  second-kept = go (eqb (source_byte bs) 0) (eqb (source_byte bs) 1)
    where
      go : (p q : Bool) → SourceNumbers (cond p (Held (f32_at bs 35)) (cond q (Ramp (f32_at bs 35) (f32_at bs 39)) (Clip (field bs 35 4) (field bs 39 4))))
          → unused_word bs (cond p (Held (f32_at bs 35)) (cond q (Ramp (f32_at bs 35) (f32_at bs 39)) (Clip (field bs 35 4) (field bs 39 4)))) ≡ 0
          → second_word (cond p (Held (f32_at bs 35)) (cond q (Ramp (f32_at bs 35) (f32_at bs 39)) (Clip (field bs 35 4) (field bs 39 4)))) ≡ field bs 39 4
      go true q n u = sym u
      go false true n u = single-kept 39 n.1
      go false false n u = refl

-- ---- what 14 saw
seen : (first : Bool) (bs : List ℕ) (k : ℕ) → kind_of bs ≡ k → unknown first bs ≡ false → cond (eqb k 0) (unknown_mode (mode_byte bs)) (cond (push_kind k) (unknown_push bs) false) ≡ false
unfolding unknown
seen true bs k e h = go (eqb k 0) (subst (λ (n : ℕ). cond (eqb n 0) (unknown_mode (mode_byte bs)) true ≡ false) e h)
  where
    go : (p : Bool) → cond p (unknown_mode (mode_byte bs)) true ≡ false → cond p (unknown_mode (mode_byte bs)) (cond (push_kind k) (unknown_push bs) false) ≡ false
    go true h = h
    go false h = absurd (true≢false h)
seen false bs k e h = go (eqb k 0) (ltb 12 k) (subst (λ (n : ℕ). cond (eqb n 0) true (cond (ltb 12 n) true (cond (push_kind n) (unknown_push bs) false)) ≡ false) e h)
  where
    go : (p q : Bool) → cond p true (cond q true (cond (push_kind k) (unknown_push bs) false)) ≡ false → cond p (unknown_mode (mode_byte bs)) (cond (push_kind k) (unknown_push bs) false) ≡ false
    go true q h = absurd (true≢false h)
    go false true h = absurd (true≢false h)
    go false false h = h

known_both : (bs : List ℕ) → unknown_push bs ≡ false → (unknown_curve (curve_byte bs) ≡ false) × (unknown_source (source_byte bs) ≡ false)
unfolding unknown_push
known_both bs = go (unknown_curve (curve_byte bs)) refl
  where
    go : (p : Bool) → unknown_curve (curve_byte bs) ≡ p → cond p true (unknown_source (source_byte bs)) ≡ false → (unknown_curve (curve_byte bs) ≡ false) × (unknown_source (source_byte bs) ≡ false)
    go true e h = absurd (true≢false h)
    go false e h = (e, h)

-- ---- the same fields, the same bytes
abbrev push_joined : (k s e f o c u v w : ℕ) → (gain : List Part) → List ℕ
push_joined k s e f o c u v w gain = joined (byte k ∷ long s ∷ long e ∷ long f ∷ long o ∷ byte c ∷ byte u ∷ word v ∷ word w ∷ gain)

push_equal : {k k' s s' e e' f f' o o' c c' u u' v v' w w' : ℕ} {g g' : List Part} → k ≡ k' → s ≡ s' → e ≡ e' → f ≡ f' → o ≡ o' → c ≡ c' → u ≡ u' → v ≡ v' → w ≡ w' → g ≡ g'
    → push_joined k s e f o c u v w g ≡ push_joined k' s' e' f' o' c' u' v' w' g'
push_equal a b c d e f g h i j = cc

source_kept : (s : Source) → cond (eqb (source_number s) 0) (Held (value_of s)) (cond (eqb (source_number s) 1) (Ramp (value_of s) (step_of s)) (Clip (offset_of s) (length_of s))) ≡ s
source_kept (Held level) = refl
source_kept (Ramp value step) = refl
source_kept (Clip offset length) = refl

source_from_lem : (k : ℕ) (p : PushRecord) → source_from (push_arguments k p) ≡ p.source
unfolding source_from
source_from_lem k p = source_kept p.source

push_made : {a b c d : Float} {f f' : Fade} {s s' : Source} {g g' : Float} → f ≡ f' → s ≡ s' → g ≡ g'
    → ◌≡◌ {A = PushRecord} (record { start_time = a; end_time = b; fade_in = c; fade_out = d; fade_ease = f; source = s; gain = g }) (record { start_time = a; end_time = b; fade_in = c; fade_out = d; fade_ease = f'; source = s'; gain = g' })
push_made p q r = cc

push-from : (k : ℕ) (p : PushRecord) → cond (gain_kind k) p.gain oneᶠ ≡ p.gain → push_from k (push_arguments k p) ≡ p
unfolding push_from
push-from k p g = push_made (curve-read p.fade_ease) (source_from_lem k p) g

-- ---- each kind
module _ (first : Bool) (bs : List ℕ) (b : Bytes bs) where
  -- the call of kind k that is read, as arguments: they are defined, are that call, and are put down as the record's own bytes
  abbrev Again : (k : ℕ) → Type 0
  Again k = kind_of bs ≡ k → unknown first bs ≡ false → size_of k ≤ length bs → Numbers (call_at (plain_kind k) bs) → unused bs (call_at (plain_kind k) bs) ≡ 0
      → (undefined_by k (arguments_of k (call_at (plain_kind k) bs)) ≡ false)
      × (call_by k (arguments_of k (call_at (plain_kind k) bs)) ≡ call_at (plain_kind k) bs)
      × (bytes_by k (arguments_of k (call_at (plain_kind k) bs)) ≡ take (size_of k) bs)

  kind_kept : {k : ℕ} → kind_of bs ≡ k → k ≡ field bs 0 1
  kind_kept e = sym e ∙ sym (byte-field bs 0)

  curve-kept : unknown_push bs ≡ false → curve_number (curve_of (curve_byte bs)) ≡ field bs 33 1
  curve-kept h = sym (curve-known (curve_byte bs) (known_both bs h).0) ∙ sym (byte-field bs 33)

  source_byte-kept : unknown_push bs ≡ false → source_number (source_of bs) ≡ field bs 34 1
  source_byte-kept h = sym (source_known bs (known_both bs h).1) ∙ sym (byte-field bs 34)

  -- the pushes without and with gain bytes
  widths : List ℕ
  widths = 1 ∷ 8 ∷ 8 ∷ 8 ∷ 8 ∷ 1 ∷ 1 ∷ 4 ∷ 4 ∷ []

  push_bytes : (k : ℕ) (g g' : List Part) → kind_of bs ≡ k → unknown_push bs ≡ false → PushNumbers (push_of bs) → unused_word bs (source_of bs) ≡ 0 → g ≡ g'
      → push_joined k (to_bits binary64 (f64_at bs 1)) (to_bits binary64 (f64_at bs 9)) (to_bits binary64 (f64_at bs 17)) (to_bits binary64 (f64_at bs 25)) (curve_number (curve_of (curve_byte bs))) (source_number (source_of bs)) (first_word (source_from (push_arguments k (push_of bs)))) (second_word (source_from (push_arguments k (push_of bs)))) g
      ≡ push_joined (field bs 0 1) (field bs 1 8) (field bs 9 8) (field bs 17 8) (field bs 25 8) (field bs 33 1) (field bs 34 1) (field bs 35 4) (field bs 39 4) g'
  unfolding push_of
  push_bytes k g g' e h n u same =
      let s = source_from_lem k (push_of bs) in
      push_equal (kind_kept e) (double-kept bs b 1 n.0) (double-kept bs b 9 n.1) (double-kept bs b 17 n.2) (double-kept bs b 25 n.3) (curve-kept h) (source_byte-kept h)
      (ap first_word s ∙ first-kept bs b n.4) (ap second_word s ∙ second-kept bs b n.4 u) same

  gain_is : (k : ℕ) → kind_of bs ≡ k → gain_of bs ≡ cond (gain_kind k) (f32_at bs 43) oneᶠ
  gain_is k e = ap (λ (n : ℕ). cond (gain_kind n) (f32_at bs 43) oneᶠ) e

  gain_kept : gain_of bs ≡ f32_at bs 43 → Number (gain_of bs) → to_bits binary32 (gain_of bs) ≡ field bs 43 4
  gain_kept e n = ap (to_bits binary32) e ∙ single-kept bs b 43 (subst Number e n)

  defined_push : cond (unknown_curve (curve_number (curve_of (curve_byte bs)))) true (unknown_source (source_number (source_of bs))) ≡ false
  defined_push = rw (curve-not-unknown (curve_of (curve_byte bs)), source_not-unknown (source_of bs))

  again-plain : Again 1 × Again 2 × Again 3
  unfolding undefined_by push_kind call_by bytes_by body_parts size_of sizes cut total widths push_of
  again-plain = (
    λ e h l n u. (defined_push, ap Push (push-from 1 (push_of bs) (sym (gain_is 1 e))), push_bytes 1 [] [] e (seen first bs 1 e h) n u refl ∙ joined-cut widths 0 bs b l),
    λ e h l n u. (defined_push, ap PushRelative (push-from 2 (push_of bs) (sym (gain_is 2 e))), push_bytes 2 [] [] e (seen first bs 2 e h) n u refl ∙ joined-cut widths 0 bs b l),
    λ e h l n u. (defined_push, ap PushDuration (push-from 3 (push_of bs) (sym (gain_is 3 e))), push_bytes 3 [] [] e (seen first bs 3 e h) n u refl ∙ joined-cut widths 0 bs b l),
  )

  -- with the gain bytes: the tenth field
  gain_bytes : (k : ℕ) → kind_of bs ≡ k → gain_kind k ≡ true → Number (gain_of bs) → word (to_bits binary32 (gain_of bs)) ∷ [] ≡ word (field bs 43 4) ∷ []
  gain_bytes k e g n = ap (λ (x : ℕ). word x ∷ []) (gain_kept (gain_is k e ∙ ap (λ (t : Bool). cond t (f32_at bs 43) oneᶠ) g) n)

  again_gain : Again 10 × Again 11 × Again 12
  unfolding undefined_by push_kind call_by bytes_by body_parts size_of sizes cut total widths push_of
  again_gain = (
    λ e h l n u. (defined_push, ap Push (push-from 10 (push_of bs) refl), push_bytes 10 _ _ e (seen first bs 10 e h) n u (gain_bytes 10 e refl n.5) ∙ joined-cut (widths ++ (4 ∷ [])) 0 bs b l),
    λ e h l n u. (defined_push, ap PushRelative (push-from 11 (push_of bs) refl), push_bytes 11 _ _ e (seen first bs 11 e h) n u (gain_bytes 11 e refl n.5) ∙ joined-cut (widths ++ (4 ∷ [])) 0 bs b l),
    λ e h l n u. (defined_push, ap PushDuration (push-from 12 (push_of bs) refl), push_bytes 12 _ _ e (seen first bs 12 e h) n u (gain_bytes 12 e refl n.5) ∙ joined-cut (widths ++ (4 ∷ [])) 0 bs b l),
  )

  -- 00
  create_equal : {k k' c c' m m' n n' : ℕ} → k ≡ k' → c ≡ c' → m ≡ m' → n ≡ n' → joined (byte k ∷ byte c ∷ byte m ∷ long n ∷ []) ≡ joined (byte k' ∷ byte c' ∷ byte m' ∷ long n' ∷ [])
  create_equal p q r s = cc

  again-creation : Again 0
  unfolding undefined_by call_by bytes_by body_parts size_of sizes cut total
  again-creation e h l n u =
      let m = mode_known (mode_byte bs) (seen first bs 0 e h) in
      let channels : get_or bs 1 0 ≤ 255 = omega (arith, b 1) in (
        rw (le-ltb 255 (get_or bs 1 0) channels, mode_not-unknown (mode_of (mode_byte bs))),
        ap (λ (x : ReplayMode). Create (get_or bs 1 0) x (field bs 3 8)) (mode_read (mode_of (mode_byte bs))),
        create_equal (kind_kept e) (sym (byte-field bs 1)) (sym m ∙ sym (byte-field bs 2)) refl ∙ joined-cut (1 ∷ 1 ∷ 1 ∷ 8 ∷ []) 0 bs b l,
      )

  -- 04 and 05
  edit_equal : {k k' n n' e e' f f' : ℕ} → k ≡ k' → n ≡ n' → e ≡ e' → f ≡ f' → joined (byte k ∷ long n ∷ long e ∷ long f ∷ []) ≡ joined (byte k' ∷ long n' ∷ long e' ∷ long f' ∷ [])
  edit_equal p q r s = cc

  again-edit : Again 4 × Again 5
  unfolding undefined_by push_kind call_by bytes_by body_parts size_of sizes cut total edit_of edit_from
  again-edit = (
    λ e h l n u. (refl, refl, edit_equal (kind_kept e) refl (double-kept bs b 9 n.0) (double-kept bs b 17 n.1) ∙ joined-cut (1 ∷ 8 ∷ 8 ∷ 8 ∷ []) 0 bs b l),
    λ e h l n u. (refl, refl, edit_equal (kind_kept e) refl (double-kept bs b 9 n.0) (double-kept bs b 17 n.1) ∙ joined-cut (1 ∷ 8 ∷ 8 ∷ 8 ∷ []) 0 bs b l),
  )

  -- 06, 07, 08 and 09
  one_equal : {k k' : ℕ} → k ≡ k' → joined (byte k ∷ []) ≡ joined (byte k' ∷ [])
  one_equal p = cc

  two_equal : {k k' : ℕ} {p p' : Part} → k ≡ k' → p ≡ p' → joined (byte k ∷ p ∷ []) ≡ joined (byte k' ∷ p' ∷ [])
  two_equal p q = cc

  again_others : Again 6 × Again 7 × Again 8 × Again 9
  unfolding undefined_by push_kind call_by bytes_by body_parts size_of sizes cut total
  again_others = (
    λ e h l n u. (refl, refl, one_equal (kind_kept e) ∙ joined-cut (1 ∷ []) 0 bs b l),
    λ e h l n u. (le-ltb 255 (get_or bs 1 0) (omega (arith, b 1)), refl, two_equal (kind_kept e) (ap byte (sym (byte-field bs 1))) ∙ joined-cut (1 ∷ 1 ∷ []) 0 bs b l),
    λ e h l n u. (refl, refl, one_equal (kind_kept e) ∙ joined-cut (1 ∷ []) 0 bs b l),
    λ e h l n u. (refl, refl, two_equal (kind_kept e) (ap long (double-kept bs b 1 n)) ∙ joined-cut (1 ∷ 8 ∷ []) 0 bs b l),
  )

  again : (k : ℕ) → k < 13 → Again k
  again =
      each_kind Again again-creation again-plain.0 again-plain.1 again-plain.2 again-edit.0 again-edit.1 again_others.0
      again_others.1 again_others.2 again_others.3 again_gain.0 again_gain.1 again_gain.2

-- ---- the theorem

-- what a record that reads is
record Taken (tape : List ℕ) (c : Cursor) (kind : ℕ) (call : Call) (next : Cursor) : Type 0 where
  within : c.at < length tape
  unrefused : unknown c.first (drop c.at tape) ≡ false
  whole : size_of (kind_of (drop c.at tape)) ≤ length (drop c.at tape)
  its_kind : kind_of (drop c.at tape) ≡ kind
  its_call : call_of (drop c.at tape) ≡ call
  its_next : c.at + size_of (kind_of (drop c.at tape)) ≡ next.at

taken : (tape : List ℕ) (c : Cursor) (kind : ℕ) (call : Call) (next : Cursor) → read_at tape c ≡ Record kind call next → Taken tape c kind call next
unfolding read_at record_of
taken tape c kind call next = go (ltb c.at (length tape)) refl (unknown c.first bs) refl (ltb (length bs) (size_of (kind_of bs))) refl
  where
    bs : List ℕ
    bs = drop c.at tape

    go : (p : Bool) → ltb c.at (length tape) ≡ p → (q : Bool) → unknown c.first bs ≡ q → (r : Bool) → ltb (length bs) (size_of (kind_of bs)) ≡ r
        → cond p (cond q (Refused (kind_of bs) 14) (cond r (Refused (kind_of bs) 15) (Record (kind_of bs) (call_of bs) (record { at = c.at + size_of (kind_of bs); first = false })))) End ≡ Record kind call next
        → Taken tape c kind call next
    go true p true q r s e = let z : ◌≡◌ {A = ℕ} 0 1 = cc in absurd (omega arith)
    go true p false q true s e = let z : ◌≡◌ {A = ℕ} 0 1 = cc in absurd (omega arith)
    go true p false q false s e =
        let n : ◌≡◌ {A = Cursor} (record { at = c.at + size_of (kind_of bs); first = false }) next = cc in
        record {
          within = ltb-true c.at (length tape) p;
          unrefused = q;
          whole = ltb-false (length bs) (size_of (kind_of bs)) s;
          its_kind = cc;
          its_call = cc;
          its_next = ap (λ (x : Cursor). x.at) n;
        }
    go false p q t r s e = let z : ◌≡◌ {A = ℕ} 0 1 = cc in absurd (omega arith)

-- a call's arguments have its kind
kind_of_lem : (k : ℕ) (call : Call) → (arguments_of k call).kind ≡ k
kind_of_lem k (Create channels mode first) = refl
kind_of_lem k (Push p) = refl
kind_of_lem k (PushRelative p) = refl
kind_of_lem k (PushDuration p) = refl
kind_of_lem k (Edit e) = refl
kind_of_lem k (EditRelative e) = refl
kind_of_lem k Tick = refl
kind_of_lem k (Process size) = refl
kind_of_lem k Reset = refl
kind_of_lem k (SetSampleRate rate) = refl

-- bytes that stand there already change nothing
laid-again : (tape : List ℕ) (at n : ℕ) → n ≤ length (drop at tape) → laid tape at (take n (drop at tape)) ≡ tape
laid-again tape at n h =
    let m : length (take n (drop at tape)) ≡ n = length-take-le n (drop at tape) h in
    rw (m, sym (take-add at n tape)) (take-append-drop (at + n) tape)

pub written-again : WritesAgain
unfolding call_of
written-again tape b c kind call next e n u = made (taken tape c kind call next e)
  where
    bs : List ℕ
    bs = drop c.at tape

    a : Arguments
    a = arguments_of kind call

    made : Taken tape c kind call next → WrittenAgain tape c.at kind call next.at
    made t =
        let k : kind_of bs ≡ kind = t.its_kind in
        let call-is : call ≡ call_at (plain_kind kind) bs = sym t.its_call ∙ ap (λ (x : ℕ). call_at (plain_kind x) bs) k in
        let whole : size_of kind ≤ length bs = subst (λ (x : ℕ). size_of x ≤ length bs) k t.whole in
        let known-kind : kind < 13 = subst (λ (x : ℕ). x < 13) k (known c.first bs t.unrefused) in
        let g = again c.first bs (bytes_drop c.at tape b) kind known-kind k t.unrefused whole (subst Numbers call-is n) (subst (λ (x : Call). unused bs x ≡ 0) call-is u) in
        let f : (undefined_by kind a ≡ false) × (call_by kind a ≡ call) × (bytes_by kind a ≡ take (size_of kind) bs)
        = subst (λ (x : Call). (undefined_by kind (arguments_of kind x) ≡ false) × (call_by kind (arguments_of kind x) ≡ x) × (bytes_by kind (arguments_of kind x) ≡ take (size_of kind) bs)) (sym call-is) g in
        let its : kind ≡ a.kind = sym (kind_of_lem kind call) in
        let place : c.at + size_of kind ≡ next.at = ap (λ (x : ℕ). c.at + size_of x) (sym k) ∙ t.its_next in
        let own : bytes_of a ≡ take (size_of kind) bs = subst (λ (x : ℕ). bytes_by x a ≡ take (size_of kind) bs) its f.2 in
        let room : size_of a.kind ≤ length tape - c.at = subst (λ (x : ℕ). size_of x ≤ length tape - c.at) its (subst (λ (x : ℕ). size_of kind ≤ x) (length-drop c.at tape) whole) in
        let r = accepted a tape c.at (subst (λ (x : ℕ). undefined_by x a ≡ false) its f.0) (enough_rest tape c.at (size_of a.kind) (omega (arith, t.within)) room) in
        let size : size_of kind ≡ next.at - c.at = omega arith in
        record {
          same-call = subst (λ (x : ℕ). call_by x a ≡ call) its f.1;
          own_bytes = own ∙ ap (λ (x : ℕ). take x bs) size;
          next_place = r.0 ∙ ap (λ (x : ℕ). Ok (c.at + size_of x)) (sym its) ∙ ap Ok place;
          same_tape = r.1 ∙ ap (λ (x : List ℕ). laid tape c.at x) own ∙ laid-again tape c.at (size_of kind) whole;
        }

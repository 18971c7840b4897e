-- Document 02, Paper 6: "Each record written reads back, where its kind may stand, as the same call". Assumes nothing.
use Rattle.std.specs.Prelude.{◌≡◌, Bool, List, [], ◌∷◌, ◌++◌, ℕ, ◌+◌, ◌%◌, ◌^◌, ◌≤◌, ◌<◌, T, ltb, eqb, take, drop, Float, Ok, Err}
use Rattle.std.proofs.Math.Path.{refl, ap}
use Rattle.std.proofs.Common.{sym, ◌∙◌, true≢false, append_assoc, arith, lit<, length-take-le, drop_at}
use Rattle.std.proofs.Math.Bool.{true, false, cond}
use Rattle.std.proofs.Math.Nat.{mod-eq_of_lt}
use borrow.Author.Tests.{ltb-false, lt-ltb, le-ltb, eqb-true, eqb-false}
use Rattle.std.proofs.Math.ListN.{length, length-append}
use Rattle.std.specs.Float.Ieee.{binary32, binary64, fits, of_bits, to_bits}
use Rattle.std.specs.Float.Ieee.Bits.{of_bits-to_bits, to_bits-lt}
use Rattle.floats.specs.Arithmetic.{oneᶠ}
use Rattle.event.specs.declared.Source.TheVariants.{Held, Ramp, Clip}
use Rattle.event.specs.Numbers.{source_number, first_word, second_word}
use Rattle.tape.specs.Fields.{field}
use Rattle.tape.specs.Tape.{kind_of, size_of, gain_kind, push_kind, curve_byte, source_byte, unknown_push, unknown, f64_at, f32_at, mode_of, push_of, edit_of, call_of, record_of, read_at}
use Rattle.tape.specs.Kinds.{each_kind}
use Rattle.tape.specs.Numbering.{InF32, source_read}
use Rattle.tape.specs.declared.reader.Cursor.{Cursor}
use Rattle.tape.specs.declared.reader.Read.TheVariants.{Record}
use Rattle.tape.specs.declared.reader.Call.TheVariants.{Create, Push, PushRelative, PushDuration, Edit, EditRelative, Process, SetSampleRate}
use Rattle.tape_writer.specs.declared.Arguments.{Arguments}
use Rattle.tape_writer.specs.declared.Refusal.TheVariants.{Undefined, NoRoom}
use Rattle.little_endian.specs.LowBytes.{little_endian}
use Rattle.little_endian.specs.Fields.{joined, byte, word, long}
use Rattle.tape_writer.specs.Writing.{source_from, push_from, edit_from, call_by, call_from, push_parts, body_parts, bytes_by, bytes_of, undefined_by, undefined, too_short, answered, buffer_after}
use Rattle.tape_writer.specs.Claim.{Typed, ReadsBack}
use Rattle.tape_writer.specs.LittleEndian.{le_bytes}
use Rattle.tape_writer.specs.Sizes.{long_as, kind_known, some_bytes, accepted, room_of}

-- ---- a byte, a double and a single as they are read
in-byte : (n m : ℕ) → n ≤ m → m < 256 → n % 256 ≡ n
in-byte n m h k = mod-eq_of_lt (omega arith)

double-read : (bs : List ℕ) (at : ℕ) (x : Float) → T (fits binary64 x) → field bs at 8 ≡ to_bits binary64 x → f64_at bs at ≡ x
double-read bs at x h e = ap (of_bits binary64) e ∙ of_bits-to_bits binary64 x h

single-read : (bs : List ℕ) (at : ℕ) (x : Float) → T (fits binary32 x) → field bs at 4 ≡ to_bits binary32 x → f32_at bs at ≡ x
single-read bs at x h e = ap (of_bits binary32) e ∙ of_bits-to_bits binary32 x h

-- ---- the source
source_in_f32 : (a : Arguments) → Typed a → InF32 (source_from a)
unfolding source_from
source_in_f32 a t = go (eqb a.source 0) (eqb a.source 1)
  where
    go : (p q : Bool) → InF32 (cond p (Held a.value) (cond q (Ramp a.value a.step) (Clip a.offset a.length)))
    go true q = t.value
    go false true = (t.value, t.step)
    go false false = tt

source_number_lem : (a : Arguments) → a.source ≤ 2 → source_number (source_from a) ≡ a.source
unfolding source_from
source_number_lem a h = go (eqb a.source 0) (eqb-true a.source 0) (eqb-false a.source 0) (eqb a.source 1) (eqb-true a.source 1) (eqb-false a.source 1)
  where
    go : (p : Bool) → (p ≡ true → a.source ≡ 0) → (p ≡ false → a.source ≡ 0 → ⊥) → (q : Bool) → (q ≡ true → a.source ≡ 1) → (q ≡ false → a.source ≡ 1 → ⊥)
        → source_number (cond p (Held a.value) (cond q (Ramp a.value a.step) (Clip a.offset a.length))) ≡ a.source
    go true e f q g i = sym (e refl)
    go false e f true g i = sym (g refl)
    go false e f false g i = let x = f refl in let y = i refl in omega arith

word_below : (a : Arguments) → Typed a → (first_word (source_from a) < 2 ^ 32) × (second_word (source_from a) < 2 ^ 32)
unfolding source_from
word_below a t = go (eqb a.source 0) (eqb a.source 1)
  where
    go : (p q : Bool) → (first_word (cond p (Held a.value) (cond q (Ramp a.value a.step) (Clip a.offset a.length))) < 2 ^ 32)
        × (second_word (cond p (Held a.value) (cond q (Ramp a.value a.step) (Clip a.offset a.length))) < 2 ^ 32)
    go true q = (to_bits-lt binary32 a.value t.value, lit< tt)
    go false true = (to_bits-lt binary32 a.value t.value, to_bits-lt binary32 a.step t.step)
    go false false = (t.offset, t.length)

-- ---- the fields of a push
pub record PushFields (bs : List ℕ) (k : ℕ) (a : Arguments) : Type 0 where
  pub kind : kind_of bs ≡ k
  pub start : field bs 1 8 ≡ to_bits binary64 a.start_time
  pub end : field bs 9 8 ≡ to_bits binary64 a.end_time
  pub fade_in : field bs 17 8 ≡ to_bits binary64 a.fade_in
  pub fade_out : field bs 25 8 ≡ to_bits binary64 a.fade_out
  pub curve : curve_byte bs ≡ a.curve
  pub source : source_byte bs ≡ a.source
  pub first : field bs 35 4 ≡ first_word (source_from a)
  pub second : field bs 39 4 ≡ second_word (source_from a)
  pub gain : gain_kind k ≡ true → field bs 43 4 ≡ to_bits binary32 a.gain

gain_read : (bs : List ℕ) (k : ℕ) (x one : Float) → T (fits binary32 x) → kind_of bs ≡ k → (gain_kind k ≡ true → field bs 43 4 ≡ to_bits binary32 x) → cond (gain_kind (kind_of bs)) (f32_at bs 43) one ≡ cond (gain_kind k) x one
gain_read bs k x one h e g = ap (λ (n : ℕ). cond (gain_kind n) (f32_at bs 43) one) e ∙ go (gain_kind k) g
  where
    go : (b : Bool) → (b ≡ true → field bs 43 4 ≡ to_bits binary32 x) → cond b (f32_at bs 43) one ≡ cond b x one
    go true g = single-read bs 43 x h (g refl)
    go false g = refl

push-same : (bs : List ℕ) (k : ℕ) (a : Arguments) → Typed a → a.source ≤ 2 → PushFields bs k a → push_of bs ≡ push_from k a
unfolding push_of push_from
push-same bs k a t s f =
    let source = source_read bs (source_from a) (source_in_f32 a t) (f.source ∙ sym (source_number_lem a s)) f.first f.second in
    simp (
      double-read bs 1 a.start_time t.start f.start,
      double-read bs 9 a.end_time t.end f.end,
      double-read bs 17 a.fade_in t.fade_in f.fade_in,
      double-read bs 25 a.fade_out t.fade_out f.fade_out,
      f.curve,
      source,
      gain_read bs k a.gain oneᶠ t.gain f.kind f.gain,
    )

-- ---- a creation and an edit
create-same : (c c' m m' n n' : ℕ) → c ≡ c' → m ≡ m' → n ≡ n' → Create c (mode_of m) n ≡ Create c' (mode_of m') n'
create-same c c' m m' n n' p q r = cc

edit-same : (bs : List ℕ) (a : Arguments) → Typed a → field bs 1 8 ≡ a.number → field bs 9 8 ≡ to_bits binary64 a.end_time → field bs 17 8 ≡ to_bits binary64 a.fade_out → edit_of bs ≡ edit_from a
unfolding edit_of edit_from
edit-same bs a t n e o = simp (n, double-read bs 9 a.end_time t.end e, double-read bs 17 a.fade_out t.fade_out o)

-- ---- the fields of what was put down, whatever follows
gain_field : (k s e f o c u v w x : ℕ) (rest : List ℕ) → x < 2 ^ 32 → (g : Bool) → g ≡ true → field (joined (byte k ∷ long s ∷ long e ∷ long f ∷ long o ∷ byte c ∷ byte u ∷ word v ∷ word w ∷ cond g (word x ∷ []) []) ++ rest) 43 4 ≡ x
unfolding joined little_endian field
gain_field k s e f o c u v w x rest h true p = le_bytes 4 x h
gain_field k s e f o c u v w x rest h false p = absurd (true≢false (sym p))

module _ (a : Arguments) (t : Typed a) (rest : List ℕ) where
  pushed : (k : ℕ) → List ℕ
  pushed k = joined (byte k ∷ push_parts k a) ++ rest

  push_fields : (k : ℕ) → k < 13 → a.curve ≤ 1 → a.source ≤ 2 → PushFields (pushed k) k a
  unfolding joined little_endian field pushed
  push_fields k h c s = record {
    kind = mod-eq_of_lt (omega arith);
    start = le_bytes 8 (to_bits binary64 a.start_time) (to_bits-lt binary64 a.start_time t.start);
    end = le_bytes 8 (to_bits binary64 a.end_time) (to_bits-lt binary64 a.end_time t.end);
    fade_in = le_bytes 8 (to_bits binary64 a.fade_in) (to_bits-lt binary64 a.fade_in t.fade_in);
    fade_out = le_bytes 8 (to_bits binary64 a.fade_out) (to_bits-lt binary64 a.fade_out t.fade_out);
    curve = in-byte a.curve 1 c (lit< tt);
    source = in-byte a.source 2 s (lit< tt);
    first = le_bytes 4 (first_word (source_from a)) (word_below a t).0;
    second = le_bytes 4 (second_word (source_from a)) (word_below a t).1;
    gain = gain_field k (to_bits binary64 a.start_time) (to_bits binary64 a.end_time) (to_bits binary64 a.fade_in) (to_bits binary64 a.fade_out) a.curve a.source (first_word (source_from a)) (second_word (source_from a)) (to_bits binary32 a.gain) rest (to_bits-lt binary32 a.gain t.gain) (gain_kind k);
  }

  -- a push's curve and source bytes are known
  known-push : a.curve ≤ 1 → a.source ≤ 2 → cond (ltb 1 (a.curve % 256)) true (ltb 2 (a.source % 256)) ≡ false
  known-push c s = rw (in-byte a.curve 1 c (lit< tt), in-byte a.source 2 s (lit< tt), le-ltb 1 a.curve c, le-ltb 2 a.source s)

  defined_push : cond (ltb 1 a.curve) true (ltb 2 a.source) ≡ false → (a.curve ≤ 1) × (a.source ≤ 2)
  defined_push = go (ltb 1 a.curve) (ltb-false 1 a.curve)
    where
      go : (p : Bool) → (p ≡ false → a.curve ≤ 1) → cond p true (ltb 2 a.source) ≡ false → (a.curve ≤ 1) × (a.source ≤ 2)
      go true e h = absurd (true≢false h)
      go false e h = (e refl, ltb-false 2 a.source h)

  -- what 14 and the call see of the record of kind k
  abbrev Reads : (k : ℕ) → Type 0
  Reads k = undefined_by k a ≡ false → (unknown (eqb k 0) (bytes_by k a ++ rest) ≡ false) × (call_of (bytes_by k a ++ rest) ≡ call_by k a)

  reads-creation : Reads 0
  unfolding unknown call_of call_by bytes_by body_parts joined little_endian field undefined_by
  reads-creation h =
      let d = defined (ltb 255 a.channels) (ltb-false 255 a.channels) h in
      let c = in-byte a.channels 255 d.0 (lit< tt) in
      let m = in-byte a.mode 1 d.1 (lit< tt) in
      let n = le_bytes 8 a.number t.number in
      (rw (m, le-ltb 1 a.mode d.1), create-same _ _ _ _ _ _ c m n)
    where
      defined : (p : Bool) → (p ≡ false → a.channels ≤ 255) → cond p true (ltb 1 a.mode) ≡ false → (a.channels ≤ 255) × (a.mode ≤ 1)
      defined true e h = absurd (true≢false h)
      defined false e h = (e refl, ltb-false 1 a.mode h)

  -- the pushes 01, 02, 03 and 0A, 0B, 0C
  push-read : (k : ℕ) → k < 13 → cond (ltb 1 a.curve) true (ltb 2 a.source) ≡ false → push_of (pushed k) ≡ push_from k a
  push-read k h d = let b = defined_push d in push-same (pushed k) k a t b.1 (push_fields k h b.0 b.1)

  reads-push : Reads 1 × Reads 2 × Reads 3 × Reads 10 × Reads 11 × Reads 12
  unfolding unknown unknown_push push_kind call_of call_by bytes_by body_parts joined little_endian undefined_by pushed
  reads-push = (
    λ h. (known-push (defined_push h).0 (defined_push h).1, ap Push (push-read 1 (lit< tt) h)),
    λ h. (known-push (defined_push h).0 (defined_push h).1, ap PushRelative (push-read 2 (lit< tt) h)),
    λ h. (known-push (defined_push h).0 (defined_push h).1, ap PushDuration (push-read 3 (lit< tt) h)),
    λ h. (known-push (defined_push h).0 (defined_push h).1, ap Push (push-read 10 (lit< tt) h)),
    λ h. (known-push (defined_push h).0 (defined_push h).1, ap PushRelative (push-read 11 (lit< tt) h)),
    λ h. (known-push (defined_push h).0 (defined_push h).1, ap PushDuration (push-read 12 (lit< tt) h)),
  )

  reads-edit : Reads 4 × Reads 5
  unfolding unknown push_kind call_of call_by bytes_by body_parts joined little_endian field
  reads-edit =
      let n = le_bytes 8 a.number t.number in
      let e = le_bytes 8 (to_bits binary64 a.end_time) (to_bits-lt binary64 a.end_time t.end) in
      let o = le_bytes 8 (to_bits binary64 a.fade_out) (to_bits-lt binary64 a.fade_out t.fade_out) in
      (λ h. (refl, ap Edit (edit-same (bytes_by 4 a ++ rest) a t n e o)), λ h. (refl, ap EditRelative (edit-same (bytes_by 5 a ++ rest) a t n e o)))

  reads_others : Reads 6 × Reads 7 × Reads 8 × Reads 9
  unfolding unknown push_kind call_of call_by bytes_by body_parts joined little_endian field undefined_by
  reads_others = (
    λ h. (refl, refl),
    λ h. (refl, ap Process (in-byte a.size 255 (ltb-false 255 a.size h) (lit< tt))),
    λ h. (refl, refl),
    λ h. (refl, ap SetSampleRate (double-read (bytes_by 9 a ++ rest) 1 a.sample_rate t.rate (le_bytes 8 (to_bits binary64 a.sample_rate) (to_bits-lt binary64 a.sample_rate t.rate)))),
  )

  reads : (k : ℕ) → k < 13 → Reads k
  reads =
      each_kind Reads reads-creation reads-push.0 reads-push.1 reads-push.2 reads-edit.0 reads-edit.1 reads_others.0
      reads_others.1 reads_others.2 reads_others.3 reads-push.3 reads-push.4 reads-push.5

  kind_read : (k : ℕ) → k < 13 → kind_of (bytes_by k a ++ rest) ≡ k
  unfolding bytes_by joined little_endian
  kind_read k h = mod-eq_of_lt (omega arith)

  -- the record that begins the list is the one that was put down
  pub begins : (k : ℕ) → undefined_by k a ≡ false → (at : ℕ) → record_of (record { at = at; first = eqb k 0 }) (bytes_by k a ++ rest) ≡ Record k (call_by k a) (record { at = at + size_of k; first = false })
  unfolding record_of
  begins k d at =
      let h = kind_known k a d in
      let r = reads k h d in
      let long : size_of k ≤ length (bytes_by k a ++ rest) = omega (arith, length-append (bytes_by k a) rest, long_as k a h) in
      simp (r.0, kind_read k h, le-ltb _ _ long, r.1)

-- ---- the theorem

-- bytes that stand at a place are read there
stands : (front bytes rest : List ℕ) (c : Cursor) → length front ≡ c.at → 0 < length bytes → read_at (front ++ bytes ++ rest) c ≡ record_of c (bytes ++ rest)
unfolding read_at
stands front bytes rest c e h =
    let whole : front ++ bytes ++ rest ≡ front ++ (bytes ++ rest) = append_assoc front bytes rest in
    let within : c.at < length (front ++ (bytes ++ rest)) = omega (arith, length-append front (bytes ++ rest), length-append bytes rest) in
    rw (whole, lt-ltb c.at (length (front ++ (bytes ++ rest))) within, drop_at front (bytes ++ rest) c.at e)

-- a record that was written reads back, first if it is 00 and not first if it is another, as its call with the next free place
pub read_back : ReadsBack
unfolding answered
read_back a t buf at n = go (undefined a) refl (too_short buf at (size_of a.kind)) refl
  where
    c : Cursor
    c = record { at = at; first = eqb a.kind 0 }

    go : (u : Bool) → undefined a ≡ u → (s : Bool) → too_short buf at (size_of a.kind) ≡ s → cond u (Err Undefined) (cond s (Err NoRoom) (Ok (at + size_of a.kind))) ≡ Ok n
        → read_at (buffer_after a buf at) c ≡ Record a.kind (call_from a) (record { at = n; first = false })
    go true d s r e = let z : ◌≡◌ {A = ℕ} 0 1 = cc in absurd (omega arith)
    go false d true r e = let z : ◌≡◌ {A = ℕ} 0 1 = cc in absurd (omega arith)
    go false d false r e =
        let m : at + size_of a.kind ≡ n = cc in
        let w = room_of buf at (size_of a.kind) r in
        let rest = drop (at + length (bytes_of a)) buf in
        ap (λ (l : List ℕ). read_at l c) (accepted a buf at d r).1
        ∙ stands (take at buf) (bytes_of a) rest c (length-take-le at buf w.0) (some_bytes a.kind a)
        ∙ begins a t rest a.kind d at
        ∙ ap (λ (i : ℕ). Record a.kind (call_from a) (record { at = i; first = false })) m

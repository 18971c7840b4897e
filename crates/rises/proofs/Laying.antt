-- The loop over the tape's records: what the buffer has, and what is left. Assumes nothing.
use Rattle.std.proofs.Common.{Ok, Err, ◌≡◌, ℕ, suc, ◌+◌, ◌-◌, ◌*◌, ◌<◌, ◌≤◌, true, false, ltb, List, [], ◌++◌, length, take, drop, sym, refl, ap, ◌∙◌, subst, append_assoc, append-nil, arith, length-append, length-drop, drop-drop, le-ltb, lt-ltb}
use lib.Seq.{take-append_seam, drop-append-add}
use Rattle.event.specs.declared.ReplayMode.TheVariants.{All}
use Rattle.tape.specs.Tape.{sizes, size_of, push_kind}
use Rattle.tape.specs.declared.reader.Call.TheVariants.{Create, Push}
use Rattle.tape.specs.declared.reader.PushRecord.{PushRecord}
use Rattle.tape_writer.specs.declared.Arguments.{Arguments}
use Rattle.tape_writer.specs.Writing.{bytes_of, undefined, undefined_by, buffer_after}
use Rattle.tape_writer.specs.Claim.{arguments_of}
use Rattle.tape_writer.specs.Sizes.{long_as, accepted, enough_rest}
use Rattle.rises.specs.Arrangement.{kth_push}
use Rattle.rises.specs.declared.Refusal.TheVariants.{Short}
use Rattle.rises.specs.Tapes.{creation_bytes, kth_bytes, records_from, tape_of, size_of_tape}
use Rattle.rises.specs.Answers.{is_size, lay_answer, tape_laid}

-- ---- a record behind those that are done

module _ (a : Arguments) (known : undefined a ≡ false) (small : a.kind < 13) (buf done : List ℕ) (at : ℕ) (place : length done ≡ at) (room : at + size_of a.kind ≤ length buf) where
  abbrev now : List ℕ
  now = done ++ drop at buf

  now_long : length now ≡ length buf
  now_long = let a = length-append done (drop at buf) in let b = length-drop at buf in omega (arith, a, b, place, room)

  taken : take at now ≡ done
  taken = subst (λ (n : ℕ). take n now ≡ done) place (take-append_seam done (drop at buf))

  behind : (m : ℕ) → drop (at + m) now ≡ drop (at + m) buf
  behind m = subst (λ (n : ℕ). drop (n + m) now ≡ drop m (drop at buf)) place (drop-append-add done (drop at buf) m) ∙ drop-drop m at buf

  pub record_on : buffer_after a now at ≡ (done ++ bytes_of a) ++ drop (at + size_of a.kind) buf
  record_on =
      (accepted a now at known (enough_rest now at (size_of a.kind) (omega (arith, now_long, room)) (omega (arith, now_long, room)))).1
      ∙ ap (λ (l : List ℕ). l ++ bytes_of a ++ drop (at + length (bytes_of a)) now) taken
      ∙ ap (λ (n : ℕ). done ++ bytes_of a ++ drop (at + n) now) (long_as a.kind a small)
      ∙ ap (λ (l : List ℕ). done ++ bytes_of a ++ l) (behind (size_of a.kind))

-- ---- the loop: k of the n pushes are written

pub record Laying (n : ℕ) (buf₀ buf : List ℕ) (at k : ℕ) : Type 0 where
  pub done : List ℕ
  pub inside : k ≤ n
  pub free : at ≡ size_of_tape k
  pub place : length done ≡ at
  pub front : buf ≡ done ++ drop at buf₀
  pub gives : done ++ records_from n (k + 1) (n - k) ≡ tape_of n

abbrev creation : Arguments
creation = arguments_of 0 (Create 1 All 1)

abbrev kth : (n k : ℕ) → Arguments
kth n k = arguments_of 1 (Push (kth_push n k))

creation-known : undefined creation ≡ false
unfolding undefined_by
creation-known = refl

kth-known : (n k : ℕ) → undefined (kth n k) ≡ false
unfolding undefined_by push_kind kth_push
kth-known n k = refl

eleven : size_of 0 ≡ 11
unfolding size_of sizes
eleven = refl

forty_three : size_of 1 ≡ 43
unfolding size_of sizes
forty_three = refl

-- the first record is written: buf₀ is the buffer before it, buf behind it
module _ (n : ℕ) (buf₀ : List ℕ) (room : size_of_tape n ≤ length buf₀) (a : Arguments) (e : a ≡ creation) (buf : List ℕ) (h : buf ≡ buffer_after a buf₀ 0) where
  creation-long : length creation_bytes ≡ 11
  creation-long = long_as 0 creation (omega arith) ∙ eleven

  pub begun : buf ≡ creation_bytes ++ drop 11 buf₀
  unfolding size_of
  begun =
      h ∙ ap (λ (a : Arguments). buffer_after a buf₀ 0) e ∙ record_on creation creation-known (omega arith) buf₀ [] 0 refl (omega (arith, room, eleven))
      ∙ ap (λ (m : ℕ). creation_bytes ++ drop m buf₀) eleven

  pub as_long : length buf ≡ length buf₀
  as_long =
      let x = length-append creation_bytes (drop 11 buf₀) in
      let y = length-drop 11 buf₀ in
      ap length begun ∙ omega (arith, x, y, creation-long, room)

  pub unchanged : (m : ℕ) → drop (11 + m) buf ≡ drop (11 + m) buf₀
  unchanged m = ap (drop (11 + m)) begun ∙ subst (λ (k : ℕ). drop (k + m) (creation_bytes ++ drop 11 buf₀) ≡ drop m (drop 11 buf₀)) creation-long (drop-append-add creation_bytes (drop 11 buf₀) m) ∙ drop-drop m 11 buf₀

  pub creation-laid : Laying n buf buf 11 0
  unfolding tape_of
  creation-laid = record {
    done = creation_bytes;
    inside = omega arith;
    free = refl;
    place = creation-long;
    front = begun ∙ ap (λ (l : List ℕ). creation_bytes ++ l) (sym (unchanged 0));
    gives = let q : n - 0 ≡ n = omega arith in ap (λ (f : ℕ). creation_bytes ++ records_from n 1 f) q;
  }

  module _ {at k : ℕ} {after : List ℕ} (l : Laying n buf after at k) where
    pub same-long : length after ≡ length buf₀
    same-long =
        let x = length-append l.done (drop at buf) in
        let y = length-drop at buf in
        ap length l.front ∙ omega (arith, x, y, l.place, l.free, l.inside, room, as_long)

    pub push-laid : k < n → (p : PushRecord) → p ≡ kth_push n (k + 1) → (a : Arguments) → a ≡ arguments_of 1 (Push p) → (next : List ℕ) → next ≡ buffer_after a after at
        → Laying n buf next (at + 43) (k + 1)
    unfolding records_from
    push-laid h p hp a e next q = record {
      done = l.done ++ kth_bytes n (k + 1);
      inside = omega arith;
      free = omega (arith, l.free);
      place = let x = length-append l.done (kth_bytes n (k + 1)) in omega (arith, x, l.place, long_as 1 (kth n (k + 1)) (omega arith), forty_three);
      front =
          q ∙ ap (λ (a : Arguments). buffer_after a after at) (e ∙ ap (λ (p : PushRecord). arguments_of 1 (Push p)) hp) ∙ ap (λ (b : List ℕ). buffer_after (kth n (k + 1)) b at) l.front
          ∙ record_on (kth n (k + 1)) (kth-known n (k + 1)) (omega arith) buf l.done at l.place (omega (arith, room, as_long, l.free, forty_three))
          ∙ ap (λ (m : ℕ). (l.done ++ kth_bytes n (k + 1)) ++ drop (at + m) buf) forty_three;
      gives =
          let m : n - k ≡ suc (n - (k + 1)) = omega arith in
          let i : suc (k + 1) ≡ k + 1 + 1 = omega arith in
          append_assoc l.done (kth_bytes n (k + 1)) (records_from n (k + 1 + 1) (n - (k + 1)))
          ∙ ap (λ (i : ℕ). l.done ++ (kth_bytes n (k + 1) ++ records_from n i (n - (k + 1)))) (sym i)
          ∙ sym (ap (λ (f : ℕ). l.done ++ records_from n (k + 1) f) m) ∙ l.gives;
    }

    pub all_laid : n ≤ k → is_size n ≡ true → (Ok at ≡ lay_answer n buf₀) × (after ≡ tape_laid n buf₀)
    unfolding records_from lay_answer tape_laid
    all_laid h w = (answer, lent)
      where
        fits : ltb (length buf₀) (size_of_tape n) ≡ false
        fits = le-ltb (length buf₀) (size_of_tape n) room

        size : at ≡ size_of_tape n
        size = omega (arith, h, l.inside, l.free)

        whole : l.done ≡ tape_of n
        whole =
            let q : n - k ≡ 0 = omega (arith, h) in
            sym (append-nil l.done) ∙ sym (ap (λ (f : ℕ). l.done ++ records_from n (k + 1) f) q) ∙ l.gives

        answer : Ok at ≡ lay_answer n buf₀
        answer = rw (w, fits) (ap Ok size)

        lent : after ≡ tape_laid n buf₀
        lent =
            rw (w, fits)
            (l.front ∙ ap (λ (d : List ℕ). d ++ drop at buf) whole ∙ ap (λ (m : ℕ). tape_of n ++ drop m buf) size
            ∙ ap (λ (r : List ℕ). tape_of n ++ r) (unchanged (43 * n)))

pub too_short : (n : ℕ) (buf : List ℕ) → length buf < size_of_tape n → is_size n ≡ true → (Err Short ≡ lay_answer n buf) × (buf ≡ tape_laid n buf)
unfolding lay_answer tape_laid
too_short n buf h w = (rw (w, lt-ltb (length buf) (size_of_tape n) h), rw (w, lt-ltb (length buf) (size_of_tape n) h))

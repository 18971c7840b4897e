-- The tape of n pushes reads back as record 00 and the arrangement's n pushes, and then ends: Paper 6's `read_back`, record after record.
use Rattle.std.specs.Prelude.{◌≡◌, ℕ, zero, suc, ◌+◌, ◌-◌, ◌≤◌, false, List, [], ◌++◌, map, length, take, drop, refl}
use Rattle.std.proofs.Common.{ap, ◌∙◌, subst, append_assoc, append-nil, arith, lit<, length-append, le-ltb}
use Rattle.std.specs.Float.{binary64}
use Rattle.std.specs.Float.Ieee.{fits}
use Rattle.std.specs.Float.Ieee.Fits.{round-fits}
use Rattle.std.proofs.Math.Seq.{take-append_seam, drop-append-add}
use Rattle.floats.specs.Arithmetic.{whole}
use Rattle.event.specs.declared.ReplayMode.TheVariants.{All}
use Rattle.tape.specs.Tape.{read_at, size_of, push_kind}
use Rattle.tape.specs.declared.reader.Call.{Call}
use Rattle.tape.specs.declared.reader.Call.TheVariants as call
use Rattle.tape.specs.declared.reader.Read.TheVariants.{Record}
use Rattle.tape_writer.specs.declared.Arguments.{Arguments}
use Rattle.tape_writer.specs.Writing.{bytes_of, call_from, call_by, push_from, source_from, undefined, undefined_by, too_short, buffer_after}
use Rattle.tape_writer.specs.Claim.{Typed}
use Rattle.tape_writer.specs.Sizes.{long_as, kind_known, accepted, enough_rest}
use Rattle.tape_writer.specs.ReadBack.{read_back}
use Rattle.rises.specs.Arrangement.{kth_push, pushes_from, arrangement}
use Rattle.rises.specs.Tapes.{creation_bytes, kth_bytes, records_from, tape_of}
use Rattle.rises.specs.Records.{Reads, fresh, push_record, records_of, Reaches}
use Rattle.rises.proofs.Attained.{attained}
use Rattle.rises.specs.TapeReads.{tape, here, next, creation, kth}

module _ (a : Arguments) (t : Typed a) (known : undefined a ≡ false) (front rest : List ℕ) (at : ℕ) (place : length front ≡ at) where
  long : length (bytes_of a) ≡ size_of a.kind
  long = long_as a.kind a (kind_known a.kind a known)

  room : too_short (tape a t known front rest at place) at (size_of a.kind) ≡ false
  room =
      let x = length-append front (bytes_of a ++ rest) in
      let y = length-append (bytes_of a) rest in
      enough_rest (tape a t known front rest at place) at (size_of a.kind) (omega (arith, x, place)) (omega (arith, x, y, place, long))

  -- written once more, it changes nothing
  again : buffer_after a (tape a t known front rest at place) at ≡ tape a t known front rest at place
  again =
      (accepted a (tape a t known front rest at place) at known room).1
      ∙ ap (λ (l : List ℕ). l ++ bytes_of a ++ drop (at + length (bytes_of a)) (tape a t known front rest at place)) taken
      ∙ ap (λ (l : List ℕ). front ++ bytes_of a ++ l) behind
      ∙ append_assoc front (bytes_of a) rest
    where
      taken : take at (tape a t known front rest at place) ≡ front
      taken = subst (λ (n : ℕ). take n (tape a t known front rest at place) ≡ front) place (take-append_seam front (bytes_of a ++ rest))

      cut : drop (length (bytes_of a) + 0) (bytes_of a ++ rest) ≡ rest
      cut = drop-append-add (bytes_of a) rest 0

      behind : drop (at + length (bytes_of a)) (tape a t known front rest at place) ≡ rest
      behind =
          let z : length (bytes_of a) + 0 ≡ length (bytes_of a) = omega arith in
          subst (λ (n : ℕ). drop (n + length (bytes_of a)) (tape a t known front rest at place) ≡ drop (length (bytes_of a)) (bytes_of a ++ rest)) place
          (drop-append-add front (bytes_of a ++ rest) (length (bytes_of a)))
          ∙ subst (λ (n : ℕ). drop n (bytes_of a ++ rest) ≡ rest) z cut

  reads_there : read_at (tape a t known front rest at place) (here a t known front rest at place) ≡ Record a.kind (call_from a) (next a t known front rest at place)
  reads_there =
      subst (λ (l : List ℕ). read_at l (here a t known front rest at place) ≡ Record a.kind (call_from a) (next a t known front rest at place)) again
      (read_back a t (tape a t known front rest at place) at (at + size_of a.kind) (accepted a (tape a t known front rest at place) at known room).0)

creation_typed : Typed creation
unfolding fits
creation_typed = record {
  number = lit< tt;
  start = tt;
  end = tt;
  fade_in = tt;
  fade_out = tt;
  value = tt;
  step = tt;
  offset = lit< tt;
  length = lit< tt;
  gain = tt;
  rate = tt;
}

kth_typed : (n k : ℕ) → Typed (kth n k)
unfolding kth_push whole fits
kth_typed n k = record {
  number = lit< tt;
  start = round-fits binary64 false (n - k) 1;
  end = round-fits binary64 false n 1;
  fade_in = tt;
  fade_out = tt;
  value = tt;
  step = tt;
  offset = lit< tt;
  length = lit< tt;
  gain = tt;
  rate = tt;
}

creation-known : undefined creation ≡ false
unfolding undefined_by
creation-known = refl

kth-known : (n k : ℕ) → undefined (kth n k) ≡ false
unfolding undefined_by push_kind kth_push
kth-known n k = refl

creation-call : call_from creation ≡ call.Create 1 All 1
unfolding call_by
creation-call = refl

kth-call : (n k : ℕ) → call_from (kth n k) ≡ call.Push (kth_push n k)
unfolding call_by push_from source_from kth_push
kth-call n k = refl

-- ---- all of them

-- the last f pushes, behind other bytes
pushes-read : (n f k : ℕ) (front : List ℕ) (at : ℕ) → length front ≡ at
    → Reads (front ++ records_from n k f) (record { at = at; first = false }) (map push_record (pushes_from n k f))
unfolding Reads records_from pushes_from read_at
pushes-read n zero k front at h =
    ap (λ (l : List ℕ). read_at l (record { at = at; first = false })) (append-nil front)
    ∙ rw (le-ltb at (length front) (omega (arith, h)))
pushes-read n (suc f) k front at h = (
  record { at = at + size_of 1; first = false },
  reads_there (kth n k) (kth_typed n k) (kth-known n k) front (records_from n (suc k) f) at h
      ∙ ap (λ (c : Call). Record 1 c (record { at = at + size_of 1; first = false })) (kth-call n k),
  subst (λ (l : List ℕ). Reads l (record { at = at + size_of 1; first = false }) (map push_record (pushes_from n (suc k) f)))
      (append_assoc front (kth_bytes n k) (records_from n (suc k) f))
      (pushes-read n f (suc k) (front ++ kth_bytes n k) (at + size_of 1) (length-append front (kth_bytes n k) ∙ omega (arith, h, long_as 1 (kth n k) (lit< tt)))),
)

pub tape-reads : (n : ℕ) → Reads (tape_of n) fresh (records_of n)
unfolding Reads tape_of arrangement
tape-reads n = (
  record { at = 0 + size_of 0; first = false },
  reads_there creation creation_typed creation-known [] (records_from n 1 n) 0 refl
      ∙ ap (λ (c : Call). Record 0 c (record { at = 0 + size_of 0; first = false })) creation-call,
  pushes-read n n 1 creation_bytes (0 + size_of 0) (long_as 0 creation (lit< tt) ∙ omega arith),
)

-- for every n of the paper
pub reaches : (n : ℕ) → n ≤ 256 → Reaches n
reaches n h = let r = attained n h in record { records = tape-reads n; accepted = r.1; sum = r.0 }

-- The loop over a tape's records: what the records before came to and what the rest adds make the whole. Assumes nothing.
use Rattle.std.proofs.Common.{◌≡◌, ℕ, zero, suc, ◌+◌, ◌-◌, ◌*◌, ◌<◌, Bool, true, false, cond, eqb, List, length, sym, refl, ap, ◌∙◌, subst, true≢false, arith, ne_eqb}
use lib.Ieee.{Float}
use Rattle.event.specs.declared.ReplayMode.TheVariants.{All}
use Rattle.ledger.specs.Ledger.{Ledger, fresh}
use Rattle.tape.specs.declared.reader.Call.{Call}
use Rattle.tape.specs.declared.reader.Cursor.{Cursor}
use Rattle.tape.specs.declared.reader.Read.{Read}
use Rattle.tape.specs.declared.reader.Read.TheVariants.{Record, Refused, End}
use Rattle.tape.specs.Cursors.{is_record}
use Rattle.tape.specs.Tape.{read_at}
use Rattle.record_output.specs.Bytes.{bytes_of}
use Rattle.tape_extent.specs.declared.Extent.{Extent}
use Rattle.tape_extent.specs.declared.Pace.{Pace}
use Rattle.tape_extent.specs.declared.Paced.{Paced}
use Rattle.tape_extent.specs.Playing.{Played, play}
use Rattle.tape_extent.specs.Extents.{frames_of, nothing, rate_with, one_rate_with, longer, counted, ended_by, end_of, after_record, after_read, extent_from, whole_extent, capped, counts64, extent_of}
use Rattle.tape_extent.specs.Paces.{fresh_pace, paced}
use Rattle.tape_extent.specs.PacesPlay.{pace_of, Agrees}
use Rattle.tape_extent.proofs.Plays.{plays}

-- ---- counts of 64 bits

cap_add : (a b : ℕ) → capped (capped a + b) ≡ capped (a + b)
cap_add a b = omega arith

cap_zero : (a : ℕ) → eqb (capped a) 0 ≡ eqb a 0
cap_zero zero = refl
cap_zero (suc a) = ne_eqb (capped (suc a)) 0 (λ h. omega arith) ∙ sym (ne_eqb (suc a) 0 (λ h. omega arith))

one-rate-capped : (x : Extent) (n : ℕ) (r : Float) → one_rate_with (counts64 x) n r ≡ one_rate_with x n r
unfolding one_rate_with counts64
one-rate-capped x n r = rw (cap_zero x.frames)

pub longer-capped : (x : Extent) (b n : ℕ) (r : Float) → counts64 (longer (counts64 x) b n r) ≡ counts64 (longer x b n r)
unfolding longer counts64
longer-capped x b n r i = record {
  bytes = cap_add x.bytes b i;
  frames = cap_add x.frames n i;
  channels = x.channels;
  rate = rate_with x n r;
  one_rate = one-rate-capped x n r i;
  ended = x.ended;
}

-- ---- the loop

-- a ledger whose pace the code has, and the count without a bound
pub record Rolling (pool : List Float) (t : List ℕ) (pace : Pace) (x : Extent) (c : Cursor) (left : ℕ) : Type 0 where
  pub ledger : Ledger
  pub count : Extent
  pub pace_is : pace ≡ pace_of ledger
  pub count_is : x ≡ counts64 count
  pub rest : extent_from pool t left ledger c count ≡ whole_extent pool t

pub start : (pool : List Float) (t : List ℕ) (pace : Pace) (x : Extent) → pace ≡ fresh_pace 1 → x ≡ counts64 nothing → Rolling pool t pace x (record { at = 0; first = true }) (length t)
unfolding whole_extent fresh_pace fresh
start pool t pace x p q = record { ledger = fresh 1 All 1; count = nothing; pace_is = p; count_is = q; rest = refl }

module _ {pool : List Float} {t : List ℕ} {pace : Pace} {x : Extent} {c : Cursor} where
  -- the loop is done
  pub ends_done : (left : ℕ) → left ≡ 0 → Rolling pool t pace x c left → ended_by x pace.channels 0 ≡ extent_of pool t
  unfolding extent_from counts64
  ends_done zero h w =
      (λ i. ended_by (w.count_is i) (w.pace_is i).channels 0) ∙ ap counts64 w.rest
  ends_done (suc f) h w = absurd (omega arith)

  pub ends_unread : (left : ℕ) → 0 < left → Rolling pool t pace x c left → (r : Read) → r ≡ read_at t c → is_record r ≡ false → ended_by x pace.channels (end_of r) ≡ extent_of pool t
  unfolding extent_from after_read counts64
  ends_unread zero h w r e n = absurd (omega arith)
  ends_unread (suc f) h w r e n =
      (λ i. ended_by (w.count_is i) (w.pace_is i).channels (end_of r)) ∙ ap counts64 (go r n ∙ ap (λ (q : Read). after_read pool (extent_from pool t f) q w.ledger w.count) e ∙ w.rest)
    where
      go : (r : Read) → is_record r ≡ false → ended_by w.count w.ledger.channels (end_of r) ≡ after_read pool (extent_from pool t f) r w.ledger w.count
      go (Record k call next) n = absurd (true≢false n)
      go (Refused k m) n = refl
      go End n = refl

  -- one record: the code says q of it
  module _ (k : ℕ) (call : Call) (next : Cursor) (e : read_at t c ≡ Record k call next) (q : Paced) (is : q ≡ paced pace call) where
    agrees : {left : ℕ} (w : Rolling pool t pace x c left) → Agrees call (play pool w.ledger call) q
    agrees w = subst (Agrees call (play pool w.ledger call)) (sym (is ∙ ap (λ (p : Pace). paced p call) w.pace_is)) (plays pool w.ledger call)

    once : (f : ℕ) (w : Rolling pool t pace x c (suc f)) → after_record (extent_from pool t f) call (play pool w.ledger call) next w.count ≡ whole_extent pool t
    unfolding extent_from after_read
    once f w = ap (λ (r : Read). after_read pool (extent_from pool t f) r w.ledger w.count) (sym e) ∙ w.rest

    pub ends-refused : (left : ℕ) → 0 < left → Rolling pool t pace x c left → q.refused ≡ true → ended_by x q.pace.channels 1 ≡ extent_of pool t
    unfolding after_record counts64
    ends-refused zero h w b = absurd (omega arith)
    ends-refused (suc f) h w b =
        let p : Played = play pool w.ledger call in
        let a = agrees w in
        (λ i. ended_by (w.count_is i) (a.pace i).channels 1)
        ∙ ap counts64 (ap (λ (z : Bool). cond z (ended_by w.count p.ledger.channels 1) (extent_from pool t f p.ledger next (counted w.count call p))) (sym b ∙ a.refused) ∙ once f w)

    pub goes_on : (left : ℕ) → 0 < left → Rolling pool t pace x c left → q.refused ≡ false → (y : Extent) → y ≡ counts64 (longer x (4 * (q.pace.channels * q.frames)) q.frames q.pace.rate)
        → Rolling pool t q.pace y next (left - 1)
    unfolding after_record
    goes_on zero h w b y z = absurd (omega arith)
    goes_on (suc f) h w b y z =
        let p : Played = play pool w.ledger call in
        let a = agrees w in
        let n : f ≡ suc f - 1 = omega arith in
        let same : y ≡ counts64 (counted w.count call p) =
        z ∙ (λ i. counts64 (longer (w.count_is i) (a.bytes i) (a.frames i) (a.pace i).rate)) ∙ longer-capped w.count (length (bytes_of p.samples)) (frames_of call p) p.ledger.rate in
        subst (Rolling pool t q.pace y next) n (record {
          ledger = p.ledger;
          count = counted w.count call p;
          pace_is = a.pace;
          count_is = same;
          rest =
              ap (λ (z : Bool). cond z (ended_by w.count p.ledger.channels 1) (extent_from pool t f p.ledger next (counted w.count call p))) (sym b ∙ a.refused) ∙ once f w;
        })

-- Values of the definitions, computed. The expected ones come from the paper, or from counting by hand.
use Rattle.std.specs.Prelude.{◌≡◌, ℕ, true, false, List, [], ◌∷◌, ◌++◌, map, replicate, nat_lt, refl, Float, Some, None, Ok, Err}
use Rattle.std.specs.Float.{nan, binary64}
use Rattle.std.specs.Float.Ieee.{to_bits, le, lt, neg, sub}
use Rattle.event.specs.declared.Fade.TheVariants.{Smooth}
use Rattle.event.specs.declared.ReplayMode.TheVariants.{All}
use Rattle.event.specs.declared.Source.TheVariants.{Held}
use Rattle.event.specs.Events.{new_event}
use Rattle.floats.specs.Arithmetic.{zeroᶠ, oneᶠ, whole}
use Rattle.floats.specs.Floats.{sooner, total_less}
use Rattle.ledger.specs.Refusals.{within, within_end}
use Rattle.ledger.specs.Calls.{PushKind, absolute, relative, by_duration}
use Rattle.sequencer.specs.declared.Sequencer.{Sequencer}
use Rattle.sequencer.specs.Parts.{with_times}
use Rattle.sequencer.specs.Creation.{created}
use Rattle.sequencer.specs.Pushes.{pushes}
use Rattle.sequencer.specs.Rises.{rise_by}
use Rattle.ready.specs.Sift.{rise}
use Rattle.ready.specs.Waiting.{pushed, emptied}
use Rattle.rises.specs.Way.{floor_log2, way_up, later_at}
use Rattle.little_endian.specs.LowBytes.{little_endian}
use Rattle.little_endian.specs.Fields.{joined}
use Rattle.tape_writer.specs.Writing.{bytes_by, body_parts, source_from}
use Rattle.rises.specs.declared.Refusal.TheVariants.{Size, Short}
use Rattle.rises.specs.Refusals.{number_of}
use Rattle.rises.specs.Totals.{Push, pushed_by, levels_risen, total_rise, accepted_of, bound}
use Rattle.rises.specs.Arrangement.{fresh_one, kth_push, pushes_from, arrangement}
use Rattle.rises.specs.Words.{decimal, count_of}
use Rattle.rises.specs.Tapes.{records_from, tape_of}
use Rattle.rises.specs.Answers.{is_size, greatest_total, arranged_total, lay_answer, tape_laid}
use Rattle.rises.specs.Records.{push_record}
use Rattle.tape.specs.declared.reader.Call.TheVariants as call
use Rattle.tape.specs.declared.reader.PushRecord.{PushRecord}

logs : map floor_log2 (1 ∷ 2 ∷ 3 ∷ 4 ∷ 7 ∷ 8 ∷ 255 ∷ 256 ∷ []) ≡ 0 ∷ 1 ∷ 1 ∷ 2 ∷ 2 ∷ 3 ∷ 7 ∷ 8 ∷ []
unfolding floor_log2
logs = refl

-- "For 1 the figures are 0 0, for 256 1546 1546": 2 × 1 + 4 × 2 + 8 × 3 + 16 × 4 + 32 × 5 + 64 × 6 + 128 × 7 + 8
bounds : map bound (1 ∷ 2 ∷ 3 ∷ 4 ∷ 256 ∷ []) ≡ 0 ∷ 1 ∷ 2 ∷ 4 ∷ 1546 ∷ []
unfolding bound
bounds = refl

-- from place 11 (the twelfth): 5, 2 and the top
way : way_up 11 11 ≡ 5 ∷ 2 ∷ 0 ∷ []
unfolding way_up
way = refl

no_way : way_up 0 0 ≡ []
unfolding way_up
no_way = refl

-- 3 goes into the heap 1, 4, 2, 9, 5 at place 5: 2 stands above it, then 1; 4 is not on its way. 0 comes before both.
passed_none : later_at nat_lt 0 (way_up 5 5) (1 ∷ 4 ∷ 2 ∷ 9 ∷ 5 ∷ []) 3 ≡ 0
unfolding way_up later_at
passed_none = refl

passed-two : later_at nat_lt 0 (way_up 5 5) (1 ∷ 4 ∷ 2 ∷ 9 ∷ 5 ∷ []) 0 ≡ 2
unfolding way_up later_at
passed-two = refl

-- what stands off the way does not count, and an equal one does not come after: 4 at place 4, below 4, 1
passed_equal : later_at nat_lt 0 (way_up 4 4) (1 ∷ 4 ∷ 2 ∷ 9 ∷ []) 4 ≡ 0
unfolding way_up later_at
passed_equal = refl

passed-one : later_at nat_lt 0 (way_up 4 4) (1 ∷ 4 ∷ 2 ∷ 9 ∷ []) 3 ≡ 1
unfolding way_up later_at
passed-one = refl

-- "the number of events, on the way": all of them, also where the array is no heap and one that comes before stands between: 3 below 2 and 9
passed-above : later_at nat_lt 0 (way_up 5 5) (9 ∷ 4 ∷ 2 ∷ 9 ∷ 5 ∷ []) 3 ≡ 1
unfolding way_up later_at
passed-above = refl

-- ---- words: "n in decimal digits, no leading zero"

-- 1, 9, 10, 256
taken : map count_of ((49 ∷ []) ∷ (57 ∷ []) ∷ (49 ∷ 48 ∷ []) ∷ (50 ∷ 53 ∷ 54 ∷ []) ∷ []) ≡ map Some (1 ∷ 9 ∷ 10 ∷ 256 ∷ [])
unfolding count_of decimal
taken = refl

-- the empty word, 0, 257, 007, +5, 1e2, 1000, 2560, 1/ and 1:
refused :
    map count_of ([] ∷ (48 ∷ []) ∷ (50 ∷ 53 ∷ 55 ∷ []) ∷ (48 ∷ 48 ∷ 55 ∷ []) ∷ (43 ∷ 53 ∷ []) ∷ (49 ∷ 101 ∷ 50 ∷ []) ∷ (49 ∷ 48 ∷ 48 ∷ 48 ∷ [])
    ∷ (50 ∷ 53 ∷ 54 ∷ 48 ∷ []) ∷ (49 ∷ 47 ∷ []) ∷ (49 ∷ 58 ∷ []) ∷ [])
    ≡ replicate 10 None
unfolding count_of decimal
refused = refl

-- ---- tapes

-- of one push: 00 01 00 and the number 1; 01, start 0.0, end 1.0, two fades 0.0, smooth, held, 1.0 and a word 0
abbrev one-push : List ℕ
one-push =
    (0 ∷ 1 ∷ 0 ∷ 1 ∷ replicate 7 0)
    ++ (1 ∷ replicate 8 0 ++ (replicate 6 0 ++ (0xf0 ∷ 0x3f ∷ replicate 16 0 ++ (1 ∷ 0 ∷ 0 ∷ 0 ∷ 0x80 ∷ 0x3f ∷ 0 ∷ 0 ∷ 0 ∷ 0 ∷ []))))

tape_of_one : tape_of 1 ≡ one-push
unfolding tape_of bytes_by body_parts joined little_endian source_from kth_push whole to_bits
tape_of_one = refl

-- "the k-th with start n - k, end n": from 1.0 and from 0.0, both to 2.0 (4000000000000000)
tape_of_two : tape_of 2
    ≡ (0 ∷ 1 ∷ 0 ∷ 1 ∷ replicate 7 0)
    ++ (1 ∷ replicate 6 0 ++ (0xf0 ∷ 0x3f ∷ replicate 7 0 ++ (0x40 ∷ replicate 16 0 ++ (1 ∷ 0 ∷ 0 ∷ 0 ∷ 0x80 ∷ 0x3f ∷ 0 ∷ 0 ∷ 0 ∷ 0
    ∷ (1 ∷ replicate 15 0 ++ (0x40 ∷ replicate 16 0 ++ (1 ∷ 0 ∷ 0 ∷ 0 ∷ 0x80 ∷ 0x3f ∷ 0 ∷ 0 ∷ 0 ∷ 0 ∷ [])))))))
unfolding tape_of records_from bytes_by body_parts joined little_endian source_from kth_push whole to_bits
tape_of_two = refl

-- three pushes: from 2.0, 1.0 and 0.0, to 3.0
three-pushes :
    (map (λ (p : Push). to_bits binary64 p.1.start_time) (arrangement 3) ≡ 0x4000000000000000 ∷ 0x3ff0000000000000 ∷ 0 ∷ [])
    × (map (λ (p : Push). to_bits binary64 p.1.end_time) (arrangement 3) ≡ replicate 3 0x4008000000000000)
unfolding arrangement pushes_from kth_push whole to_bits
three-pushes = (refl, refl)

-- ---- pushes on the engine of record 00

-- "record 00 with one channel, All, first number 1"
fresh-engine : (fresh_one.outputs ≡ 1) × (fresh_one.mode ≡ All) × (fresh_one.next ≡ 1)
unfolding fresh_one created
fresh-engine = (refl, refl, refl)

abbrev held-from : (start end : Float) → PushRecord
held-from start end = record {
  start_time = start;
  end_time = end;
  fade_in = zeroᶠ;
  fade_out = zeroᶠ;
  fade_ease = Smooth;
  source = Held oneᶠ;
  gain = oneᶠ;
}

abbrev push-from : PushKind → (start : Float) → Push
push-from kind start = (kind, held-from start (whole 9))

-- Starts 3, 1, 2, a NaN, 0 and 0. 1 passes 3; 2 passes none; a NaN is refused; the first 0 passes 3 and 1.
-- The second passes 1, and not the other 0, whose number is lower.
abbrev six : List Push
six =
    push-from absolute (whole 3) ∷ push-from relative oneᶠ ∷ push-from by_duration (whole 2) ∷ push-from absolute nan
    ∷ push-from absolute zeroᶠ ∷ push-from absolute zeroᶠ ∷ []

six-pushes : (total_rise fresh_one six ≡ 4) × (accepted_of fresh_one six ≡ 5)
unfolding total_rise accepted_of fresh_one created emptied pushes pushed rise rise_by within within_end sooner total_less whole le neg sub
six-pushes = (refl, refl)

-- "0 if straight to S": 3 and 4 wait, and the threshold is 2. 1 goes to S; 2 passes 3, and 4 is not on its way; 5 passes none.
abbrev two_wait : Sequencer
two_wait = with_times (pushed_by (pushed_by fresh_one (push-from absolute (whole 3))).sequencer (push-from absolute (whole 4))).sequencer zeroᶠ (whole 2)

straight_to_s :
    map (λ (x : Float). levels_risen two_wait (new_event x (whole 9) zeroᶠ zeroᶠ Smooth (Held oneᶠ) oneᶠ 3)) (oneᶠ ∷ whole 2 ∷ whole 5 ∷ [])
    ≡ 0 ∷ 1 ∷ 0 ∷ []
unfolding levels_risen fresh_one created emptied pushes pushed rise way_up later_at within within_end sooner total_less whole le lt neg sub
straight_to_s = refl

-- "01 push, 02 relative, 03 by duration"
push_records_lem : map push_record (push-from absolute oneᶠ ∷ push-from relative oneᶠ ∷ push-from by_duration oneᶠ ∷ [])
    ≡ (1, call.Push (held-from oneᶠ (whole 9))) ∷ (2, call.PushRelative (held-from oneᶠ (whole 9))) ∷ (3, call.PushDuration (held-from oneᶠ (whole 9))) ∷ []
push_records_lem = refl

-- ---- the answers

-- "n from 1 to 256"
sizes : map is_size (0 ∷ 1 ∷ 256 ∷ 257 ∷ []) ≡ false ∷ true ∷ true ∷ false ∷ []
unfolding is_size
sizes = refl

greatest : map greatest_total (0 ∷ 1 ∷ 4 ∷ 256 ∷ 257 ∷ []) ≡ Err Size ∷ Ok 0 ∷ Ok 4 ∷ Ok 1546 ∷ Err Size ∷ []
unfolding greatest_total is_size bound
greatest = refl

-- each event rises to the top: 0, 1, 1 and 2 levels
arranged : map arranged_total (0 ∷ 1 ∷ 2 ∷ 4 ∷ 257 ∷ []) ≡ Err Size ∷ Ok 0 ∷ Ok 1 ∷ Ok 4 ∷ Err Size ∷ []
unfolding arranged_total created emptied pushes pushed rise rise_by within within_end sooner total_less whole le neg sub
arranged = refl

-- a tape of one push has 54 bytes, one of two 97; 23 comes before 19
laid-answers :
    lay_answer 1 (replicate 53 7) ∷ lay_answer 1 (replicate 54 7) ∷ lay_answer 2 (replicate 96 7) ∷ lay_answer 2 (replicate 97 7)
    ∷ lay_answer 0 (replicate 54 7) ∷ lay_answer 257 [] ∷ []
    ≡ Err Short ∷ Ok 54 ∷ Err Short ∷ Ok 97 ∷ Err Size ∷ Err Size ∷ []
unfolding lay_answer is_size
laid-answers = refl

-- the tape at the front, the rest of the buffer left; a refused call leaves all of it
laid_bytes :
    (tape_laid 1 (replicate 56 7) ≡ one-push ++ (7 ∷ 7 ∷ [])) × (tape_laid 1 (replicate 53 7) ≡ replicate 53 7)
    × (tape_laid 0 (replicate 60 7) ≡ replicate 60 7) × (tape_laid 257 (7 ∷ []) ≡ 7 ∷ [])
unfolding tape_laid is_size tape_of bytes_by body_parts joined little_endian source_from kth_push whole to_bits
laid_bytes = (refl, refl, refl, refl)

-- the paper's numbers
refusal_numbers : map number_of (Size ∷ Short ∷ []) ≡ 23 ∷ 19 ∷ []
refusal_numbers = refl

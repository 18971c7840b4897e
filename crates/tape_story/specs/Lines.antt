-- The lines of a tape's story, as pieces. They run.
use Rattle.std.specs.Prelude.{ℕ, cond, Option, List, [], ◌∷◌, ◌++◌, eqb, Float}
use Rattle.event.specs.declared.ReplayMode.{ReplayMode}
use Rattle.event.specs.declared.ReplayMode.TheVariants.{All, None}
use Rattle.sequencer.specs.declared.Sequencer.{Sequencer}
use Rattle.sequencer.specs.declared.readers.Counts.{Counts}
use Rattle.sequencer.specs.declared.Answer.{Answer}
use Rattle.listing.specs.Ascii.{ascii}
use Rattle.listing.specs.Text.{decimal}
use Rattle.chart.specs.Scale.{thousandths_of}
use Rattle.tape.specs.Tape.{push_kind}
use Rattle.tape_words.specs.Words.{by_place, thousandths_text, time_text, peak_text, refusal_text, sum_text, call_text, answer_text}
use Rattle.tape_story.specs.declared.Samples.{Samples}
use Rattle.tape_story.specs.Asides.{refused_text, samples_text}

-- what became of a clip that moved, by where it stands now
unfoldable pub becomes_text : (place : ℕ) → List ℕ
becomes_text place = by_place place (ascii " waits again") (ascii " starts") (ascii " finishes") (ascii " is let go")

-- a clip that stands elsewhere than it did; one that stands where it did is not told
unfoldable pub move_text : (clip was place : ℕ) → List (List ℕ)
unfolding becomes_text
move_text clip was place = cond (eqb place was) [] (ascii "; clip " ∷ decimal clip ∷ becomes_text place ∷ [])

-- where a push lays its clip
unfoldable pub laid_text : (clip place : ℕ) → List (List ℕ)
laid_text clip place = ascii ": clip " ∷ decimal clip ∷ cond (eqb place 1) (ascii " goes straight to sounding") (ascii " waits") ∷ []

-- the replay mode
unfoldable pub mode_text : ReplayMode → List ℕ
mode_text All = ascii ", mode All"
mode_text None = ascii ", mode None"

-- what a creation makes
unfoldable pub created_text : (channels : ℕ) → (mode : ReplayMode) → (first : ℕ) → List (List ℕ)
unfolding mode_text
created_text channels mode first = ascii ", channels " ∷ decimal channels ∷ mode_text mode ∷ ascii ", first number " ∷ decimal first ∷ []

-- what became of an edit
unfoldable pub edited_text : (told : Answer) → List (List ℕ)
unfolding answer_text
edited_text told = ascii ": " ∷ answer_text told

-- a rate, to the nearest thousandth
unfoldable pub rate_text : (rate : Float) → List (List ℕ)
unfolding thousandths_text
rate_text rate = ascii " " ∷ thousandths_text (thousandths_of rate)

-- what an accepted call says, by its record's kind, beside the clips that moved; s is the engine behind it
unfoldable pub outcome_text : Sequencer → (kind : ℕ) → Answer → (clip place : ℕ) → List (List ℕ)
unfolding laid_text created_text edited_text rate_text
outcome_text s kind told clip place =
    cond (push_kind kind) (laid_text clip place)
    (cond (eqb kind 0) (created_text s.outputs s.mode s.next)
    (cond (eqb kind 4) (edited_text told)
    (cond (eqb kind 5) (edited_text told)
    (cond (eqb kind 9) (rate_text s.sample_rate) []))))

-- ticks and blocks in which no clip moved: how many, since when, and the peak of all
unfoldable pub quiet_text : (calls since peak : ℕ) → List (List ℕ)
unfolding time_text peak_text
quiet_text calls since peak =
    cond (eqb calls 0) [] (time_text since ++ (ascii ": " ∷ decimal calls ∷ ascii " ticks or blocks in which no clip moves, peak " ∷ (peak_text peak ++ (ascii "\n" ∷ []))))

-- the beginning of a record's line: the clock, the call, and its refusal
unfoldable pub begin_text : (clock kind clip : ℕ) → (refusal : Option ℕ) → List (List ℕ)
unfolding time_text call_text refused_text
begin_text clock kind clip refusal = time_text clock ++ (ascii ": " ∷ (call_text kind clip ++ refused_text refusal))

-- the end of a record's line
unfoldable pub heard_text : (heard : Option Samples) → List (List ℕ)
unfolding samples_text
heard_text heard = samples_text heard ++ (ascii "\n" ∷ [])

-- the line of a record that stops the tape
unfoldable pub stop_text : (clock kind refusal : ℕ) → List (List ℕ)
unfolding time_text refusal_text
stop_text clock kind refusal = time_text clock ++ (ascii ": record of kind " ∷ decimal kind ∷ ascii ": " ∷ (refusal_text refusal ++ (ascii "; the tape stops\n" ∷ [])))

-- the last line: the sum of the counts
unfoldable pub end_text : (clock pushes : ℕ) → Counts → List (List ℕ)
unfolding time_text sum_text
end_text clock pushes counts = time_text clock ++ (ascii ": the end; " ∷ (sum_text pushes counts ++ (ascii "\n" ∷ [])))

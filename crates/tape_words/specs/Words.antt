-- Words of the pages about a tape, as pieces: times, peaks, refusals, the sum of the counts, calls and what became of an edit. They run.
use Rattle.std.specs.Prelude.{ℕ, ◌+◌, ◌/◌, ◌%◌, Bool, cond, List, [], ◌∷◌, ◌++◌, eqb}
use Rattle.sequencer.specs.declared.readers.Counts.{Counts}
use Rattle.sequencer.specs.declared.Answer.{Answer}
use Rattle.sequencer.specs.declared.Answer.TheVariants.{Number, Applied, Past, Stored, Done, Rendered, Refused}
use Rattle.listing.specs.Ascii.{ascii}
use Rattle.listing.specs.Text.{decimal}
use Rattle.chart.specs.Scale.{scaled_of}
use Rattle.refusal_texts.specs.Texts.{text_of}

-- one of four, by where a clip stands: 0 waiting, 1 sounding, 2 finished, 3 let go
abbrev pub by_place : {A : Type 0} → (place : ℕ) → (waiting sounding finished let_go : A) → A
by_place place w s f g = cond (eqb place 0) w (cond (eqb place 1) s (cond (eqb place 2) f g))

-- a number of thousandths, with three decimals
unfoldable pub thousandths_text : ℕ → List (List ℕ)
thousandths_text n = decimal (n / 1_000) ∷ ascii "." ∷ decimal (n / 100 % 10) ∷ decimal (n / 10 % 10) ∷ decimal (n % 10) ∷ []

-- a time in microseconds, as milliseconds
unfoldable pub time_text : (micros : ℕ) → List (List ℕ)
unfolding thousandths_text
time_text t = thousandths_text t ++ (ascii " ms" ∷ [])

-- a magnitude's bits as a number with three decimals, rounded down; from 2^23 on one text stands for all
unfoldable pub peak_text : (bits : ℕ) → List (List ℕ)
unfolding thousandths_text
peak_text b = cond (eqb (scaled_of b 1_000) 18_446_744_073_709_551_615) (ascii "8388608 or more" ∷ []) (thousandths_text (scaled_of b 1_000))

-- a refusal, by its number
unfoldable pub refusal_text : ℕ → List (List ℕ)
refusal_text n = ascii "refused " ∷ decimal n ∷ ascii ": " ∷ text_of n ∷ []

-- whether the accepted pushes are the sum of the counts
abbrev pub equals_text : Bool → List ℕ
equals_text good = cond good (ascii " accepted pushes = ") (ascii " accepted pushes, NOT ")

-- accepted pushes = waiting + sounding + finished + let go
unfoldable pub sum_text : (pushes : ℕ) → Counts → List (List ℕ)
sum_text p c =
    decimal p ∷ equals_text (eqb p (c.waiting + c.sounding + c.finished + c.let_go)) ∷ decimal c.waiting ∷ ascii " waiting + " ∷ decimal c.sounding
    ∷ ascii " sounding + " ∷ decimal c.finished ∷ ascii " finished + " ∷ decimal c.let_go ∷ ascii " let go" ∷ []

-- ---- calls, by their record's kind

-- a push, without a gain (1, 2, 3) and with one (10, 11, 12); any other kind is a rate
unfoldable pub push_text : (kind : ℕ) → List ℕ
push_text k =
    cond (eqb k 1) (ascii "push")
    (cond (eqb k 2) (ascii "push, relative")
    (cond (eqb k 3) (ascii "push, by duration")
    (cond (eqb k 10) (ascii "push")
    (cond (eqb k 11) (ascii "push, relative")
    (cond (eqb k 12) (ascii "push, by duration") (ascii "rate"))))))

-- a call's name; an edit's with the number of its clip
unfoldable pub call_text : (kind clip : ℕ) → List (List ℕ)
unfolding push_text
call_text k clip =
    cond (eqb k 0) (ascii "creation" ∷ [])
    (cond (eqb k 4) (ascii "edit of clip " ∷ decimal clip ∷ [])
    (cond (eqb k 5) (ascii "edit, relative, of clip " ∷ decimal clip ∷ [])
    (cond (eqb k 6) (ascii "tick" ∷ [])
    (cond (eqb k 7) (ascii "block" ∷ [])
    (cond (eqb k 8) (ascii "reset" ∷ []) (push_text k ∷ []))))))

-- a call and when it is made
unfoldable pub call_at : (kind clip micros : ℕ) → List (List ℕ)
unfolding call_text time_text
call_at kind clip micros = call_text kind clip ++ (ascii " at " ∷ time_text micros)

-- what became of an edit: applied, past, stored, or refused; any other call is done
unfoldable pub answer_text : Answer → List (List ℕ)
answer_text Applied = ascii "applied" ∷ []
answer_text Past = ascii "past" ∷ []
answer_text Stored = ascii "stored" ∷ []
answer_text Done = ascii "done" ∷ []
answer_text (Number k) = ascii "done" ∷ []
answer_text (Rendered c) = ascii "done" ∷ []
answer_text (Refused n) = ascii "refused" ∷ []

-- The refusals of documents 01 and 02 in words, as bytes: one table, by number. It runs.
use Rattle.std.specs.Prelude.{ℕ, List, [], ◌∷◌, get_or}
use Rattle.listing.specs.Ascii.{ascii}

-- from 0 on, which is no refusal
unfoldable pub texts : List (List ℕ)
texts =
    ascii "no refusal"
    ∷ ascii "the channels are not 1 to 8, or the first number is 0"
    ∷ ascii "a rate is not from 1 to 1,000,000"
    ∷ ascii "a time or fade is not a number, or is beyond 1,000,000,000"
    ∷ ascii "a fade is longer than the clip"
    ∷ ascii "a level, ramp value or step is not finite"
    ∷ ascii "256 clips are held"
    ∷ ascii "the last number has been given"
    ∷ ascii "an edit's end or fade is not a number, or is beyond 1,000,000,000"
    ∷ ascii "256 edits are stored"
    ∷ ascii "the lent output has another length"
    ∷ ascii "a block is longer than 64"
    ∷ ascii "the clock would pass 1,000,000,000 s"
    ∷ ascii "64 messages are queued"
    ∷ ascii "a kind, mode, curve or source byte is unknown, or 00 is not first and only first"
    ∷ ascii "the tape ends inside a record"
    ∷ ascii "a chapter has more than 32 records, or its slice another length"
    ∷ ascii "a stretch is empty or not a number, or its slice has another length"
    ∷ ascii "a gain is not finite"
    ∷ ascii "the record does not fit behind the free place"
    ∷ ascii "a peak's window is not from 1 to 4,096"
    ∷ ascii "the lodge's windows, minute or length are not proper"
    ∷ ascii "every window is shorter than the length"
    ∷ ascii "the count of pushes is not from 1 to 256"
    ∷ ascii "a preview's first entry is above 1,024"
    ∷ []

-- a number behind the table is no refusal either
unfoldable pub text_of : ℕ → List ℕ
unfolding texts
text_of n = get_or texts n (ascii "no refusal")

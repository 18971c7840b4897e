-- The elements of a tape's sheet, as pieces. They run.
use Rattle.std.specs.Prelude.{ℕ, ◌+◌, ◌-◌, ◌*◌, ◌/◌, ◌%◌, cond, Option, None, Some, List, [], ◌∷◌, ◌++◌, eqb, ltb}
use Rattle.sequencer.specs.declared.readers.Counts.{Counts}
use Rattle.sequencer.specs.declared.Answer.{Answer}
use Rattle.listing.specs.Ascii.{ascii}
use Rattle.listing.specs.Text.{decimal}
use Rattle.chart.specs.Scale.{x_of, breadth_of, lane_of, lanes_end, wave_of, height_of}
use Rattle.tape_words.specs.Words.{by_place, time_text, peak_text, refusal_text, sum_text, call_text, call_at, answer_text}

-- a standing's class in the style
unfoldable pub class_text : (place : ℕ) → List ℕ
class_text place = by_place place (ascii "w") (ascii "s") (ascii "f") (ascii "g")

-- a standing in words
unfoldable pub name_text : (place : ℕ) → List ℕ
name_text place = by_place place (ascii "waiting") (ascii "sounding") (ascii "finished") (ascii "let go")

-- how far below the lane's top a standing is drawn
unfoldable pub inset_of : (place : ℕ) → ℕ
inset_of place = by_place place 8 5 7 9

-- how high it is drawn: each standing has a height of its own, so that it is told in grey too
unfoldable pub thickness_of : (place : ℕ) → ℕ
thickness_of place = by_place place 4 10 6 2

-- name="n"
unfoldable pub attribute : (name : List ℕ) → (n : ℕ) → List (List ℕ)
attribute name n = ascii " " ∷ name ∷ ascii "=\"" ∷ decimal n ∷ ascii "\"" ∷ []

-- a text of a class at a place, opened
unfoldable pub open_text : (class : List ℕ) → (x y : ℕ) → List (List ℕ)
unfolding attribute
open_text class x y = ascii "<text class=\"" ∷ class ∷ ascii "\"" ∷ (attribute (ascii "x") x ++ (attribute (ascii "y") y ++ (ascii ">" ∷ [])))

-- a path of a class from a place on, opened
unfoldable pub open_path : (class : List ℕ) → (x y : ℕ) → List (List ℕ)
open_path class x y = ascii "<path class=\"" ∷ class ∷ ascii "\" d=\"M" ∷ decimal x ∷ ascii " " ∷ decimal y ∷ []

-- where a box stands
unfoldable pub bounds : (x y width height : ℕ) → List (List ℕ)
unfolding attribute
bounds x y width height = attribute (ascii "x") x ++ (attribute (ascii "y") y ++ (attribute (ascii "width") width ++ attribute (ascii "height") height))

-- a box of a class, opened
unfoldable pub open_box : (class : List ℕ) → (x y width height : ℕ) → List (List ℕ)
unfolding bounds
open_box class x y width height = ascii "<rect class=\"" ∷ class ∷ ascii "\"" ∷ (bounds x y width height ++ (ascii ">" ∷ []))

-- a standing's box in a lane that begins at top, up to its last attribute
unfoldable pub standing : (place x top width : ℕ) → List (List ℕ)
unfolding class_text bounds inset_of thickness_of
standing place x top width = ascii "<rect class=\"" ∷ class_text place ∷ ascii "\"" ∷ bounds x (top + inset_of place) width (thickness_of place)

-- seconds as hours, minutes and seconds
unfoldable pub clock_text : (s : ℕ) → List (List ℕ)
clock_text s = decimal (s / 3_600) ∷ ascii ":" ∷ decimal (s / 600 % 6) ∷ decimal (s / 60 % 10) ∷ ascii ":" ∷ decimal (s / 10 % 6) ∷ decimal (s % 10) ∷ []

-- a time of the axis: hours, minutes and seconds where the marks are a second or more apart
unfoldable pub axis_time : (time step : ℕ) → List (List ℕ)
unfolding time_text clock_text
axis_time time step = cond (ltb step 1_000_000) (time_text time) (clock_text (time / 1_000_000))

-- a line of the axis through a group of lanes, with its time above
unfoldable pub axis_mark : (time total step top height : ℕ) → List (List ℕ)
unfolding open_path open_text axis_time
axis_mark time total step top height =
    open_path (ascii "a") (x_of time total) top ++ (ascii "v" ∷ decimal height ∷ ascii "\"/>"
    ∷ (open_text (ascii "t") (x_of time total + 2) (top - 3) ++ (axis_time time step ++ (ascii "</text>\n" ∷ []))))

-- a clip's standing from a time to another; where no time passes nothing is drawn
unfoldable pub segment : (total first clip place from until : ℕ) → List (List ℕ)
unfolding standing name_text time_text
segment total first clip place from until =
    cond (eqb from until) [] (standing place (x_of from total) (lane_of (clip - first)) (breadth_of from until total) ++ (ascii "><title>clip " ∷ decimal clip ∷ ascii ": "
    ∷ name_text place ∷ ascii " from " ∷ (time_text from ++ (ascii " to " ∷ (time_text until ++ (ascii "</title></rect>\n" ∷ []))))))

-- a lane's line, its number, and a mark where the clip was laid, which says where the push laid it
unfoldable pub lane : (total first clip place time : ℕ) → List (List ℕ)
unfolding open_path open_text time_text
lane total first clip place time =
    open_path (ascii "l") 170 (lane_of (clip - first) + 10) ++ (ascii "h1400\"/>" ∷ (open_text (ascii "n") 162 (lane_of (clip - first) + 14)
    ++ (decimal clip ∷ ascii "</text>" ∷ (open_path (ascii "p") (x_of time total - 6) (lane_of (clip - first) + 5)
    ++ (ascii "l6 5l-6 5z\"><title>clip " ∷ decimal clip ∷ ascii " laid at " ∷ (time_text time ++ (cond (eqb place 1) (ascii ", straight to sounding") (ascii ", waits")
    ∷ ascii "</title></path>\n" ∷ [])))))))

-- a mark of the strip, in one of eight rows, opened
unfoldable pub open_mark : (class : List ℕ) → (total time row : ℕ) → List (List ℕ)
unfolding open_box open_text
open_mark class total time row = ascii "<g>" ∷ (open_box class (x_of time total) (70 + row % 8 * 13) 32 12 ++ (ascii "</rect>" ∷ open_text class (x_of time total + 16) (79 + row % 8 * 13)))

-- a refused call, by its number
unfoldable pub refused : (total row kind clip refusal time : ℕ) → List (List ℕ)
unfolding open_mark call_at refusal_text
refused total row kind clip refusal time =
    open_mark (ascii "r") total time row ++ (decimal refusal ∷ ascii "</text><title>" ∷ (call_at kind clip time ++ (ascii ": " ∷ (refusal_text refusal
    ++ (ascii "</title></g>\n" ∷ [])))))

-- an edit's call, and what became of it
unfoldable pub edit_title : (kind clip : ℕ) → (told : Answer) → (time : ℕ) → List (List ℕ)
unfolding call_at answer_text
edit_title kind clip told time = call_at kind clip time ++ (ascii ": " ∷ answer_text told)

-- an edit, in the strip
unfoldable pub edited : (total row kind clip : ℕ) → (told : Answer) → (time : ℕ) → List (List ℕ)
unfolding open_mark edit_title
edited total row kind clip told time =
    open_mark (ascii "e") total time row ++ (ascii "edit</text><title>" ∷ (edit_title kind clip told time ++ (ascii "</title></g>\n" ∷ [])))

-- an edit, on its clip's lane
unfoldable pub edited_lane : (total first kind clip : ℕ) → (told : Answer) → (time : ℕ) → List (List ℕ)
unfolding open_path edit_title
edited_lane total first kind clip told time =
    open_path (ascii "d") (x_of time total) (lane_of (clip - first) + 5) ++ (ascii "l-4 -5h8z\"><title>" ∷ (edit_title kind clip told time ++ (ascii "</title></path>\n" ∷ [])))

-- a reset or a rate, in the strip and through the lanes
unfoldable pub called : (total row lanes kind time : ℕ) → List (List ℕ)
unfolding open_mark open_path call_text call_at
called total row lanes kind time =
    open_mark (ascii "c") total time row ++ (call_text kind 0 ++ (ascii "</text><title>" ∷ (call_at kind 0 time ++ (ascii "</title></g>"
    ∷ (open_path (ascii "c") (x_of time total) 176 ++ (ascii "v" ∷ decimal (lanes_end lanes - 176) ∷ ascii "\"/>\n" ∷ []))))))

-- a bar about the middle, as high as the peak; none for 0
unfoldable pub bar : (bits column middle : ℕ) → List (List ℕ)
bar bits column middle =
    cond (eqb bits 0) [] (ascii "M" ∷ decimal (170 + column) ∷ ascii " " ∷ decimal (middle - height_of bits 40) ∷ ascii "v"
    ∷ decimal (height_of bits 40 + height_of bits 40 + 1) ∷ [])

-- a channel's wave up to its bars: its box, its number and its peak
unfoldable pub wave : (lanes channel most : ℕ) → List (List ℕ)
unfolding open_box open_text open_path peak_text
wave lanes channel most =
    open_box (ascii "b") 170 (wave_of lanes channel) 1_401 81 ++ (ascii "<title>channel " ∷ decimal (channel + 1) ∷ ascii ": peak " ∷ (peak_text most
    ++ (ascii "</title></rect>" ∷ (open_text (ascii "n") 162 (wave_of lanes channel + 38) ++ (ascii "channel " ∷ decimal (channel + 1) ∷ ascii "</text>"
    ∷ (open_text (ascii "n") 162 (wave_of lanes channel + 52) ++ (ascii "peak " ∷ (peak_text most ++ (ascii "</text>"
    ∷ (open_path (ascii "v") 170 (wave_of lanes channel + 40) ++ (ascii "h1401" ∷ [])))))))))))

-- a standing of the key
unfoldable pub swatch : (place x : ℕ) → List (List ℕ)
unfolding standing open_text name_text
swatch place x = standing place x 40 40 ++ (ascii "/>" ∷ (open_text (ascii "k") (x + 46) 51 ++ (name_text place ∷ ascii "</text>\n" ∷ [])))

-- the page's beginning, up to the tape's name
unfoldable pub page : (lanes channels : ℕ) → List (List ℕ)
unfolding attribute
page lanes channels =
    ascii "<svg xmlns=\"http://www.w3.org/2000/svg\" width=\"1640\"" ∷ (attribute (ascii "height") (wave_of lanes channels + 60) ++ (ascii " viewBox=\"0 0 1640 "
    ∷ decimal (wave_of lanes channels + 60) ∷ ascii "\">\n<title>Proof sheet of " ∷ []))

-- how many clips, channels, and how much time
unfoldable pub measures : (lanes channels total : ℕ) → List (List ℕ)
unfolding open_text time_text axis_time
measures lanes channels total =
    open_text (ascii "k") 600 26 ++ (decimal lanes ∷ ascii " clips laid, " ∷ decimal channels ∷ ascii " channels, " ∷ (time_text total ++ (ascii " played ("
    ∷ (axis_time total 1_000_000 ++ (ascii ")</text>\n" ∷ [])))))

-- the sum of the counts, below the waves
unfoldable pub foot : (lanes channels pushes : ℕ) → Counts → List (List ℕ)
unfolding open_text sum_text
foot lanes channels pushes counts =
    open_text (ascii "z") 170 (wave_of lanes channels + 20) ++ (sum_text pushes counts ++ (ascii "</text>\n" ∷ []))

-- what stops the tape, below the sum
unfoldable pub stop_text : (lanes channels : ℕ) → (stop : Option ℕ) → List (List ℕ)
unfolding open_text refusal_text
stop_text lanes channels None = []
stop_text lanes channels (Some stop) = open_text (ascii "z") 170 (wave_of lanes channels + 42) ++ (ascii "the tape stops: " ∷ (refusal_text stop ++ (ascii "</text>\n" ∷ [])))

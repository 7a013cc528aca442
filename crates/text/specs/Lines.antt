-- Text parted into lines, and a line into words: bytes, not letters of an alphabet.
use Rattle.std.specs.Prelude.{Bool, true, false, cond, not, ◌&&◌, ◌||◌, List, [], ◌∷◌, eqb, ltb, length, drop, Option, Some, None, ℕ, suc, ◌+◌}
use Rattle.text.specs.Text.{front, read_decimal}
use Rattle.text.specs.declared.Digits.{Digits}
use Rattle.text.specs.declared.lines.Word.{Word}

-- ---- runs

-- where the run of bytes that pass a test ends, from a place on
unfoldable pub run_end : (ℕ → Bool) → List ℕ → ℕ → ℕ
run_end p s from = from + length (front p (drop from s))

abbrev pub is_other : ℕ → ℕ → Bool
is_other stop b = not (eqb b stop)

-- ---- lines

-- the bytes in front of the first line feed
abbrev pub one_line : List ℕ → List ℕ
one_line s = front (is_other 10) s

-- where the line that begins at a place ends: at a line feed, or at the end
unfoldable pub line_end : List ℕ → ℕ → ℕ
line_end s from = from + length (one_line (drop from s))

-- each line ends with a line feed; the last may lack it
abbrev pub in_front : ℕ → List (List ℕ) → List (List ℕ)
in_front b [] = (b ∷ []) ∷ []
in_front b (s ∷ lines) = (b ∷ s) ∷ lines

abbrev pub or_feed : Bool → ℕ → List (List ℕ) → List (List ℕ)
or_feed true b lines = [] ∷ lines
or_feed false b lines = in_front b lines

unfoldable pub lines_of : List ℕ → List (List ℕ)
lines_of [] = []
lines_of (b ∷ s) = or_feed (eqb b 10) b (lines_of s)

-- the place behind a line that ends at a place: a line feed stands there, or nothing
abbrev pub behind_end : List ℕ → ℕ → ℕ
behind_end s end = cond (ltb end (length s)) (suc end) (length s)

-- ---- a word at a place

-- the word stands at the front
abbrev pub starts_with : List ℕ → List ℕ → Bool
starts_with [] s = true
starts_with (w ∷ ws) [] = false
starts_with (w ∷ ws) (b ∷ s) = eqb b w && starts_with ws s

-- the place behind a word, if the word stands at a place
unfoldable pub behind_word : List ℕ → ℕ → List ℕ → Option ℕ
behind_word s at word = cond (starts_with word (drop at s)) (Some (at + length word)) None

-- the place is the text's end
abbrev pub is_end : List ℕ → Option ℕ → Bool
is_end s None = false
is_end s (Some next) = eqb next (length s)

-- the text is the word, and nothing more
unfoldable pub is_word : List ℕ → List ℕ → Bool
is_word word s = is_end s (behind_word s 0 word)

-- the number that a text is, if it is digits and nothing more, and 64 bits hold it
abbrev pub whole_in : List ℕ → Option Digits → Option ℕ
whole_in s None = None
whole_in s (Some digits) = cond (eqb digits.next (length s)) (Some digits.value) None

unfoldable pub whole_number : List ℕ → Option ℕ
whole_number s = whole_in s (read_decimal s 0)

-- ---- the words of a line

-- what stands in front of the first `#`
unfoldable pub uncommented : List ℕ → List ℕ
uncommented s = front (is_other 35) s

-- words are parted by spaces, tabs and carriage returns
unfoldable pub is_blank : ℕ → Bool
is_blank b = eqb b 32 || (eqb b 9 || eqb b 13)

abbrev pub is_letter : ℕ → Bool
is_letter b = not (is_blank b)

abbrev pub blank_first : List ℕ → Bool
blank_first [] = true
blank_first (b ∷ s) = is_blank b

-- a letter in front of words: it ends a word of its own where a blank follows it, or nothing; else it begins the first of them
abbrev pub letter_first : Bool → ℕ → List (List ℕ) → List (List ℕ)
letter_first true b ws = (b ∷ []) ∷ ws
letter_first false b ws = in_front b ws

abbrev pub blank_or : Bool → List (List ℕ) → List (List ℕ) → List (List ℕ)
blank_or true ws letter = ws
blank_or false ws letter = letter

unfoldable pub words : List ℕ → List (List ℕ)
words [] = []
words (b ∷ s) = blank_or (is_blank b) (words s) (letter_first (blank_first s) b (words s))

-- the first word from a place on, by its places
abbrev pub word_from : List ℕ → ℕ → Option Word
word_from s from = cond (ltb from (length s)) (Some (record { from = from; to = run_end is_letter s from })) None

unfoldable pub next_word : List ℕ → ℕ → Option Word
next_word s at = word_from s (run_end is_blank s at)

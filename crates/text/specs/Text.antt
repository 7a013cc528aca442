-- What the programs write and read as text: lists of ASCII codes. Numbers, and the lines that several programs write; how text is parted
-- into lines and words is in Lines.antt.
use Rattle.std.specs.Prelude.{Bool, true, false, ◌&&◌, List, [], ◌∷◌, ◌++◌, leb, ltb, length, drop, replicate, Option, Some, None, ℕ, zero, suc, ◌+◌, ◌-◌, ◌*◌, ◌/◌, ◌%◌, ◌^◌}
use Prim.Native.Char.{code}
use Prim.Native.String as string
use Prim.Native.String.{String}
use Rattle.text.specs.declared.Digits.{Digits}

-- a quoted text as its codes
abbrev pub ascii : String → List ℕ
ascii string.[] = []
ascii (string.◌∷◌ c s) = code c ∷ ascii s

-- n's digits, the most significant first, and none for 0; `most` is a bound on their number
abbrev pub digits_within : ℕ → ℕ → List ℕ
digits_within zero n = []
digits_within (suc most) zero = []
digits_within (suc most) (suc n) = digits_within most (suc n / 10) ++ ((48 + suc n % 10) ∷ [])

-- the digits without a leading zero: a number has no more digits than its value
unfoldable pub digits : ℕ → List ℕ
digits n = digits_within n n

-- a number as the programs write it: its digits, and `0` for zero
unfoldable pub decimal : ℕ → List ℕ
decimal zero = 48 ∷ []
decimal (suc n) = digits (suc n)

-- `refused `
abbrev pub refused_word : List ℕ
refused_word = 114 ∷ 101 ∷ 102 ∷ 117 ∷ 115 ∷ 101 ∷ 100 ∷ 32 ∷ []

-- ` at `
abbrev pub at_word : List ℕ
at_word = 32 ∷ 97 ∷ 116 ∷ 32 ∷ []

abbrev pub line_feed : List ℕ
line_feed = 10 ∷ []

-- a line with its end
abbrev pub ended : List ℕ → List ℕ
ended line = line ++ line_feed

-- Rule 1.5: the line `refused N at P`; each line ends with one line feed (reading 5).
unfoldable pub refused_line : ℕ → ℕ → List ℕ
refused_line number place = refused_word ++ (decimal number ++ (at_word ++ (decimal place ++ line_feed)))

-- Rule 1.5: the line `too long`.
unfoldable pub too_long_line : List ℕ
too_long_line = 116 ∷ 111 ∷ 111 ∷ 32 ∷ 108 ∷ 111 ∷ 110 ∷ 103 ∷ line_feed

-- a file that is not longer than is read; the answer to it, and to one that is longer
unfoldable pub is_short : ℕ → List ℕ → Bool
is_short most file = leb (length file) most

abbrev pub unless_long : Bool → List ℕ → List ℕ
unless_long true answer = answer
unless_long false answer = too_long_line

-- the line `passed`, of a table that passes (rule 7.3)
unfoldable pub passed_line : List ℕ
passed_line = 112 ∷ 97 ∷ 115 ∷ 115 ∷ 101 ∷ 100 ∷ line_feed

-- ---- pieces of lines

-- the texts f 0, .., f (n - 1), one behind the other
unfoldable pub texts : (ℕ → List ℕ) → ℕ → List ℕ
texts f zero = []
texts f (suc n) = texts f n ++ f n

-- a number behind a mark
abbrev pub marked : List ℕ → ℕ → List ℕ
marked mark x = mark ++ decimal x

-- a word, a number and the line's end
unfoldable pub numbered_line : List ℕ → ℕ → List ℕ
numbered_line word n = marked word n ++ line_feed

-- `unreadable line L`
unfoldable pub unreadable_line : ℕ → List ℕ
unreadable_line l =
    numbered_line (117 ∷ 110 ∷ 114 ∷ 101 ∷ 97 ∷ 100 ∷ 97 ∷ 98 ∷ 108 ∷ 101 ∷ 32 ∷ 108 ∷ 105 ∷ 110 ∷ 101 ∷ 32 ∷ []) l

abbrev pub spaces : ℕ → List ℕ
spaces n = replicate n 32

-- a word at the right end of n columns, and at their left end; one that is longer is not cut
unfoldable pub pad_left : ℕ → List ℕ → List ℕ
pad_left n w = spaces (n - length w) ++ w

unfoldable pub pad_right : ℕ → List ℕ → List ℕ
pad_right n w = w ++ spaces (n - length w)

-- ---- reading

-- `0` to `9`
abbrev pub is_digit : ℕ → Bool
is_digit b = leb 48 b && leb b 57

-- one byte more, if it passes
abbrev pub run_on : Bool → ℕ → List ℕ → List ℕ
run_on true b run = b ∷ run
run_on false b run = []

-- the longest run at the front of bytes that pass a test
abbrev pub front : (ℕ → Bool) → List ℕ → List ℕ
front p [] = []
front p (b ∷ bs) = run_on (p b) b (front p bs)

-- the longest run of digits at the front
abbrev pub digit_run : List ℕ → List ℕ
digit_run s = front is_digit s

-- the number that digits stand for, behind digits that stand for v
abbrev pub value_from : ℕ → List ℕ → ℕ
value_from v [] = v
value_from v (b ∷ bs) = value_from (10 * v + (b - 48)) bs

-- a value that a 64-bit number holds, with the place behind its digits
abbrev pub within64 : Bool → ℕ → ℕ → Option Digits
within64 true value next = Some (record { value = value; next = next })
within64 false value next = None

-- what a run of digits stands for, and how many they are, if 64 bits hold it
abbrev pub front_number : List ℕ → Option Digits
front_number run = within64 (ltb (value_from 0 run) (2 ^ 64)) (value_from 0 run) (length run)

-- what a run of digits at a place says; no digit says nothing
abbrev pub number_at : List ℕ → ℕ → Option Digits
number_at [] at = None
number_at (b ∷ bs) at = within64 (ltb (value_from 0 (b ∷ bs)) (2 ^ 64)) (value_from 0 (b ∷ bs)) (at + length (b ∷ bs))

-- the number that the longest run of digits from a place on stands for
unfoldable pub read_decimal : List ℕ → ℕ → Option Digits
read_decimal s at = number_at (digit_run (drop at s)) at

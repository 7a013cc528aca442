-- A history's lines as they are read: word by word, each where it may stand.
use Rattle.std.specs.Prelude.{Bool, true, false, cond, not, ◌&&◌, List, [], ◌∷◌, eqb, leb, ltb, length, get_or, set, replicate, Option, Some, None, ℕ, ◌%◌}
use Rattle.laws.specs.Loops.{stores}
use Rattle.text.specs.Text.{ascii, read_decimal}
use Rattle.text.specs.Lines.{behind_word, is_word, uncommented, whole_number, words}
use Rattle.text.specs.declared.Digits.{Digits}
use Rattle.places.specs.Flags.{flag_at}
use Rattle.rules.specs.Limits.{most_modules, most_tasks}
use Rattle.stationruns.specs.declared.Input.{Input}
use Rattle.stationruns.specs.declared.Starting.{Starting}
use Rattle.history.specs.declared.Pair.{Pair}
use Rattle.history.specs.declared.Places.{Places}
use Rattle.history.specs.declared.What.{What}
use Rattle.history.specs.declared.What.TheVariants.{Blank, Begin, Tick, Quiet, Unreadable}
use Rattle.history.specs.declared.Line.{Line}
use Rattle.history.specs.declared.Next.{Next}
use Rattle.history.specs.declared.Next.TheVariants.{FirstWord, ResultsWord, Results, MoreResults, ModesWord, Modes, MoreModes, Count, LineEnd, Never}
use Rattle.history.specs.declared.Read.{Read}

-- ---- a pair

-- a pair is a number, `=` and a number, and nothing more
abbrev pub second_of : List ℕ → ℕ → Option Digits → Option Pair
second_of w place None = None
second_of w place (Some d) = cond (eqb d.next (length w)) (Some (record { place = place; value = d.value })) None

abbrev pub behind_equals : List ℕ → ℕ → Option ℕ → Option Pair
behind_equals w place None = None
behind_equals w place (Some at) = second_of w place (read_decimal w at)

abbrev pub behind_first : List ℕ → Option Digits → Option Pair
behind_first w None = None
behind_first w (Some d) = behind_equals w d.value (behind_word w d.next (ascii "="))

unfoldable pub pair_in : List ℕ → Option Pair
pair_in w = behind_first w (read_decimal w 0)

-- ---- what a list gives

-- nothing is given at any place
abbrev pub no_places : Places
no_places = record { values = replicate most_tasks 0; given = replicate most_tasks 0 }

-- a pair may name a place below `most` that is still free, with a value of at most `largest`
unfoldable pub is_free : Places → ℕ → Bool
is_free places k = not (flag_at places.given k)

abbrev pub fits : Places → ℕ → ℕ → Option Pair → Option Pair
fits places most largest None = None
fits places most largest (Some p) = cond ((ltb p.place most && leb p.value largest) && is_free places p.place) (Some p) None

abbrev pub with_value : Places → ℕ → ℕ → Places
with_value places k v = record { values = set places.values k v; given = set places.given k 1 }

-- ---- a line, word by word

-- a line without lists
abbrev pub plain : What → Line
plain what = record { what = what; results = no_places; modes = no_places }

abbrev pub wrong_word : Read
wrong_word = record { next = Never; line = plain Unreadable }

abbrev pub or_wrong : Bool → Next → Line → Read
or_wrong true next line = record { next = next; line = line }
or_wrong false next line = wrong_word

-- `tick`, `quiet` or `begin`
abbrev pub or_else : Bool → Next → Line → Read → Read
or_else true next line other = record { next = next; line = line }
or_else false next line other = other

unfoldable pub first_word : List ℕ → Read
first_word w =
    or_else (is_word (ascii "tick") w) ResultsWord (plain Tick)
    (or_else (is_word (ascii "quiet") w) Count (plain Unreadable) (or_wrong (is_word (ascii "begin") w) Modes (plain Begin)))

-- `TASK=VALUE`: one of the task places, a value of 64 bits
abbrev pub result_by : Line → Option Pair → Read
result_by line None = wrong_word
result_by line (Some p) =
    record { next = MoreResults; line = record { what = line.what; results = with_value line.results p.place p.value; modes = line.modes } }

unfoldable pub with_result : Line → List ℕ → Read
with_result line w = result_by line (fits line.results most_tasks 18446744073709551615 (pair_in w))

-- `MODULE=MODE`: one of the module places, a mode of 8 bits
abbrev pub mode_by : Line → Option Pair → Read
mode_by line None = wrong_word
mode_by line (Some p) =
    record { next = MoreModes; line = record { what = line.what; results = line.results; modes = with_value line.modes p.place p.value } }

unfoldable pub with_mode : Line → List ℕ → Read
with_mode line w = mode_by line (fits line.modes most_modules 255 (pair_in w))

-- a list is `-` for no pair, or pairs
unfoldable pub first_result : Line → List ℕ → Read
first_result line w = or_else (is_word (ascii "-") w) ModesWord line (with_result line w)

unfoldable pub more_results : Line → List ℕ → Read
more_results line w = or_else (is_word (ascii "modes") w) Modes line (with_result line w)

unfoldable pub first_mode : Line → List ℕ → Read
first_mode line w = or_else (is_word (ascii "-") w) LineEnd line (with_mode line w)

-- `N` behind `quiet`
abbrev pub quiet_by : Option ℕ → Read
quiet_by None = wrong_word
quiet_by (Some n) = record { next = LineEnd; line = plain (Quiet n) }

-- one word more, by what may stand there
abbrev pub word_at : Next → Line → List ℕ → Read
word_at FirstWord line w = first_word w
word_at ResultsWord line w = or_wrong (is_word (ascii "results") w) Results line
word_at Results line w = first_result line w
word_at MoreResults line w = more_results line w
word_at ModesWord line w = or_wrong (is_word (ascii "modes") w) Modes line
word_at Modes line w = first_mode line w
word_at MoreModes line w = with_mode line w
word_at Count line w = quiet_by (whole_number w)
word_at LineEnd line w = wrong_word
word_at Never line w = wrong_word

unfoldable pub with_word : Read → List ℕ → Read
with_word read w = word_at read.next read.line w

unfoldable pub with_words : Read → List (List ℕ) → Read
with_words read [] = read
with_words read (w ∷ ws) = with_words (with_word read w) ws

-- a line may end where no word must follow
abbrev pub may_end : Next → Bool
may_end FirstWord = true
may_end ResultsWord = false
may_end Results = false
may_end MoreResults = false
may_end ModesWord = false
may_end Modes = false
may_end MoreModes = true
may_end Count = false
may_end LineEnd = true
may_end Never = false

unfoldable pub whole_line : Read → Line
whole_line read = cond (may_end read.next) read.line (plain Unreadable)

abbrev pub unread : Read
unread = record { next = FirstWord; line = plain Blank }

-- what a line says: its words, without its comment
unfoldable pub read_line : List ℕ → Line
read_line s = whole_line (with_words unread (words (uncommented s)))

-- ---- what a tick and a beginning are given by a line

-- at the places of the modules; a mode that is read has 8 bits
abbrev pub mode_in : List ℕ → ℕ → ℕ
mode_in values m = get_or values m 0 % 256

abbrev pub flag_in : List ℕ → ℕ → ℕ
flag_in flags m = get_or flags m 0

unfoldable pub input_from : Places → Places → Input
input_from results modes =
    record {
      results = results.values;
      given = results.given;
      modes = stores (replicate most_modules 0) (mode_in modes.values) most_modules;
      changed = stores (replicate most_modules 0) (flag_in modes.given) most_modules;
    }

unfoldable pub starting_from : Places → Starting
starting_from modes =
    record {
      modes = stores (replicate most_modules 0) (mode_in modes.values) most_modules;
      given = stores (replicate most_modules 0) (flag_in modes.given) most_modules;
    }

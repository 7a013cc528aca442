-- docs/RULES.md, section 18: a sheet read back. Any text is read: to a table's rows, or to the first line that is none of a sheet's.
use Rattle.std.specs.Prelude.{Bool, true, false, cond, ◌&&◌, List, [], ◌∷◌, ◌++◌, eqb, leb, ltb, length, drop, ℕ, suc}
use Rattle.std.specs.Prelude as code
use Rattle.std.proofs.Math.Option.{Option, none, some}
use Rattle.rules.specs.Limits.{most_nodes, most_frames}
use Rattle.rules.specs.Records.{head_kind}
use Rattle.rules.specs.Plan.{nth}
use Rattle.rules.specs.Frames.{ControlRow}
use Rattle.rules.specs.Table.{DataRow, table_of_rows}
use Rattle.text.specs.Lines.{is_word, lines_of, starts_with, uncommented, whole_number, words}
use Rattle.sheet.specs.declared.Kind.{Kind}
use Rattle.sheet.specs.declared.Kind.TheVariants.{Refused, Cycle, Control, Data, Other}
use Rattle.sheet.specs.declared.Form.{Form}
use Rattle.sheet.specs.declared.Form.TheVariants as form
use Rattle.sheet.specs.Sheet.{dash, cycle_word, consumers_word, control_word, data_word}

-- ---- the words of a line

-- `refused`
abbrev pub refused_kind : List ℕ
refused_kind = 114 ∷ 101 ∷ 102 ∷ 117 ∷ 115 ∷ 101 ∷ 100 ∷ []

-- `at`
abbrev pub at_place : List ℕ
at_place = 97 ∷ 116 ∷ []

-- Rule 18.2: the kinds of lines, by their first word.
unfoldable pub kind_of : List ℕ → Kind
kind_of w =
    cond (is_word data_word w) Data
    (cond (is_word control_word w) Control (cond (is_word cycle_word w) Cycle (cond (is_word refused_kind w) Refused Other)))

-- Rules 18.3, 18.4 and 21.10: what the words behind the first have to be. Of the numbers that are taken node and task have 8 bits, all others 32; one
-- that only tells has 64.
abbrev pub most8 : ℕ
most8 = 255

abbrev pub most32 : ℕ
most32 = 4294967295

abbrev pub most64 : ℕ
most64 = 18446744073709551615

abbrev pub forms_of : Kind → List Form
forms_of Refused = form.Most most64 ∷ form.At ∷ form.Most most64 ∷ []
forms_of Cycle = form.Most most32 ∷ form.Consumers ∷ []
forms_of Control =
    form.Most most8 ∷ form.Dash ∷ form.Dash ∷ form.Dash ∷ form.Most most32 ∷ form.Most most32 ∷ form.Most most64 ∷ form.Most most64
    ∷ form.Dash ∷ form.Dash ∷ []
forms_of Data =
    form.Most most64 ∷ form.Most most8 ∷ form.Most most64 ∷ form.Most most32 ∷ form.Most most32 ∷ form.Most most32
    ∷ form.Most most64 ∷ form.Most most64 ∷ form.Signed ∷ form.Signed ∷ []
forms_of Other = []

-- the number that a word says, if it has the form; a word that says none counts as 0, `consumers` as 1
abbrev pub up_to_most : ℕ → code.Option ℕ → Option ℕ
up_to_most most code.None = none
up_to_most most (code.Some n) = cond (leb n most) (some n) none

unfoldable pub number_in : Form → List ℕ → Option ℕ
number_in form.Dash w = cond (is_word dash w) (some 0) none
number_in form.At w = cond (is_word at_place w) (some 0) none
number_in (form.Most most) w = up_to_most most (whole_number w)
number_in form.Signed w = up_to_most most64 (whole_number (cond (starts_with dash w) (drop 1 w) w))
number_in form.Consumers w = cond (is_word consumers_word w) (some 1) none
number_in form.End w = none

-- where the words have come to their end, only `consumers` may be missing: it counts as 0
abbrev pub number_missing : Form → Option ℕ
number_missing form.Dash = none
number_missing form.At = none
number_missing (form.Most most) = none
number_missing form.Signed = none
number_missing form.Consumers = some 0
number_missing form.End = none

-- a number before others, where both are there
abbrev pub number_first : Option ℕ → Option (List ℕ) → Option (List ℕ)
number_first none ns = none
number_first (some n) none = none
number_first (some n) (some ns) = some (n ∷ ns)

-- the numbers of words: one for each form, and no word more
unfoldable pub numbers_in : List Form → List (List ℕ) → Option (List ℕ)
numbers_in [] [] = some []
numbers_in [] (w ∷ ws) = none
numbers_in (f ∷ fs) [] = number_first (number_missing f) (numbers_in fs [])
numbers_in (f ∷ fs) (w ∷ ws) = number_first (number_in f w) (numbers_in fs ws)

-- ---- line by line

-- What was read so far: how far the sheet has come (0: nothing; 1: a refusal; 2: the cycle), the edition, the cycle, and the rows.
pub record SoFar : Type 0 where
  pub stage : ℕ
  pub consumers : Bool
  pub period : ℕ
  pub control : List ControlRow
  pub rows : List DataRow

abbrev pub nothing_yet : SoFar
nothing_yet = record { stage = 0; consumers = false; period = 0; control = []; rows = [] }

-- Rule 18.2: a refusal may stand first, then the cycle, then control rows, then data rows, no more of each than a table that prints can have.
unfoldable pub may_stand : Kind → ℕ → ℕ → ℕ → Bool
may_stand Refused stage controls rows = eqb stage 0
may_stand Cycle stage controls rows = ltb stage 2
may_stand Control stage controls rows = eqb stage 2 && (eqb rows 0 && ltb controls most_nodes)
may_stand Data stage controls rows = eqb stage 2 && ltb rows most_frames
may_stand Other stage controls rows = false

-- Rule 18.3: what is taken from the numbers of a line.
unfoldable pub with_numbers : Kind → SoFar → List ℕ → SoFar
with_numbers Refused s ns =
    record { stage = 1; consumers = s.consumers; period = s.period; control = s.control; rows = s.rows }
with_numbers Cycle s ns =
    record { stage = 2; consumers = eqb (nth ns 1) 1; period = nth ns 0; control = s.control; rows = s.rows }
with_numbers Control s ns =
    record {
      stage = s.stage;
      consumers = s.consumers;
      period = s.period;
      control = s.control ++ (record { node = nth ns 0; start = nth ns 4; stop = nth ns 5 } ∷ []);
      rows = s.rows;
    }
with_numbers Data s ns =
    record {
      stage = s.stage;
      consumers = s.consumers;
      period = s.period;
      control = s.control;
      rows = s.rows ++ (record { task = nth ns 1; deadline = nth ns 3; start = nth ns 4; stop = nth ns 5 } ∷ []);
    }
with_numbers Other s ns = s

abbrev pub taken_by : Kind → SoFar → Option (List ℕ) → Option SoFar
taken_by kind s none = none
taken_by kind s (some ns) = some (with_numbers kind s ns)

abbrev pub where_it_may : Bool → Option SoFar → Option SoFar
where_it_may true s = s
where_it_may false s = none

-- what is read so far with a line's words; a line without a word changes nothing
unfoldable pub with_kind : Kind → SoFar → List (List ℕ) → Option SoFar
with_kind kind s ws =
    where_it_may (may_stand kind s.stage (length s.control) (length s.rows)) (taken_by kind s (numbers_in (forms_of kind) ws))

unfoldable pub with_words : SoFar → List (List ℕ) → Option SoFar
with_words s [] = some s
with_words s (w ∷ ws) = with_kind (kind_of w) s ws

-- Rule 18.1: what stands behind `#` is left out of a line, and the rest falls into words.
unfoldable pub with_line : SoFar → List ℕ → Option SoFar
with_line s line = with_words s (words (uncommented line))

-- What a text comes to: the rows of a table, or a line that is none of a sheet's.
pub data Back : Type 0 where
  sheet : SoFar → Back
  unreadable : ℕ → Back

abbrev pub goes_on : ℕ → Option SoFar → (SoFar → Back) → Back
goes_on number none rest = unreadable number
goes_on number (some s) rest = rest s

-- the lines from one on, which has a number; where the text ends before the cycle has come, the place is behind its last line
unfoldable pub read_lines : ℕ → List (List ℕ) → SoFar → Back
read_lines number [] s = cond (eqb s.stage 2) (sheet s) (unreadable number)
read_lines number (line ∷ lines) s = goes_on number (with_line s line) (read_lines (suc number) lines)

-- Rule 18.5: lines are counted from 1.
unfoldable pub read_sheet : List ℕ → Back
read_sheet text = read_lines 1 (lines_of text) nothing_yet

-- Rules 18.5 and 21.10: the table has the cycle and the rows that were read, and a head of the edition's kind that counts them.
unfoldable pub table_read : SoFar → List ℕ
table_read s = table_of_rows (head_kind s.consumers) s.period s.control s.rows

-- What reading a text back comes to: a table's bytes, or the number of the first line that cannot be read.
pub data TableBack : Type 0 where
  table : List ℕ → TableBack
  unreadable_line : ℕ → TableBack

abbrev pub table_from : Back → TableBack
table_from (sheet s) = table (table_read s)
table_from (unreadable n) = unreadable_line n

unfoldable pub read_back : List ℕ → TableBack
read_back text = table_from (read_sheet text)

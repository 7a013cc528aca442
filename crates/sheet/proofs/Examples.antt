-- Examples, by computation: the shortest sheet and its table; job A's sheet letter by letter, and with its early row; figure 5's, in the consumer
-- edition; a task number that would wrap, and a text without a line.
use mathlib.Core.Path.{◌≡◌, refl}
use mathlib.Core.List.{List, [], ◌∷◌, ◌++◌}
use Prim.Native.Nat.{ℕ}
use Rattle.laws.specs.Lists.{joined}
use Rattle.rules.specs.Table.{table_of_rows}
use Rattle.rules.specs.Checker.{located}
use Rattle.rules.specs.Jobs.{rec, plan_a, table_a, table_awith, plan_five, table_five}
use Rattle.rules.proofs.Jobs.{everything}
use Rattle.text.specs.Text.{ascii, decimal, digits, line_feed, pad_left, pad_right, read_decimal, refused_line, texts}
use Rattle.text.specs.Lines.{behind_word, is_blank, is_word, lines_of, uncommented, whole_number, words}
use Rattle.sheet.specs.Sheet.{
  column_of,
  sheet_line,
  name_at,
  word_at,
  head_line,
  row_line,
  cycle_line,
  difference,
  control_sent,
  control_cells,
  release_of,
  held_by,
  data_sent,
  data_cells,
  control_line,
  data_line,
  sheet_lines,
  sheet_of,
  sheet_text,
}
use Rattle.sheet.specs.Back.{
  kind_of,
  number_in,
  numbers_in,
  may_stand,
  with_numbers,
  with_kind,
  with_words,
  with_line,
  read_lines,
  read_sheet,
  table_read,
  TableBack,
  read_back,
}

-- all that the text of a sheet computes with, and all that is read with
unfoldable shown : Unit {0}
unfolding everything located decimal digits pad_left pad_right refused_line texts column_of sheet_line name_at word_at head_line row_line cycle_line difference
    control_sent control_cells release_of held_by data_sent data_cells control_line data_line sheet_lines sheet_of sheet_text
shown = tt

unfoldable read : Unit {0}
unfolding everything table_of_rows read_decimal behind_word is_blank is_word lines_of uncommented whole_number words kind_of number_in numbers_in may_stand
    with_numbers with_kind with_words with_line read_lines read_sheet table_read read_back
read = tt

-- ---- the shortest sheet: no head, no comments, and what only tells is anything

-- `cycle 9`
unfoldable short_cycle : List ℕ
short_cycle =
    99 ∷ 121 ∷ 99 ∷ 108 ∷ 101 ∷ 32 ∷ 57 ∷ 10 ∷ []

-- `control 1 - - - 2 3 0 0 - -`
unfoldable short_control : List ℕ
short_control =
    99 ∷ 111 ∷ 110 ∷ 116 ∷ 114 ∷ 111 ∷ 108 ∷ 32 ∷ 49 ∷ 32 ∷ 45 ∷ 32 ∷ 45 ∷ 32 ∷ 45 ∷ 32 ∷ 50 ∷ 32 ∷ 51 ∷ 32 ∷ 48 ∷ 32 ∷ 48 ∷ 32 ∷ 45 ∷ 32
    ∷ 45 ∷ 10 ∷ []

-- `data 0 2 0 4 5 6 0 0 0 -0`
unfoldable short_data : List ℕ
short_data =
    100 ∷ 97 ∷ 116 ∷ 97 ∷ 32 ∷ 48 ∷ 32 ∷ 50 ∷ 32 ∷ 48 ∷ 32 ∷ 52 ∷ 32 ∷ 53 ∷ 32 ∷ 54 ∷ 32 ∷ 48 ∷ 32 ∷ 48 ∷ 32 ∷ 48 ∷ 32 ∷ 45 ∷ 48 ∷ 10 ∷ []

short-read : read_back (joined (short_cycle ∷ short_control ∷ short_data ∷ [])) ≡ TableBack.table
    (16 ∷ 9 ∷ 0 ∷ 0 ∷ 0 ∷ 1 ∷ 1 ∷ 0 ∷ 17 ∷ 1 ∷ 2 ∷ 0 ∷ 0 ∷ 0 ∷ 3 ∷ 0 ∷ 0 ∷ 0 ∷ 18 ∷ 2 ∷ 4 ∷ 0 ∷ 0 ∷ 0 ∷ 5 ∷ 0 ∷ 0 ∷ 0 ∷ 6 ∷ 0 ∷ 0 ∷ 0 ∷ 0
    ∷ [])
unfolding read short_cycle short_control short_data
short-read = refl

-- ---- job A, letter by letter

-- `cycle 60000  # ticks of one microsecond`
unfoldable cycle_a : List ℕ
cycle_a =
    99 ∷ 121 ∷ 99 ∷ 108 ∷ 101 ∷ 32 ∷ 54 ∷ 48 ∷ 48 ∷ 48 ∷ 48 ∷ 32 ∷ 32 ∷ 35 ∷ 32 ∷ 116 ∷ 105 ∷ 99 ∷ 107 ∷ 115 ∷ 32 ∷ 111 ∷ 102 ∷ 32 ∷ 111
    ∷ 110 ∷ 101 ∷ 32 ∷ 109 ∷ 105 ∷ 99 ∷ 114 ∷ 111 ∷ 115 ∷ 101 ∷ 99 ∷ 111 ∷ 110 ∷ 100 ∷ 10 ∷ []

-- `# kind   node  task  release  deadline       start        stop  bits    ticks  from-release  to-deadline  # record`
unfoldable head_a : List ℕ
head_a =
    35 ∷ 32 ∷ 107 ∷ 105 ∷ 110 ∷ 100 ∷ 32 ∷ 32 ∷ 32 ∷ 110 ∷ 111 ∷ 100 ∷ 101 ∷ 32 ∷ 32 ∷ 116 ∷ 97 ∷ 115 ∷ 107 ∷ 32 ∷ 32 ∷ 114 ∷ 101 ∷ 108
    ∷ 101 ∷ 97 ∷ 115 ∷ 101 ∷ 32 ∷ 32 ∷ 100 ∷ 101 ∷ 97 ∷ 100 ∷ 108 ∷ 105 ∷ 110 ∷ 101 ∷ 32 ∷ 32 ∷ 32 ∷ 32 ∷ 32 ∷ 32 ∷ 32 ∷ 115 ∷ 116 ∷ 97
    ∷ 114 ∷ 116 ∷ 32 ∷ 32 ∷ 32 ∷ 32 ∷ 32 ∷ 32 ∷ 32 ∷ 32 ∷ 115 ∷ 116 ∷ 111 ∷ 112 ∷ 32 ∷ 32 ∷ 98 ∷ 105 ∷ 116 ∷ 115 ∷ 32 ∷ 32 ∷ 32 ∷ 32 ∷ 116
    ∷ 105 ∷ 99 ∷ 107 ∷ 115 ∷ 32 ∷ 32 ∷ 102 ∷ 114 ∷ 111 ∷ 109 ∷ 45 ∷ 114 ∷ 101 ∷ 108 ∷ 101 ∷ 97 ∷ 115 ∷ 101 ∷ 32 ∷ 32 ∷ 116 ∷ 111 ∷ 45
    ∷ 100 ∷ 101 ∷ 97 ∷ 100 ∷ 108 ∷ 105 ∷ 110 ∷ 101 ∷ 32 ∷ 32 ∷ 35 ∷ 32 ∷ 114 ∷ 101 ∷ 99 ∷ 111 ∷ 114 ∷ 100 ∷ 10 ∷ []

-- `control     0     -        -         -           0          72    72       72             -            -  # 1`
unfoldable control_a : List ℕ
control_a =
    99 ∷ 111 ∷ 110 ∷ 116 ∷ 114 ∷ 111 ∷ 108 ∷ 32 ∷ 32 ∷ 32 ∷ 32 ∷ 32 ∷ 48 ∷ 32 ∷ 32 ∷ 32 ∷ 32 ∷ 32 ∷ 45 ∷ 32 ∷ 32 ∷ 32 ∷ 32 ∷ 32 ∷ 32 ∷ 32
    ∷ 32 ∷ 45 ∷ 32 ∷ 32 ∷ 32 ∷ 32 ∷ 32 ∷ 32 ∷ 32 ∷ 32 ∷ 32 ∷ 45 ∷ 32 ∷ 32 ∷ 32 ∷ 32 ∷ 32 ∷ 32 ∷ 32 ∷ 32 ∷ 32 ∷ 32 ∷ 32 ∷ 48 ∷ 32 ∷ 32 ∷ 32
    ∷ 32 ∷ 32 ∷ 32 ∷ 32 ∷ 32 ∷ 32 ∷ 32 ∷ 55 ∷ 50 ∷ 32 ∷ 32 ∷ 32 ∷ 32 ∷ 55 ∷ 50 ∷ 32 ∷ 32 ∷ 32 ∷ 32 ∷ 32 ∷ 32 ∷ 32 ∷ 55 ∷ 50 ∷ 32 ∷ 32 ∷ 32
    ∷ 32 ∷ 32 ∷ 32 ∷ 32 ∷ 32 ∷ 32 ∷ 32 ∷ 32 ∷ 32 ∷ 32 ∷ 45 ∷ 32 ∷ 32 ∷ 32 ∷ 32 ∷ 32 ∷ 32 ∷ 32 ∷ 32 ∷ 32 ∷ 32 ∷ 32 ∷ 32 ∷ 45 ∷ 32 ∷ 32 ∷ 35
    ∷ 32 ∷ 49 ∷ 10 ∷ []

-- `data        0     0     1000     20000       19904       20000    96       96         18904            0  # 2`
unfoldable first_a : List ℕ
first_a =
    100 ∷ 97 ∷ 116 ∷ 97 ∷ 32 ∷ 32 ∷ 32 ∷ 32 ∷ 32 ∷ 32 ∷ 32 ∷ 32 ∷ 48 ∷ 32 ∷ 32 ∷ 32 ∷ 32 ∷ 32 ∷ 48 ∷ 32 ∷ 32 ∷ 32 ∷ 32 ∷ 32 ∷ 49 ∷ 48 ∷ 48
    ∷ 48 ∷ 32 ∷ 32 ∷ 32 ∷ 32 ∷ 32 ∷ 50 ∷ 48 ∷ 48 ∷ 48 ∷ 48 ∷ 32 ∷ 32 ∷ 32 ∷ 32 ∷ 32 ∷ 32 ∷ 32 ∷ 49 ∷ 57 ∷ 57 ∷ 48 ∷ 52 ∷ 32 ∷ 32 ∷ 32 ∷ 32
    ∷ 32 ∷ 32 ∷ 32 ∷ 50 ∷ 48 ∷ 48 ∷ 48 ∷ 48 ∷ 32 ∷ 32 ∷ 32 ∷ 32 ∷ 57 ∷ 54 ∷ 32 ∷ 32 ∷ 32 ∷ 32 ∷ 32 ∷ 32 ∷ 32 ∷ 57 ∷ 54 ∷ 32 ∷ 32 ∷ 32 ∷ 32
    ∷ 32 ∷ 32 ∷ 32 ∷ 32 ∷ 32 ∷ 49 ∷ 56 ∷ 57 ∷ 48 ∷ 52 ∷ 32 ∷ 32 ∷ 32 ∷ 32 ∷ 32 ∷ 32 ∷ 32 ∷ 32 ∷ 32 ∷ 32 ∷ 32 ∷ 32 ∷ 48 ∷ 32 ∷ 32 ∷ 35 ∷ 32
    ∷ 50 ∷ 10 ∷ []

-- `data        0     0     1000     30000       29904       30000    96       96         28904            0  # 3`
unfoldable second_a : List ℕ
second_a =
    100 ∷ 97 ∷ 116 ∷ 97 ∷ 32 ∷ 32 ∷ 32 ∷ 32 ∷ 32 ∷ 32 ∷ 32 ∷ 32 ∷ 48 ∷ 32 ∷ 32 ∷ 32 ∷ 32 ∷ 32 ∷ 48 ∷ 32 ∷ 32 ∷ 32 ∷ 32 ∷ 32 ∷ 49 ∷ 48 ∷ 48
    ∷ 48 ∷ 32 ∷ 32 ∷ 32 ∷ 32 ∷ 32 ∷ 51 ∷ 48 ∷ 48 ∷ 48 ∷ 48 ∷ 32 ∷ 32 ∷ 32 ∷ 32 ∷ 32 ∷ 32 ∷ 32 ∷ 50 ∷ 57 ∷ 57 ∷ 48 ∷ 52 ∷ 32 ∷ 32 ∷ 32 ∷ 32
    ∷ 32 ∷ 32 ∷ 32 ∷ 51 ∷ 48 ∷ 48 ∷ 48 ∷ 48 ∷ 32 ∷ 32 ∷ 32 ∷ 32 ∷ 57 ∷ 54 ∷ 32 ∷ 32 ∷ 32 ∷ 32 ∷ 32 ∷ 32 ∷ 32 ∷ 57 ∷ 54 ∷ 32 ∷ 32 ∷ 32 ∷ 32
    ∷ 32 ∷ 32 ∷ 32 ∷ 32 ∷ 32 ∷ 50 ∷ 56 ∷ 57 ∷ 48 ∷ 52 ∷ 32 ∷ 32 ∷ 32 ∷ 32 ∷ 32 ∷ 32 ∷ 32 ∷ 32 ∷ 32 ∷ 32 ∷ 32 ∷ 32 ∷ 48 ∷ 32 ∷ 32 ∷ 35 ∷ 32
    ∷ 51 ∷ 10 ∷ []

-- `data        0     0    21000     40000       39904       40000    96       96         18904            0  # 4`
unfoldable third_a : List ℕ
third_a =
    100 ∷ 97 ∷ 116 ∷ 97 ∷ 32 ∷ 32 ∷ 32 ∷ 32 ∷ 32 ∷ 32 ∷ 32 ∷ 32 ∷ 48 ∷ 32 ∷ 32 ∷ 32 ∷ 32 ∷ 32 ∷ 48 ∷ 32 ∷ 32 ∷ 32 ∷ 32 ∷ 50 ∷ 49 ∷ 48 ∷ 48
    ∷ 48 ∷ 32 ∷ 32 ∷ 32 ∷ 32 ∷ 32 ∷ 52 ∷ 48 ∷ 48 ∷ 48 ∷ 48 ∷ 32 ∷ 32 ∷ 32 ∷ 32 ∷ 32 ∷ 32 ∷ 32 ∷ 51 ∷ 57 ∷ 57 ∷ 48 ∷ 52 ∷ 32 ∷ 32 ∷ 32 ∷ 32
    ∷ 32 ∷ 32 ∷ 32 ∷ 52 ∷ 48 ∷ 48 ∷ 48 ∷ 48 ∷ 32 ∷ 32 ∷ 32 ∷ 32 ∷ 57 ∷ 54 ∷ 32 ∷ 32 ∷ 32 ∷ 32 ∷ 32 ∷ 32 ∷ 32 ∷ 57 ∷ 54 ∷ 32 ∷ 32 ∷ 32 ∷ 32
    ∷ 32 ∷ 32 ∷ 32 ∷ 32 ∷ 32 ∷ 49 ∷ 56 ∷ 57 ∷ 48 ∷ 52 ∷ 32 ∷ 32 ∷ 32 ∷ 32 ∷ 32 ∷ 32 ∷ 32 ∷ 32 ∷ 32 ∷ 32 ∷ 32 ∷ 32 ∷ 48 ∷ 32 ∷ 32 ∷ 35 ∷ 32
    ∷ 52 ∷ 10 ∷ []

-- `data        0     0    41000     60000       59894       59990    96       96         18894           10  # 5`
unfoldable fourth_a : List ℕ
fourth_a =
    100 ∷ 97 ∷ 116 ∷ 97 ∷ 32 ∷ 32 ∷ 32 ∷ 32 ∷ 32 ∷ 32 ∷ 32 ∷ 32 ∷ 48 ∷ 32 ∷ 32 ∷ 32 ∷ 32 ∷ 32 ∷ 48 ∷ 32 ∷ 32 ∷ 32 ∷ 32 ∷ 52 ∷ 49 ∷ 48 ∷ 48
    ∷ 48 ∷ 32 ∷ 32 ∷ 32 ∷ 32 ∷ 32 ∷ 54 ∷ 48 ∷ 48 ∷ 48 ∷ 48 ∷ 32 ∷ 32 ∷ 32 ∷ 32 ∷ 32 ∷ 32 ∷ 32 ∷ 53 ∷ 57 ∷ 56 ∷ 57 ∷ 52 ∷ 32 ∷ 32 ∷ 32 ∷ 32
    ∷ 32 ∷ 32 ∷ 32 ∷ 53 ∷ 57 ∷ 57 ∷ 57 ∷ 48 ∷ 32 ∷ 32 ∷ 32 ∷ 32 ∷ 57 ∷ 54 ∷ 32 ∷ 32 ∷ 32 ∷ 32 ∷ 32 ∷ 32 ∷ 32 ∷ 57 ∷ 54 ∷ 32 ∷ 32 ∷ 32 ∷ 32
    ∷ 32 ∷ 32 ∷ 32 ∷ 32 ∷ 32 ∷ 49 ∷ 56 ∷ 56 ∷ 57 ∷ 52 ∷ 32 ∷ 32 ∷ 32 ∷ 32 ∷ 32 ∷ 32 ∷ 32 ∷ 32 ∷ 32 ∷ 32 ∷ 32 ∷ 49 ∷ 48 ∷ 32 ∷ 32 ∷ 35 ∷ 32
    ∷ 53 ∷ 10 ∷ []

unfoldable sheet_a : List ℕ
unfolding cycle_a head_a control_a first_a second_a third_a fourth_a
sheet_a = joined (cycle_a ∷ head_a ∷ control_a ∷ first_a ∷ second_a ∷ third_a ∷ fourth_a ∷ [])

job_a : sheet_text plan_a table_a ≡ sheet_a
unfolding shown sheet_a
job_a = refl

job_a_back : read_back sheet_a ≡ TableBack.table table_a
unfolding read sheet_a
job_a_back = refl

-- with the early row of job G: what 25 says stands on top, and a number below zero in record 2

-- `refused 25 at 2`
unfoldable refused_early : List ℕ
refused_early =
    114 ∷ 101 ∷ 102 ∷ 117 ∷ 115 ∷ 101 ∷ 100 ∷ 32 ∷ 50 ∷ 53 ∷ 32 ∷ 97 ∷ 116 ∷ 32 ∷ 50 ∷ 10 ∷ []

-- `data        0     0     1000     20000         999        1095    96       96            -1        18905  # 2`
unfoldable first_early : List ℕ
first_early =
    100 ∷ 97 ∷ 116 ∷ 97 ∷ 32 ∷ 32 ∷ 32 ∷ 32 ∷ 32 ∷ 32 ∷ 32 ∷ 32 ∷ 48 ∷ 32 ∷ 32 ∷ 32 ∷ 32 ∷ 32 ∷ 48 ∷ 32 ∷ 32 ∷ 32 ∷ 32 ∷ 32 ∷ 49 ∷ 48 ∷ 48
    ∷ 48 ∷ 32 ∷ 32 ∷ 32 ∷ 32 ∷ 32 ∷ 50 ∷ 48 ∷ 48 ∷ 48 ∷ 48 ∷ 32 ∷ 32 ∷ 32 ∷ 32 ∷ 32 ∷ 32 ∷ 32 ∷ 32 ∷ 32 ∷ 57 ∷ 57 ∷ 57 ∷ 32 ∷ 32 ∷ 32 ∷ 32
    ∷ 32 ∷ 32 ∷ 32 ∷ 32 ∷ 49 ∷ 48 ∷ 57 ∷ 53 ∷ 32 ∷ 32 ∷ 32 ∷ 32 ∷ 57 ∷ 54 ∷ 32 ∷ 32 ∷ 32 ∷ 32 ∷ 32 ∷ 32 ∷ 32 ∷ 57 ∷ 54 ∷ 32 ∷ 32 ∷ 32 ∷ 32
    ∷ 32 ∷ 32 ∷ 32 ∷ 32 ∷ 32 ∷ 32 ∷ 32 ∷ 32 ∷ 45 ∷ 49 ∷ 32 ∷ 32 ∷ 32 ∷ 32 ∷ 32 ∷ 32 ∷ 32 ∷ 32 ∷ 49 ∷ 56 ∷ 57 ∷ 48 ∷ 53 ∷ 32 ∷ 32 ∷ 35 ∷ 32
    ∷ 50 ∷ 10 ∷ []

unfoldable table_early_a : List ℕ
table_early_a = table_awith 2 (rec 18 (0 ∷ 20000 ∷ 999 ∷ 1095 ∷ []))

unfoldable sheet_early : List ℕ
unfolding cycle_a head_a control_a first_early second_a third_a fourth_a refused_early
sheet_early = joined (refused_early ∷ cycle_a ∷ head_a ∷ control_a ∷ first_early ∷ second_a ∷ third_a ∷ fourth_a ∷ [])

early-row : sheet_text plan_a table_early_a ≡ sheet_early
unfolding shown table_early_a sheet_early
early-row = refl

early_back : read_back sheet_early ≡ TableBack.table table_early_a
unfolding read table_early_a sheet_early
early_back = refl

-- ---- the consumer edition: the word stands behind the cycle, and the head is of its kind

unfoldable cycle_five : List ℕ
cycle_five = ascii "cycle 60000 consumers  # ticks of one microsecond" ++ line_feed

unfoldable third_five : List ℕ
third_five =
    ascii "data        0     0    41000     60000       59894       59990    96       96         18894           10  # 4" ++ line_feed

-- figure 5: the frame that nobody reads has no line
unfoldable sheet_five : List ℕ
unfolding cycle_five head_a control_a first_a second_a third_five
sheet_five = joined (cycle_five ∷ head_a ∷ control_a ∷ first_a ∷ second_a ∷ third_five ∷ [])

figure_5 : sheet_text plan_five table_five ≡ sheet_five
unfolding shown sheet_five
figure_5 = refl

figure_5_back : read_back sheet_five ≡ TableBack.table table_five
unfolding read sheet_five
figure_5_back = refl

-- in the first line no word but this may stand, and nothing behind it
one_letter_short : read_back (joined ((ascii "cycle 9 consumer" ++ line_feed) ∷ short_control ∷ short_data ∷ [])) ≡ TableBack.unreadable_line 1
unfolding read short_control short_data
one_letter_short = refl

said_twice : read_back (joined ((ascii "cycle 9 consumers consumers" ++ line_feed) ∷ short_control ∷ short_data ∷ [])) ≡ TableBack.unreadable_line 1
unfolding read short_control short_data
said_twice = refl

-- ---- what cannot be read

-- `# a comment`
unfoldable remark : List ℕ
remark =
    35 ∷ 32 ∷ 97 ∷ 32 ∷ 99 ∷ 111 ∷ 109 ∷ 109 ∷ 101 ∷ 110 ∷ 116 ∷ 10 ∷ []

-- `data 0 256 0 4 5 6 0 0 0 -0`
unfoldable wide_data : List ℕ
wide_data =
    100 ∷ 97 ∷ 116 ∷ 97 ∷ 32 ∷ 48 ∷ 32 ∷ 50 ∷ 53 ∷ 54 ∷ 32 ∷ 48 ∷ 32 ∷ 52 ∷ 32 ∷ 53 ∷ 32 ∷ 54 ∷ 32 ∷ 48 ∷ 32 ∷ 48 ∷ 32 ∷ 48 ∷ 32 ∷ 45 ∷ 48
    ∷ 10 ∷ []

-- the task 256 is none, and does not stand for 0; lines without a word are counted
wide_task : read_back (joined (remark ∷ (10 ∷ []) ∷ short_cycle ∷ short_control ∷ wide_data ∷ [])) ≡ TableBack.unreadable_line 5
unfolding read remark short_cycle short_control wide_data
wide_task = refl

-- the place behind the last line, where the cycle has not come
no_cycle : read_back (joined (remark ∷ (10 ∷ []) ∷ [])) ≡ TableBack.unreadable_line 3
unfolding read remark
no_cycle = refl

empty_text : read_back [] ≡ TableBack.unreadable_line 1
unfolding read
empty_text = refl

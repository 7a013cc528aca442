-- docs/RULES.md, section 17: the text of a sheet. Lines are without their line feed until they are joined.
use Rattle.std.specs.Prelude.{Bool, true, false, cond, List, [], ◌∷◌, ◌++◌, map, leb, length, get_or, ℕ, ◌+◌, ◌-◌}
use Rattle.laws.specs.Res.{Res, ok, refuse}
use Rattle.laws.specs.Lists.{tab, joined}
use Rattle.rules.specs.Plan.{Plan}
use Rattle.rules.specs.Traffic.{task_node, control_payload}
use Rattle.rules.specs.Frames.{Pair, ControlRow, Sending, on_bus, payload}
use Rattle.rules.specs.Checker.{Row, Passed, control_at, row_at, named_in, first_row, timed, located}
use Rattle.text.specs.Text.{ascii, decimal, ended, marked, pad_left, pad_right, refused_line, texts}
use Rattle.sheet.specs.declared.Cell.{Cell}
use Rattle.sheet.specs.declared.Cell.TheVariants.{Dash, Count, Below}

-- ---- the words

-- `-`
abbrev pub dash : List ℕ
dash = 45 ∷ []

-- `cycle`
abbrev pub cycle_word : List ℕ
cycle_word = 99 ∷ 121 ∷ 99 ∷ 108 ∷ 101 ∷ []

abbrev pub consumers_word : List ℕ
consumers_word = ascii "consumers"

-- `control`
abbrev pub control_word : List ℕ
control_word = 99 ∷ 111 ∷ 110 ∷ 116 ∷ 114 ∷ 111 ∷ 108 ∷ []

-- `data`
abbrev pub data_word : List ℕ
data_word = 100 ∷ 97 ∷ 116 ∷ 97 ∷ []

-- `# kind`, `record`, and between them the names of the columns: `node`, `task`, `release`, `deadline`, `start`, `stop`, `bits`, `ticks`,
-- `from-release`, `to-deadline`
abbrev pub head_word : List ℕ
head_word = 35 ∷ 32 ∷ 107 ∷ 105 ∷ 110 ∷ 100 ∷ []

abbrev pub record_word : List ℕ
record_word = 114 ∷ 101 ∷ 99 ∷ 111 ∷ 114 ∷ 100 ∷ []

abbrev pub column_names : List (List ℕ)
column_names =
    (110 ∷ 111 ∷ 100 ∷ 101 ∷ [])
    ∷ (116 ∷ 97 ∷ 115 ∷ 107 ∷ [])
    ∷ (114 ∷ 101 ∷ 108 ∷ 101 ∷ 97 ∷ 115 ∷ 101 ∷ [])
    ∷ (100 ∷ 101 ∷ 97 ∷ 100 ∷ 108 ∷ 105 ∷ 110 ∷ 101 ∷ [])
    ∷ (115 ∷ 116 ∷ 97 ∷ 114 ∷ 116 ∷ [])
    ∷ (115 ∷ 116 ∷ 111 ∷ 112 ∷ [])
    ∷ (98 ∷ 105 ∷ 116 ∷ 115 ∷ [])
    ∷ (116 ∷ 105 ∷ 99 ∷ 107 ∷ 115 ∷ [])
    ∷ (102 ∷ 114 ∷ 111 ∷ 109 ∷ 45 ∷ 114 ∷ 101 ∷ 108 ∷ 101 ∷ 97 ∷ 115 ∷ 101 ∷ [])
    ∷ (116 ∷ 111 ∷ 45 ∷ 100 ∷ 101 ∷ 97 ∷ 100 ∷ 108 ∷ 105 ∷ 110 ∷ 101 ∷ [])
    ∷ []

-- `  # `: two spaces, and the sign behind which a comment stands
abbrev pub comment_sign : List ℕ
comment_sign = 32 ∷ 32 ∷ 35 ∷ 32 ∷ []

-- `  # ticks of one microsecond`
abbrev pub cycle_comment : List ℕ
cycle_comment = 32 ∷ 32 ∷ 35 ∷ 32 ∷ 116 ∷ 105 ∷ 99 ∷ 107 ∷ 115 ∷ 32 ∷ 111 ∷ 102 ∷ 32 ∷ 111 ∷ 110 ∷ 101 ∷ 32 ∷ 109 ∷ 105 ∷ 99 ∷ 114 ∷ 111 ∷ 115 ∷ 101 ∷ 99 ∷ 111 ∷ 110 ∷ 100 ∷ []

-- ---- cells and lines

-- Rule 17.5: how a cell is written. A number below zero has `-` in front, no other a sign.
abbrev pub cell_text : Cell → List ℕ
cell_text Dash = dash
cell_text (Count n) = decimal n
cell_text (Below n) = 45 ∷ decimal n

-- Rule 17.3: how wide the ten columns behind the kind are; the kind has 7 columns.
abbrev pub column_widths : List ℕ
column_widths = 4 ∷ 4 ∷ 7 ∷ 8 ∷ 10 ∷ 10 ∷ 4 ∷ 7 ∷ 12 ∷ 11 ∷ []

-- a column: two spaces, and its word at the right end
abbrev pub column : ℕ → List ℕ → List ℕ
column width word = 32 ∷ 32 ∷ pad_left width word

unfoldable pub column_of : (ℕ → List ℕ) → ℕ → List ℕ
column_of word k = column (get_or column_widths k 0) (word k)

-- Rule 17.3: the kind at the left end of its columns, the ten columns, the record's number as a comment.
unfoldable pub sheet_line : List ℕ → (ℕ → List ℕ) → List ℕ → List ℕ
sheet_line kind word number = pad_right 7 kind ++ (texts (column_of word) 10 ++ (comment_sign ++ number))

unfoldable pub name_at : ℕ → List ℕ
name_at k = get_or column_names k []

unfoldable pub word_at : List Cell → ℕ → List ℕ
word_at cells k = cell_text (get_or cells k Dash)

-- Rules 17.2 and 17.3: the head is a line made by the same rule, and a comment to the reader; a row's line has the number of its record.
unfoldable pub head_line : List ℕ
head_line = sheet_line head_word name_at record_word

unfoldable pub row_line : List ℕ → List Cell → ℕ → List ℕ
row_line kind cells k = sheet_line kind (word_at cells) (decimal k)

-- Rules 17.2 and 21.10: the first line has the cycle, as the table's head says it; of a table of the consumer edition also that word.
abbrev pub edition_text : Bool → List ℕ
edition_text false = []
edition_text true = 32 ∷ consumers_word

unfoldable pub cycle_line : Bool → ℕ → List ℕ
cycle_line consumers period = marked (cycle_word ++ (32 ∷ [])) period ++ (edition_text consumers ++ cycle_comment)

-- ---- the rows of a table

-- a minus b
unfoldable pub difference : ℕ → ℕ → Cell
difference a b = cond (leb b a) (Count (a - b)) (Below (b - a))

-- Rule 17.4, of a control row: what its node sends has a byte for each of that node's sending modules.
unfoldable pub control_sent : Plan → ControlRow → Sending
control_sent p r = on_bus p.bus (control_payload p r.node)

unfoldable pub control_cells : Plan → ControlRow → List Cell
control_cells p r =
    Count r.node ∷ Dash ∷ Dash ∷ Dash ∷ Count r.start ∷ Count r.stop ∷ Count (control_sent p r).bits
    ∷ Count (control_sent p r).ticks ∷ Dash ∷ Dash ∷ []

-- Rule 17.4, of a data row: the release of the pair that opens it, which is the greatest of its messages'; what all its pairs send.
unfoldable pub release_of : Passed → Row → ℕ
release_of c r = (named_in c.layout.pairs r.opens).release

unfoldable pub held_by : Passed → Row → List Pair
held_by c r = map (named_in c.layout.pairs) r.holds

unfoldable pub data_sent : Passed → Row → Sending
data_sent c r = on_bus c.plan.bus (payload c.plan c.traffic.messages (held_by c r))

unfoldable pub data_cells : Passed → Row → List Cell
data_cells c r =
    Count (task_node c.plan r.opens.task) ∷ Count r.opens.task ∷ Count (release_of c r) ∷ Count r.opens.deadline
    ∷ Count r.start ∷ Count r.stop ∷ Count (data_sent c r).bits ∷ Count (data_sent c r).ticks
    ∷ difference r.start (release_of c r) ∷ difference r.opens.deadline r.stop ∷ []

-- ---- the sheet

-- Rule 17.2: a line for each row, in the file's order; the head is record 0, so the first row is record 1.
unfoldable pub control_line : Passed → ℕ → List ℕ
control_line c k = row_line control_word (control_cells c.plan (control_at c.table.control k)) (1 + k)

unfoldable pub data_line : Passed → ℕ → List ℕ
data_line c k = row_line data_word (data_cells c (row_at c.table k)) (first_row c.table + k)

unfoldable pub sheet_lines : Passed → List (List ℕ)
sheet_lines c =
    cycle_line c.plan.consumers c.table.period ∷ head_line
    ∷ (tab (control_line c) 0 (length c.table.control) ++ tab (data_line c) 0 (length c.table.rows))

unfoldable pub sheet_of : Passed → List ℕ
sheet_of c = joined (map ended (sheet_lines c))

-- Rule 17.1: above the sheet what 25 to 28 say of the table, if they refuse it; the line of another refusal stands alone.
abbrev pub on_top : Res (Unit {0}) → List ℕ
on_top (ok u) = []
on_top (refuse n p) = refused_line n p

abbrev pub text_for : Res Passed → List ℕ
text_for (ok c) = on_top (timed c.layout c.table) ++ sheet_of c
text_for (refuse n p) = refused_line n p

unfoldable pub sheet_text : List ℕ → List ℕ → List ℕ
sheet_text plan table = text_for (located plan table)

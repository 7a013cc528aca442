-- What each number of an answer means, in words: what is refused, and what the place counts (docs/RULES.md, sections 6 to 8, and 18.8).
-- The library's words and the programs' help are these. No meaning has more than 100 bytes.
use Rattle.std.specs.Prelude.{cond, List, ◌++◌, eqb, leb, ℕ, ◌+◌}
use Prim.Native.String.{String}
use Rattle.text.specs.Text.{ascii, line_feed, marked, texts}

-- where n is this number, these words, else the others
abbrev pub at : ℕ → ℕ → String → List ℕ → List ℕ
at n number words others = cond (eqb n number) (ascii words) others

-- a number that no answer has
abbrev pub unknown : List ℕ
unknown = ascii "no number of an answer"

-- Rules 6.1 to 6.5: the plan's records.
unfoldable pub of_records : ℕ → List ℕ
of_records n =
    at n 0 "done"
    (at n 1 "these are not a plan's records; the place is the byte where they go wrong"
    (at n 2 "too few or too many things of a kind; the place is the kind"
    (at n 3 "a number names a thing that the plan does not have; the place is the record, counted from 0"
    (at n 4 "a number is outside its limits; the place is the record, counted from 0"
    (at n 5 "a record does not fit the others; the place is the record, counted from 0" unknown)))))

-- Rules 6.6 to 6.11: what the plan asks of the bus.
unfoldable pub of_bus : ℕ → List ℕ
of_bus n =
    at n 6 "no task that is invoked has a consumer on another node; the place is 0"
    (at n 7 "the bus period does not divide all periods and switch periods of sending modules; the place is 0"
    (at n 8 "the bus period is no multiple of the resolution; the place is 0"
    (at n 9 "more than 1024 data frames; the place is 0"
    (at n 10 "a message or a control frame has more bytes than the largest payload; the place is 0"
    (at n 11 "the control frames take longer than the bus period; the place is 0" unknown)))))

-- Rules 6.12, 6.13 and 6.19: the making of a table, in lent memory.
unfoldable pub of_making : ℕ → List ℕ
of_making n =
    at n 12 "no place for a frame; the place is the frame's number"
    (at n 13 "too few bytes are lent; the place is how many are needed"
    (at n 19 "fewer than 1024 frame rows are lent; the place is 1024" unknown))

-- Rules 7.20 to 7.28: the checker.
unfoldable pub of_table : ℕ → List ℕ
of_table n =
    at n 20 "these are not a table's records; the place is the byte where they go wrong"
    (at n 21 "the head or the number of rows is not what the plan gives; the place is 0"
    (at n 22 "a control row is not the one that the plan gives; the place is the row's record"
    (at n 23 "a data row is of no frame, or of one that an earlier row has; the place is the row's record"
    (at n 24 "a data row has a wrong length, or starts off the resolution; the place is the row's record"
    (at n 25 "a data row starts before its release; the place is the row's record"
    (at n 26 "a data row stops behind its deadline; the place is the row's record"
    (at n 27 "a data row starts too soon behind the row before it; the place is the row's record"
    (at n 28 "the last data row stops too late for the gap at the cycle's end; the place is the row's record" unknown))))))))

-- Rules 8.40 to 8.44: the played station.
unfoldable pub of_station : ℕ → List ℕ
of_station n =
    at n 40 "the station has not begun; the place is the module whose starting mode is wrong, 0 at a tick"
    (at n 41 "a result that no run awaits; the place is the task"
    (at n 42 "a result that does not fit into its task's message; the place is the task"
    (at n 43 "a result is overdue; the place is the task"
    (at n 44 "a change of mode that is not allowed; the place is the module" unknown))))

-- Rules 18.8 and 21.11: what the library and the programs are given; and a number that no answer has.
unfoldable pub of_text : ℕ → List ℕ
of_text n =
    at n 60 "a line of the text cannot be read; the place is the line, counted from 1"
    (at n 61 "there is too much to read; the place is how many bytes are read"
    (at n 62 "no edition of this number; the place is the number" unknown))

-- the words of any number
unfoldable pub meaning : ℕ → List ℕ
meaning n =
    cond (leb n 5) (of_records n)
    (cond (leb n 11) (of_bus n) (cond (leb n 19) (of_making n) (cond (leb n 28) (of_table n) (cond (leb n 44) (of_station n) (of_text n)))))

-- a line of the programs' help: a number and its words
unfoldable pub help_line : ℕ → List ℕ
help_line n = marked (ascii "  ") n ++ (ascii ": " ++ (meaning n ++ line_feed))

abbrev pub help_line_from : ℕ → ℕ → List ℕ
help_line_from first i = help_line (first + i)

-- the lines of so many numbers, from the first one on
unfoldable pub help_lines : ℕ → ℕ → List ℕ
help_lines first count = texts (help_line_from first) count

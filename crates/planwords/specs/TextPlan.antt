-- docs/RULES.md, section 20: a text read as a plan. Any text is read: to a plan's bytes, or to the first line that cannot be read, with the reason.
use Rattle.std.specs.Prelude.{Bool, cond, not, ◌&&◌, List, [], ◌∷◌, ◌++◌, map, eqb, ltb, length, Option, Some, None, ℕ, suc, ◌^◌}
use Rattle.laws.specs.Lists.{joined}
use Rattle.rules.specs.Records.{Rec, is_bus, plan_follows}
use Rattle.rules.specs.Table.{record_bytes}
use Rattle.text.specs.Text.{ascii, line_feed, marked}
use Rattle.text.specs.Lines.{is_word, lines_of, uncommented, whole_number, words}
use Rattle.planwords.specs.declared.Item.{Item}
use Rattle.planwords.specs.declared.Item.TheVariants.{Word, Number}
use Rattle.planwords.specs.declared.Name.TheVariants.{Bus, Nodes, Module, Mode, Task, Run, Connect}
use Rattle.planwords.specs.declared.Reason.{Reason}
use Rattle.planwords.specs.declared.Reason.TheVariants as reason
use Rattle.planwords.specs.Items.{spelled, items_of}

-- ---- one line

-- Rules 20.2 and 20.3: the kind that a line's first word says, where so many words follow it; 0 where it begins no line. A bus with more words
-- than kind 1 has is of kind 9.
unfoldable pub kind_by : List ℕ → ℕ → ℕ
kind_by w more =
    cond (is_word (spelled Bus) w) (cond (ltb 12 more) 9 1)
    (cond (is_word (spelled Nodes) w) 2
    (cond (is_word (spelled Module) w) 3
    (cond (is_word (spelled Mode) w) 4
    (cond (is_word (spelled Task) w) 5 (cond (is_word (spelled Run) w) 6 (cond (is_word (spelled Connect) w) 7 0))))))

-- Rule 20.2: a line of a kind may come behind one of another where the record may; else the reason (20.5), by what has come so far.
unfoldable pub may_come : ℕ → ℕ → Bool
may_come previous kind = not (eqb kind 0) && plan_follows previous kind

unfoldable pub why_not : ℕ → ℕ → Reason
why_not previous kind =
    cond (eqb previous 0) reason.BusExpected
    (cond (is_bus previous) reason.NodesExpected (cond (eqb kind 0) reason.UnknownWord reason.OutOfOrder))

-- The numbers of a line's words behind the first, or what is wrong with the first of them that is wrong.
pub data Matched : Type 0 where
  fits : List ℕ → Matched
  fails : Reason → Matched

abbrev pub number_first : ℕ → Matched → Matched
number_first n (fits ns) = fits (n ∷ ns)
number_first n (fails why) = fails why

-- Rule 20.4: a number is digits; it has to fit its bytes, whatever its range.
abbrev pub with_number : ℕ → Option ℕ → Matched → Matched
with_number wide None rest = fails reason.NumberExpected
with_number wide (Some n) rest = cond (ltb n (256 ^ wide)) (number_first n rest) (fails reason.NumberTooLarge)

-- Rules 20.3 and 20.5: place by place, from left to right.
unfoldable pub matched : List Item → List (List ℕ) → Matched
matched [] [] = fits []
matched [] (w ∷ ws) = fails reason.EndExpected
matched (Word name ∷ items) [] = fails (reason.Expected name)
matched (Word name ∷ items) (w ∷ ws) = cond (is_word (spelled name) w) (matched items ws) (fails (reason.Expected name))
matched (Number bytes columns ∷ items) [] = fails reason.NumberExpected
matched (Number bytes columns ∷ items) (w ∷ ws) = with_number bytes (whole_number w) (matched items ws)

-- What a line says: nothing, a record, or that it cannot be read.
pub data LineRead : Type 0 where
  blank : LineRead
  says : Rec → LineRead
  wrong : Reason → LineRead

abbrev pub as_record : ℕ → Matched → LineRead
as_record kind (fits ns) = says (record { kind = kind; numbers = ns })
as_record kind (fails why) = wrong why

unfoldable pub of_kind : ℕ → ℕ → List (List ℕ) → LineRead
of_kind previous kind ws = cond (may_come previous kind) (as_record kind (matched (items_of kind) ws)) (wrong (why_not previous kind))

unfoldable pub words_read : ℕ → List (List ℕ) → LineRead
words_read previous [] = blank
words_read previous (w ∷ ws) = of_kind previous (kind_by w (length ws)) ws

-- Rule 20.1: what stands behind `#` is left out of a line, and the rest falls into words.
unfoldable pub line_read : ℕ → List ℕ → LineRead
line_read previous line = words_read previous (words (uncommented line))

-- ---- line by line

-- What a text comes to: the records of a plan, or the first line that cannot be read.
pub data TextRead : Type 0 where
  plan : List Rec → TextRead
  unreadable : ℕ → Reason → TextRead

abbrev pub before : Rec → TextRead → TextRead
before r (plan rs) = plan (r ∷ rs)
before r (unreadable n why) = unreadable n why

abbrev pub goes_on : ℕ → ℕ → LineRead → (ℕ → TextRead) → TextRead
goes_on number previous blank rest = rest previous
goes_on number previous (says r) rest = before r (rest r.kind)
goes_on number previous (wrong why) rest = unreadable number why

-- Rule 20.5: the lines from one on, which has a number, behind a record of the kind `previous` (0: behind none). The text may end where the
-- end record may stand; else what is missing is missing behind its last line.
unfoldable pub read_lines : ℕ → ℕ → List (List ℕ) → TextRead
read_lines number previous [] = cond (plan_follows previous 0) (plan []) (unreadable number (why_not previous 0))
read_lines number previous (line ∷ lines) = goes_on number previous (line_read previous line) (λ kind. read_lines (suc number) kind lines)

-- lines are counted from 1
unfoldable pub text_read : List ℕ → TextRead
text_read text = read_lines 1 0 (lines_of text)

-- ---- the answer

-- a plan's bytes: its records, and the end record
abbrev pub bytes_of : Rec → List ℕ
bytes_of r = record_bytes r.kind r.numbers

unfoldable pub plan_bytes : List Rec → List ℕ
plan_bytes rs = joined (map bytes_of rs) ++ (0 ∷ [])

-- Rule 20.5: a plan's bytes, or the number of the first line that cannot be read, with the reason.
pub data PlanBack : Type 0 where
  plan_file : List ℕ → PlanBack
  unreadable_line : ℕ → Reason → PlanBack

abbrev pub plan_from : TextRead → PlanBack
plan_from (plan rs) = plan_file (plan_bytes rs)
plan_from (unreadable n why) = unreadable_line n why

unfoldable pub read_text : List ℕ → PlanBack
read_text text = plan_from (text_read text)

-- Rule 20.5: the words of a reason.
unfoldable pub reason_text : Reason → List ℕ
reason_text reason.BusExpected = ascii "bus expected"
reason_text reason.NodesExpected = ascii "nodes expected"
reason_text reason.UnknownWord = ascii "unknown word"
reason_text reason.OutOfOrder = ascii "out of order"
reason_text (reason.Expected name) = spelled name ++ ascii " expected"
reason_text reason.NumberExpected = ascii "number expected"
reason_text reason.NumberTooLarge = ascii "number too large"
reason_text reason.EndExpected = ascii "end of line expected"

-- `unreadable line L: REASON`
unfoldable pub unreadable_text : ℕ → Reason → List ℕ
unreadable_text n why = marked (ascii "unreadable line ") n ++ (ascii ": " ++ (reason_text why ++ line_feed))

-- what the program writes: the plan's bytes, or the line that says which line cannot be read
abbrev pub written_back : PlanBack → List ℕ
written_back (plan_file bytes) = bytes
written_back (unreadable_line n why) = unreadable_text n why

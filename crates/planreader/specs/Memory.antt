-- What a line and a text come to, in the code's values; and the bytes that are stored on the way.
use Rattle.std.specs.Prelude.{cond, List, [], ◌∷◌, ◌++◌, leb, ltb, length, take, drop, Option, Some, None, Result, Ok, Err, ℕ, ◌+◌, ◌-◌, ◌^◌}
use Rattle.std.proofs.lemmas.List.Edits.{sets}
use Rattle.laws.specs.Numbers.{bytes}
use Rattle.rules.specs.Records.{plan_follows}
use Rattle.text.specs.Text.{is_short}
use Rattle.text.specs.Lines.{is_word, lines_of, next_word, uncommented, whole_number, words}
use Rattle.text.specs.declared.lines.Word.{Word}
use Rattle.planwords.specs.declared.Item.{Item}
use Rattle.planwords.specs.declared.Item.TheVariants as item
use Rattle.planwords.specs.declared.Reason.{Reason}
use Rattle.planwords.specs.declared.Reason.TheVariants as reason
use Rattle.planwords.specs.Items.{spelled, items_of}
use Rattle.planwords.specs.TextPlan as back
use Rattle.planwords.specs.TextPlan.{
  LineRead,
  Matched,
  PlanBack,
  TextRead,
  kind_by,
  line_read,
  may_come,
  plan_bytes,
  plan_file,
  read_text,
  unreadable_line,
}
use Rattle.planreader.specs.declared.Number.{Number}
use Rattle.planreader.specs.declared.Passed.{Passed}
use Rattle.planreader.specs.declared.Last.{Last}
use Rattle.planreader.specs.declared.Unreadable.{Unreadable}
use Rattle.planreader.specs.declared.Unread.{Unread}
use Rattle.planreader.specs.declared.Unread.TheVariants as unread

-- ---- the words of a line

-- a number of so many bytes, or what is wrong with the word
abbrev pub number_of : ℕ → ℕ → Number
number_of wide n = record { wide = wide; value = n }

abbrev pub judged_number : ℕ → Option ℕ → Result Number Reason
judged_number wide None = Err reason.NumberExpected
judged_number wide (Some n) = cond (ltb n (256 ^ wide)) (Ok (number_of wide n)) (Err reason.NumberTooLarge)

abbrev pub judged : Item → List ℕ → Result Number Reason
judged (item.Word name) w = cond (is_word (spelled name) w) (Ok (number_of 0 0)) (Err (reason.Expected name))
judged (item.Number wide columns) w = judged_number wide (whole_number w)

-- what is wrong where no word stands
abbrev pub missing : Item → Reason
missing (item.Word name) = reason.Expected name
missing (item.Number wide columns) = reason.NumberExpected

abbrev pub found_with : Result Number Reason → ℕ → Result Passed Reason
found_with (Ok number) next = Ok (record { number = number; next = next })
found_with (Err why) next = Err why

abbrev pub found_from : List ℕ → Item → Option Word → Result Passed Reason
found_from s i None = Err (missing i)
found_from s i (Some w) = found_with (judged i (take (w.to - w.from) (drop w.from s))) w.to

-- what the first word from a place on comes to
unfoldable pub found_at : List ℕ → ℕ → Item → Result Passed Reason
found_at s at i = found_from s i (next_word s at)

-- the bytes of the numbers, up to the first word that is wrong
abbrev pub taken_by : Result Number Reason → List ℕ → List ℕ
taken_by (Ok number) rest = bytes number.wide number.value ++ rest
taken_by (Err why) rest = []

unfoldable pub taken : List Item → List (List ℕ) → List ℕ
taken [] ws = []
taken (i ∷ items) [] = []
taken (i ∷ items) (w ∷ ws) = taken_by (judged i w) (taken items ws)

abbrev pub matching : Matched → ℕ → Result ℕ Reason
matching (back.fits ns) end = Ok end
matching (back.fails why) end = Err why

-- ---- a line

-- its bytes are the kind's, where it may come, and those of its numbers
unfoldable pub kind_stored : ℕ → ℕ → List (List ℕ) → List ℕ
kind_stored previous kind ws = cond (may_come previous kind) (kind ∷ taken (items_of kind) ws) []

unfoldable pub words_stored : ℕ → List (List ℕ) → List ℕ
words_stored previous [] = []
words_stored previous (w ∷ ws) = kind_stored previous (kind_by w (length ws)) ws

unfoldable pub line_stored : ℕ → List ℕ → List ℕ
line_stored previous line = words_stored previous (words (uncommented line))

-- the last kind behind the line and the place behind its bytes, or why it cannot be read
abbrev pub last_of : ℕ → ℕ → Last
last_of kind end = record { kind = kind; end = end }

abbrev pub said_of : ℕ → ℕ → LineRead → Result Last Reason
said_of previous end back.blank = Ok (last_of previous end)
said_of previous end (back.says r) = Ok (last_of r.kind end)
said_of previous end (back.wrong why) = Err why

-- ---- the whole text

-- the bytes behind a line, which leads on to others unless it cannot be read
abbrev pub stored_on : ℕ → LineRead → (ℕ → List ℕ) → List ℕ
stored_on previous back.blank rest = rest previous
stored_on previous (back.says r) rest = rest r.kind
stored_on previous (back.wrong why) rest = []

-- What is stored of lines behind a record of the kind `previous`; of a text that is a plan it is the plan (proofs/Stored.antt).
unfoldable pub stored_lines : ℕ → List (List ℕ) → List ℕ
stored_lines previous [] = cond (plan_follows previous 0) (0 ∷ []) []
stored_lines previous (line ∷ lines) = line_stored previous line ++ stored_on previous (line_read previous line) (λ kind. stored_lines kind lines)

unfoldable pub stored_text : List ℕ → List ℕ
stored_text text = stored_lines 0 (lines_of text)

-- what records behind so many bytes come to
abbrev pub stopped : ℕ → Reason → Unreadable
stopped n why = record { line = n; why = why }

abbrev pub reading_from : ℕ → TextRead → Result ℕ Unreadable
reading_from at (back.plan rs) = Ok (at + length (plan_bytes rs))
reading_from at (back.unreadable n why) = Err (stopped n why)

-- ---- the answer

-- Rule 20.5: bytes of a text that is read.
abbrev pub longest_text : ℕ
longest_text = 262144

abbrev pub back_of : PlanBack → List ℕ → Result ℕ Unread
back_of (plan_file file) lent = cond (leb (length file) (length lent)) (Ok (length file)) (Err (unread.Needs (length file)))
back_of (unreadable_line n why) lent = Err (unread.Unreadable (stopped n why))

abbrev pub left_of : PlanBack → List ℕ → List ℕ
left_of (plan_file file) lent = cond (leb (length file) (length lent)) (sets lent 0 file) lent
left_of (unreadable_line n why) lent = lent

-- What reading a text gives, and what it leaves in the bytes that are lent: the plan stands there only if all of it does.
unfoldable pub back_for : List ℕ → List ℕ → Result ℕ Unread
back_for text lent = cond (is_short longest_text text) (back_of (read_text text) lent) (Err unread.TooLong)

unfoldable pub left_by : List ℕ → List ℕ → List ℕ
left_by text lent = cond (is_short longest_text text) (left_of (read_text text) lent) lent

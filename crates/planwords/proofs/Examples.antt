-- Examples, by computation: job A's text, letter by letter, and a bus that says how many bits a byte takes; texts in which the spacing is free,
-- and one line for each reason. Each entry stands under a claim of its own.
use mathlib.Core.Path.{◌≡◌, refl}
use mathlib.Core.List.{List, [], ◌∷◌, ◌++◌, map}
use Prim.Native.Nat.{ℕ}
use Prim.Native.String.{String}
use Rattle.laws.specs.Lists.{joined}
use Rattle.laws.specs.Res.{ok, refuse}
use Rattle.rules.specs.Records.{kinds, known, fields, body_length, is_bus, plan_follows, record_of, walk, records}
use Rattle.rules.specs.Table.{record_bytes}
use Rattle.rules.specs.Jobs.{plan_a}
use Rattle.rules.proofs.Jobs.{everything}
use Rattle.text.specs.Text.{ascii, decimal, digits, ended, pad_left, pad_right, read_decimal}
use Rattle.text.specs.Lines.{behind_word, is_blank, is_word, lines_of, uncommented, whole_number, words}
use Rattle.planwords.specs.Items.{spelled, forms, form_of, first_of, items_of, thing_of}
use Rattle.planwords.specs.PlanText.{items_text, record_text, comment_text, plan_line, count_of, plan_lines, text_of, plan_text}
use Rattle.planwords.specs.TextPlan.{
  kind_by,
  may_come,
  why_not,
  matched,
  of_kind,
  words_read,
  line_read,
  read_lines,
  text_read,
  plan_bytes,
  read_text,
  reason_text,
  unreadable_text,
  written_back,
}

-- all that the text of a plan computes with, and all that is read with
unfoldable shown : Unit {0}
unfolding everything kinds known fields body_length is_bus plan_follows record_of walk records decimal digits pad_left pad_right spelled forms form_of first_of
    items_of thing_of items_text record_text comment_text plan_line count_of plan_lines text_of plan_text
shown = tt

unfoldable read : Unit {0}
unfolding everything fields kinds is_bus plan_follows record_bytes decimal digits read_decimal behind_word is_blank is_word lines_of uncommented whole_number
    words spelled forms form_of items_of kind_by may_come why_not matched of_kind words_read line_read read_lines text_read plan_bytes read_text reason_text
    unreadable_text
read = tt

abbrev lines_text : List String → List ℕ
lines_text ls = joined (map (λ l. ended (ascii l)) ls)

abbrev text_a : List String
text_a =
    "bus kbit/s 1000 overhead-bytes 8 least-payload 0 largest-payload 254 gap-bits 10 resolution 1  # record 0"
    ∷ "nodes 2                                          # record 1"
    ∷ "module on node 0                                 # module 0, record 2"
    ∷ "module on node 1                                 # module 1, record 3"
    ∷ "mode of module  0 period   60000 switch   60000  # mode 0, record 4"
    ∷ "mode of module  0 period   60000 switch   60000  # mode 1, record 5"
    ∷ "mode of module  1 period   60000 switch   60000  # mode 2, record 6"
    ∷ "task of module  0 bytes 4 worst    1000          # task 0, record 7"
    ∷ "task of module  1 bytes 4 worst    1000          # task 1, record 8"
    ∷ "run in mode  0 task  0 rate     2                # run 0, record 9"
    ∷ "run in mode  1 task  0 rate     3                # run 1, record 10"
    ∷ "run in mode  2 task  1 rate     1                # run 2, record 11"
    ∷ "connect task  0 to task  1                       # connection 0, record 12"
    ∷ []

job_a_text : plan_text plan_a ≡ ok (lines_text text_a)
unfolding shown
job_a_text = refl

job_a_back : written_back (read_text (lines_text text_a)) ≡ plan_a
unfolding read
job_a_back = refl

-- 1,000 kbit/s, 8 bytes, payloads 0 to 254, 10 bits, 1 tick
abbrev bus_body : List ℕ
bus_body = 232 ∷ 3 ∷ 0 ∷ 0 ∷ 8 ∷ 0 ∷ 0 ∷ 0 ∷ 254 ∷ 0 ∷ 10 ∷ 0 ∷ 1 ∷ 0 ∷ 0 ∷ 0 ∷ []

abbrev bus_line : String
bus_line = "bus kbit/s 1000 overhead-bytes 8 least-payload 0 largest-payload 254 gap-bits 10 resolution 1"

-- kind 9 with 8 bits is not kind 1
eight_bits_text :
    plan_text (9 ∷ bus_body ++ (8 ∷ 2 ∷ 2 ∷ 0 ∷ []))
    ≡ ok (
    lines_text (
    "bus kbit/s 1000 overhead-bytes 8 least-payload 0 largest-payload 254 gap-bits 10 resolution 1 bits-per-byte 8  # record 0"
    ∷ "nodes 2                                          # record 1"
    ∷ []
    )
    )
unfolding shown
eight_bits_text = refl

-- a file that is cut is not printed
cut_plan : plan_text (1 ∷ bus_body ++ (2 ∷ [])) ≡ refuse 1 18
unfolding shown
cut_plan = refl

-- leading zeros are decimal, `#` ends a number, tabs and carriage returns part words, the last line feed may lack
free_spacing : written_back (read_text (lines_text (bus_line ∷ "" ∷ "  # two boards" ∷ []) ++ ascii "\tnodes   010# ten\r")) ≡ 1 ∷ bus_body ++ (2 ∷ 10 ∷ 0 ∷ [])
unfolding read
free_spacing = refl

-- one line for each reason
no-bus : written_back (read_text (lines_text ("nodes 2" ∷ []))) ≡ ended (ascii "unreadable line 1: bus expected")
unfolding read
no-bus = refl

no_nodes : written_back (read_text (lines_text (bus_line ∷ []))) ≡ ended (ascii "unreadable line 2: nodes expected")
unfolding read
no_nodes = refl

unknown : written_back (read_text (lines_text (bus_line ∷ "nodes 2" ∷ "board 1" ∷ []))) ≡ ended (ascii "unreadable line 3: unknown word")
unfolding read
unknown = refl

out_of_order : written_back (read_text (lines_text (bus_line ∷ "nodes 2" ∷ "task of module 0 bytes 4 worst 1000" ∷ "module on node 0" ∷ []))) ≡ ended (ascii "unreadable line 4: out of order")
unfolding read
out_of_order = refl

second_nodes : written_back (read_text (lines_text (bus_line ∷ "nodes 2" ∷ "nodes 2" ∷ []))) ≡ ended (ascii "unreadable line 3: out of order")
unfolding read
second_nodes = refl

word-missing : written_back (read_text (lines_text (bus_line ∷ "nodes 2" ∷ "module on 0" ∷ []))) ≡ ended (ascii "unreadable line 3: node expected")
unfolding read
word-missing = refl

no_number : written_back (read_text (lines_text (bus_line ∷ "nodes two" ∷ []))) ≡ ended (ascii "unreadable line 2: number expected")
unfolding read
no_number = refl

too_large : written_back (read_text (lines_text (bus_line ∷ "nodes 256" ∷ []))) ≡ ended (ascii "unreadable line 2: number too large")
unfolding read
too_large = refl

comma : written_back (read_text (lines_text (bus_line ∷ "nodes 1,000" ∷ []))) ≡ ended (ascii "unreadable line 2: number expected")
unfolding read
comma = refl

fourteenth_word : written_back (read_text (lines_text ("bus kbit/s 1000 overhead-bytes 8 least-payload 0 largest-payload 254 gap-bits 10 resolution 1 bits 8" ∷ []))) ≡ ended (ascii "unreadable line 1: bits-per-byte expected")
unfolding read
fourteenth_word = refl

words-left_over : written_back (read_text (lines_text (bus_line ∷ "nodes 2 3" ∷ []))) ≡ ended (ascii "unreadable line 2: end of line expected")
unfolding read
words-left_over = refl

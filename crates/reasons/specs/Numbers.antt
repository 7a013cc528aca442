-- Rule 20.8: the reasons by number, for C, which has no enums that carry values.
use Rattle.std.specs.Prelude.{cond, List, [], ◌∷◌, map, leb, get_or, ℕ, ◌+◌, ◌-◌}
use Rattle.std.proofs.Math.Option.{Option, none, some}
use Rattle.text.specs.Text.{ascii}
use Rattle.planwords.specs.declared.Name.{Name}
use Rattle.planwords.specs.declared.Name.TheVariants.{
  Bus,
  Kbit,
  Overhead,
  Least,
  Largest,
  Gap,
  Resolution,
  BitsPerByte,
  Nodes,
  Module,
  On,
  Node,
  Mode,
  Of,
  Period,
  Switch,
  Task,
  Bytes,
  Worst,
  Run,
  In,
  Rate,
  Connect,
  To,
}
use Rattle.planwords.specs.declared.Reason.{Reason}
use Rattle.planwords.specs.declared.Reason.TheVariants.{
  BusExpected,
  NodesExpected,
  UnknownWord,
  OutOfOrder,
  Expected,
  NumberExpected,
  NumberTooLarge,
  EndExpected,
}
use Rattle.planwords.specs.TextPlan.{reason_text}

-- a word's number: its place in the row of all words
unfoldable pub name_number : Name → ℕ
name_number Bus = 0
name_number Kbit = 1
name_number Overhead = 2
name_number Least = 3
name_number Largest = 4
name_number Gap = 5
name_number Resolution = 6
name_number BitsPerByte = 7
name_number Nodes = 8
name_number Module = 9
name_number On = 10
name_number Node = 11
name_number Mode = 12
name_number Of = 13
name_number Period = 14
name_number Switch = 15
name_number Task = 16
name_number Bytes = 17
name_number Worst = 18
name_number Run = 19
name_number In = 20
name_number Rate = 21
name_number Connect = 22
name_number To = 23

unfoldable pub reason_number : Reason → ℕ
reason_number BusExpected = 1
reason_number NodesExpected = 2
reason_number UnknownWord = 3
reason_number OutOfOrder = 4
reason_number NumberExpected = 5
reason_number NumberTooLarge = 6
reason_number EndExpected = 7
reason_number (Expected name) = 32 + name_number name

-- the other way: the reasons in the order of their numbers, and the words
abbrev pub plain_reasons : List (Option Reason)
plain_reasons =
    none ∷ some BusExpected ∷ some NodesExpected ∷ some UnknownWord ∷ some OutOfOrder ∷ some NumberExpected ∷ some NumberTooLarge ∷ some EndExpected
    ∷ []

abbrev pub names : List Name
names =
    Bus ∷ Kbit ∷ Overhead ∷ Least ∷ Largest ∷ Gap ∷ Resolution ∷ BitsPerByte ∷ Nodes ∷ Module ∷ On ∷ Node ∷ Mode ∷ Of ∷ Period ∷ Switch ∷ Task ∷ Bytes
    ∷ Worst ∷ Run ∷ In ∷ Rate ∷ Connect ∷ To ∷ []

abbrev pub asked : Name → Option Reason
asked name = some (Expected name)

abbrev pub expected_reasons : List (Option Reason)
expected_reasons = map asked names

unfoldable pub reason_at : ℕ → Option Reason
reason_at n = cond (leb 32 n) (get_or expected_reasons (n - 32) none) (get_or plain_reasons n none)

abbrev pub words_or : Option Reason → List ℕ
words_or (some why) = reason_text why
words_or none = ascii "no number of a reason"

-- the words of any number
unfoldable pub reason_words : ℕ → List ℕ
reason_words n = words_or (reason_at n)

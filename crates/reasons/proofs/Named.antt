-- The reasons by number, both ways: a reason's number leads back to its words.
use mathlib.Core.Path.{◌≡◌, refl, sym, ap, ◌∙◌}
use mathlib.Core.Option.{Option, none, some}
use native.Mathlib.Omega.{arith}
use borrow.Author.Tests.{le-leb, lt-leb}
use lib.ListN.{get_or}
use Prim.Native.Nat.{ℕ, ◌-◌, ◌≤◌, ◌<◌}
use Rattle.laws.proofs.Members.{map-get_or}
use Rattle.text.specs.Text.{ascii}
use Rattle.planwords.specs.declared.Name.{Name}
use Rattle.planwords.specs.declared.Name.TheVariants.{Bus, Kbit, Overhead, Least, Largest, Gap, Resolution, BitsPerByte, Nodes, Module, On, Node, Mode, Of, Period, Switch, Task, Bytes, Worst, Run, In, Rate, Connect, To}
use Rattle.planwords.specs.declared.Reason.{Reason}
use Rattle.planwords.specs.declared.Reason.TheVariants.{BusExpected, NodesExpected, UnknownWord, OutOfOrder, Expected, NumberExpected, NumberTooLarge, EndExpected}
use Rattle.planwords.specs.TextPlan.{reason_text}
use Rattle.std.specs.Prelude as code
use Rattle.reasons.specs.Memory.{found}
use Rattle.reasons.specs.Numbers.{asked, expected_reasons, name_number, names, plain_reasons, reason_at, reason_number, reason_words, words_or}

pub expected_is : (k : ℕ) → k < 24 → code.Some (Expected (get_or names k Bus)) ≡ found (get_or expected_reasons k none)
expected_is k h = sym (ap found (map-get_or asked names Bus none k h))

pub plain_at : (n : ℕ) {r : code.Option Reason} → n < 32 → r ≡ found (get_or plain_reasons n none) → r ≡ found (reason_at n)
unfolding reason_at
plain_at n h e = e ∙ rw (lt-leb 32 n h)

pub expected_at : (n : ℕ) {r : code.Option Reason} → 32 ≤ n → r ≡ found (get_or expected_reasons (n - 32) none) → r ≡ found (reason_at n)
unfolding reason_at
expected_at n h e = e ∙ rw (le-leb 32 n h)

-- the number that a reason has leads to its words
expected_words : (name : Name) → reason_words (reason_number (Expected name)) ≡ reason_text (Expected name)
unfolding reason_words reason_at reason_number name_number
expected_words Bus = refl
expected_words Kbit = refl
expected_words Overhead = refl
expected_words Least = refl
expected_words Largest = refl
expected_words Gap = refl
expected_words Resolution = refl
expected_words BitsPerByte = refl
expected_words Nodes = refl
expected_words Module = refl
expected_words On = refl
expected_words Node = refl
expected_words Mode = refl
expected_words Of = refl
expected_words Period = refl
expected_words Switch = refl
expected_words Task = refl
expected_words Bytes = refl
expected_words Worst = refl
expected_words Run = refl
expected_words In = refl
expected_words Rate = refl
expected_words Connect = refl
expected_words To = refl

pub words_of_number : (why : Reason) → reason_words (reason_number why) ≡ reason_text why
unfolding reason_words reason_at reason_number
words_of_number BusExpected = refl
words_of_number NodesExpected = refl
words_of_number UnknownWord = refl
words_of_number OutOfOrder = refl
words_of_number (Expected name) = expected_words name
words_of_number NumberExpected = refl
words_of_number NumberTooLarge = refl
words_of_number EndExpected = refl

-- what is put is the words of the number, by what was found
module _ (number : ℕ) {f : code.Option Reason} (e : f ≡ found (reason_at number)) where
  pub why_words : (why : Reason) → f ≡ code.Some why → reason_text why ≡ reason_words number
  unfolding reason_words
  why_words why q = go (reason_at number) (sym q ∙ e)
    where
      go : (o : Option Reason) → code.Some why ≡ found o → reason_text why ≡ words_or o
      go none p = let z : ◌≡◌ {A = ℕ} 0 1 = cc in absurd (omega arith)
      go (some other) p = let same : why ≡ other = cc in ap reason_text same

  pub no_words : f ≡ code.None → ascii "no number of a reason" ≡ reason_words number
  unfolding reason_words
  no_words q = go (reason_at number) (sym q ∙ e)
    where
      go : (o : Option Reason) → code.None ≡ found o → ascii "no number of a reason" ≡ words_or o
      go none p = refl
      go (some other) p = let z : ◌≡◌ {A = ℕ} 0 1 = cc in absurd (omega arith)

-- The two answers, each with its status: the line for a long file, the text.
use mathlib.Core.List.{List}
use mathlib.Core.Path.{◌≡◌, refl, sym, ap, ◌∙◌}
use native.Mathlib.Omega.{arith}
use lib.ListN.{length}
use Prim.Native.Nat.{ℕ, ◌≤◌, ◌<◌}
use Rattle.io.specs.Counts.{IsPrefixLen}
use Rattle.text.specs.Text.{too_long_line}
use Rattle.text.proofs.Fronts.{Front, first-long, front-counts, neither_long, second_long}
use Rattle.sheet.specs.Sheet.{sheet_text}
use Rattle.sheetwriter.specs.declared.Written.{Written}
use Rattle.sheetwriter.specs.Writing.{Writes}
use Rattle.answers.specs.Answered.{judged}
use Rattle.checked.specs.Checking.{verdict}
use Rattle.laws.specs.Res.{Res, ok, refuse}
use Rattle.manners.specs.Status.{status_of}
use Rattle.manners.proofs.Long.{first-long_status, neither_long_status, second_long_status}
use Rattle.rules.specs.Checker.{Passed, check_files}
use Rattle.tablesheet.specs.Answer.{answer_for, status_for}

-- what `respond` says of its result
abbrev Responds : List ℕ → List ℕ → List ℕ → List ℕ → ℕ → ℕ → Type 0
Responds plan table old out n s = Front (answer_for plan table) old out n × ((s ≡ status_for plan table) × (262144 ≤ length old → IsPrefixLen n out))

-- what `done` and `refused` say of the response: its length and its status
abbrev Says : ℕ → ℕ → ℕ → ℕ → Type 0
Says l t n s = (l ≡ n) × (t ≡ s)

-- the status of what the checker answers is that of its verdict
verdict_status : (m : Res Passed) → status_of (verdict m) ≡ status_of m
verdict_status (ok c) = refl
verdict_status (refuse n p) = refl

module _ (plan table old out : List ℕ) (n l t : ℕ) where
  too_long : answer_for plan table ≡ too_long_line → 1 ≡ status_for plan table → Front too_long_line old out n → Says l t n 1 → Responds plan table old out l t
  unfolding too_long_line
  too_long e s a says = rw (says.0, says.1) (rw e a, (s, λ room. front-counts too_long_line old out n a (omega arith)))

  pub long-plan : 65536 < length plan → Front too_long_line old out n → Says l t n 1 → Responds plan table old out l t
  unfolding answer_for status_for
  long-plan h a says =
      too_long (first-long 65536 plan table (sheet_text plan table) h)
      (first-long_status 65536 plan table (status_of (check_files plan table)) h) a says

  pub long-table : 65536 < length table → Front too_long_line old out n → Says l t n 1 → Responds plan table old out l t
  unfolding answer_for status_for
  long-table h a says =
      too_long (second_long 65536 plan table (sheet_text plan table) h)
      (second_long_status 65536 plan table (status_of (check_files plan table)) h) a says

  pub written_response : length plan ≤ 65536 → length table ≤ 65536 → (r : Written) → Writes r old out plan table → r.length ≤ 262144 → n ≡ r.length
      → Says l t n (status_of (judged r.answer)) → Responds plan table old out l t
  unfolding answer_for status_for
  written_response p q r h few e says =
      let is : answer_for plan table ≡ sheet_text plan table = neither_long 65536 plan table (sheet_text plan table) p q in
      let ends : status_of (judged r.answer) ≡ status_for plan table =
      ap status_of h.answered ∙ verdict_status (check_files plan table)
      ∙ sym (neither_long_status 65536 plan table (status_of (check_files plan table)) p q)
      in
      let a : Front (sheet_text plan table) old out n = rw e (h.put, h.long) in
      let long = h.long in
      rw (says.0, says.1) (rw is a, (ends, λ room. front-counts (sheet_text plan table) old out n a (omega arith)))

-- The three answers, each with its status: the line for a long file, the line `passed`, the line for a refusal.
use mathlib.Core.List.{List}
use mathlib.Core.Path.{◌≡◌, refl, sym, ap, ap₂, ◌∙◌}
use native.Mathlib.Omega.{arith}
use lib.ListN.{length}
use Prim.Native.Nat.{ℕ, ◌≤◌, ◌<◌}
use Rattle.rules.specs.Limits.{most_frames}
use Rattle.io.specs.Counts.{IsPrefixLen}
use Rattle.laws.specs.Res.{Res, ok, refuse}
use Rattle.laws.proofs.Res.{refuse≢ok, refuse-number, refuse-place}
use Rattle.rules.specs.Checker as rules
use Rattle.rules.specs.Checker.{check_files}
use Rattle.answers.specs.declared.Refusal.{Refusal}
use Rattle.answers.specs.Refusals.{number_of, place_of}
use Rattle.std.specs.Prelude.{Ok, Err}
use Rattle.checked.specs.Checking.{Checked, Checks, verdict, lent_passed}
use Rattle.answers.specs.Answered.{judged}
use Rattle.checked.proofs.Rules.{enough-is}
use Rattle.text.specs.Text.{passed_line, refused_line, too_long_line}
use Rattle.text.proofs.Decimals.{refused-line-most}
use Rattle.text.proofs.Fronts.{Front, first-long, front-counts, neither_long, second_long}
use Rattle.manners.specs.Status.{status_of}
use Rattle.manners.proofs.Long.{first-long_status, neither_long_status, second_long_status}
use Rattle.checktable.specs.Answer.{line_for, answer_for, status_for}

-- what `respond` says of its result
abbrev Responds : List ℕ → List ℕ → List ℕ → List ℕ → ℕ → ℕ → Type 0
Responds plan table old out n s = Front (answer_for plan table) old out n × ((s ≡ status_for plan table) × (53 ≤ length old → IsPrefixLen n out))

-- what `done` and `refused` say of the response: its length and its status
abbrev Says : ℕ → ℕ → ℕ → ℕ → Type 0
Says l t n s = (l ≡ n) × (t ≡ s)

module _ (plan table old out : List ℕ) (n l t : ℕ) where
  too_long : answer_for plan table ≡ too_long_line → 1 ≡ status_for plan table → Front too_long_line old out n → Says l t n 1 → Responds plan table old out l t
  unfolding too_long_line
  too_long e s a says = rw (says.0, says.1) (rw e a, (s, λ room. front-counts too_long_line old out n a (omega arith)))

  pub long-plan : 65536 < length plan → Front too_long_line old out n → Says l t n 1 → Responds plan table old out l t
  unfolding answer_for status_for
  long-plan h a says =
      too_long (first-long 65536 plan table (line_for (check_files plan table)) h)
      (first-long_status 65536 plan table (status_of (check_files plan table)) h) a says

  pub long-table : 65536 < length table → Front too_long_line old out n → Says l t n 1 → Responds plan table old out l t
  unfolding answer_for status_for
  long-table h a says =
      too_long (second_long 65536 plan table (line_for (check_files plan table)) h)
      (second_long_status 65536 plan table (status_of (check_files plan table)) h) a says

  module _ (p : length plan ≤ 65536) (w : length table ≤ 65536) (r : Checked) (h : Checks r (lent_passed plan table most_frames)) where
    short : answer_for plan table ≡ line_for (check_files plan table)
    unfolding answer_for
    short = neither_long 65536 plan table (line_for (check_files plan table)) p w

    short_status : status_for plan table ≡ status_of (check_files plan table)
    unfolding status_for
    short_status = neither_long_status 65536 plan table (status_of (check_files plan table)) p w

    says : judged r.answer ≡ verdict (check_files plan table)
    says = h.answered ∙ ap verdict (enough-is plan table most_frames (omega arith))

    passed-line : (m : Res rules.Passed) → ok tt ≡ verdict m → (line_for m ≡ passed_line) × (0 ≡ status_of m)
    passed-line (ok c) e = (refl, refl)
    passed-line (refuse k q) e = refuse≢ok (sym e)

    refused-line : (k q : ℕ) (m : Res rules.Passed) → refuse k q ≡ verdict m → (line_for m ≡ refused_line k q) × (1 ≡ status_of m)
    refused-line k q (ok c) e = refuse≢ok e
    refused-line k q (refuse i j) e = (sym (ap₂ refused_line (refuse-number e) (refuse-place e)), refl)

    pub passed_response : r.answer ≡ Ok tt → Front passed_line old out n → Says l t n 0 → Responds plan table old out l t
    unfolding passed_line
    passed_response e a told =
        let both = passed-line (check_files plan table) (sym (ap judged e) ∙ says) in
        let is : answer_for plan table ≡ passed_line = short ∙ both.0 in
        let ends : 0 ≡ status_for plan table = both.1 ∙ sym short_status in
        rw (told.0, told.1) (rw is a, (ends, λ room. front-counts passed_line old out n a (omega arith)))

    pub refused_response : (why : Refusal) (k q : ℕ) → r.answer ≡ Err why → k ≡ number_of why → q ≡ place_of why
        → k < 18446744073709551616 → q < 18446744073709551616 → Front (refused_line k q) old out n → Says l t n 1 → Responds plan table old out l t
    refused_response why k q e number place kw qw a told =
        let same : refuse k q ≡ verdict (check_files plan table) = ap₂ refuse number place ∙ (sym (ap judged e) ∙ says) in
        let both = refused-line k q (check_files plan table) same in
        let is : answer_for plan table ≡ refused_line k q = short ∙ both.0 in
        let ends : 1 ≡ status_for plan table = both.1 ∙ sym short_status in
        let few : length (refused_line k q) ≤ 53 = refused-line-most k q kw qw in
        rw (told.0, told.1) (rw is a, (ends, λ room. front-counts (refused_line k q) old out n a (omega arith)))

-- An answer that says what the rules say passes exactly the tables that keep every rule, and refuses exactly by the first fault.
use mathlib.Core.Path.{◌≡◌, sym, ap, ◌∙◌, subst}
use mathlib.Core.List.{List}
use mathlib.Core.Logic.{◌↔◌}
use lib.ListN.{length, replicate, length-replicate}
use Prim.Native.Nat.{ℕ}
use Rattle.laws.specs.Res.{Res}
use Rattle.rules.specs.Table.{FrameRow, zero_row}
use Rattle.rules.specs.Checker as rules
use Rattle.rules.proofs.CheckerExact.{checker_exact, checker_refuses, unread_exact, rule_exact}
use Rattle.std.specs.Prelude.{Result, Ok}
use Rattle.answers.specs.declared.Refusal.{Refusal}
use Rattle.checked.specs.Checking.{verdict, lent_passed, PassesExactly, RefusesExactly}
use Rattle.answers.specs.Answered.{judged as heard}
use Rattle.checked.proofs.Rules.{check-answer}
use Rattle.checked.proofs.Unique.{heard-once}

-- one claim for another that is the same
same_when : {A B C : Type 0} → (A → B) → (B → A) → B ↔ C → A ↔ C
same_when to back e = (λ a. e.0 (to a), λ c. back (e.1 c))

module _ (a : Result (Unit {0}) Refusal) (plan table : List ℕ) where
  -- the rules' answer where these rows are lent
  heard-is : (rows : List FrameRow) → heard a ≡ verdict (lent_passed plan table (length rows)) → heard a ≡ (rules.check plan table rows).answer
  heard-is rows e = e ∙ sym (check-answer plan table rows)

  module _ (rows : List FrameRow) (e : heard a ≡ verdict (lent_passed plan table (length rows))) where
    said-by : {r : Res (Unit {0})} → (heard a ≡ r) → ((rules.check plan table rows).answer ≡ r)
    said-by h = sym (heard-is rows e) ∙ h

    heard-by : {r : Res (Unit {0})} → ((rules.check plan table rows).answer ≡ r) → (heard a ≡ r)
    heard-by h = heard-is rows e ∙ h

    passes_with : PassesExactly a plan table (length rows)
    unfolding PassesExactly
    passes_with = same_when (λ h. said-by (ap heard h)) (λ h. heard-once a (Ok tt) (heard-by h)) (checker_exact plan table rows)

    refuses_with : RefusesExactly a plan table (length rows)
    refuses_with =
        record {
          first = λ n p. same_when said-by heard-by (checker_refuses plan table rows n p);
          unread = λ p. same_when said-by heard-by (unread_exact plan table rows p);
          rule = λ i p w. same_when said-by heard-by (rule_exact plan table rows i p w);
        }

  -- so many rows
  abbrev rows_lent : ℕ → List FrameRow
  rows_lent lent = replicate lent zero_row

  pub passes-exactly : (lent : ℕ) → heard a ≡ verdict (lent_passed plan table lent) → PassesExactly a plan table lent
  passes-exactly lent e =
      let n : length (rows_lent lent) ≡ lent = length-replicate lent zero_row in
      subst (PassesExactly a plan table) n (passes_with (rows_lent lent) (rw n e))

  pub refuses-exactly : (lent : ℕ) → heard a ≡ verdict (lent_passed plan table lent) → RefusesExactly a plan table lent
  refuses-exactly lent e =
      let n : length (rows_lent lent) ≡ lent = length-replicate lent zero_row in
      subst (RefusesExactly a plan table) n (refuses_with (rows_lent lent) (rw n e))

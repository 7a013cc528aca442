-- Signs: a difference has a `-` in front exactly where it is below zero, so the two last cells of a data row show which rows are early and which
-- are late. A row of a table that was read holds one pair, so rules 25 and 26 compare just these numbers.
use mathlib.Core.Path.{◌≡◌, refl, sym, ap, ◌∙◌}
use mathlib.Core.Bool.{Bool, true, false, cond, not}
use mathlib.Core.List.{List}
use mathlib.Core.Logic.{◌↔◌}
use borrow.Author.Tests.{not-true}
use lib.Dec.{leb, lit<}
use lib.ListN.{length}
use Prim.Native.Nat.{ℕ, ◌-◌, ◌<◌}
use Rattle.laws.specs.Res.{ok}
use Rattle.rules.specs.Checker.{Passed, row_at, release_kept, deadline_kept, located}
use Rattle.rules.proofs.SingleRows.{single_release, single_deadline, release_single, deadline_single}
use Rattle.rules.proofs.Located.{located_as, located_single}
use Rattle.text.specs.Lines.{starts_with}
use Rattle.text.proofs.Padded.{decimal_unlike}
use Rattle.sheet.specs.declared.Cell.TheVariants.{Count, Below}
use Rattle.sheet.specs.Sheet.{dash, cell_text, word_at, difference, release_of, data_cells}

-- a minus b is below zero where a is below b
sign_is : (a b : ℕ) → starts_with dash (cell_text (difference a b)) ≡ not (leb b a)
unfolding difference
sign_is a b = go (leb b a)
  where
    go : (t : Bool) → starts_with dash (cell_text (cond t (Count (a - b)) (Below (b - a)))) ≡ not t
    go true = decimal_unlike 45 (a - b) (lit< tt)
    go false = refl

-- what a test that fails shows
shows : {b c : Bool} → b ≡ not c → (b ≡ true) ↔ (c ≡ false)
shows {b} {c} e = (λ q. not-true c (sym e ∙ q), λ q. e ∙ ap not q)

module _ (plan table : List ℕ) (c : Passed) (e : located plan table ≡ ok c) (k : ℕ) (w : k < length c.table.rows) where
  -- the cell from-release begins with `-`, or not
  pub release_sign : starts_with dash (word_at (data_cells c (row_at c.table k)) 8) ≡ not (release_kept c.layout c.table k)
  unfolding word_at data_cells release_of single_release
  release_sign =
      let row = row_at c.table k in
      sign_is row.start (release_of c row)
      ∙ ap not (sym (release_single c.layout c.table (located_single (located_as plan table c e)) k w))

  -- the cell to-deadline
  pub deadline_sign : starts_with dash (word_at (data_cells c (row_at c.table k)) 9) ≡ not (deadline_kept c.table k)
  unfolding word_at data_cells single_deadline
  deadline_sign =
      let row = row_at c.table k in
      sign_is row.opens.deadline row.stop
      ∙ ap not (sym (deadline_single c.layout c.table (located_single (located_as plan table c e)) k w))

  pub early-shown : (starts_with dash (word_at (data_cells c (row_at c.table k)) 8) ≡ true) ↔ (release_kept c.layout c.table k ≡ false)
  early-shown = shows release_sign

  pub late-shown : (starts_with dash (word_at (data_cells c (row_at c.table k)) 9) ≡ true) ↔ (deadline_kept c.table k ≡ false)
  late-shown = shows deadline_sign

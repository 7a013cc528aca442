-- Cells and lines put piece by piece.
use mathlib.Core.Path.{◌≡◌}
use mathlib.Core.Bool.{Bool}
use mathlib.Core.List.{List, [], ◌∷◌, ◌++◌, append_assoc}
use native.Mathlib.Omega.{arith}
use lib.ListN.{length}
use Prim.Native.Nat.{ℕ, suc, ◌+◌, ◌-◌, ◌≤◌, ◌<◌}
use Rattle.text.specs.Text.{ended, line_feed, marked, pad_left, pad_right, spaces, texts}
use Rattle.text.proofs.Padded.{decimal-few}
use Rattle.text.proofs.Putting.{Put, both_put}
use Rattle.sheet.specs.declared.Cell.{Cell}
use Rattle.sheet.specs.Sheet.{column, column_of, comment_sign, cycle_comment, cycle_line, cycle_word, edition_text, row_line, sheet_line, word_at}

module _ (b b₁ b₂ : List ℕ) (at k₁ k₂ : ℕ) where
  pub column-put : (width n : ℕ) (word : List ℕ) → n ≡ width - length word → Put b at (spaces (2 + n)) b₁ k₁ → Put b₁ k₁ word b₂ k₂
      → Put b at (column width word) b₂ k₂
  unfolding pad_left
  column-put width n word e p q =
      let two : 2 + n ≡ suc (suc n) = omega arith in
      let whole = both_put b b₁ b₂ (spaces (2 + n)) word at k₁ k₂ p q in
      rw (two, e) at whole

  pub kind-put : (word : List ℕ) {n : ℕ} → n ≡ 7 - length word → Put b at word b₁ k₁ → Put b₁ k₁ (spaces n) b₂ k₂ → Put b at (pad_right 7 word) b₂ k₂
  unfolding pad_right
  kind-put word e p q = both_put b b₁ b₂ word (spaces (7 - length word)) at k₁ k₂ p (rw e at q)

  -- the second piece with what is to stand behind both
  behind-put : (l m n : List ℕ) → Put b at l b₁ k₁ → Put b₁ k₁ (m ++ n) b₂ k₂ → Put b at ((l ++ m) ++ n) b₂ k₂
  behind-put l m n p q = rw (append_assoc l m n) (both_put b b₁ b₂ l (m ++ n) at k₁ k₂ p q)

pub cycle-put : (b b₁ b₂ b₃ : List ℕ) (at k₁ k₂ k₃ : ℕ) (consumers : Bool) (period : ℕ) → Put b at (marked (cycle_word ++ (32 ∷ [])) period) b₁ k₁
    → Put b₁ k₁ (edition_text consumers) b₂ k₂ → Put b₂ k₂ (cycle_comment ++ line_feed) b₃ k₃
    → Put b at (ended (cycle_line consumers period)) b₃ k₃
unfolding cycle_line
cycle-put b b₁ b₂ b₃ at k₁ k₂ k₃ consumers period p q r =
    behind-put b b₁ b₃ at k₁ k₃ (marked (cycle_word ++ (32 ∷ [])) period) (edition_text consumers ++ cycle_comment) line_feed p
    (behind-put b₁ b₂ b₃ k₁ k₂ k₃ (edition_text consumers) cycle_comment line_feed q r)

-- a record's number has at most four digits
pub comment_few : (n : ℕ) → n < 10000 → length (marked comment_sign n) ≤ 8
comment_few n h = omega (arith, decimal-few 3 n h)

pub row_put : (b b₁ b₂ b₃ b₄ : List ℕ) (at k₁ k₂ k₃ k₄ : ℕ) (kind : List ℕ) (cells : List Cell) (n : ℕ) → Put b at (pad_right 7 kind) b₁ k₁
    → Put b₁ k₁ (texts (column_of (word_at cells)) 10) b₂ k₂ → Put b₂ k₂ (marked comment_sign n) b₃ k₃ → Put b₃ k₃ line_feed b₄ k₄
    → Put b at (ended (row_line kind cells n)) b₄ k₄
unfolding row_line sheet_line
row_put b b₁ b₂ b₃ b₄ at k₁ k₂ k₃ k₄ kind cells n p q r s =
    let columns = texts (column_of (word_at cells)) 10 in
    both_put b b₃ b₄ (pad_right 7 kind ++ (columns ++ marked comment_sign n)) line_feed at k₃ k₄
    (both_put b b₁ b₃ (pad_right 7 kind) (columns ++ marked comment_sign n) at k₁ k₃ p
    (both_put b₁ b₂ b₃ columns (marked comment_sign n) k₁ k₂ k₃ q r)) s

-- A line of the help from its pieces.
use Rattle.std.proofs.Common.{List, ◌++◌, ℕ}
use Rattle.text.specs.Text.{ascii, line_feed, marked}
use Rattle.text.proofs.Putting.{Put, both_put}
use Rattle.meanings.specs.Meanings.{help_line, meaning}

-- four pieces
pub help_put : (b b₁ b₂ b₃ b₄ : List ℕ) (at k₁ k₂ k₃ k₄ n : ℕ) → Put b at (marked (ascii "  ") n) b₁ k₁ → Put b₁ k₁ (ascii ": ") b₂ k₂
    → Put b₂ k₂ (meaning n) b₃ k₃ → Put b₃ k₃ line_feed b₄ k₄ → Put b at (help_line n) b₄ k₄
unfolding help_line
help_put b b₁ b₂ b₃ b₄ at k₁ k₂ k₃ k₄ n p₁ p₂ p₃ p₄ =
    let last : Put b₂ k₂ (meaning n ++ line_feed) b₄ k₄ = both_put b₂ b₃ b₄ (meaning n) line_feed k₂ k₃ k₄ p₃ p₄ in
    let words : Put b₁ k₁ (ascii ": " ++ (meaning n ++ line_feed)) b₄ k₄ = both_put b₁ b₂ b₄ (ascii ": ") (meaning n ++ line_feed) k₁ k₂ k₄ p₂ last in
    both_put b b₁ b₄ (marked (ascii "  ") n) (ascii ": " ++ (meaning n ++ line_feed)) at k₁ k₄ p₁ words

-- Words in lent bytes, a zero byte behind them as C ends its texts.
use Rattle.std.specs.Prelude.{Bool, true, false, List, [], ◌∷◌, ◌++◌, leb, length, ℕ}
use Rattle.std.proofs.lemmas.List.Edits.{sets}

-- as many bytes have to be lent: more than any words take with the zero byte
abbrev pub longest_words : ℕ
longest_words = 128

-- the lent bytes have that room
unfoldable pub holds_words : List ℕ → Bool
holds_words lent = leb longest_words (length lent)

abbrev pub words_said : Bool → List ℕ → ℕ
words_said true words = length words
words_said false words = 0

abbrev pub words_left : Bool → List ℕ → List ℕ → List ℕ
words_left true lent words = sets lent 0 (words ++ 0 ∷ [])
words_left false lent words = lent

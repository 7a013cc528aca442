-- Words in lent bytes: the two ways out, whatever the words.
use mathlib.Core.Path.{◌≡◌, refl, sym, ◌∙◌}
use mathlib.Core.List.{List, [], ◌∷◌, ◌++◌}
use native.Mathlib.Nat.{zero-add}
use lib.ListN.{length}
use lib.Seq.{sets}
use borrow.Author.Tests.{le-leb, lt-leb}
use Prim.Native.Nat.{ℕ, ◌+◌, ◌≤◌, ◌<◌}
use Rattle.laws.proofs.Laid.{sets_append}
use Rattle.olbiothar.specs.Words.{holds_words, longest_words, words_left, words_said}

-- what a function says that puts words
abbrev pub WordsAre : ℕ → List ℕ → List ℕ → List ℕ → Type 0
WordsAre r old left words = (r ≡ words_said (holds_words old) words) × (left ≡ words_left (holds_words old) old words)

module _ (words old : List ℕ) where
  pub no_room : length old < longest_words → WordsAre 0 old old words
  unfolding holds_words
  no_room h = rw (lt-leb longest_words (length old) h) (refl, refl)

  pub words-put : {end : ℕ} {put left : List ℕ} → longest_words ≤ length old → end ≡ 0 + length words → put ≡ sets old 0 words
      → left ≡ sets put end (0 ∷ []) → WordsAre end old left words
  unfolding holds_words
  words-put {end} {put} h e p l =
      let same : sets put end (0 ∷ []) ≡ sets old 0 (words ++ 0 ∷ []) = rw (p, e) (sym (sets_append old 0 words (0 ∷ []))) in
      rw (le-leb longest_words (length old) h) (e ∙ zero-add (length words), l ∙ same)

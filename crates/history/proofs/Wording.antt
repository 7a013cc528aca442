-- A line read word by word.
use mathlib.Core.Path.{◌≡◌}
use mathlib.Core.List.{List}
use Rattle.std.specs.Prelude.{Option, Some, None}
use native.Mathlib.Omega.{arith}
use lib.ListN.{length, drop, take}
use Prim.Native.Nat.{ℕ, ◌-◌, ◌≤◌, ◌<◌}
use Rattle.text.specs.Lines.{is_other, next_word, uncommented, words}
use Rattle.text.specs.declared.lines.Word.{Word}
use Rattle.text.proofs.Runs.{front-taken}
use Rattle.text.proofs.Words.{WordsFrom, words-from}
use Rattle.history.specs.Reading.{unread, with_word, with_words}
use Rattle.history.specs.declared.Read.{Read}

-- the part in front of the comment is the line without it
pub uncommented_part : (line : List ℕ) {end : ℕ} → end ≡ length (uncommented line) → take end line ≡ uncommented line
unfolding uncommented
uncommented_part line e = rw e (front-taken (is_other 35) line)

-- the loop: the words from here on complete what was read so far

pub record Wording (s : List ℕ) (read : Read) (at : ℕ) : Type 0 where
  pub same : with_words read (words (drop at s)) ≡ with_words unread (words s)

pub wording_none : {s : List ℕ} {read : Read} → read ≡ unread → Wording s read 0
wording_none e = record { same = rw e }

module _ {s : List ℕ} {read : Read} {at : ℕ} (g : Wording s read at) {found : Option Word} (next-is : found ≡ next_word s at) where
  found-words : (w : Option Word) → found ≡ w → WordsFrom s at w
  found-words w e = rw (← e, next-is) (words-from s at)

  -- no word more
  pub wording_end : found ≡ None → read ≡ with_words unread (words s)
  unfolding with_words
  wording_end e =
      let whole = g.same in
      rw (found-words None e) at whole

  module _ {from to : ℕ} (e : found ≡ Some (record { from = from; to = to })) where
    -- the word is a part of the line, and behind the place
    pub word_part : (from ≤ to) × (to ≤ length s)
    word_part = let w = found-words (Some (record { from = from; to = to })) e in (omega (arith, w.1), omega (arith, w.2))

    pub word-later : (at < to) × (to ≤ length s)
    word-later = let w = found-words (Some (record { from = from; to = to })) e in (omega (arith, w.1, w.3), omega (arith, w.2))

    -- one word more
    pub wording_turn : {more : Read} → more ≡ with_word read (take (to - from) (drop from s)) → Wording s more to
    unfolding with_words
    wording_turn h =
        let whole = g.same in
        record { same = rw h (rw (found-words (Some (record { from = from; to = to })) e).0 at whole) }

-- The words of a line: sought from a place on, and of a line that was written with spaces between them.
use mathlib.Core.Path.{◌≡◌, refl, sym, ap, ◌∙◌}
use mathlib.Core.Bool.{Bool, true, false, cond, not, true≢false}
use mathlib.Core.List.{List, [], ◌∷◌, ◌++◌, append-nil, append_assoc}
use native.Mathlib.Nat.{zero-add}
use native.Mathlib.Numerals.{add-one}
use native.Mathlib.Omega.{arith}
use borrow.Author.Tests.{lt-ltb, le-ltb, leb-true, ltb-true, ltb-false, eq-eqb, ne_eqb}
use lib.Dec.{leb, ltb}
use lib.ListN.{length, drop, take, length-drop}
use lib.Seq.{drop-drop, drop-append_seam}
use Prim.Native.Nat.{ℕ, zero, suc, ◌+◌, ◌-◌, ◌^◌, ◌≤◌, ◌<◌}
use Rattle.laws.specs.Lists.{all, tab}
use Rattle.laws.proofs.Lists.{tab_more, both_left, both_right}
use Rattle.text.specs.Text.{run_on, front, spaces, pad_left, pad_right, texts, decimal, is_digit, read_decimal, number_at, digit_run}
use Rattle.text.specs.Lines.{run_end, is_other, is_blank, is_letter, blank_first, letter_first, words, word_from, next_word, uncommented, whole_number}
use Rattle.text.specs.declared.lines.Word.{Word}
use Rattle.std.specs.Prelude.{Option, Some, None}
use Rattle.text.specs.declared.Digits.{Digits}
use Rattle.text.proofs.Runs.{front_over, front-taken, run_part}
use Rattle.text.proofs.Decimals.{value-decimal, all-decimal, decimal-long}
use Rattle.text.proofs.Reading.{all_read}

-- ---- from a place on

module _ (b : ℕ) (l : List ℕ) where
  blank_passed : is_blank b ≡ true → words (b ∷ l) ≡ words l
  unfolding words
  blank_passed e = rw e

  letter-first : is_blank b ≡ false → words (b ∷ l) ≡ letter_first (blank_first l) b (words l)
  unfolding words
  letter-first e = rw e

-- blanks in front change nothing
blanks_passed : (l : List ℕ) → words l ≡ words (drop (length (front is_blank l)) l)
blanks_passed [] = refl
blanks_passed (b ∷ l) = go (is_blank b) refl (blanks_passed l)
  where
    go : (t : Bool) → is_blank b ≡ t → words l ≡ words (drop (length (front is_blank l)) l)
        → words (b ∷ l) ≡ words (drop (length (run_on t b (front is_blank l))) (b ∷ l))
    go true e more = blank_passed b l e ∙ more
    go false e more = refl

-- where a letter stands first, the letters up to the next blank are the first word
word_first : (b : ℕ) (l : List ℕ) → is_blank b ≡ false
    → words (b ∷ l) ≡ (b ∷ front is_letter l) ∷ words (drop (length (front is_letter l)) l)
word_first b [] e = letter-first b [] e
word_first b (c ∷ l) e = go (is_blank c) refl (λ q. word_first c l q)
  where
    go : (t : Bool) → is_blank c ≡ t
        → (is_blank c ≡ false → words (c ∷ l) ≡ (c ∷ front is_letter l) ∷ words (drop (length (front is_letter l)) l))
        → words (b ∷ c ∷ l) ≡ (b ∷ run_on (not t) c (front is_letter l)) ∷ words (drop (length (run_on (not t) c (front is_letter l))) (c ∷ l))
    go true q more = letter-first b (c ∷ l) e ∙ rw q
    go false q more = letter-first b (c ∷ l) e ∙ rw (q, more q)

-- behind the blanks stands a letter, or nothing
behind_blanks : {C : Type 0} (l : List ℕ) → (drop (length (front is_blank l)) l ≡ [] → C)
    → ((b : ℕ) (r : List ℕ) → drop (length (front is_blank l)) l ≡ b ∷ r → is_blank b ≡ false → C) → C
behind_blanks [] none some = none refl
behind_blanks {C} (b ∷ l) none some = go (is_blank b) refl (λ n s. behind_blanks l n s) none some
  where
    go : (t : Bool) → is_blank b ≡ t
        → ((drop (length (front is_blank l)) l ≡ [] → C)
        → ((c : ℕ) (r : List ℕ) → drop (length (front is_blank l)) l ≡ c ∷ r → is_blank c ≡ false → C) → C)
        → (drop (length (run_on t b (front is_blank l))) (b ∷ l) ≡ [] → C)
        → ((c : ℕ) (r : List ℕ) → drop (length (run_on t b (front is_blank l))) (b ∷ l) ≡ c ∷ r → is_blank c ≡ false → C) → C
    go true e more none some = more none some
    go false e more none some = some b l refl e

-- the words from a place on, by what `next_word` finds there
abbrev pub WordsFrom : List ℕ → ℕ → Option Word → Type 0
WordsFrom s at (Some w) =
    (words (drop at s) ≡ take (w.to - w.from) (drop w.from s) ∷ words (drop w.to s)) × (w.from < w.to) × (w.to ≤ length s) × (at ≤ w.from)
WordsFrom s at None = words (drop at s) ≡ []

front-few : (p : ℕ → Bool) (l : List ℕ) → length (front p l) ≤ length l
front-few p [] = omega arith
front-few p (b ∷ l) = go (p b) (front-few p l)
  where
    go : (t : Bool) → length (front p l) ≤ length l → length (run_on t b (front p l)) ≤ suc (length l)
    go true h = omega arith
    go false h = omega arith

module _ (s : List ℕ) (at from : ℕ) (later : at ≤ from) (skipped : words (drop at s) ≡ words (drop from s)) where
  none-stands : drop from s ≡ [] → WordsFrom s at (word_from s from)
  unfolding words
  none-stands e = go (ltb from (length s)) refl
    where
      short : length s ≤ from
      short = let none : length s - from ≡ 0 = sym (length-drop from s) ∙ ap length e in omega (arith, none)

      go : (t : Bool) → ltb from (length s) ≡ t → WordsFrom s at (cond t (Some (record { from = from; to = run_end is_letter s from })) None)
      go true q = absurd (let h : from < length s = ltb-true from (length s) q in omega (arith, short))
      go false q = skipped ∙ ap words e

  one-stands : (b : ℕ) (r : List ℕ) → drop from s ≡ b ∷ r → is_blank b ≡ false → WordsFrom s at (word_from s from)
  unfolding run_end
  one-stands b r e letter = go (ltb from (length s)) refl
    where
      long : length s - from ≡ suc (length r)
      long = sym (length-drop from s) ∙ ap length e

      whole : front is_letter (drop from s) ≡ b ∷ front is_letter r
      whole = rw (e, letter)

      to_is : run_end is_letter s from ≡ from + suc (length (front is_letter r))
      to_is = rw whole

      first : words (drop at s) ≡ take (run_end is_letter s from - from) (drop from s) ∷ words (drop (run_end is_letter s from) s)
      first =
          skipped ∙ ap words e ∙ word_first b r letter
          ∙ ap (λ (w : List ℕ). w ∷ words (drop (length (front is_letter r)) r)) (sym whole ∙ sym (run_part is_letter s from))
          ∙ ap (λ (l : List ℕ). take (run_end is_letter s from - from) (drop from s) ∷ words l)
          (sym (ap (λ (l : List ℕ). drop (suc (length (front is_letter r))) l) e) ∙ drop-drop (suc (length (front is_letter r))) from s
          ∙ ap (λ (k : ℕ). drop k s) (sym to_is))

      go : (t : Bool) → ltb from (length s) ≡ t → WordsFrom s at (cond t (Some (record { from = from; to = run_end is_letter s from })) None)
      go true q =
          let few : length (front is_letter r) ≤ length r = front-few is_letter r in
          let within : run_end is_letter s from ≤ length s = omega (arith, to_is, long) in
          let further : from < run_end is_letter s from = omega (arith, to_is) in
          (first, further, within, later)
      go false q = absurd (let h : length s ≤ from = ltb-false from (length s) q in omega (arith, long))

pub words-from : (s : List ℕ) (at : ℕ) → WordsFrom s at (next_word s at)
unfolding next_word run_end
words-from s at =
    let from = at + length (front is_blank (drop at s)) in
    let there : drop (length (front is_blank (drop at s))) (drop at s) ≡ drop from s = drop-drop (length (front is_blank (drop at s))) at s in
    let skipped : words (drop at s) ≡ words (drop from s) = blanks_passed (drop at s) ∙ ap words there in
    behind_blanks (drop at s) (λ e. none-stands s at from (omega arith) skipped (sym there ∙ e))
    (λ b r e letter. one-stands s at from (omega arith) skipped b r (sym there ∙ e) letter)

-- what was found, by its cases
module _ (s : List ℕ) (at : ℕ) {found : Option Word} (next-is : found ≡ next_word s at) where
  found-words : (w : Option Word) → found ≡ w → WordsFrom s at w
  found-words w e = rw (← e, next-is) (words-from s at)

  pub none_found : found ≡ None → words (drop at s) ≡ []
  none_found e = found-words None e

  module _ {w : Word} (e : found ≡ Some w) where
    pub word-found : words (drop at s) ≡ take (w.to - w.from) (drop w.from s) ∷ words (drop w.to s)
    word-found = (found-words (Some w) e).0

    -- the word is a part of the line, further on
    pub part_found : (w.from ≤ w.to) × (w.to ≤ length s)
    part_found = let h = found-words (Some w) e in (omega (arith, h.1), omega (arith, h.2))

    pub later-found : at < w.to
    later-found = let h = found-words (Some w) e in omega (arith, h.1, h.3)

-- the part in front of the comment
pub uncommented_part : (line : List ℕ) {end : ℕ} → end ≡ length (uncommented line) → take end line ≡ uncommented line
unfolding uncommented
uncommented_part line e = rw e (front-taken (is_other 35) line)

abbrev stands : ℕ → ℕ → Option Word
stands from to = Some (record { from = from; to = to })

-- the word is found by its places, or there is none
pub next-found : (s : List ℕ) (at : ℕ) {from to : ℕ} → from ≡ run_end is_blank s at → from < length s → to ≡ run_end is_letter s from → stands from to ≡ next_word s at
unfolding next_word
next-found s at {from} e h q = rw (← e, lt-ltb from (length s) h, q)

pub next-none : (s : List ℕ) (at : ℕ) {from : ℕ} → from ≡ run_end is_blank s at → length s ≤ from → None ≡ next_word s at
unfolding next_word
next-none s at {from} e h = rw (← e, le-ltb from (length s) h)

-- ---- of a line that was written

-- a word: not empty, and without blanks
pub record Wordy (w : List ℕ) : Type 0 where
  pub some : 0 < length w
  pub letters : all is_letter w ≡ true

blank-ends : (l : List ℕ) → blank_first l ≡ true → front is_letter l ≡ []
blank-ends [] e = refl
blank-ends (b ∷ l) e = rw e

pub word_then : (w rest : List ℕ) → Wordy w → blank_first rest ≡ true → words (w ++ rest) ≡ w ∷ words rest
word_then [] rest h e = absurd (omega (arith, h.some))
word_then (b ∷ w) rest h e =
    let own : is_letter b ≡ true = both_left (is_letter b) (all is_letter w) h.letters in
    let others : all is_letter w ≡ true = both_right (is_letter b) (all is_letter w) h.letters in
    let run : front is_letter (w ++ rest) ≡ w = front_over is_letter w rest others ∙ rw (blank-ends rest e) (append-nil w) in
    word_first b (w ++ rest) (no_blank b own)
    ∙ rw run (ap (λ (l : List ℕ). (b ∷ w) ∷ words l) (drop-append_seam w rest))
  where
    no_blank : (b : ℕ) → is_letter b ≡ true → is_blank b ≡ false
    no_blank b q = go (is_blank b) q
      where
        go : (t : Bool) → not t ≡ true → t ≡ false
        go true z = absurd (true≢false (sym z))
        go false z = refl

pub spaces_passed : (n : ℕ) (rest : List ℕ) → words (spaces n ++ rest) ≡ words rest
unfolding is_blank
spaces_passed zero rest = refl
spaces_passed (suc n) rest = blank_passed 32 (spaces n ++ rest) refl ∙ spaces_passed n rest

spaces-blank : (n : ℕ) (rest : List ℕ) → blank_first rest ≡ true → blank_first (spaces n ++ rest) ≡ true
unfolding is_blank
spaces-blank zero rest e = e
spaces-blank (suc n) rest e = refl

pub left_padded : (n : ℕ) (w rest : List ℕ) → Wordy w → blank_first rest ≡ true → words (pad_left n w ++ rest) ≡ w ∷ words rest
unfolding pad_left
left_padded n w rest h e =
    ap words (append_assoc (spaces (n - length w)) w rest) ∙ spaces_passed (n - length w) (w ++ rest) ∙ word_then w rest h e

pub right_padded : (n : ℕ) (w rest : List ℕ) → Wordy w → blank_first rest ≡ true → words (pad_right n w ++ rest) ≡ w ∷ words rest
unfolding pad_right
right_padded n w rest h e =
    ap words (append_assoc w (spaces (n - length w)) rest)
    ∙ word_then w (spaces (n - length w) ++ rest) h (spaces-blank (n - length w) rest e)
    ∙ ap (λ (ws : List (List ℕ)). w ∷ ws) (spaces_passed (n - length w) rest)

-- columns, each a word behind blanks
module _ (f g : ℕ → List ℕ) (blank : (k : ℕ) (rest : List ℕ) → blank_first (f k ++ rest) ≡ true)
    (one : (k : ℕ) (rest : List ℕ) → blank_first rest ≡ true → words (f k ++ rest) ≡ g k ∷ words rest) where
  pub columns_then : (n : ℕ) (rest : List ℕ) → blank_first rest ≡ true → words (texts f n ++ rest) ≡ tab g 0 n ++ words rest
  unfolding texts
  columns_then zero rest e = refl
  columns_then (suc n) rest e =
      ap words (append_assoc (texts f n) (f n) rest) ∙ columns_then n (f n ++ rest) (blank n rest)
      ∙ ap (λ (ws : List (List ℕ)). tab g 0 n ++ ws) (one n rest e)
      ∙ sym (append_assoc (tab g 0 n) (g n ∷ []) (words rest))
      ∙ ap (λ (ws : List (List ℕ)). ws ++ words rest) (sym (more n))
    where
      more : (n : ℕ) → tab g 0 (suc n) ≡ tab g 0 n ++ (g n ∷ [])
      more n = ap (tab g 0) (sym (add-one n)) ∙ tab_more g 0 n ∙ ap (λ (k : ℕ). tab g 0 n ++ (g k ∷ [])) (zero-add n)

-- ---- numbers as words

-- where each byte that passes one test passes another
pub all_also : (p q : ℕ → Bool) → ((b : ℕ) → p b ≡ true → q b ≡ true) → (l : List ℕ) → all p l ≡ true → all q l ≡ true
all_also p q h [] e = refl
all_also p q h (b ∷ l) e =
    rw (h b (both_left (p b) (all p l) e), all_also p q h l (both_right (p b) (all p l) e))

digit_letter : (b : ℕ) → is_digit b ≡ true → is_letter b ≡ true
unfolding is_blank
digit_letter b e =
    let low : 48 ≤ b = leb-true 48 b (both_left (leb 48 b) (leb b 57) e) in
    rw (ne_eqb b 32 (λ q. omega arith), ne_eqb b 9 (λ q. omega arith), ne_eqb b 13 (λ q. omega arith))

pub digit_other : (stop b : ℕ) → stop < 48 → is_digit b ≡ true → is_other stop b ≡ true
digit_other stop b h e =
    let low : 48 ≤ b = leb-true 48 b (both_left (leb 48 b) (leb b 57) e) in
    rw (ne_eqb b stop (λ q. omega arith))

pub decimal-wordy : (n : ℕ) → Wordy (decimal n)
decimal-wordy n = record { some = decimal-long n; letters = all_also is_digit is_letter digit_letter (decimal n) (all-decimal n) }

-- a number that was written is that number
pub whole-decimal : (n : ℕ) → n < 2 ^ 64 → whole_number (decimal n) ≡ Some n
unfolding whole_number read_decimal
whole-decimal n h =
    let number : Digits = record { value = n; next = length (decimal n) } in
    let run : digit_run (decimal n) ≡ decimal n =
    ap digit_run (sym (append-nil (decimal n))) ∙ front_over is_digit (decimal n) [] (all-decimal n) ∙ append-nil (decimal n) in
    let read : number_at (digit_run (decimal n)) 0 ≡ Some number =
    ap (λ (r : List ℕ). number_at r 0) run
    ∙ sym (all_read (decimal n) 0 n (length (decimal n)) h (λ q. omega (arith, decimal-long n)) (sym (zero-add (length (decimal n)))) (sym (value-decimal n))) in
    rw (read, eq-eqb (length (decimal n)) (length (decimal n)) refl)

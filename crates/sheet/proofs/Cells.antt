-- Cells and lines of a sheet, as a reader meets them: a line's words are its kind and its cells, however they are padded, and the comment is
-- none of them; and a cell is read as the number that it shows.
use mathlib.Core.Path.{◌≡◌, refl, ap, ◌∙◌}
use mathlib.Core.Bool.{Bool, true, false, cond}
use mathlib.Core.List.{List, [], ◌∷◌, ◌++◌, append-nil}
use mathlib.Core.Option.{some}
use native.Mathlib.Omega.{arith}
use borrow.Author.Tests.{ne_eqb, le-leb}
use lib.Dec.{leb}
use lib.ListN.{length, get_or}
use Prim.Native.Nat.{ℕ, ◌-◌, ◌≤◌, ◌<◌}
use Rattle.laws.specs.Lists.{all, tab}
use Rattle.laws.proofs.Lists.{both}
use Rattle.text.specs.Text.{decimal, pad_left, pad_right, texts}
use Rattle.text.specs.Lines.{behind_word, blank_first, is_blank, is_other, is_word, uncommented, words}
use Rattle.text.proofs.Runs.{front_over}
use Rattle.text.proofs.Words.{Wordy, columns_then, decimal-wordy, left_padded, right_padded, spaces_passed, whole-decimal}
use Rattle.text.proofs.Padded.{all_both, all_left, all_right, all-texts, decimal-other, decimal_unlike}
use Rattle.sheet.specs.declared.Cell.{Cell}
use Rattle.sheet.specs.declared.Cell.TheVariants.{Dash, Count, Below}
use Rattle.sheet.specs.declared.Kind.{Kind}
use Rattle.sheet.specs.declared.Kind.TheVariants.{Refused, Cycle, Control, Data}
use Rattle.sheet.specs.declared.Form.{Form}
use Rattle.sheet.specs.declared.Form.TheVariants as form
use Rattle.sheet.specs.Sheet.{
  dash,
  cycle_word,
  control_word,
  data_word,
  comment_sign,
  cell_text,
  column_widths,
  column_of,
  sheet_line,
  difference,
}
use Rattle.sheet.specs.Back.{
  refused_kind,
  most64,
  kind_of,
  forms_of,
  number_in,
  number_missing,
  numbers_in,
  SoFar,
  may_stand,
  with_numbers,
  with_kind,
  with_words,
  with_line,
}

-- ---- cells as words

pub cell_wordy : (x : Cell) → Wordy (cell_text x)
unfolding is_blank
cell_wordy Dash = record { some = omega arith; letters = refl }
cell_wordy (Count n) = decimal-wordy n
cell_wordy (Below n) = record { some = omega arith; letters = (decimal-wordy n).letters }

-- no byte of a cell is below `-`
pub cell_other : (stop : ℕ) → stop < 45 → (x : Cell) → all (is_other stop) (cell_text x) ≡ true
cell_other stop h Dash = rw (ne_eqb 45 stop (λ q. omega arith))
cell_other stop h (Count n) = decimal-other stop n (omega arith)
cell_other stop h (Below n) = rw (ne_eqb 45 stop (λ q. omega arith)) (decimal-other stop n (omega arith))

-- ---- lines of columns

module _ (word : ℕ → List ℕ) where
  module _ (p : ℕ → Bool) (space : p 32 ≡ true) (each : (k : ℕ) → all p (word k) ≡ true) where
    all-column : (k : ℕ) → all p (column_of word k) ≡ true
    unfolding column_of
    all-column k = both space (both space (all_left p space (get_or column_widths k 0) (word k) (each k)))

    all_columns : (n : ℕ) → all p (texts (column_of word) n) ≡ true
    all_columns = all-texts p (column_of word) all-column

  -- a line without a line feed in it
  pub line-feedless : (kind number : List ℕ) → all (is_other 10) kind ≡ true → ((k : ℕ) → all (is_other 10) (word k) ≡ true)
      → all (is_other 10) number ≡ true → all (is_other 10) (sheet_line kind word number) ≡ true
  unfolding sheet_line
  line-feedless kind number a b c =
      all_both (is_other 10) (pad_right 7 kind) (texts (column_of word) 10 ++ (comment_sign ++ number)) (all_right (is_other 10) refl 7 kind a)
      (all_both (is_other 10) (texts (column_of word) 10) (comment_sign ++ number) (all_columns (is_other 10) refl b 10)
      (all_both (is_other 10) comment_sign number refl c))

  -- what stands in front of the comment
  line_cut : (kind number : List ℕ) → all (is_other 35) kind ≡ true → ((k : ℕ) → all (is_other 35) (word k) ≡ true)
      → uncommented (sheet_line kind word number) ≡ pad_right 7 kind ++ (texts (column_of word) 10 ++ (32 ∷ 32 ∷ []))
  unfolding sheet_line uncommented
  line_cut kind number a b =
      front_over (is_other 35) (pad_right 7 kind) (texts (column_of word) 10 ++ (comment_sign ++ number)) (all_right (is_other 35) refl 7 kind a)
      ∙ ap (λ (l : List ℕ). pad_right 7 kind ++ l)
      (front_over (is_other 35) (texts (column_of word) 10) (comment_sign ++ number) (all_columns (is_other 35) refl b 10))

  module _ (wordy : (k : ℕ) → Wordy (word k)) where
    column-blank : (k : ℕ) (rest : List ℕ) → blank_first (column_of word k ++ rest) ≡ true
    unfolding column_of is_blank
    column-blank k rest = refl

    column-word : (k : ℕ) (rest : List ℕ) → blank_first rest ≡ true → words (column_of word k ++ rest) ≡ word k ∷ words rest
    unfolding column_of
    column-word k rest e =
        spaces_passed 2 (pad_left (get_or column_widths k 0) (word k) ++ rest) ∙ left_padded (get_or column_widths k 0) (word k) rest (wordy k) e

    first-blank : (rest : List ℕ) → blank_first (texts (column_of word) 10 ++ rest) ≡ true
    unfolding texts column_of is_blank
    first-blank rest = refl

    no_more : words (32 ∷ 32 ∷ []) ≡ []
    unfolding words is_blank
    no_more = refl

    two_blank : blank_first (32 ∷ 32 ∷ []) ≡ true
    unfolding is_blank
    two_blank = refl

    -- the words of a line
    pub line-words : (kind number : List ℕ) → Wordy kind → all (is_other 35) kind ≡ true → ((k : ℕ) → all (is_other 35) (word k) ≡ true)
        → words (uncommented (sheet_line kind word number)) ≡ kind ∷ tab word 0 10
    line-words kind number h a b =
        ap words (line_cut kind number a b)
        ∙ right_padded 7 kind (texts (column_of word) 10 ++ (32 ∷ 32 ∷ [])) h (first-blank (32 ∷ 32 ∷ []))
        ∙ ap (λ (ws : List (List ℕ)). kind ∷ ws)
        (columns_then (column_of word) word column-blank column-word 10 (32 ∷ 32 ∷ []) two_blank
        ∙ ap (λ (ws : List (List ℕ)). tab word 0 10 ++ ws) no_more
        ∙ append-nil (tab word 0 10))

-- ---- words as numbers

module _ (n : ℕ) (h : n < 18446744073709551616) where
  pub most-read : (most : ℕ) → n ≤ most → number_in (form.Most most) (decimal n) ≡ some n
  unfolding number_in
  most-read most w = rw (whole-decimal n h, le-leb n most w)

  pub count-read : number_in form.Signed (cell_text (Count n)) ≡ some n
  unfolding number_in
  count-read = rw (decimal_unlike 45 n (omega arith), whole-decimal n h, le-leb n most64 (omega arith))

  pub below-read : number_in form.Signed (cell_text (Below n)) ≡ some n
  unfolding number_in
  below-read = rw (whole-decimal n h, le-leb n most64 (omega arith))

pub dash-read : number_in form.Dash dash ≡ some 0
unfolding number_in is_word behind_word
dash-read = refl

-- how far a number is from zero
abbrev pub away : Cell → ℕ
away Dash = 0
away (Count n) = n
away (Below n) = n

pub signed_read : (a b : ℕ) → a < 18446744073709551616 → b < 18446744073709551616
    → number_in form.Signed (cell_text (difference a b)) ≡ some (away (difference a b))
unfolding difference
signed_read a b h k = go (leb b a)
  where
    go : (t : Bool) → number_in form.Signed (cell_text (cond t (Count (a - b)) (Below (b - a)))) ≡ some (away (cond t (Count (a - b)) (Below (b - a))))
    go true = count-read (a - b) (omega arith)
    go false = below-read (b - a) (omega arith)

-- words that have the forms, and their numbers
pub data ReadAs : List Form → List (List ℕ) → List ℕ → Type 0 where
  no_word : ReadAs [] [] []
  one_word : {f : Form} {fs : List Form} {w : List ℕ} {ws : List (List ℕ)} {n : ℕ} {ns : List ℕ} → number_in f w ≡ some n → ReadAs fs ws ns
      → ReadAs (f ∷ fs) (w ∷ ws) (n ∷ ns)
  word-missing : {f : Form} {fs : List Form} {n : ℕ} {ns : List ℕ} → number_missing f ≡ some n → ReadAs fs [] ns → ReadAs (f ∷ fs) [] (n ∷ ns)

numbers-read : {fs : List Form} {ws : List (List ℕ)} {ns : List ℕ} → ReadAs fs ws ns → numbers_in fs ws ≡ some ns
unfolding numbers_in
numbers-read no_word = refl
numbers-read (one_word e r) = rw (e, numbers-read r)
numbers-read (word-missing e r) = rw (e, numbers-read r)

-- ---- a line that is taken

module _ (kind : Kind) (s : SoFar) where
  kind-taken : (ws : List (List ℕ)) (ns : List ℕ) → may_stand kind s.stage (length s.control) (length s.rows) ≡ true
      → ReadAs (forms_of kind) ws ns → with_kind kind s ws ≡ some (with_numbers kind s ns)
  unfolding with_kind
  kind-taken ws ns a r = rw (a, numbers-read r)

  pub line_taken : (line w : List ℕ) (ws : List (List ℕ)) (ns : List ℕ) → words (uncommented line) ≡ w ∷ ws → kind_of w ≡ kind
      → may_stand kind s.stage (length s.control) (length s.rows) ≡ true → ReadAs (forms_of kind) ws ns
      → with_line s line ≡ some (with_numbers kind s ns)
  unfolding with_line with_words
  line_taken line w ws ns e q a r =
      ap (with_words s) e ∙ ap (λ (k : Kind). with_kind k s ws) q ∙ kind-taken ws ns a r

pub kind-refused : kind_of refused_kind ≡ Refused
unfolding kind_of is_word behind_word
kind-refused = refl

pub kind-cycle : kind_of cycle_word ≡ Cycle
unfolding kind_of is_word behind_word
kind-cycle = refl

pub kind-control : kind_of control_word ≡ Control
unfolding kind_of is_word behind_word
kind-control = refl

pub kind_data : kind_of data_word ≡ Data
unfolding kind_of is_word behind_word
kind_data = refl

-- the words that lines begin with
pub control-wordy : Wordy control_word
unfolding is_blank
control-wordy = record { some = omega arith; letters = refl }

pub data_wordy : Wordy data_word
unfolding is_blank
data_wordy = record { some = omega arith; letters = refl }

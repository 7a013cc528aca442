-- A line that was printed reads back to its record: its words are the first word and, item by item, a word or the digits of a number; and the
-- items take these. One induction over the items serves all kinds.
use mathlib.Core.Path.{◌≡◌, refl, sym, ap, ◌∙◌}
use mathlib.Core.Bool.{Bool, true, ◌&&◌}
use mathlib.Core.List.{List, [], ◌∷◌, ◌++◌, append-nil, append_assoc}
use native.Mathlib.Omega.{arith}
use native.Mathlib.Nat.{lt_of_lt_of_le, pow-le-pow_right}
use borrow.Author.Tests.{leb-true, lt-ltb}
use lib.Dec.{leb, lit<}
use lib.ListN.{length}
use Prim.Native.Nat.{ℕ, zero, suc, ◌-◌, ◌^◌, ◌≤◌, ◌<◌}
use Rattle.laws.specs.Lists.{all}
use Rattle.laws.proofs.Lists.{both, both_left, both_right}
use Rattle.laws.proofs.Members.{All, empty, also, all-get_or-or}
use Rattle.rules.specs.Records.{Rec}
use Rattle.text.specs.Text.{ascii, decimal, marked, pad_left, pad_right, spaces}
use Rattle.text.specs.Lines.{blank_first, is_blank, is_other, uncommented, whole_number, words}
use Rattle.std.specs.Prelude.{Some}
use Rattle.text.proofs.Runs.{front_over, is_no_stop, is_feedless}
use Rattle.text.proofs.Words.{decimal-wordy, left_padded, spaces_passed, whole-decimal, word_then}
use Rattle.text.proofs.Padded.{all_both, all_left, all_right, decimal-other}
use Rattle.planwords.specs.declared.Name.{Name}
use Rattle.planwords.specs.declared.Item.{Item}
use Rattle.planwords.specs.declared.Item.TheVariants.{Word, Number}
use Rattle.planwords.specs.Items.{spelled, no_form, forms, form_of, first_of, items_of, thing_of}
use Rattle.planwords.specs.PlanText.{items_text, record_text, counted_as, comment_text, plan_line}
use Rattle.planwords.specs.TextPlan.{matched, fits, of_kind, words_read, says, line_read, kind_by, may_come}
use Rattle.planwords.proofs.Spelled.{spelled-sound}
use Rattle.planwords.proofs.LineKinds.{PlanKind, a_bus, node_count, a_module, a_mode, a_task, a_run, a_connection, framed_bus, kind-said, Fits, fits-none, fits_word, fits-number}

-- ---- the items of a line

-- the words of the items, with their numbers
abbrev item_words : List Item → List ℕ → List (List ℕ)
item_words [] ns = []
item_words (Word name ∷ items) ns = spelled name ∷ item_words items ns
item_words (Number wide columns ∷ items) [] = []
item_words (Number wide columns ∷ items) (n ∷ ns) = decimal n ∷ item_words items ns

items-blank : {items : List Item} {ns : List ℕ} (f : Fits items ns) (rest : List ℕ) → blank_first rest ≡ true
    → blank_first (items_text items ns ++ rest) ≡ true
unfolding items_text is_blank
items-blank fits-none rest e = e
items-blank (fits_word f) rest e = refl
items-blank (fits-number h f) rest e = refl

-- a space in front of a word, and what stands behind that
spaced : (w rest : List ℕ) → words (32 ∷ w ++ rest) ≡ words (w ++ rest)
spaced w rest = spaces_passed 1 (w ++ rest)

items-words : {items : List Item} {ns : List ℕ} → Fits items ns → (rest : List ℕ) → blank_first rest ≡ true
    → words (items_text items ns ++ rest) ≡ item_words items ns ++ words rest
unfolding items_text
items-words fits-none rest e = refl
items-words (fits_word {name} {items} {ns} f) rest e =
    let more = items_text items ns in
    ap (λ (l : List ℕ). words (32 ∷ l)) (append_assoc (spelled name) more rest) ∙ spaced (spelled name) (more ++ rest)
    ∙ word_then (spelled name) (more ++ rest) (spelled-sound name).wordy (items-blank f rest e)
    ∙ ap (λ (ws : List (List ℕ)). spelled name ∷ ws) (items-words f rest e)
items-words (fits-number {wide} {columns} {n} {items} {ns} h f) rest e =
    let more = items_text items ns in
    ap (λ (l : List ℕ). words (32 ∷ l)) (append_assoc (pad_left columns (decimal n)) more rest) ∙ spaced (pad_left columns (decimal n)) (more ++ rest)
    ∙ left_padded columns (decimal n) (more ++ rest) (decimal-wordy n) (items-blank f rest e)
    ∙ ap (λ (ws : List (List ℕ)). decimal n ∷ ws) (items-words f rest e)

-- no number has more than 64 bits
abbrev is_narrow : List Item → Bool
is_narrow [] = true
is_narrow (Word name ∷ items) = is_narrow items
is_narrow (Number wide columns ∷ items) = leb wide 8 && is_narrow items

narrow_items : {kind : ℕ} → PlanKind kind → is_narrow (items_of kind) ≡ true
unfolding items_of form_of forms
narrow_items a_bus = refl
narrow_items node_count = refl
narrow_items a_module = refl
narrow_items a_mode = refl
narrow_items a_task = refl
narrow_items a_run = refl
narrow_items a_connection = refl
narrow_items framed_bus = refl

number_read : (wide n : ℕ) → leb wide 8 ≡ true → n < 256 ^ wide → whole_number (decimal n) ≡ Some n
number_read wide n e h =
    let most : 256 ^ wide ≤ 256 ^ 8 = pow-le-pow_right (lit< tt) (leb-true wide 8 e) in
    let below : n < 2 ^ 64 = lt_of_lt_of_le h most in
    whole-decimal n below

items-matched : {items : List Item} {ns : List ℕ} → Fits items ns → is_narrow items ≡ true → matched items (item_words items ns) ≡ fits ns
unfolding matched
items-matched fits-none e = refl
items-matched (fits_word {name} f) e = rw ((spelled-sound name).itself, items-matched f e)
items-matched (fits-number {wide} {columns} {n} {items} h f) e =
    let own : leb wide 8 ≡ true = both_left (leb wide 8) (is_narrow items) e in
    let others : is_narrow items ≡ true = both_right (leb wide 8) (is_narrow items) e in
    rw (number_read wide n own h, lt-ltb n (256 ^ wide) h, items-matched f others)

items-count : {items : List Item} {ns : List ℕ} → Fits items ns → length (item_words items ns) ≡ length items
items-count fits-none = refl
items-count (fits_word f) = ap suc (items-count f)
items-count (fits-number h f) = ap suc (items-count f)

-- every byte passes a test that spaces, digits and the words pass
module _ (stop : ℕ) (low : stop < 48) (no_space : stop ≡ 32 → ⊥) (free : (name : Name) → all (is_other stop) (spelled name) ≡ true) where
  space_other : is_other stop 32 ≡ true
  space_other = is_no_stop (λ e. no_space (sym e))

  items-other : {items : List Item} {ns : List ℕ} → Fits items ns → all (is_other stop) (items_text items ns) ≡ true
  unfolding items_text
  items-other fits-none = refl
  items-other (fits_word {name} {items} {ns} f) =
      both space_other (all_both (is_other stop) (spelled name) (items_text items ns) (free name) (items-other f))
  items-other (fits-number {wide} {columns} {n} {items} {ns} h f) =
      both space_other
      (all_both (is_other stop) (pad_left columns (decimal n)) (items_text items ns)
      (all_left (is_other stop) space_other columns (decimal n) (decimal-other stop n (omega arith))) (items-other f))

  record_other : (kind : ℕ) {ns : List ℕ} → Fits (items_of kind) ns → all (is_other stop) (pad_right 47 (record_text (record { kind = kind; numbers = ns }))) ≡ true
  unfolding record_text
  record_other kind {ns} f =
      all_right (is_other stop) space_other 47 (spelled (first_of kind) ++ items_text (items_of kind) ns)
      (all_both (is_other stop) (spelled (first_of kind)) (items_text (items_of kind) ns) (free (first_of kind)) (items-other f))

-- ---- the line

abbrev two_spaces : List ℕ
two_spaces = 32 ∷ 32 ∷ []

spaces-blank : (n : ℕ) → blank_first (spaces n ++ two_spaces) ≡ true
unfolding is_blank
spaces-blank zero = refl
spaces-blank (suc n) = refl

no_words : (n : ℕ) → words (spaces n ++ two_spaces) ≡ []
unfolding words is_blank
no_words n = spaces_passed n two_spaces

-- what is counted is called by words without a line feed, whatever the kind
things-feedless : All (λ form. is_feedless form.thing ≡ true) forms
unfolding forms
things-feedless = also refl (also refl (also refl (also refl (also refl (also refl (also refl (also refl (also refl (also refl empty)))))))))

thing-feedless : (kind : ℕ) → is_feedless (thing_of kind) ≡ true
unfolding thing_of form_of
thing-feedless kind = all-get_or-or {P = λ form. is_feedless form.thing ≡ true} no_form things-feedless refl kind

counted-feedless : (thing : List ℕ) → is_feedless thing ≡ true → (k : ℕ) → is_feedless (counted_as thing k) ≡ true
counted-feedless [] h k = refl
counted-feedless (b ∷ thing) h k =
    all_both (is_other 10) (marked ((b ∷ thing) ++ ascii " ") k) (ascii ", ")
    (all_both (is_other 10) ((b ∷ thing) ++ ascii " ") (decimal k) (all_both (is_other 10) (b ∷ thing) (ascii " ") h refl) (decimal-other 10 k (lit< tt)))
    refl

comment_feedless : (kind k number : ℕ) → is_feedless (comment_text kind k number) ≡ true
unfolding comment_text
comment_feedless kind k number =
    all_both (is_other 10) (counted_as (thing_of kind) k) (marked (ascii "record ") number) (counted-feedless (thing_of kind) (thing-feedless kind) k)
    (all_both (is_other 10) (ascii "record ") (decimal number) refl (decimal-other 10 number (lit< tt)))

module _ {kind : ℕ} (K : PlanKind kind) {ns : List ℕ} (f : Fits (items_of kind) ns) where
  abbrev the_record : Rec
  the_record = record { kind = kind; numbers = ns }

  record_words : words (pad_right 47 (record_text the_record) ++ two_spaces) ≡ spelled (first_of kind) ∷ item_words (items_of kind) ns
  unfolding pad_right record_text
  record_words =
      let first = spelled (first_of kind) in
      let items = items_text (items_of kind) ns in
      let n = 47 - length (first ++ items) in
      let rest = spaces n ++ two_spaces in
      ap words (append_assoc (first ++ items) (spaces n) two_spaces ∙ append_assoc first items rest)
      ∙ word_then first (items ++ rest) (spelled-sound (first_of kind)).wordy (items-blank f rest (spaces-blank n))
      ∙ ap (λ (ws : List (List ℕ)). first ∷ ws)
      (items-words f rest (spaces-blank n) ∙ ap (λ (ws : List (List ℕ)). item_words (items_of kind) ns ++ ws) (no_words n)
      ∙ append-nil (item_words (items_of kind) ns))

  -- the comment is left out
  line-uncommented : (k number : ℕ) → uncommented (plan_line the_record k number) ≡ pad_right 47 (record_text the_record) ++ two_spaces
  unfolding uncommented plan_line comment_text
  line-uncommented k number =
      front_over (is_other 35) (pad_right 47 (record_text the_record)) (comment_text kind k number)
      (record_other 35 (lit< tt) (λ e. omega arith) (λ name. (spelled-sound name).uncut) kind f)

  pub line_back : (previous k number : ℕ) → may_come previous kind ≡ true → line_read previous (plan_line the_record k number) ≡ says the_record
  unfolding line_read words_read of_kind
  line_back previous k number may =
      let same : kind_by (spelled (first_of kind)) (length (item_words (items_of kind) ns)) ≡ kind =
      ap (kind_by (spelled (first_of kind))) (items-count f) ∙ kind-said K in
      ap (λ (l : List ℕ). words_read previous (words l)) (line-uncommented k number) ∙ ap (words_read previous) record_words
      ∙ rw (same, may, items-matched f (narrow_items K))

  -- ---- no line feed stands in it

  pub line-feedless : (k number : ℕ) → is_feedless (plan_line the_record k number) ≡ true
  unfolding plan_line comment_text
  line-feedless k number =
      all_both (is_other 10) (pad_right 47 (record_text the_record)) (comment_text kind k number)
      (record_other 10 (lit< tt) (λ e. omega arith) (λ name. (spelled-sound name).feedless) kind f) (comment_feedless kind k number)

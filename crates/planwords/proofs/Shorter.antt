-- A plan is no longer than its text, but for the end record: a line that says a record has at least as many bytes as the record, since each of
-- its words has one and a blank parts it from the next.
use mathlib.Core.Path.{◌≡◌, refl, sym, ap, subst}
use mathlib.Core.Bool.{Bool, true, false, cond}
use mathlib.Core.List.{List, [], ◌∷◌, ◌++◌, map}
use native.Mathlib.Omega.{arith}
use lib.Dec.{eqb, ltb}
use lib.ListN.{length, take, length-take, length-append}
use Prim.Native.Nat.{ℕ, suc, ◌+◌, ◌^◌, ◌≤◌}
use Rattle.laws.specs.Lists.{joined}
use Rattle.rules.specs.Records.{Rec, kinds, fields, plan_follows}
use Rattle.rules.specs.Table.{record_bytes}
use Rattle.text.specs.Lines.{blank_first, blank_or, in_front, is_blank, is_other, is_word, letter_first, lines_of, or_feed, uncommented, whole_number, words}
use Rattle.std.specs.Prelude.{Option, Some, None}
use Rattle.text.proofs.Runs.{front-taken}
use Rattle.planwords.specs.declared.Item.{Item}
use Rattle.planwords.specs.declared.Item.TheVariants.{Word, Number}
use Rattle.planwords.specs.declared.Reason.TheVariants.{Expected, NumberTooLarge}
use Rattle.planwords.specs.Items.{spelled, forms, form_of, items_of}
use Rattle.planwords.specs.TextPlan.{
  kind_by,
  may_come,
  why_not,
  Matched,
  fits,
  fails,
  number_first,
  with_number,
  matched,
  LineRead,
  blank,
  says,
  wrong,
  as_record,
  of_kind,
  words_read,
  line_read,
  TextRead,
  plan,
  unreadable,
  before,
  goes_on,
  read_lines,
  text_read,
  bytes_of,
  plan_bytes,
  plan_file,
  plan_from,
  read_text,
}
use Rattle.planwords.proofs.LineKinds.{
  PlanKind,
  a_bus,
  node_count,
  a_module,
  a_mode,
  a_task,
  a_run,
  a_connection,
  framed_bus,
  plan-kind,
  may-stand,
  Fits,
  fits-none,
  fits_word,
  fits-number,
}
use Rattle.planwords.proofs.ReadsBack.{
  matched-fits,
  fails≢fits,
  blank≢says,
  wrong≢says,
  unreadable≢plan,
  unreadable≢file,
  says_injective,
  plan_injective,
  file_injective,
}

-- ---- words

-- A text has a byte for each word and one between two; where a blank stands first, or nothing, two for each word.
record Few (l : List ℕ) : Type 0 where
  all : length (words l) + length (words l) ≤ length l + 1
  behind_blank : blank_first l ≡ true → length (words l) + length (words l) ≤ length l

words-few : (l : List ℕ) → Few l
unfolding words
words-few [] = record { all = omega arith; behind_blank = λ e. omega arith }
words-few (b ∷ s) = record { all = go (is_blank b) (words-few s); behind_blank = λ e. rw e (blanks (words-few s)) }
  where
    blanks : Few s → length (words s) + length (words s) ≤ suc (length s)
    blanks h = omega (arith, h.all)

    longer : (ws : List (List ℕ)) → length ws + length ws ≤ length s + 1 → length (in_front b ws) + length (in_front b ws) ≤ suc (length s) + 1
    longer [] h = omega arith
    longer (w ∷ ws) h = omega arith

    letter : (t : Bool) → blank_first s ≡ t → Few s
        → length (letter_first t b (words s)) + length (letter_first t b (words s)) ≤ suc (length s) + 1
    letter true e h = omega (arith, h.behind_blank e)
    letter false e h = longer (words s) h.all

    go : (t : Bool) → Few s
        → length (blank_or t (words s) (letter_first (blank_first s) b (words s))) + length (blank_or t (words s) (letter_first (blank_first s) b (words s)))
        ≤ suc (length s) + 1
    go true h = omega (arith, h.all)
    go false h = letter (blank_first s) refl h

uncommented-few : (line : List ℕ) → length (uncommented line) ≤ length line
unfolding uncommented
uncommented-few line =
    let long : length (uncommented line) ≡ length (take (length (uncommented line)) line) = ap length (sym (front-taken (is_other 35) line)) in
    let most = length-take (length (uncommented line)) line in
    omega (arith, long, most)

-- ---- a line

-- the words behind the first are as many as the items
matched-long : (items : List Item) (ws : List (List ℕ)) (ns : List ℕ) → matched items ws ≡ fits ns → length ws ≡ length items
unfolding matched
matched-long [] [] ns e = refl
matched-long [] (w ∷ ws) ns e = fails≢fits e
matched-long (Word name ∷ items) [] ns e = fails≢fits e
matched-long (Word name ∷ items) (w ∷ ws) ns e = go (is_word (spelled name) w) e (λ q. matched-long items ws ns q)
  where
    go : (b : Bool) → cond b (matched items ws) (fails (Expected name)) ≡ fits ns → (matched items ws ≡ fits ns → length ws ≡ length items)
        → suc (length ws) ≡ suc (length items)
    go true q rest = ap suc (rest q)
    go false q rest = fails≢fits q
matched-long (Number wide columns ∷ items) [] ns e = fails≢fits e
matched-long (Number wide columns ∷ items) (w ∷ ws) ns e = go (whole_number w) e (λ ms q. matched-long items ws ms q)
  where
    first : (n : ℕ) (m : Matched) → matched items ws ≡ m → number_first n m ≡ fits ns
        → ((ms : List ℕ) → matched items ws ≡ fits ms → length ws ≡ length items) → suc (length ws) ≡ suc (length items)
    first n (fits ms) q p rest = ap suc (rest ms q)
    first n (fails why) q p rest = fails≢fits p

    fitting : (n : ℕ) (b : Bool) → cond b (number_first n (matched items ws)) (fails NumberTooLarge) ≡ fits ns
        → ((ms : List ℕ) → matched items ws ≡ fits ms → length ws ≡ length items) → suc (length ws) ≡ suc (length items)
    fitting n true q rest = first n (matched items ws) refl q rest
    fitting n false q rest = fails≢fits q

    go : (number : Option ℕ) → with_number wide number (matched items ws) ≡ fits ns
        → ((ms : List ℕ) → matched items ws ≡ fits ms → length ws ≡ length items) → suc (length ws) ≡ suc (length items)
    go None q rest = fails≢fits q
    go (Some n) q rest = fitting n (ltb n (256 ^ wide)) q rest

-- a record has fewer bytes than twice as many as its line has words
record_few : {kind : ℕ} → PlanKind kind → {ns : List ℕ} → Fits (items_of kind) ns
    → length (record_bytes kind ns) ≤ length (items_of kind) + length (items_of kind) + 1
unfolding record_bytes fields kinds items_of form_of forms
record_few a_bus
    (fits_word (fits-number a (fits_word (fits-number b (fits_word (fits-number c (fits_word (fits-number d (fits_word (fits-number e
    (fits_word (fits-number f fits-none)))))))))))) =
    omega arith
record_few node_count (fits-number a fits-none) = omega arith
record_few a_module (fits_word (fits_word (fits-number a fits-none))) = omega arith
record_few a_mode (fits_word (fits_word (fits-number a (fits_word (fits-number b (fits_word (fits-number c fits-none))))))) = omega arith
record_few a_task (fits_word (fits_word (fits-number a (fits_word (fits-number b (fits_word (fits-number c fits-none))))))) = omega arith
record_few a_run (fits_word (fits_word (fits-number a (fits_word (fits-number b (fits_word (fits-number c fits-none))))))) = omega arith
record_few a_connection (fits_word (fits-number a (fits_word (fits_word (fits-number b fits-none))))) = omega arith
record_few framed_bus
    (fits_word (fits-number a (fits_word (fits-number b (fits_word (fits-number c (fits_word (fits-number d (fits_word (fits-number e
    (fits_word (fits-number f (fits_word (fits-number g fits-none)))))))))))))) =
    omega arith

-- What a line's words say: a kind that may come, and numbers that its items take.
pub record Spoken (previous : ℕ) (ws : List (List ℕ)) (r : Rec) : Type 0 where
  pub may : may_come previous r.kind ≡ true
  pub kind : PlanKind r.kind
  pub numbers : matched (items_of r.kind) ws ≡ fits r.numbers

pub spoken : (previous kind : ℕ) (ws : List (List ℕ)) (r : Rec) → of_kind previous kind ws ≡ says r → (r.kind ≡ kind) × Spoken previous ws r
unfolding of_kind
spoken previous kind ws r e = standing (may_come previous kind) refl e
  where
    taken : may_come previous kind ≡ true → (m : Matched) → matched (items_of kind) ws ≡ m → as_record kind m ≡ says r
        → (r.kind ≡ kind) × Spoken previous ws r
    taken may (fits ns) q p =
        let s = may-stand previous kind may in
        subst (λ (t : Rec). (t.kind ≡ kind) × Spoken previous ws t) (says_injective p)
        (refl, record { may = may; kind = plan-kind previous kind s.0.is_next s.1; numbers = q })
    taken may (fails why) q p = wrong≢says p

    standing : (b : Bool) → may_come previous kind ≡ b → cond b (as_record kind (matched (items_of kind) ws)) (wrong (why_not previous kind)) ≡ says r
        → (r.kind ≡ kind) × Spoken previous ws r
    standing true q p = taken q (matched (items_of kind) ws) refl p
    standing false q p = wrong≢says p

spoken_few : {previous : ℕ} {ws : List (List ℕ)} {r : Rec} → Spoken previous ws r → length (bytes_of r) ≤ length ws + length ws + 1
spoken_few {previous} {ws} {r} s =
    let long = matched-long (items_of r.kind) ws r.numbers s.numbers in
    let few = record_few s.kind (matched-fits (items_of r.kind) ws r.numbers s.numbers) in
    omega (arith, long, few)

words-short : (previous : ℕ) (ws : List (List ℕ)) (r : Rec) → words_read previous ws ≡ says r → length (bytes_of r) + 1 ≤ length ws + length ws
unfolding words_read
words-short previous [] r e = blank≢says e
words-short previous (w ∷ ws) r e = let few = spoken_few (spoken previous (kind_by w (length ws)) ws r e).1 in omega (arith, few)

-- a line that says a record has at least as many bytes as the record
pub record_short : (previous : ℕ) (line : List ℕ) (r : Rec) → line_read previous line ≡ says r → length (bytes_of r) ≤ length line
unfolding line_read
record_short previous line r e =
    omega (arith, words-short previous (words (uncommented line)) r e, (words-few (uncommented line)).all, uncommented-few line)

-- ---- the whole text

lines-short : (text : List ℕ) → length (joined (lines_of text)) ≤ length text
unfolding lines_of
lines-short [] = omega arith
lines-short (b ∷ s) = go (eqb b 10) (lines_of s) (lines-short s)
  where
    go : (t : Bool) (ls : List (List ℕ)) → length (joined ls) ≤ length s → length (joined (or_feed t b ls)) ≤ suc (length s)
    go true ls h = omega arith
    go false [] h = omega arith
    go false (l ∷ ls) h = omega arith

records-short : (lines : List (List ℕ)) (number previous : ℕ) (rs : List Rec) → read_lines number previous lines ≡ plan rs
    → length (joined (map bytes_of rs)) ≤ length (joined lines)
unfolding read_lines
records-short [] number previous rs e = go (plan_follows previous 0) e
  where
    go : (b : Bool) → cond b (plan []) (unreadable number (why_not previous 0)) ≡ plan rs → length (joined (map bytes_of rs)) ≤ 0
    go true q = rw (← plan_injective q) (omega arith)
    go false q = unreadable≢plan q
records-short (line ∷ lines) number previous rs e =
    go (line_read previous line) refl e (λ kind ts q. records-short lines (suc number) kind ts q)
  where
    both : (l m : List ℕ) (n k : ℕ) → length l ≤ n → length m ≤ k → length (l ++ m) ≤ n + k
    both l m n k h j = rw (length-append l m) (omega arith)

    more : (r : Rec) (t : TextRead) → ((ts : List Rec) → t ≡ plan ts → length (joined (map bytes_of ts)) ≤ length (joined lines))
        → length (bytes_of r) ≤ length line → before r t ≡ plan rs → length (joined (map bytes_of rs)) ≤ length (line ++ joined lines)
    more r (plan ts) rest h q =
        rw (← plan_injective q, length-append line (joined lines)) (both (bytes_of r) (joined (map bytes_of ts)) (length line) (length (joined lines)) h (rest ts refl))
    more r (unreadable n why) rest h q = unreadable≢plan q

    go : (m : LineRead) → line_read previous line ≡ m → goes_on number previous m (λ kind. read_lines (suc number) kind lines) ≡ plan rs
        → ((kind : ℕ) (ts : List Rec) → read_lines (suc number) kind lines ≡ plan ts → length (joined (map bytes_of ts)) ≤ length (joined lines))
        → length (joined (map bytes_of rs)) ≤ length (line ++ joined lines)
    go blank q p rest = let h = rest previous rs p in rw (length-append line (joined lines)) (omega (arith, h))
    go (says r) q p rest =
        more r (read_lines (suc number) r.kind lines) (λ ts w. rest r.kind ts w) (record_short previous line r q) p
    go (wrong why) q p rest = unreadable≢plan p

-- what is read from a text has at most one byte more
pub plan-short : (text file : List ℕ) → read_text text ≡ plan_file file → length file ≤ length text + 1
unfolding read_text text_read plan_bytes
plan-short text file e = go (read_lines 1 0 (lines_of text)) refl e
  where
    go : (t : TextRead) → read_lines 1 0 (lines_of text) ≡ t → plan_from t ≡ plan_file file → length file ≤ length text + 1
    go (plan rs) q p =
        let long = length-append (joined (map bytes_of rs)) (0 ∷ []) in
        let few = records-short (lines_of text) 1 0 rs q in
        rw (← file_injective p, long) (omega (arith, few, lines-short text))
    go (unreadable n why) q p = unreadable≢file p

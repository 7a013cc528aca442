-- What is stored of a line that says a record is the record's bytes, and of a text that is a plan the plan's.
use mathlib.Core.Path.{◌≡◌, refl, sym, ap, ap₂, ◌∙◌}
use mathlib.Core.Bool.{Bool, true, false, cond}
use mathlib.Core.List.{List, [], ◌∷◌, ◌++◌, map, append_assoc}
use native.Mathlib.Omega.{arith}
use lib.Dec.{ltb}
use lib.ListN.{length}
use Prim.Native.Nat.{ℕ, suc, ◌^◌}
use Rattle.laws.specs.Numbers.{bytes}
use Rattle.laws.specs.Lists.{joined}
use Rattle.rules.specs.Records.{Rec, kinds, fields, plan_follows}
use Rattle.rules.specs.Table.{encoded, record_bytes}
use Rattle.text.specs.Lines.{is_word, lines_of, uncommented, whole_number, words}
use Rattle.std.specs.Prelude.{Option, Some, None, Ok, Err}
use Rattle.planwords.specs.declared.Item.{Item}
use Rattle.planwords.specs.declared.Item.TheVariants.{Word, Number}
use Rattle.planwords.specs.declared.Reason.TheVariants.{Expected, NumberTooLarge}
use Rattle.planwords.specs.Items.{spelled, forms, form_of, items_of}
use Rattle.planwords.specs.TextPlan.{
  kind_by,
  may_come,
  why_not,
  Matched,
  fits,
  fails,
  number_first,
  with_number,
  matched,
  LineRead,
  blank,
  says,
  wrong,
  as_record,
  of_kind,
  words_read,
  line_read,
  TextRead,
  plan,
  unreadable,
  before,
  goes_on,
  read_lines,
  text_read,
  bytes_of,
  plan_bytes,
}
use Rattle.planwords.proofs.LineKinds.{
  PlanKind,
  a_bus,
  node_count,
  a_module,
  a_mode,
  a_task,
  a_run,
  a_connection,
  framed_bus,
  Fits,
  fits-none,
  fits_word,
  fits-number,
}
use Rattle.planwords.proofs.ReadsBack.{matched-fits, fails≢fits, fits_injective, blank≢says, unreadable≢plan, plan_injective}
use Rattle.planwords.proofs.Shorter.{Spoken, spoken}
use Rattle.planreader.specs.Memory.{judged_number, kind_stored, line_stored, number_of, stored_lines, stored_on, stored_text, taken, taken_by, words_stored}

-- ---- the numbers of a line

-- their bytes, by the items
abbrev item_bytes : List Item → List ℕ → List ℕ
item_bytes [] ns = []
item_bytes (Word name ∷ items) ns = item_bytes items ns
item_bytes (Number wide columns ∷ items) [] = []
item_bytes (Number wide columns ∷ items) (n ∷ ns) = bytes wide n ++ item_bytes items ns

-- are those that are taken
taken-bytes : (items : List Item) (ws : List (List ℕ)) (ns : List ℕ) → matched items ws ≡ fits ns → taken items ws ≡ item_bytes items ns
unfolding matched taken
taken-bytes [] [] ns e = refl
taken-bytes [] (w ∷ ws) ns e = fails≢fits e
taken-bytes (Word name ∷ items) [] ns e = fails≢fits e
taken-bytes (Word name ∷ items) (w ∷ ws) ns e = go (is_word (spelled name) w) e (λ q. taken-bytes items ws ns q)
  where
    go : (b : Bool) → cond b (matched items ws) (fails (Expected name)) ≡ fits ns → (matched items ws ≡ fits ns → taken items ws ≡ item_bytes items ns)
        → taken_by (cond b (Ok (number_of 0 0)) (Err (Expected name))) (taken items ws) ≡ item_bytes items ns
    go true q rest = rest q
    go false q rest = fails≢fits q
taken-bytes (Number wide columns ∷ items) [] ns e = fails≢fits e
taken-bytes (Number wide columns ∷ items) (w ∷ ws) ns e = go (whole_number w) e (λ ms q. taken-bytes items ws ms q)
  where
    first : (n : ℕ) (m : Matched) → matched items ws ≡ m → number_first n m ≡ fits ns
        → ((ms : List ℕ) → matched items ws ≡ fits ms → taken items ws ≡ item_bytes items ms)
        → bytes wide n ++ taken items ws ≡ item_bytes (Number wide columns ∷ items) ns
    first n (fits ms) q p rest =
        ap (λ (l : List ℕ). bytes wide n ++ l) (rest ms q) ∙ ap (item_bytes (Number wide columns ∷ items)) (fits_injective p)
    first n (fails why) q p rest = fails≢fits p

    fitting : (n : ℕ) (b : Bool) → cond b (number_first n (matched items ws)) (fails NumberTooLarge) ≡ fits ns
        → ((ms : List ℕ) → matched items ws ≡ fits ms → taken items ws ≡ item_bytes items ms)
        → taken_by (cond b (Ok (number_of wide n)) (Err NumberTooLarge)) (taken items ws) ≡ item_bytes (Number wide columns ∷ items) ns
    fitting n true q rest = first n (matched items ws) refl q rest
    fitting n false q rest = fails≢fits q

    go : (number : Option ℕ) → with_number wide number (matched items ws) ≡ fits ns
        → ((ms : List ℕ) → matched items ws ≡ fits ms → taken items ws ≡ item_bytes items ms)
        → taken_by (judged_number wide number) (taken items ws) ≡ item_bytes (Number wide columns ∷ items) ns
    go None q rest = fails≢fits q
    go (Some n) q rest = fitting n (ltb n (256 ^ wide)) q rest

-- and those of the record's body
body_bytes : {kind : ℕ} → PlanKind kind → {ns : List ℕ} → Fits (items_of kind) ns → item_bytes (items_of kind) ns ≡ encoded (fields kind) ns
unfolding fields kinds items_of form_of forms
body_bytes a_bus
    (fits_word (fits-number a (fits_word (fits-number b (fits_word (fits-number c (fits_word (fits-number d (fits_word (fits-number e
    (fits_word (fits-number f fits-none)))))))))))) =
    refl
body_bytes node_count (fits-number a fits-none) = refl
body_bytes a_module (fits_word (fits_word (fits-number a fits-none))) = refl
body_bytes a_mode (fits_word (fits_word (fits-number a (fits_word (fits-number b (fits_word (fits-number c fits-none))))))) = refl
body_bytes a_task (fits_word (fits_word (fits-number a (fits_word (fits-number b (fits_word (fits-number c fits-none))))))) = refl
body_bytes a_run (fits_word (fits_word (fits-number a (fits_word (fits-number b (fits_word (fits-number c fits-none))))))) = refl
body_bytes a_connection (fits_word (fits-number a (fits_word (fits_word (fits-number b fits-none))))) = refl
body_bytes framed_bus
    (fits_word (fits-number a (fits_word (fits-number b (fits_word (fits-number c (fits_word (fits-number d (fits_word (fits-number e
    (fits_word (fits-number f (fits_word (fits-number g fits-none)))))))))))))) =
    refl

-- ---- a line

spoken_bytes : {previous : ℕ} {ws : List (List ℕ)} {r : Rec} → Spoken previous ws r → kind_stored previous r.kind ws ≡ bytes_of r
unfolding kind_stored record_bytes
spoken_bytes {previous} {ws} {r} s =
    let body = taken-bytes (items_of r.kind) ws r.numbers s.numbers
    ∙ body_bytes s.kind (matched-fits (items_of r.kind) ws r.numbers s.numbers) in
    rw (s.may, body)

words-stored : (previous : ℕ) (ws : List (List ℕ)) (r : Rec) → words_read previous ws ≡ says r → words_stored previous ws ≡ bytes_of r
unfolding words_read words_stored
words-stored previous [] r e = blank≢says e
words-stored previous (w ∷ ws) r e =
    let s = spoken previous (kind_by w (length ws)) ws r e in
    ap (λ (kind : ℕ). kind_stored previous kind ws) (sym s.0) ∙ spoken_bytes s.1

pub says-stored : (previous : ℕ) (line : List ℕ) (r : Rec) → line_read previous line ≡ says r → line_stored previous line ≡ bytes_of r
unfolding line_read line_stored
says-stored previous line r e = words-stored previous (words (uncommented line)) r e

module _ {C : Type 0} where
  wrong≢blank : {why : _} → wrong why ≡ blank → C
  wrong≢blank e = let z : ◌≡◌ {A = ℕ} 0 1 = cc in absurd (omega arith)

  says≢blank : {r : Rec} → says r ≡ blank → C
  says≢blank e = let z : ◌≡◌ {A = ℕ} 0 1 = cc in absurd (omega arith)

-- a line with a word is not blank
kind_unblank : {C : Type 0} (previous kind : ℕ) (ws : List (List ℕ)) → of_kind previous kind ws ≡ blank → C
unfolding of_kind
kind_unblank {C} previous kind ws e = go (may_come previous kind) (matched (items_of kind) ws) e
  where
    go : (b : Bool) (m : Matched) → cond b (as_record kind m) (wrong (why_not previous kind)) ≡ blank → C
    go true (fits ns) q = says≢blank q
    go true (fails why) q = wrong≢blank q
    go false m q = wrong≢blank q

words_unstored : (previous : ℕ) (ws : List (List ℕ)) → words_read previous ws ≡ blank → words_stored previous ws ≡ []
unfolding words_read words_stored
words_unstored previous [] e = refl
words_unstored previous (w ∷ ws) e = kind_unblank previous (kind_by w (length ws)) ws e

pub blank-stored : (previous : ℕ) (line : List ℕ) → line_read previous line ≡ blank → line_stored previous line ≡ []
unfolding line_read line_stored
blank-stored previous line e = words_unstored previous (words (uncommented line)) e

-- ---- the whole text

lines_stored : (lines : List (List ℕ)) (number previous : ℕ) (rs : List Rec) → read_lines number previous lines ≡ plan rs
    → stored_lines previous lines ≡ plan_bytes rs
unfolding read_lines stored_lines plan_bytes
lines_stored [] number previous rs e = go (plan_follows previous 0) e
  where
    go : (b : Bool) → cond b (plan []) (unreadable number (why_not previous 0)) ≡ plan rs → cond b (0 ∷ []) [] ≡ plan_bytes rs
    go true q = ap plan_bytes (plan_injective q)
    go false q = unreadable≢plan q
lines_stored (line ∷ lines) number previous rs e =
    go (line_read previous line) refl e (λ kind ts q. lines_stored lines (suc number) kind ts q)
  where
    more : (r : Rec) (t : TextRead) → ((ts : List Rec) → t ≡ plan ts → stored_lines r.kind lines ≡ plan_bytes ts)
        → line_stored previous line ≡ bytes_of r → before r t ≡ plan rs → line_stored previous line ++ stored_lines r.kind lines ≡ plan_bytes rs
    more r (plan ts) rest h q =
        ap₂ (λ (l m : List ℕ). l ++ m) h (rest ts refl) ∙ sym (append_assoc (bytes_of r) (joined (map bytes_of ts)) (0 ∷ []))
        ∙ ap plan_bytes (plan_injective q)
    more r (unreadable n why) rest h q = unreadable≢plan q

    go : (m : LineRead) → line_read previous line ≡ m → goes_on number previous m (λ kind. read_lines (suc number) kind lines) ≡ plan rs
        → ((kind : ℕ) (ts : List Rec) → read_lines (suc number) kind lines ≡ plan ts → stored_lines kind lines ≡ plan_bytes ts)
        → line_stored previous line ++ stored_on previous m (λ kind. stored_lines kind lines) ≡ plan_bytes rs
    go blank q p rest = rw (blank-stored previous line q) (rest previous rs p)
    go (says r) q p rest = more r (read_lines (suc number) r.kind lines) (λ ts w. rest r.kind ts w) (says-stored previous line r q) p
    go (wrong why) q p rest = unreadable≢plan p

pub text_stored : (text : List ℕ) (rs : List Rec) → text_read text ≡ plan rs → stored_text text ≡ plan_bytes rs
unfolding text_read stored_text
text_stored text rs e = lines_stored (lines_of text) 1 0 rs e

-- A plan that was printed reads back, byte for byte; by induction on its records. And what is read from any text is a plan: refusal 1 does not
-- apply to it; by induction on the lines.
use mathlib.Core.Path.{◌≡◌, refl, sym, ap, ap₂, ◌∙◌, subst}
use mathlib.Core.Bool.{Bool, true, false, cond}
use mathlib.Core.List.{List, [], ◌∷◌, ◌++◌, map, append_assoc}
use native.Mathlib.Omega.{arith}
use borrow.Author.Tests.{ltb-true}
use lib.Dec.{ltb}
use lib.ListN.{length}
use Prim.Native.Nat.{ℕ, suc, ◌^◌, ◌<◌}
use Rattle.laws.specs.Res.{Res, ok, refuse}
use Rattle.laws.specs.Lists.{joined}
use Rattle.laws.proofs.Res.{refuse≢ok, ok_injective}
use Rattle.laws.proofs.Little.{Bytes}
use Rattle.laws.proofs.Members.{All, empty, also}
use Rattle.rules.specs.Records.{Rec, kinds, known, fields, body_length, decoded, record_of, records, plan_follows}
use Rattle.rules.specs.Obeys.{MayStand, AreRecords, the_end, one_more}
use Rattle.rules.proofs.RecordsExact.{records_exact}
use Rattle.rules.proofs.TableBytes as table
use Rattle.rules.proofs.TableFile.{body_written, body_fits, body_bytes, rest-bytes}
use Rattle.text.specs.Lines.{is_word, lines_of, uncommented, whole_number, words}
use Rattle.std.specs.Prelude.{Option, Some, None}
use Rattle.text.proofs.Runs.{is_feedless, lines-joined}
use Rattle.planwords.specs.declared.Name.{Name}
use Rattle.planwords.specs.declared.Item.{Item}
use Rattle.planwords.specs.declared.Item.TheVariants.{Word, Number}
use Rattle.planwords.specs.declared.Reason.{Reason}
use Rattle.planwords.specs.declared.Reason.TheVariants.{Expected, NumberTooLarge}
use Rattle.planwords.specs.Items.{spelled, items_of}
use Rattle.planwords.specs.PlanText.{plan_line, count_of, plan_lines, text_of, printed, plan_text}
use Rattle.planwords.specs.TextPlan.{
  kind_by,
  may_come,
  why_not,
  Matched,
  fits,
  fails,
  number_first,
  with_number,
  matched,
  LineRead,
  blank,
  says,
  wrong,
  as_record,
  of_kind,
  words_read,
  line_read,
  TextRead,
  plan,
  unreadable,
  before,
  goes_on,
  read_lines,
  text_read,
  bytes_of,
  plan_bytes,
  plan_file,
  unreadable_line,
  plan_from,
  read_text,
}
use Rattle.planwords.proofs.LineKinds.{
  PlanKind,
  plan-kind,
  may-come,
  may-stand,
  Fits,
  fits-none,
  fits_word,
  fits-number,
  fits-items,
  fits-fields,
}
use Rattle.planwords.proofs.LineBack.{line_back, line-feedless}

-- ---- what is printed reads back

module _ {kind : ℕ} (body : List ℕ) (previous : ℕ) (s : MayStand plan_follows previous kind) (z : kind ≡ 0 → ⊥) (long : length body ≡ body_length kind)
    (own : Bytes body) where
  own-kind : PlanKind kind
  own-kind = plan-kind previous kind s.is_next z

  own-fits : Fits (items_of kind) (decoded (fields kind) body)
  own-fits = fits-items own-kind (body_fits kind body own long)

  printed_back : (k number : ℕ) → line_read previous (plan_line (record_of kind body) k number) ≡ says (record_of kind body)
  unfolding record_of
  printed_back k number = line_back own-kind own-fits previous k number (may-come previous kind s z)

  printed-feedless : (k number : ℕ) → is_feedless (plan_line (record_of kind body) k number) ≡ true
  unfolding record_of
  printed-feedless k number = line-feedless own-kind own-fits k number

  printed-bytes : bytes_of (record_of kind body) ≡ kind ∷ body
  unfolding record_of
  printed-bytes = body_written kind body own long

lines-feedless : {previous : ℕ} {file : List ℕ} {rs : List Rec} → AreRecords plan_follows previous file rs → Bytes file → (k number : ℕ)
    → All (λ l. is_feedless l ≡ true) (plan_lines previous k number rs)
unfolding plan_lines record_of
lines-feedless (the_end s e) h k number = empty
lines-feedless (one_more {previous} {kind} {rest = rest} body s z b e r) h k number =
    also (printed-feedless body previous s z b (body_bytes kind body rest e h) (count_of previous k kind) number)
    (lines-feedless r (rest-bytes kind body rest e h) (suc (count_of previous k kind)) (suc number))

lines_back : {previous : ℕ} {file : List ℕ} {rs : List Rec} → AreRecords plan_follows previous file rs → Bytes file → (line k number : ℕ)
    → read_lines line previous (plan_lines previous k number rs) ≡ plan rs
unfolding read_lines plan_lines record_of
lines_back (the_end s e) h line k number = rw s.is_next
lines_back (one_more {previous} {kind} {rest = rest} body s z b e r) h line k number =
    rw (
      printed_back body previous s z b (body_bytes kind body rest e h) (count_of previous k kind) number,
      lines_back r (rest-bytes kind body rest e h) (suc line) (suc (count_of previous k kind)) (suc number),
    )

records-bytes : {previous : ℕ} {file : List ℕ} {rs : List Rec} → AreRecords plan_follows previous file rs → Bytes file → plan_bytes rs ≡ file
unfolding plan_bytes
records-bytes (the_end s e) h = sym e
records-bytes (one_more {previous} {kind} {rest = rest} {rs = rs} body s z b e r) h =
    append_assoc (bytes_of (record_of kind body)) (joined (map bytes_of rs)) (0 ∷ [])
    ∙ ap₂ (λ (l m : List ℕ). l ++ m) (printed-bytes body previous s z b (body_bytes kind body rest e h)) (records-bytes r (rest-bytes kind body rest e h))
    ∙ sym e

text_back : (file : List ℕ) (rs : List Rec) → Bytes file → AreRecords plan_follows 0 file rs → read_text (text_of rs) ≡ plan_file file
unfolding read_text text_read text_of
text_back file rs h r =
    ap (λ (ls : List (List ℕ)). plan_from (read_lines 1 0 ls)) (lines-joined (plan_lines 0 0 0 rs) (lines-feedless r h 0 0))
    ∙ ap plan_from (lines_back r h 1 0 0) ∙ ap plan_file (records-bytes r h)

-- every plan that prints reads back to its own bytes
pub text_reads_back : (file text : List ℕ) → Bytes file → plan_text file ≡ ok text → read_text text ≡ plan_file file
unfolding plan_text
text_reads_back file text h e = go (records plan_follows 1 file) refl e
  where
    go : (m : Res (List Rec)) → records plan_follows 1 file ≡ m → printed m ≡ ok text → read_text text ≡ plan_file file
    go (ok rs) q p = ap read_text (sym (ok_injective p)) ∙ text_back file rs h ((records_exact plan_follows 1 file rs).0 q)
    go (refuse n at) q p = refuse≢ok p

-- so two plans that print print differently unless they are one
pub prints_differently : (file other text : List ℕ) → Bytes file → Bytes other → plan_text file ≡ ok text → plan_text other ≡ ok text → file ≡ other
prints_differently file other text h g e q =
    let same : plan_file file ≡ plan_file other = sym (text_reads_back file text h e) ∙ text_reads_back other text g q in
    cc

-- ---- what is read is a plan

module _ {C : Type 0} where
  pub fails≢fits : {why : Reason} {ns : List ℕ} → fails why ≡ fits ns → C
  fails≢fits e = let z : ◌≡◌ {A = ℕ} 0 1 = cc in absurd (omega arith)

  pub blank≢says : {r : Rec} → blank ≡ says r → C
  blank≢says e = let z : ◌≡◌ {A = ℕ} 0 1 = cc in absurd (omega arith)

  pub wrong≢says : {why : Reason} {r : Rec} → wrong why ≡ says r → C
  wrong≢says e = let z : ◌≡◌ {A = ℕ} 0 1 = cc in absurd (omega arith)

  pub unreadable≢plan : {n : ℕ} {why : Reason} {rs : List Rec} → unreadable n why ≡ plan rs → C
  unreadable≢plan e = let z : ◌≡◌ {A = ℕ} 0 1 = cc in absurd (omega arith)

  pub unreadable≢file : {n : ℕ} {why : Reason} {file : List ℕ} → unreadable_line n why ≡ plan_file file → C
  unreadable≢file e = let z : ◌≡◌ {A = ℕ} 0 1 = cc in absurd (omega arith)

pub fits_injective : {ms ns : List ℕ} → fits ms ≡ fits ns → ms ≡ ns
fits_injective e = cc

pub says_injective : {r t : Rec} → says r ≡ says t → r ≡ t
says_injective e = cc

pub plan_injective : {rs ts : List Rec} → plan rs ≡ plan ts → rs ≡ ts
plan_injective e = cc

pub file_injective : {f g : List ℕ} → plan_file f ≡ plan_file g → f ≡ g
file_injective e = cc

-- a number that was taken fits its bytes, and the rest was taken too
number-taken : (wide columns : ℕ) (items : List Item) (number : Option ℕ) (rest : Matched) (ns : List ℕ)
    → ((ms : List ℕ) → rest ≡ fits ms → Fits items ms) → with_number wide number rest ≡ fits ns → Fits (Number wide columns ∷ items) ns
number-taken wide columns items None rest ns others e = fails≢fits e
number-taken wide columns items (Some n) rest ns others e = fitting (ltb n (256 ^ wide)) refl e
  where
    joined_with : (m : Matched) → rest ≡ m → n < 256 ^ wide → number_first n m ≡ fits ns → Fits (Number wide columns ∷ items) ns
    joined_with (fits ms) q h p = subst (Fits (Number wide columns ∷ items)) (fits_injective p) (fits-number h (others ms q))
    joined_with (fails why) q h p = fails≢fits p

    fitting : (b : Bool) → ltb n (256 ^ wide) ≡ b → cond b (number_first n rest) (fails NumberTooLarge) ≡ fits ns → Fits (Number wide columns ∷ items) ns
    fitting true q p = joined_with rest refl (ltb-true n (256 ^ wide) q) p
    fitting false q p = fails≢fits p

word-taken : (name : Name) (items : List Item) (b : Bool) (rest : Matched) (ns : List ℕ) → ((ms : List ℕ) → rest ≡ fits ms → Fits items ms)
    → cond b rest (fails (Expected name)) ≡ fits ns → Fits (Word name ∷ items) ns
word-taken name items true rest ns others e = fits_word (others ns e)
word-taken name items false rest ns others e = fails≢fits e

pub matched-fits : (items : List Item) (ws : List (List ℕ)) (ns : List ℕ) → matched items ws ≡ fits ns → Fits items ns
unfolding matched
matched-fits [] [] ns e = subst (Fits []) (fits_injective e) fits-none
matched-fits [] (w ∷ ws) ns e = fails≢fits e
matched-fits (Word name ∷ items) [] ns e = fails≢fits e
matched-fits (Word name ∷ items) (w ∷ ws) ns e =
    word-taken name items (is_word (spelled name) w) (matched items ws) ns (λ ms q. matched-fits items ws ms q) e
matched-fits (Number wide columns ∷ items) [] ns e = fails≢fits e
matched-fits (Number wide columns ∷ items) (w ∷ ws) ns e =
    number-taken wide columns items (whole_number w) (matched items ws) ns (λ ms q. matched-fits items ws ms q) e

-- a record that a line says may stand where the line does, and its numbers fit
pub record MayFollow (previous : ℕ) (r : Rec) : Type 0 where
  pub stands : MayStand plan_follows previous r.kind
  pub some : r.kind ≡ 0 → ⊥
  pub fit : table.Fit (fields r.kind) r.numbers

-- and a record's words are as many as its items and one more
record_said : (previous kind : ℕ) (ws : List (List ℕ)) (r : Rec) → of_kind previous kind ws ≡ says r → MayFollow previous r
unfolding of_kind
record_said previous kind ws r e = standing (may_come previous kind) refl e
  where
    taken : may_come previous kind ≡ true → (m : Matched) → matched (items_of kind) ws ≡ m → as_record kind m ≡ says r → MayFollow previous r
    taken may (fits ns) q p =
        let s = may-stand previous kind may in
        subst (MayFollow previous) (says_injective p)
        (record {
          stands = s.0;
          some = s.1;
          fit = fits-fields (plan-kind previous kind s.0.is_next s.1) (matched-fits (items_of kind) ws ns q);
        })
    taken may (fails why) q p = wrong≢says p

    standing : (b : Bool) → may_come previous kind ≡ b → cond b (as_record kind (matched (items_of kind) ws)) (wrong (why_not previous kind)) ≡ says r
        → MayFollow previous r
    standing true q p = taken q (matched (items_of kind) ws) refl p
    standing false q p = wrong≢says p

words-said : (previous : ℕ) (ws : List (List ℕ)) (r : Rec) → words_read previous ws ≡ says r → MayFollow previous r
unfolding words_read
words-said previous [] r e = blank≢says e
words-said previous (w ∷ ws) r e = record_said previous (kind_by w (length ws)) ws r e

line-said : (previous : ℕ) (line : List ℕ) (r : Rec) → line_read previous line ≡ says r → MayFollow previous r
unfolding line_read
line-said previous line r e = words-said previous (words (uncommented line)) r e

-- the records behind one that was read
record_first : (previous : ℕ) (r : Rec) (t : TextRead) (rs : List Rec) → MayFollow previous r
    → ((ts : List Rec) → t ≡ plan ts → AreRecords plan_follows r.kind (plan_bytes ts) ts) → before r t ≡ plan rs
    → AreRecords plan_follows previous (plan_bytes rs) rs
unfolding plan_bytes
record_first previous r (plan ts) rs m others e =
    subst (λ (l : List Rec). AreRecords plan_follows previous (plan_bytes l) l) (plan_injective e)
    (subst (λ (file : List ℕ). AreRecords plan_follows previous file (r ∷ ts)) (sym (append_assoc (bytes_of r) (joined (map bytes_of ts)) (0 ∷ [])))
    (table.written plan_follows m.stands m.some m.fit (others ts refl)))
record_first previous r (unreadable n why) rs m others e = unreadable≢plan e

ends : (line previous : ℕ) (rs : List Rec) (b : Bool) → plan_follows previous 0 ≡ b → cond b (plan []) (unreadable line (why_not previous 0)) ≡ plan rs
    → AreRecords plan_follows previous (plan_bytes rs) rs
unfolding plan_bytes known kinds
ends line previous rs true q e =
    subst (λ (l : List Rec). AreRecords plan_follows previous (plan_bytes l) l) (plan_injective e) (the_end (record { is_known = refl; is_next = q }) refl)
ends line previous rs false q e = unreadable≢plan e

lines_are : (lines : List (List ℕ)) (line previous : ℕ) (rs : List Rec) → read_lines line previous lines ≡ plan rs
    → AreRecords plan_follows previous (plan_bytes rs) rs
unfolding read_lines
lines_are [] line previous rs e = ends line previous rs (plan_follows previous 0) refl e
lines_are (l ∷ lines) line previous rs e =
    go (line_read previous l) refl e (λ kind ts q. lines_are lines (suc line) kind ts q)
  where
    go : (m : LineRead) → line_read previous l ≡ m → goes_on line previous m (λ kind. read_lines (suc line) kind lines) ≡ plan rs
        → ((kind : ℕ) (ts : List Rec) → read_lines (suc line) kind lines ≡ plan ts → AreRecords plan_follows kind (plan_bytes ts) ts)
        → AreRecords plan_follows previous (plan_bytes rs) rs
    go blank q p others = others previous rs p
    go (says r) q p others =
        record_first previous r (read_lines (suc line) r.kind lines) rs (line-said previous l r q) (λ ts w. others r.kind ts w) p
    go (wrong why) q p others = unreadable≢plan p

-- the bytes that any text comes to keep the record rules
pub read-is-plan : (text file : List ℕ) → read_text text ≡ plan_file file → (rs : List Rec) × (records plan_follows 1 file ≡ ok rs)
unfolding read_text text_read
read-is-plan text file e = go (read_lines 1 0 (lines_of text)) refl e
  where
    go : (t : TextRead) → read_lines 1 0 (lines_of text) ≡ t → plan_from t ≡ plan_file file → (rs : List Rec) × (records plan_follows 1 file ≡ ok rs)
    go (plan rs) q p = (
      rs,
      subst (λ (f : List ℕ). records plan_follows 1 f ≡ ok rs) (file_injective p)
          ((records_exact plan_follows 1 (plan_bytes rs) rs).1 (lines_are (lines_of text) 1 0 rs q)),
    )
    go (unreadable n why) q p = unreadable≢file p

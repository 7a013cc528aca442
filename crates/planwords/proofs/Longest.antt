-- How long a line is: at most 42 bytes for each byte of its record, where records are counted with five digits. Item by item, and then one computed
-- test for each kind. So the longest plan that is read, of 65,536 bytes, has at most 2,752,512 bytes of text.
use mathlib.Core.Path.{◌≡◌, refl, ap, ◌∙◌, subst}
use mathlib.Core.Bool.{Bool, true, false, cond, ◌&&◌}
use mathlib.Core.List.{List, [], ◌∷◌, ◌++◌, map}
use native.Mathlib.Nat.{lt_of_lt_of_le, pow-zero, pow-succ'}
use native.Mathlib.Omega.{arith}
use borrow.Author.Tests.{leb-true}
use lib.Dec.{eqb, leb}
use lib.ListN.{length, length-append}
use Prim.Native.Nat.{ℕ, zero, suc, ◌+◌, ◌-◌, ◌*◌, ◌^◌, ◌≤◌, ◌<◌, max}
use Rattle.laws.specs.Res.{Res, ok, refuse}
use Rattle.laws.specs.Lists.{joined}
use Rattle.laws.proofs.Res.{refuse≢ok, ok_injective}
use Rattle.laws.proofs.Lists.{both_left, both_right}
use Rattle.laws.proofs.Little.{Bytes}
use Rattle.rules.specs.Records.{Rec, kinds, fields, body_length, decoded, record_of, records, plan_follows}
use Rattle.rules.specs.Obeys.{AreRecords, the_end, one_more}
use Rattle.rules.proofs.RecordsExact.{records_exact}
use Rattle.rules.proofs.TableFile.{body_fits, body_bytes, rest-bytes}
use Rattle.text.specs.Text.{ascii, decimal, ended, line_feed, marked, pad_left, pad_right}
use Rattle.text.proofs.Padded.{decimal-few, left-few, right_few}
use Rattle.planwords.specs.declared.Item.{Item}
use Rattle.planwords.specs.declared.Item.TheVariants.{Word, Number}
use Rattle.planwords.specs.Items.{spelled, forms, form_of, first_of, items_of, thing_of}
use Rattle.planwords.specs.PlanText.{items_text, record_text, counted_as, comment_text, plan_line, count_of, plan_lines, text_of, printed, plan_text}
use Rattle.planwords.proofs.LineKinds.{
  PlanKind,
  a_bus,
  node_count,
  a_module,
  a_mode,
  a_task,
  a_run,
  a_connection,
  framed_bus,
  plan-kind,
  Fits,
  fits-none,
  fits_word,
  fits-number,
  fits-items,
}

-- a byte takes at most three digits
thousands : (wide : ℕ) → 256 ^ wide ≤ 10 ^ (3 * wide)
thousands zero = omega (arith, pow-zero 256, pow-zero 10)
thousands (suc wide) =
    let a = 256 ^ wide in
    let b = 10 ^ (3 * wide) in
    let fewer : a ≤ b = thousands wide in
    let more : 3 * suc wide ≡ suc (suc (suc (3 * wide))) = omega arith in
    let left : 256 ^ suc wide ≡ 256 * a = pow-succ' 256 wide in
    let right : 10 ^ (3 * suc wide) ≡ 10 * (10 * (10 * b)) =
    rw (more, pow-succ' 10 (suc (suc (3 * wide))), pow-succ' 10 (suc (3 * wide)), pow-succ' 10 (3 * wide)) in
    rw (left, right) (omega arith)

number-few : (wide n : ℕ) → 1 ≤ wide → n < 256 ^ wide → length (decimal n) ≤ 3 * wide
number-few wide n h small =
    let same : 3 * wide ≡ suc (3 * wide - 1) = omega arith in
    let below : n < 10 ^ suc (3 * wide - 1) = subst (λ (m : ℕ). n < 10 ^ m) same (lt_of_lt_of_le small (thousands wide)) in
    omega (arith, decimal-few (3 * wide - 1) n below)

-- what the items take at most, and that no number is without bytes
abbrev most_of : List Item → ℕ
most_of [] = 0
most_of (Word name ∷ items) = suc (length (spelled name) + most_of items)
most_of (Number wide columns ∷ items) = suc ((columns + 3 * wide) + most_of items)

abbrev is_wide : List Item → Bool
is_wide [] = true
is_wide (Word name ∷ items) = is_wide items
is_wide (Number wide columns ∷ items) = leb 1 wide && is_wide items

items-few : {items : List Item} {ns : List ℕ} → Fits items ns → is_wide items ≡ true → length (items_text items ns) ≤ most_of items
unfolding items_text
items-few fits-none e = omega arith
items-few (fits_word {name} {items} {ns} f) e =
    rw (length-append (spelled name) (items_text items ns)) (omega (arith, items-few f e))
items-few (fits-number {wide} {columns} {n} {items} {ns} h f) e =
    let own : 1 ≤ wide = leb-true 1 wide (both_left (leb 1 wide) (is_wide items) e) in
    let digits : length (decimal n) ≤ 3 * wide = number-few wide n own h in
    let one : length (pad_left columns (decimal n)) ≤ columns + 3 * wide = left-few columns (columns + 3 * wide) (decimal n) (omega arith) (omega arith) in
    let more : length (items_text items ns) ≤ most_of items = items-few f (both_right (leb 1 wide) (is_wide items) e) in
    rw (length-append (pad_left columns (decimal n)) (items_text items ns)) (omega arith)

-- what is computed of a kind
abbrev is_short_line : ℕ → Bool
is_short_line kind =
    is_wide (items_of kind)
    && leb (max 47 (length (spelled (first_of kind)) + most_of (items_of kind)) + (25 + length (thing_of kind))) (42 * suc (body_length kind))

kind-short : {kind : ℕ} → PlanKind kind → is_short_line kind ≡ true
unfolding spelled first_of items_of thing_of form_of forms body_length fields kinds
kind-short a_bus = refl
kind-short node_count = refl
kind-short a_module = refl
kind-short a_mode = refl
kind-short a_task = refl
kind-short a_run = refl
kind-short a_connection = refl
kind-short framed_bus = refl

counted-few : (thing : List ℕ) (k : ℕ) → k < 100000 → length (counted_as thing k) ≤ length thing + 8
counted-few [] k h = omega arith
counted-few (b ∷ thing) k h =
    rw (length-append (((b ∷ thing) ++ ascii " ") ++ decimal k) (ascii ", "), length-append ((b ∷ thing) ++ ascii " ") (decimal k), length-append (b ∷ thing) (ascii " "))
    (omega (arith, decimal-few 4 k h))

comment_few : (kind k number : ℕ) → k < 100000 → number < 100000 → length (comment_text kind k number) ≤ length (thing_of kind) + 24
unfolding comment_text
comment_few kind k number h g =
    rw (length-append (counted_as (thing_of kind) k) (marked (ascii "record ") number), length-append (ascii "record ") (decimal number))
    (omega (arith, counted-few (thing_of kind) k h, decimal-few 4 number g))

pub line-short : {kind : ℕ} → PlanKind kind → {ns : List ℕ} → Fits (items_of kind) ns → (k number : ℕ) → k < 100000 → number < 100000
    → length (ended (plan_line (record { kind = kind; numbers = ns }) k number)) ≤ 42 * suc (body_length kind)
unfolding plan_line record_text
line-short {kind} K {ns} f k number h g =
    let first = spelled (first_of kind) in
    let items = items_text (items_of kind) ns in
    let most = length first + most_of (items_of kind) in
    let computed = kind-short K in
    let wide : is_wide (items_of kind) ≡ true = both_left (is_wide (items_of kind)) (leb (max 47 most + (25 + length (thing_of kind))) (42 * suc (body_length kind))) computed in
    let room : max 47 most + (25 + length (thing_of kind)) ≤ 42 * suc (body_length kind) =
    leb-true (max 47 most + (25 + length (thing_of kind))) (42 * suc (body_length kind)) (both_right (is_wide (items_of kind)) (leb (max 47 most + (25 + length (thing_of kind))) (42 * suc (body_length kind))) computed) in
    let text : length (first ++ items) ≤ max 47 most = rw (length-append first items) (omega (arith, items-few f wide)) in
    let padded : length (pad_right 47 (first ++ items)) ≤ max 47 most = right_few 47 (max 47 most) (first ++ items) (omega arith) text in
    let comment : length (comment_text kind k number) ≤ length (thing_of kind) + 24 = comment_few kind k number h g in
    rw (length-append (pad_right 47 (first ++ items) ++ comment_text kind k number) line_feed, length-append (pad_right 47 (first ++ items)) (comment_text kind k number))
    (omega arith)

-- ---- the whole text

record_short : {kind : ℕ} → PlanKind kind → (body : List ℕ) → Fits (items_of kind) (decoded (fields kind) body) → (k number : ℕ) → k < 100000
    → number < 100000 → length (ended (plan_line (record_of kind body) k number)) ≤ 42 * suc (body_length kind)
unfolding record_of
record_short K body f k number h g = line-short K f k number h g

count-few : (previous k kind : ℕ) → count_of previous k kind ≤ k
unfolding count_of
count-few previous k kind = go (eqb kind previous)
  where
    go : (b : Bool) → cond b k 0 ≤ k
    go true = omega arith
    go false = omega arith

lines-short : {previous : ℕ} {file : List ℕ} {rs : List Rec} → AreRecords plan_follows previous file rs → Bytes file → (k number : ℕ) → k ≤ number
    → number + length file < 100000 → length (joined (map ended (plan_lines previous k number rs))) ≤ 42 * length file
unfolding plan_lines record_of
lines-short (the_end s e) h k number few room = omega arith
lines-short (one_more {previous} {kind} {file} {rest} {rs} body s z b e r) h k number few room =
    let before = count_of previous k kind in
    let counted : before ≤ k = count-few previous k kind in
    let own : Bytes body = body_bytes kind body rest e h in
    let fits : Fits (items_of kind) (decoded (fields kind) body) = fits-items (plan-kind previous kind s.is_next z) (body_fits kind body own b) in
    let long : length file ≡ suc (length body + length rest) = ap length e ∙ ap suc (length-append body rest) in
    let line : length (ended (plan_line (record_of kind body) before number)) ≤ 42 * suc (body_length kind) =
    record_short (plan-kind previous kind s.is_next z) body fits before number (omega arith) (omega arith) in
    let others : length (joined (map ended (plan_lines kind (suc before) (suc number) rs))) ≤ 42 * length rest =
    lines-short r (rest-bytes kind body rest e h) (suc before) (suc number) (omega arith) (omega arith) in
    rw (length-append (ended (plan_line (record_of kind body) before number)) (joined (map ended (plan_lines kind (suc before) (suc number) rs)))) (omega arith)

-- no text of a plan that is read is longer than this
pub text_short : (file text : List ℕ) → Bytes file → length file ≤ 65536 → plan_text file ≡ ok text → length text ≤ 2752512
unfolding plan_text text_of
text_short file text h few e = go (records plan_follows 1 file) refl e
  where
    go : (m : Res (List Rec)) → records plan_follows 1 file ≡ m → printed m ≡ ok text → length text ≤ 2752512
    go (ok rs) q p =
        let short = lines-short ((records_exact plan_follows 1 file rs).0 q) h 0 0 (omega arith) (omega arith) in
        subst (λ (t : List ℕ). length t ≤ 2752512) (ok_injective p) (omega (arith, short))
    go (refuse n at) q p = refuse≢ok p

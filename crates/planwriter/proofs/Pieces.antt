-- The pieces of a line put one behind the other.
use mathlib.Core.Path.{◌≡◌, refl, sym, ap, ap₂, ◌∙◌}
use mathlib.Core.List.{List, [], ◌∷◌, ◌++◌}
use native.Mathlib.Numerals.{add-one}
use native.Mathlib.Omega.{arith}
use lib.ListN.{length, get_or, drop, length-append, drop_of_length-le}
use lib.Seq.{sets, length-sets, drop-cons, drop-drop}
use Prim.Native.Nat.{ℕ, zero, suc, ◌+◌, ◌-◌, ◌≤◌, ◌<◌}
use Rattle.laws.proofs.Laid.{sets_append}
use Rattle.rules.specs.Records.{fields, kinds, record_of}
use Rattle.text.specs.Text.{ascii, decimal, ended, line_feed, marked, pad_left, pad_right, spaces}
use Rattle.text.proofs.Putting.{Put, both_put}
use Rattle.planwords.specs.declared.Item.{Item}
use Rattle.planwords.specs.Items.{first_of, form_of, forms, items_of, spelled, thing_of}
use Rattle.planwords.specs.PlanText.{comment_text, counted_as, items_text, plan_line, record_text}
use Rattle.planwriter.specs.Pieces.{item_text, item_wide, items_in, number_in}

-- ---- what is put so far: with what is still to be put, it is the whole

pub record Rest (old : List ℕ) (at : ℕ) (whole buf : List ℕ) (next : ℕ) (rest : List ℕ) : Type 0 where
  pub bytes : sets buf next rest ≡ sets old at whole
  pub place : next + length rest ≡ at + length whole
  pub kept : length buf ≡ length old

module _ {old : List ℕ} {at : ℕ} {whole : List ℕ} where
  pub rest_all : Rest old at whole old at whole
  rest_all = record { bytes = refl; place = refl; kept = refl }

  pub rest_turn : {buf buf' : List ℕ} {next next' : ℕ} (piece rest : List ℕ) → Rest old at whole buf next (piece ++ rest) → Put buf next piece buf' next'
      → Rest old at whole buf' next' rest
  rest_turn {buf} {buf'} {next} {next'} piece rest r p =
      let long : length (piece ++ rest) ≡ length piece + length rest = length-append piece rest in
      record {
        bytes = ap₂ (λ (b : List ℕ) (j : ℕ). sets b j rest) p.0 p.1 ∙ sym (sets_append buf next piece rest) ∙ r.bytes;
        place = omega (arith, r.place, p.1);
        kept = ap length p.0 ∙ length-sets buf next piece ∙ r.kept;
      }

  pub rest_end : {buf : List ℕ} {next : ℕ} → Rest old at whole buf next [] → Put old at whole buf next
  rest_end r = (r.bytes, omega (arith, r.place))

-- ---- items

pub number_put : (b b₁ b₂ : List ℕ) (at k₁ k₂ columns x : ℕ) {blanks : ℕ} → blanks ≡ suc (columns - length (decimal x)) → Put b at (spaces blanks) b₁ k₁
    → Put b₁ k₁ (decimal x) b₂ k₂ → Put b at (32 ∷ pad_left columns (decimal x)) b₂ k₂
unfolding pad_left
number_put b b₁ b₂ at k₁ k₂ columns x {blanks} e p q = rw e at (both_put b b₁ b₂ (spaces blanks) (decimal x) at k₁ k₂ p q)

-- a body's bytes by the items are the record's numbers by the fields
pub items_are : (kind : ℕ) (body : List ℕ) → items_in (items_of kind) body ≡ items_text (items_of kind) (record_of kind body).numbers
unfolding items_of form_of forms record_of fields kinds items_text number_in
items_are zero body = refl
items_are (suc zero) body = refl
items_are (suc (suc zero)) body = refl
items_are (suc (suc (suc zero))) body = refl
items_are (suc (suc (suc (suc zero)))) body = refl
items_are (suc (suc (suc (suc (suc zero))))) body = refl
items_are (suc (suc (suc (suc (suc (suc zero)))))) body = refl
items_are (suc (suc (suc (suc (suc (suc (suc zero))))))) body = refl
items_are (suc (suc (suc (suc (suc (suc (suc (suc zero)))))))) body = refl
items_are (suc (suc (suc (suc (suc (suc (suc (suc (suc zero))))))))) body = refl
items_are (suc (suc (suc (suc (suc (suc (suc (suc (suc (suc kind)))))))))) body = refl

-- the items from one on, whose numbers begin at a place of the body
abbrev pub items_from : ℕ → List ℕ → ℕ → ℕ → List ℕ
items_from kind body k from = items_in (drop k (items_of kind)) (drop from body)

pub record Itemed (old : List ℕ) (at kind : ℕ) (body : List ℕ) (k from : ℕ) (buf : List ℕ) (next : ℕ) : Type 0 where
  pub still : Rest old at (items_text (items_of kind) (record_of kind body).numbers) buf next (items_from kind body k from)

module _ {old : List ℕ} {at kind : ℕ} {body : List ℕ} where
  pub itemed_none : Itemed old at kind body 0 0 old at
  itemed_none = record { still = rw (items_are kind body) rest_all }

  pub itemed_turn : (d : Item) {k from wide : ℕ} {item : Item} {buf buf' : List ℕ} {next next' : ℕ} → Itemed old at kind body k from buf next
      → k < length (items_of kind) → item ≡ get_or (items_of kind) k d → wide ≡ item_wide item
      → Put buf next (item_text item (drop from body)) buf' next' → Itemed old at kind body (k + 1) (from + wide) buf' next'
  itemed_turn d {k} {from} {wide} {item} i h e w p =
      let items : drop k (items_of kind) ≡ item ∷ drop (k + 1) (items_of kind) =
      drop-cons (items_of kind) k d h ∙ ap₂ (λ (x : Item) (j : ℕ). x ∷ drop j (items_of kind)) (sym e) (sym (add-one k)) in
      let behind : drop (item_wide item) (drop from body) ≡ drop (from + wide) body =
      drop-drop (item_wide item) from body ∙ ap (λ (j : ℕ). drop (from + j) body) (sym w) in
      let here = rw items at i.still in
      record {
        still =
            rest_turn (item_text item (drop from body)) (items_in (drop (k + 1) (items_of kind)) (drop (from + wide) body)) (rw behind at here) p;
      }

  pub itemed_end : {k from count : ℕ} {buf : List ℕ} {next : ℕ} → Itemed old at kind body k from buf next → count ≡ length (items_of kind) → count ≤ k
      → Put old at (items_text (items_of kind) (record_of kind body).numbers) buf next
  itemed_end {k} i e h =
      let far : length (items_of kind) ≤ k = omega arith in
      let none : drop k (items_of kind) ≡ [] = drop_of_length-le (items_of kind) far in
      rest_end (rw none at i.still)

-- ---- the comment

pub comment_put : (b b₁ b₂ b₃ : List ℕ) (at k₁ k₂ k₃ kind k number : ℕ) → Put b at (ascii "  # ") b₁ k₁ → Put b₁ k₁ (counted_as (thing_of kind) k) b₂ k₂
    → Put b₂ k₂ (marked (ascii "record ") number) b₃ k₃ → Put b at (comment_text kind k number) b₃ k₃
unfolding comment_text
comment_put b b₁ b₂ b₃ at k₁ k₂ k₃ kind k number p q r =
    let counted = counted_as (thing_of kind) k in
    let numbered = marked (ascii "record ") number in
    both_put b b₁ b₃ (ascii "  # ") (counted ++ numbered) at k₁ k₃ p (both_put b₁ b₂ b₃ counted numbered k₁ k₂ k₃ q r)

-- ---- the line

-- how many columns are still to be filled
pub unfilled : (b b₁ b₂ : List ℕ) (at k₁ k₂ kind : ℕ) (body : List ℕ) {n : ℕ} → n ≡ 47 - (k₂ - at) → Put b at (spelled (first_of kind)) b₁ k₁
    → Put b₁ k₁ (items_text (items_of kind) (record_of kind body).numbers) b₂ k₂ → n ≡ 47 - length (record_text (record_of kind body))
unfolding record_text record_of
unfilled b b₁ b₂ at k₁ k₂ kind body e p q =
    let first = spelled (first_of kind) in
    let items = items_text (items_of kind) (record_of kind body).numbers in
    let long : length (first ++ items) ≡ length first + length items = length-append first items in
    omega (arith, p.1, q.1)

module _ (b b₁ b₂ b₃ b₄ b₅ : List ℕ) (at k₁ k₂ k₃ k₄ k₅ kind : ℕ) (body : List ℕ) where
  pub line-put : (n k number : ℕ) → n ≡ 47 - length (record_text (record_of kind body)) → Put b at (spelled (first_of kind)) b₁ k₁
      → Put b₁ k₁ (items_text (items_of kind) (record_of kind body).numbers) b₂ k₂ → Put b₂ k₂ (spaces n) b₃ k₃
      → Put b₃ k₃ (comment_text kind k number) b₄ k₄ → Put b₄ k₄ line_feed b₅ k₅ → Put b at (ended (plan_line (record_of kind body) k number)) b₅ k₅
  unfolding plan_line record_text record_of pad_right
  line-put n k number e p q r s t =
      let first = spelled (first_of kind) in
      let items = items_text (items_of kind) (record_of kind body).numbers in
      let blanks = spaces (47 - length (first ++ items)) in
      let comment = comment_text kind k number in
      let text = both_put b b₁ b₂ first items at k₁ k₂ p q in
      let filled = both_put b b₂ b₃ (first ++ items) blanks at k₂ k₃ text (rw e at r) in
      let commented = both_put b b₃ b₄ ((first ++ items) ++ blanks) comment at k₃ k₄ filled s in
      both_put b b₄ b₅ (((first ++ items) ++ blanks) ++ comment) line_feed at k₄ k₅ commented t

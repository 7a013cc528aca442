-- docs/RULES.md, section 19: the text of a plan. Lines are without their line feed until they are joined.
use Rattle.std.specs.Prelude.{cond, List, [], ◌∷◌, ◌++◌, map, eqb, ℕ, suc}
use Rattle.laws.specs.Res.{Res, ok, refuse}
use Rattle.laws.specs.Lists.{joined}
use Rattle.rules.specs.Records.{Rec, records, plan_follows}
use Rattle.text.specs.Text.{ascii, decimal, ended, marked, pad_left, pad_right, refused_line}
use Rattle.planwords.specs.declared.Item.{Item}
use Rattle.planwords.specs.declared.Item.TheVariants.{Word, Number}
use Rattle.planwords.specs.Items.{spelled, first_of, items_of, thing_of}

-- Rules 19.2 and 19.3: what stands behind the first word, each with a space in front; a number at the right end of its columns.
unfoldable pub items_text : List Item → List ℕ → List ℕ
items_text [] numbers = []
items_text (Word name ∷ items) numbers = 32 ∷ spelled name ++ items_text items numbers
items_text (Number bytes columns ∷ items) [] = []
items_text (Number bytes columns ∷ items) (n ∷ numbers) = 32 ∷ pad_left columns (decimal n) ++ items_text items numbers

unfoldable pub record_text : Rec → List ℕ
record_text r = spelled (first_of r.kind) ++ items_text (items_of r.kind) r.numbers

-- Rule 19.4: the comment has the record's number, and in front of it, where records of its kind are counted, how many came before.
abbrev pub counted_as : List ℕ → ℕ → List ℕ
counted_as [] k = []
counted_as (b ∷ thing) k = marked ((b ∷ thing) ++ ascii " ") k ++ ascii ", "

unfoldable pub comment_text : ℕ → ℕ → ℕ → List ℕ
comment_text kind k number = ascii "  # " ++ (counted_as (thing_of kind) k ++ marked (ascii "record ") number)

-- Rule 19.4: the line of a record is filled up to 47 columns, and the comment follows.
unfoldable pub plan_line : Rec → ℕ → ℕ → List ℕ
plan_line r k number = pad_right 47 (record_text r) ++ comment_text r.kind k number

-- how many records of a kind came before, where `k` of the kind `previous` did: kinds stand together
unfoldable pub count_of : ℕ → ℕ → ℕ → ℕ
count_of previous k kind = cond (eqb kind previous) k 0

-- Rule 19.2: a line for each record, in the file's order; the end record has none.
unfoldable pub plan_lines : ℕ → ℕ → ℕ → List Rec → List (List ℕ)
plan_lines previous k number [] = []
plan_lines previous k number (r ∷ rs) =
    plan_line r (count_of previous k r.kind) number ∷ plan_lines r.kind (suc (count_of previous k r.kind)) (suc number) rs

unfoldable pub text_of : List Rec → List ℕ
text_of rs = joined (map ended (plan_lines 0 0 0 rs))

-- Rule 19.1: every file that keeps the record rules is printed, whatever its numbers; else refusal 1, at its place.
abbrev pub printed : Res (List Rec) → Res (List ℕ)
printed (ok rs) = ok (text_of rs)
printed (refuse n p) = refuse n p

unfoldable pub plan_text : List ℕ → Res (List ℕ)
plan_text file = printed (records plan_follows 1 file)

-- what the program writes: the text, or the line of the refusal
abbrev pub written : Res (List ℕ) → List ℕ
written (ok text) = text
written (refuse n p) = refused_line n p

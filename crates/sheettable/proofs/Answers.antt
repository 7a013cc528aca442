-- The answers, each with its status: the line for a long text, the table, the line for one that cannot be read; that more room is needed
-- never comes.
use mathlib.Core.Path.{◌≡◌, refl, sym, ◌∙◌}
use mathlib.Core.Bool.{true}
use mathlib.Core.List.{List}
use native.Mathlib.Omega.{arith}
use lib.Dec.{leb}
use lib.ListN.{length}
use lib.Seq.{sets}
use borrow.Author.Tests.{le-leb, lt-leb}
use Prim.Native.Nat.{ℕ, ◌≤◌, ◌<◌}
use Rattle.io.specs.Counts.{IsPrefixLen}
use Rattle.rules.specs.Limits.{longest_sheet}
use Rattle.rules.specs.Table.{longest_table}
use Rattle.rules.proofs.TableLength.{longest_is}
use Rattle.text.specs.Text as text
use Rattle.text.specs.Text.{is_short, too_long_line}
use Rattle.text.proofs.Fronts.{Front, front-counts}
use Rattle.sheet.specs.Back.{TableBack, read_back, table, unreadable_line}
use Rattle.std.specs.Prelude.{Result, Ok, Err}
use Rattle.sheetreader.specs.declared.NoTable.{NoTable}
use Rattle.sheetreader.specs.declared.NoTable.TheVariants.{Needs, Unreadable}
use Rattle.sheetreader.specs.Memory.{back_for, left_by}
use Rattle.sheetreader.proofs.Bytes.{read_short}
use Rattle.sheettable.specs.Answer.{answer_for, status_for, status_of, written}

-- what `respond` says of its result
abbrev Responds : List ℕ → List ℕ → List ℕ → ℕ → ℕ → Type 0
Responds sheet old out n s = Front (answer_for sheet) old out n × ((s ≡ status_for sheet) × IsPrefixLen n out)

-- what `done` and `refused` say of the response: its length and its status
abbrev Says : ℕ → ℕ → ℕ → ℕ → Type 0
Says l t n s = (l ≡ n) × (t ≡ s)

module _ (sheet old : List ℕ) (room : longest_table ≤ length old) where
  pub long_response : {out : List ℕ} {n l t : ℕ} → longest_sheet < length sheet → Front too_long_line old out n → Says l t n 1 → Responds sheet old out l t
  unfolding answer_for status_for is_short too_long_line
  long_response {out} {n} {l} {t} h a says =
      rw (says.0, says.1)
      (rw (lt-leb (length sheet) longest_sheet h) (a, (refl, front-counts too_long_line old out n a (omega (arith, longest_is)))))

  module _ (short : length sheet ≤ longest_sheet) (back : Result ℕ NoTable) (mid : List ℕ) (is : back ≡ back_for (read_back sheet) old) (left : mid ≡ left_by (read_back sheet) old) where
    answer-is : (b : TableBack) → read_back sheet ≡ b → answer_for sheet ≡ written b
    unfolding answer_for is_short
    answer-is b e = rw (le-leb (length sheet) longest_sheet short, e)

    status_is : (b : TableBack) → read_back sheet ≡ b → status_for sheet ≡ status_of b
    unfolding status_for is_short
    status_is b e = rw (le-leb (length sheet) longest_sheet short, e)

    -- a table that is read has room
    fits : (bytes : List ℕ) → read_back sheet ≡ table bytes → length bytes ≤ length old
    fits bytes e = omega (arith, read_short sheet bytes e, room)

    pub table_response : {n l t : ℕ} → back ≡ Ok n → Says l t n 0 → Responds sheet old mid l t
    table_response {n} {l} {t} q says = rw (says.0, says.1) (go (read_back sheet) refl)
      where
        go : (b : TableBack) → read_back sheet ≡ b → Responds sheet old mid n 0
        go (table bytes) e =
            let yes : leb (length bytes) (length old) ≡ true = le-leb (length bytes) (length old) (fits bytes e) in
            let same : ◌≡◌ {A = Result ℕ NoTable} (Ok n) (Ok (length bytes)) = sym q ∙ is ∙ rw (e, yes) in
            let long : n ≡ length bytes = cc in
            let stored : mid ≡ sets old 0 bytes = left ∙ rw (e, yes) in
            let a : Front bytes old mid n = (stored, long) in
            (rw (answer-is (table bytes) e) a, (sym (status_is (table bytes) e), front-counts bytes old mid n a (fits bytes e)))
        go (unreadable_line k) e =
            let same : ◌≡◌ {A = Result ℕ NoTable} (Ok n) (Err (Unreadable k)) = sym q ∙ is ∙ rw e in
            let z : ◌≡◌ {A = ℕ} 0 1 = cc in absurd (omega arith)

    pub line_response : {line n l t : ℕ} {out : List ℕ} → back ≡ Err (Unreadable line) → Front (text.unreadable_line line) mid out n → n ≤ 41 → Says l t n 1
        → Responds sheet old out l t
    line_response {line} {n} {l} {t} {out} q a few says = rw (says.0, says.1) (go (read_back sheet) refl)
      where
        go : (b : TableBack) → read_back sheet ≡ b → Responds sheet old out n 1
        go (table bytes) e =
            let yes : leb (length bytes) (length old) ≡ true = le-leb (length bytes) (length old) (fits bytes e) in
            let same : ◌≡◌ {A = Result ℕ NoTable} (Err (Unreadable line)) (Ok (length bytes)) = sym q ∙ is ∙ rw (e, yes) in
            let z : ◌≡◌ {A = ℕ} 0 1 = cc in absurd (omega arith)
        go (unreadable_line k) e =
            let same : ◌≡◌ {A = Result ℕ NoTable} (Err (Unreadable line)) (Err (Unreadable k)) = sym q ∙ is ∙ rw e in
            let which : line ≡ k = cc in
            let old-is : mid ≡ old = left ∙ rw e in
            let b : Front (text.unreadable_line k) old out n = rw (old-is, which) at a in
            let long : n ≡ length (text.unreadable_line k) = b.1 in (
              rw (answer-is (unreadable_line k) e) b,
              (sym (status_is (unreadable_line k) e), front-counts (text.unreadable_line k) old out n b (omega (arith, longest_is))),
            )

    pub never_needs : {C : Type 0} {bytes : ℕ} → back ≡ Err (Needs bytes) → C
    never_needs {C} {bytes} q = go (read_back sheet) refl
      where
        go : (b : TableBack) → read_back sheet ≡ b → C
        go (table l) e =
            let yes : leb (length l) (length old) ≡ true = le-leb (length l) (length old) (fits l e) in
            let same : ◌≡◌ {A = Result ℕ NoTable} (Err (Needs bytes)) (Ok (length l)) = sym q ∙ is ∙ rw (e, yes) in
            let z : ◌≡◌ {A = ℕ} 0 1 = cc in absurd (omega arith)
        go (unreadable_line k) e =
            let same : ◌≡◌ {A = Result ℕ NoTable} (Err (Needs bytes)) (Err (Unreadable k)) = sym q ∙ is ∙ rw e in
            let z : ◌≡◌ {A = ℕ} 0 1 = cc in absurd (omega arith)

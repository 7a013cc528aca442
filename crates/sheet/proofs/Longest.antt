-- Longest: no sheet is longer than 262,000 bytes, so that with a refusal on top it is not too long to be read. Each of its lines has at most
-- 245: seven for the kind, 23 for each of ten columns, since no cell has more than 21 bytes, and eight for the comment; and there are at
-- most 1,034 lines.
use mathlib.Core.Path.{◌≡◌, refl, ap}
use mathlib.Core.Bool.{Bool, true, false, cond}
use mathlib.Core.List.{List, [], ◌∷◌, ◌++◌, map}
use native.Mathlib.Nat.{suc-mul, mul-le-mul_right}
use native.Mathlib.Omega.{arith}
use lib.Dec.{leb, lit≤}
use lib.ListN.{length, get_or, length-append}
use Prim.Native.Nat.{ℕ, suc, ◌+◌, ◌-◌, ◌*◌, ◌≤◌, ◌<◌}
use Rattle.laws.specs.Res.{Res, ok, refuse}
use Rattle.laws.specs.Lists.{joined, tab}
use Rattle.laws.proofs.Lists.{length-tab}
use Rattle.laws.proofs.Little.{Bytes}
use Rattle.laws.proofs.Members.{All, empty, also, all_append, all_get_d, all-get_or-or, all-tab}
use Rattle.rules.specs.Plan.{Plan}
use Rattle.rules.specs.Traffic.{task_node}
use Rattle.rules.specs.Frames.{ControlRow, no_control_row}
use Rattle.rules.specs.Checker.{Passed, Row, control_at, row_at, first_row, timed, located}
use Rattle.rules.proofs.RefusalNumbers.{timed-gives}
use Rattle.rules.proofs.TableBytes.{ControlFits}
use Rattle.rules.proofs.Located.{LocatedAs, located_as, timed-places, plan-kept, few-control, few-rows}
use Rattle.text.specs.Text.{decimal, ended, line_feed, pad_left, pad_right, texts}
use Rattle.text.proofs.Decimals.{decimal-most, refused-line-most}
use Rattle.text.proofs.Padded.{decimal-few, left-few, right_few, texts-few}
use Rattle.sheet.specs.declared.Cell.{Cell}
use Rattle.sheet.specs.declared.Cell.TheVariants.{Dash, Count, Below}
use Rattle.sheet.specs.Sheet.{
  cycle_word,
  control_word,
  data_word,
  comment_sign,
  cycle_comment,
  cell_text,
  column_widths,
  column_of,
  sheet_line,
  name_at,
  word_at,
  head_line,
  row_line,
  edition_text,
  cycle_line,
  difference,
  control_sent,
  control_cells,
  release_of,
  data_sent,
  data_cells,
  control_line,
  data_line,
  sheet_lines,
  sheet_of,
  on_top,
  text_for,
  sheet_text,
}
use Rattle.sheet.proofs.Ticks.{FewBits, control-few}
use Rattle.sheet.proofs.RowLines.{RowSmall}
use Rattle.sheet.proofs.ReadsBack.{last-few, period-fits, control-fits, row_small}

-- ---- cells

-- a cell's number is one that 64 bits hold
abbrev Small : Cell → Type 0
Small Dash = Unit {0}
Small (Count n) = n < 18446744073709551616
Small (Below n) = n < 18446744073709551616

cell_few : (x : Cell) → Small x → length (cell_text x) ≤ 21
cell_few Dash h = lit≤ tt
cell_few (Count n) h = omega (arith, decimal-most n h)
cell_few (Below n) h = omega (arith, decimal-most n h)

difference-small : (a b : ℕ) → a < 18446744073709551616 → b < 18446744073709551616 → Small (difference a b)
unfolding difference
difference-small a b h k = go (leb b a)
  where
    go : (t : Bool) → Small (cond t (Count (a - b)) (Below (b - a)))
    go true = omega arith
    go false = omega arith

word-few : (cells : List Cell) → All Small cells → (k : ℕ) → length (word_at cells k) ≤ 21
unfolding word_at
word-few cells h k = cell_few (get_or cells k Dash) (all-get_or-or {P = Small} Dash h tt k)

control-small : (p : Plan) (r : ControlRow) → ControlFits r → FewBits (control_sent p r) → All Small (control_cells p r)
unfolding control_cells
control-small p r fits few =
    let node : r.node < 18446744073709551616 = omega (arith, fits.node) in
    let start : r.start < 18446744073709551616 = omega (arith, fits.start) in
    let stop : r.stop < 18446744073709551616 = omega (arith, fits.stop) in
    let bits : (control_sent p r).bits < 18446744073709551616 = omega (arith, few.bits) in
    let ticks : (control_sent p r).ticks < 18446744073709551616 = omega (arith, few.ticks) in
    also {x = Count r.node} node
    (also {x = Dash} tt
    (also {x = Dash} tt
    (also {x = Dash} tt
    (also {x = Count r.start} start
    (also {x = Count r.stop} stop
    (also {x = Count (control_sent p r).bits} bits
    (also {x = Count (control_sent p r).ticks} ticks
    (also {x = Dash} tt
    (also {x = Dash} tt empty)))))))))

data_small : (c : Passed) (r : Row) → RowSmall c r → All Small (data_cells c r)
unfolding data_cells
data_small c r small =
    let node : task_node c.plan r.opens.task < 18446744073709551616 = omega (arith, small.node) in
    let task : r.opens.task < 18446744073709551616 = omega (arith, small.task) in
    let release : release_of c r < 18446744073709551616 = omega (arith, small.release) in
    let deadline : r.opens.deadline < 18446744073709551616 = omega (arith, small.deadline) in
    let start : r.start < 18446744073709551616 = omega (arith, small.start) in
    let stop : r.stop < 18446744073709551616 = omega (arith, small.stop) in
    let bits : (data_sent c r).bits < 18446744073709551616 = omega (arith, small.sent.bits) in
    let ticks : (data_sent c r).ticks < 18446744073709551616 = omega (arith, small.sent.ticks) in
    also {x = Count (task_node c.plan r.opens.task)} node
    (also {x = Count r.opens.task} task
    (also {x = Count (release_of c r)} release
    (also {x = Count r.opens.deadline} deadline
    (also {x = Count r.start} start
    (also {x = Count r.stop} stop
    (also {x = Count (data_sent c r).bits} bits
    (also {x = Count (data_sent c r).ticks} ticks
    (also (difference-small r.start (release_of c r) start release)
    (also (difference-small r.opens.deadline r.stop deadline stop) empty)))))))))

-- ---- lines

width_few : (k : ℕ) → get_or column_widths k 0 ≤ 21
width_few k =
    all-get_or-or {P = λ n. n ≤ 21} {l = column_widths} 0
    (also (lit≤ tt)
    (also (lit≤ tt)
    (also (lit≤ tt)
    (also (lit≤ tt)
    (also (lit≤ tt)
    (also (lit≤ tt)
    (also (lit≤ tt)
    (also (lit≤ tt)
    (also (lit≤ tt)
    (also (lit≤ tt) empty))))))))))
    (lit≤ tt) k

column-few : (word : ℕ → List ℕ) → ((k : ℕ) → length (word k) ≤ 21) → (k : ℕ) → length (column_of word k) ≤ 23
unfolding column_of
column-few word h k = omega (arith, left-few (get_or column_widths k 0) 21 (word k) (width_few k) (h k))

line-few : (kind : List ℕ) (word : ℕ → List ℕ) (number : List ℕ) → length kind ≤ 7 → ((k : ℕ) → length (word k) ≤ 21) → length number ≤ 4
    → length (sheet_line kind word number) ≤ 245
unfolding sheet_line
line-few kind word number a b d =
    let columns = texts (column_of word) 10 in
    let whole : length (pad_right 7 kind ++ (columns ++ (comment_sign ++ number))) ≡ length (pad_right 7 kind) + length (columns ++ (comment_sign ++ number)) =
    length-append (pad_right 7 kind) (columns ++ (comment_sign ++ number)) in
    let rest : length (columns ++ (comment_sign ++ number)) ≡ length columns + length (comment_sign ++ number) =
    length-append columns (comment_sign ++ number) in
    let few : length columns ≤ 10 * 23 = texts-few (column_of word) 23 (column-few word b) 10 in
    let first : length (pad_right 7 kind) ≤ 7 = right_few 7 7 kind (lit≤ tt) a in
    omega arith

row-few : (kind : List ℕ) (cells : List Cell) (k : ℕ) → length kind ≤ 7 → All Small cells → k < 10000 → length (row_line kind cells k) ≤ 245
unfolding row_line
row-few kind cells k a h w = line-few kind (word_at cells) (decimal k) a (word-few cells h) (decimal-few 3 k w)

edition-few : (consumers : Bool) → length (edition_text consumers) ≤ 10
edition-few false = lit≤ tt
edition-few true = lit≤ tt

cycle-few : (consumers : Bool) (period : ℕ) → period < 4294967296 → length (cycle_line consumers period) ≤ 245
unfolding cycle_line
cycle-few consumers period h =
    let first = cycle_word ++ (32 ∷ []) in
    let rest = edition_text consumers ++ cycle_comment in
    let front : length (first ++ decimal period) ≡ length first + length (decimal period) = length-append first (decimal period) in
    let whole : length ((first ++ decimal period) ++ rest) ≡ length (first ++ decimal period) + length rest = length-append (first ++ decimal period) rest in
    let behind : length rest ≡ length (edition_text consumers) + length cycle_comment = length-append (edition_text consumers) cycle_comment in
    omega (arith, decimal-most period (omega arith), edition-few consumers)

head_few : length head_line ≤ 245
unfolding head_line sheet_line pad_right texts column_of name_at pad_left
head_few = lit≤ tt

-- ---- the sheet

lines-few : (most : ℕ) {ls : List (List ℕ)} → All (λ l. length l ≤ most) ls → length (joined (map ended ls)) ≤ length ls * suc most
lines-few most empty = omega arith
lines-few most (also {x = l} {l = ls} h r) =
    let one : length (l ++ line_feed) ≡ length l + 1 = length-append l line_feed in
    let all : length ((l ++ line_feed) ++ joined (map ended ls)) ≡ length (l ++ line_feed) + length (joined (map ended ls)) =
    length-append (l ++ line_feed) (joined (map ended ls)) in
    rw (suc-mul (length ls) (suc most)) (omega (arith, lines-few most r))

module _ {plan table : List ℕ} {c : Passed} (h : LocatedAs plan table c) (bytes : Bytes table) where
  control-line-few : (k : ℕ) → k < length c.table.control → length (control_line c k) ≤ 245
  unfolding control_line control_at
  control-line-few k w =
      let r = get_or c.table.control k no_control_row in
      row-few control_word (control_cells c.plan r) (1 + k) (lit≤ tt)
      (control-small c.plan r (all_get_d no_control_row (control-fits h bytes) k w) (control-few c.plan (plan-kept h) r))
      (omega (arith, few-control h))

  data_line-few : (k : ℕ) → k < length c.table.rows → length (data_line c k) ≤ 245
  unfolding data_line first_row
  data_line-few k w =
      row-few data_word (data_cells c (row_at c.table k)) (1 + length c.table.control + k) (lit≤ tt)
      (data_small c (row_at c.table k) (row_small h bytes k w)) (omega (arith, few-control h, few-rows h))

  all-few : All (λ l. length l ≤ 245) (sheet_lines c)
  unfolding sheet_lines
  all-few =
      also (cycle-few c.plan.consumers c.table.period (period-fits h bytes))
      (also head_few
      (all_append
      (all-tab (control_line c) 0 (length c.table.control) (λ k a b. control-line-few k (omega arith)))
      (all-tab (data_line c) 0 (length c.table.rows) (λ k a b. data_line-few k (omega arith)))))

  few-lines : length (sheet_lines c) ≤ 1034
  unfolding sheet_lines
  few-lines =
      let controls = tab (control_line c) 0 (length c.table.control) in
      let datas = tab (data_line c) 0 (length c.table.rows) in
      let both : length (controls ++ datas) ≡ length controls + length datas = length-append controls datas in
      omega (
        arith,
        length-tab (control_line c) 0 (length c.table.control),
        length-tab (data_line c) 0 (length c.table.rows),
        few-control h,
        few-rows h,
      )

  sheet-few : length (sheet_of c) ≤ 262000
  unfolding sheet_of
  sheet-few = omega (arith, lines-few 245 all-few, mul-le-mul_right 246 few-lines)

pub sheet-short : (plan table : List ℕ) (c : Passed) → Bytes table → located plan table ≡ ok c → length (sheet_of c) ≤ 262000
sheet-short plan table c bytes e = sheet-few (located_as plan table c e) bytes

-- the refusal on top has at most 53 bytes
top_few : {plan table : List ℕ} {c : Passed} → LocatedAs plan table c → (m : Res (Unit {0})) → timed c.layout c.table ≡ m → length (on_top m) ≤ 53
top_few h (ok u) e = lit≤ tt
top_few {c = c} h (refuse n p) e =
    refused-line-most n p (omega (arith, ((timed-gives c.layout c.table).number n p e).1))
    (omega (arith, (timed-places c.layout c.table).place n p e, last-few h))

-- what is printed is not too long for the reader
pub text_short : (plan table : List ℕ) (c : Passed) → Bytes table → located plan table ≡ ok c → length (sheet_text plan table) ≤ 262144
unfolding sheet_text
text_short plan table c bytes e =
    let top = on_top (timed c.layout c.table) in
    let is : length (text_for (located plan table)) ≡ length (top ++ sheet_of c) = ap (λ (m : Res Passed). length (text_for m)) e in
    let both : length (top ++ sheet_of c) ≡ length top + length (sheet_of c) = length-append top (sheet_of c) in
    omega (arith, sheet-short plan table c bytes e, top_few (located_as plan table c e) (timed c.layout c.table) refl)

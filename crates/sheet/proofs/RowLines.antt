-- The lines of a sheet, one by one: each is without a line feed, and a reader takes from it what the table has: from the refusal on top and
-- from the head nothing, from the first line the cycle, from a row's line that row.
use mathlib.Core.Path.{◌≡◌, refl, sym, ap, ◌∙◌}
use mathlib.Core.Bool.{Bool, true, false}
use mathlib.Core.List.{List, [], ◌∷◌, ◌++◌, append-nil, append_assoc}
use mathlib.Core.Option.{some}
use native.Mathlib.Omega.{arith}
use borrow.Author.Tests.{lt-ltb}
use lib.Dec.{lit<}
use lib.ListN.{length, get_or}
use Prim.Native.Nat.{ℕ, ◌≤◌, ◌<◌}
use Rattle.laws.specs.Lists.{all, tab}
use Rattle.rules.specs.Limits.{most_nodes, most_frames}
use Rattle.rules.specs.Plan.{Plan}
use Rattle.rules.specs.Traffic.{task_node}
use Rattle.rules.specs.Frames.{ControlRow}
use Rattle.rules.specs.Table.{DataRow}
use Rattle.rules.specs.Checker.{Row, Passed}
use Rattle.rules.proofs.TableBytes.{ControlFits}
use Rattle.text.specs.Text.{at_word, decimal, ended, front, line_feed, pad_left, pad_right, refused_line, refused_word, texts}
use Rattle.text.specs.Lines.{behind_word, blank_first, is_blank, is_other, is_word, uncommented, words}
use Rattle.text.proofs.Runs.{front_over}
use Rattle.text.proofs.Words.{Wordy, decimal-wordy, spaces_passed, word_then}
use Rattle.text.proofs.Padded.{all_both, decimal-other}
use Rattle.sheet.specs.declared.Cell.{Cell}
use Rattle.sheet.specs.declared.Cell.TheVariants.{Dash}
use Rattle.sheet.specs.declared.Kind.TheVariants.{Refused, Cycle, Control, Data}
use Rattle.sheet.specs.declared.Form.TheVariants as form
use Rattle.sheet.specs.Sheet.{
  cycle_word,
  consumers_word,
  control_word,
  data_word,
  cycle_comment,
  column_of,
  sheet_line,
  name_at,
  word_at,
  head_line,
  row_line,
  edition_text,
  cycle_line,
  difference,
  control_sent,
  control_cells,
  release_of,
  data_sent,
  data_cells,
}
use Rattle.sheet.specs.Back.{
  refused_kind,
  at_place,
  most8,
  most32,
  most64,
  forms_of,
  number_in,
  SoFar,
  nothing_yet,
  may_stand,
  with_numbers,
  with_words,
  with_line,
}
use Rattle.sheet.proofs.Ticks.{FewBits}
use Rattle.sheet.proofs.Cells.{
  cell_wordy,
  cell_other,
  line-feedless,
  line-words,
  most-read,
  dash-read,
  away,
  signed_read,
  ReadAs,
  no_word,
  one_word,
  word-missing,
  line_taken,
  kind-refused,
  kind-cycle,
  kind-control,
  kind_data,
  control-wordy,
  data_wordy,
}

-- behind the cycle's line
abbrev pub read_to : Bool → ℕ → List ControlRow → List DataRow → SoFar
read_to consumers period control rows =
    record { stage = 2; consumers = consumers; period = period; control = control; rows = rows }

-- numbers that are taken, by their widths, and one that only tells
byte-read : (n : ℕ) → n < 256 → number_in (form.Most most8) (decimal n) ≡ some n
byte-read n h = most-read n (omega arith) most8 (omega arith)

word_read : (n : ℕ) → n < 4294967296 → number_in (form.Most most32) (decimal n) ≡ some n
word_read n h = most-read n (omega arith) most32 (omega arith)

long-read : (n : ℕ) → n < 18446744073709551616 → number_in (form.Most most64) (decimal n) ≡ some n
long-read n h = most-read n h most64 (omega arith)

-- ---- rows

row-feedless : (kind : List ℕ) → all (is_other 10) kind ≡ true → (cells : List Cell) (k : ℕ) → all (is_other 10) (row_line kind cells k) ≡ true
unfolding row_line word_at
row-feedless kind h cells k =
    line-feedless (word_at cells) kind (decimal k) h (λ j. cell_other 10 (lit< tt) (get_or cells j Dash)) (decimal-other 10 k (omega arith))

pub control-feedless : (cells : List Cell) (k : ℕ) → all (is_other 10) (row_line control_word cells k) ≡ true
control-feedless = row-feedless control_word refl

pub data_feedless : (cells : List Cell) (k : ℕ) → all (is_other 10) (row_line data_word cells k) ≡ true
data_feedless = row-feedless data_word refl

row_words : (kind : List ℕ) → Wordy kind → all (is_other 35) kind ≡ true → (cells : List Cell) (k : ℕ)
    → words (uncommented (row_line kind cells k)) ≡ kind ∷ tab (word_at cells) 0 10
unfolding row_line word_at
row_words kind h a cells k =
    line-words (word_at cells) (λ j. cell_wordy (get_or cells j Dash)) kind (decimal k) h a (λ j. cell_other 35 (lit< tt) (get_or cells j Dash))

module _ (p : Plan) (r : ControlRow) (fits : ControlFits r) (few : FewBits (control_sent p r)) where
  control-read : ReadAs (forms_of Control) (tab (word_at (control_cells p r)) 0 10)
      (r.node ∷ 0 ∷ 0 ∷ 0 ∷ r.start ∷ r.stop ∷ (control_sent p r).bits ∷ (control_sent p r).ticks ∷ 0 ∷ 0 ∷ [])
  unfolding word_at control_cells
  control-read =
      let bits : (control_sent p r).bits < 18446744073709551616 = omega (arith, few.bits) in
      let ticks : (control_sent p r).ticks < 18446744073709551616 = omega (arith, few.ticks) in
      one_word (byte-read r.node fits.node)
      (one_word dash-read
      (one_word dash-read
      (one_word dash-read
      (one_word (word_read r.start fits.start)
      (one_word (word_read r.stop fits.stop)
      (one_word (long-read (control_sent p r).bits bits)
      (one_word (long-read (control_sent p r).ticks ticks)
      (one_word dash-read
      (one_word dash-read no_word)))))))))

  pub control-line : (consumers : Bool) (period : ℕ) (control : List ControlRow) (k : ℕ) → length control < most_nodes
      → with_line (read_to consumers period control []) (row_line control_word (control_cells p r) k)
      ≡ some (read_to consumers period (control ++ (r ∷ [])) [])
  unfolding may_stand with_numbers
  control-line consumers period control k w =
      line_taken Control (read_to consumers period control []) (row_line control_word (control_cells p r) k) control_word _ _
      (row_words control_word control-wordy refl (control_cells p r) k) kind-control (lt-ltb (length control) most_nodes w) control-read

-- every number of a row's line is one that a reader takes
pub record RowSmall (c : Passed) (r : Row) : Type 0 where
  pub node : task_node c.plan r.opens.task < 256
  pub task : r.opens.task < 256
  pub release : release_of c r ≤ 1000000
  pub deadline : r.opens.deadline < 4294967296
  pub start : r.start < 4294967296
  pub stop : r.stop < 4294967296
  pub sent : FewBits (data_sent c r)

-- the record that a row is read as
abbrev pub data_of : Row → DataRow
data_of r = record { task = r.opens.task; deadline = r.opens.deadline; start = r.start; stop = r.stop }

module _ (c : Passed) (r : Row) (small : RowSmall c r) where
  data_read : ReadAs (forms_of Data) (tab (word_at (data_cells c r)) 0 10)
      (task_node c.plan r.opens.task ∷ r.opens.task ∷ release_of c r ∷ r.opens.deadline ∷ r.start ∷ r.stop
      ∷ (data_sent c r).bits ∷ (data_sent c r).ticks ∷ away (difference r.start (release_of c r))
      ∷ away (difference r.opens.deadline r.stop) ∷ [])
  unfolding word_at data_cells
  data_read =
      let node : task_node c.plan r.opens.task < 18446744073709551616 = omega (arith, small.node) in
      let release : release_of c r < 18446744073709551616 = omega (arith, small.release) in
      let bits : (data_sent c r).bits < 18446744073709551616 = omega (arith, small.sent.bits) in
      let ticks : (data_sent c r).ticks < 18446744073709551616 = omega (arith, small.sent.ticks) in
      let start : r.start < 18446744073709551616 = omega (arith, small.start) in
      let deadline : r.opens.deadline < 18446744073709551616 = omega (arith, small.deadline) in
      let stop : r.stop < 18446744073709551616 = omega (arith, small.stop) in
      one_word (long-read (task_node c.plan r.opens.task) node)
      (one_word (byte-read r.opens.task small.task)
      (one_word (long-read (release_of c r) release)
      (one_word (word_read r.opens.deadline small.deadline)
      (one_word (word_read r.start small.start)
      (one_word (word_read r.stop small.stop)
      (one_word (long-read (data_sent c r).bits bits)
      (one_word (long-read (data_sent c r).ticks ticks)
      (one_word (signed_read r.start (release_of c r) start release)
      (one_word (signed_read r.opens.deadline r.stop deadline stop) no_word)))))))))

  pub data-line : (consumers : Bool) (period : ℕ) (control : List ControlRow) (rows : List DataRow) (k : ℕ) → length rows < most_frames
      → with_line (read_to consumers period control rows) (row_line data_word (data_cells c r) k)
      ≡ some (read_to consumers period control (rows ++ (data_of r ∷ [])))
  unfolding may_stand with_numbers
  data-line consumers period control rows k w =
      line_taken Data (read_to consumers period control rows) (row_line data_word (data_cells c r) k) data_word _ _
      (row_words data_word data_wordy refl (data_cells c r) k) kind_data (lt-ltb (length rows) most_frames w) data_read

-- ---- the first line

abbrev cycle_front : ℕ → List ℕ
cycle_front period = (cycle_word ++ (32 ∷ [])) ++ decimal period

cycle-all : (stop period : ℕ) → stop < 48 → all (is_other stop) (cycle_word ++ (32 ∷ [])) ≡ true → all (is_other stop) (cycle_front period) ≡ true
cycle-all stop period h e = all_both (is_other stop) (cycle_word ++ (32 ∷ [])) (decimal period) e (decimal-other stop period h)

-- the edition's word, where there is one
edition-all : (stop : ℕ) (consumers : Bool) → all (is_other stop) (edition_text true) ≡ true → all (is_other stop) (edition_text consumers) ≡ true
edition-all stop false e = refl
edition-all stop true e = e

pub cycle-feedless : (consumers : Bool) (period : ℕ) → all (is_other 10) (cycle_line consumers period) ≡ true
unfolding cycle_line
cycle-feedless consumers period =
    all_both (is_other 10) (cycle_front period) (edition_text consumers ++ cycle_comment) (cycle-all 10 period (omega arith) refl)
    (all_both (is_other 10) (edition_text consumers) cycle_comment (edition-all 10 consumers refl) refl)

abbrev edition_words : Bool → List (List ℕ)
edition_words false = []
edition_words true = consumers_word ∷ []

edition-words : (consumers : Bool) → words (edition_text consumers ++ (32 ∷ 32 ∷ [])) ≡ edition_words consumers
unfolding words is_blank
edition-words false = refl
edition-words true = refl

edition-blank : (consumers : Bool) → blank_first (edition_text consumers ++ (32 ∷ 32 ∷ [])) ≡ true
unfolding is_blank
edition-blank false = refl
edition-blank true = refl

cycle_cut : (consumers : Bool) (period : ℕ) → uncommented (cycle_line consumers period) ≡ cycle_front period ++ (edition_text consumers ++ (32 ∷ 32 ∷ []))
unfolding cycle_line uncommented
cycle_cut consumers period =
    front_over (is_other 35) (cycle_front period) (edition_text consumers ++ cycle_comment) (cycle-all 35 period (omega arith) refl)
    ∙ ap (λ (l : List ℕ). cycle_front period ++ l)
    (front_over (is_other 35) (edition_text consumers) cycle_comment (edition-all 35 consumers refl))

cycle-words : (consumers : Bool) (period : ℕ) → words (uncommented (cycle_line consumers period)) ≡ cycle_word ∷ decimal period ∷ edition_words consumers
unfolding is_blank words
cycle-words consumers period =
    let rest = edition_text consumers ++ (32 ∷ 32 ∷ []) in
    ap words (cycle_cut consumers period)
    ∙ word_then cycle_word (32 ∷ decimal period ++ rest) (record { some = omega arith; letters = refl }) refl
    ∙ ap (λ (ws : List (List ℕ)). cycle_word ∷ ws)
    (word_then (decimal period) rest (decimal-wordy period) (edition-blank consumers)
    ∙ ap (λ (ws : List (List ℕ)). decimal period ∷ ws) (edition-words consumers))

consumers-read : number_in form.Consumers consumers_word ≡ some 1
unfolding number_in is_word behind_word
consumers-read = refl

pub cycle-line : (s : SoFar) (consumers : Bool) (period : ℕ) → period < 4294967296 → s.stage < 2
    → with_line s (cycle_line consumers period) ≡ some (read_to consumers period s.control s.rows)
unfolding may_stand with_numbers
cycle-line s false period h w =
    line_taken Cycle s (cycle_line false period) cycle_word (decimal period ∷ []) (period ∷ 0 ∷ []) (cycle-words false period) kind-cycle
    (lt-ltb s.stage 2 w) (one_word (word_read period h) (word-missing refl no_word))
cycle-line s true period h w =
    line_taken Cycle s (cycle_line true period) cycle_word (decimal period ∷ consumers_word ∷ []) (period ∷ 1 ∷ []) (cycle-words true period) kind-cycle
    (lt-ltb s.stage 2 w) (one_word (word_read period h) (one_word consumers-read no_word))

-- ---- the head

pub head-feedless : all (is_other 10) head_line ≡ true
unfolding head_line sheet_line pad_right texts column_of name_at pad_left
head-feedless = refl

pub head-line : (s : SoFar) → with_line s head_line ≡ some s
unfolding head_line sheet_line pad_right with_line with_words uncommented words
head-line s = refl

-- ---- the refusal on top

abbrev pub top_line : ℕ → ℕ → List ℕ
top_line n p = refused_word ++ (decimal n ++ (at_word ++ decimal p))

pub top_ended : (n p : ℕ) → refused_line n p ≡ ended (top_line n p)
unfolding refused_line
top_ended n p = sym (ap (λ (l : List ℕ). refused_word ++ l) (append_assoc (decimal n) (at_word ++ decimal p) line_feed))

top_all : (stop n p : ℕ) → stop < 48 → all (is_other stop) refused_word ≡ true → all (is_other stop) at_word ≡ true → all (is_other stop) (top_line n p) ≡ true
top_all stop n p h a b =
    all_both (is_other stop) refused_word (decimal n ++ (at_word ++ decimal p)) a
    (all_both (is_other stop) (decimal n) (at_word ++ decimal p) (decimal-other stop n h)
    (all_both (is_other stop) at_word (decimal p) b (decimal-other stop p h)))

pub top_feedless : (n p : ℕ) → all (is_other 10) (top_line n p) ≡ true
top_feedless n p = top_all 10 n p (omega arith) refl refl

-- a line without `#` is not cut
uncut : (l : List ℕ) → all (is_other 35) l ≡ true → uncommented l ≡ l
unfolding uncommented
uncut l h = ap (front (is_other 35)) (sym (append-nil l)) ∙ front_over (is_other 35) l [] h ∙ append-nil l

last_word : (n : ℕ) → words (decimal n) ≡ decimal n ∷ []
unfolding words
last_word n = ap words (sym (append-nil (decimal n))) ∙ word_then (decimal n) [] (decimal-wordy n) refl

top_words : (n p : ℕ) → words (uncommented (top_line n p)) ≡ refused_kind ∷ decimal n ∷ at_place ∷ decimal p ∷ []
unfolding is_blank
top_words n p =
    ap words (uncut (top_line n p) (top_all 35 n p (omega arith) refl refl))
    ∙ word_then refused_kind (32 ∷ decimal n ++ (at_word ++ decimal p)) (record { some = omega arith; letters = refl }) refl
    ∙ ap (λ (ws : List (List ℕ)). refused_kind ∷ ws)
    (spaces_passed 1 (decimal n ++ (at_word ++ decimal p)) ∙ word_then (decimal n) (at_word ++ decimal p) (decimal-wordy n) refl
    ∙ ap (λ (ws : List (List ℕ)). decimal n ∷ ws)
    (spaces_passed 1 (at_place ++ (32 ∷ decimal p)) ∙ word_then at_place (32 ∷ decimal p) (record { some = omega arith; letters = refl }) refl
    ∙ ap (λ (ws : List (List ℕ)). at_place ∷ ws) (spaces_passed 1 (decimal p) ∙ last_word p)))

at_read : number_in form.At at_place ≡ some 0
unfolding number_in is_word behind_word
at_read = refl

pub top-line : (n p : ℕ) → n < 18446744073709551616 → p < 18446744073709551616
    → with_line nothing_yet (top_line n p) ≡ some (record { stage = 1; consumers = false; period = 0; control = []; rows = [] })
unfolding may_stand with_numbers
top-line n p h k =
    line_taken Refused nothing_yet (top_line n p) refused_kind (decimal n ∷ at_place ∷ decimal p ∷ []) (n ∷ 0 ∷ p ∷ []) (top_words n p) kind-refused
    refl (one_word (long-read n h) (one_word at_read (one_word (long-read p k) no_word)))

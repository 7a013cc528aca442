-- The sheet of the arrays is the sheet of the plan and the table that stand in them, where 20 to 24 do not speak: each row is printed as it was
-- read, with the release of the pair that it names and the bits of its task's message.
use mathlib.Core.Path.{◌≡◌, refl, sym, ap, ap₂, ◌∙◌}
use mathlib.Core.Bool.{true}
use mathlib.Core.List.{List, [], ◌∷◌, ◌++◌, map}
use native.Mathlib.Nat.{zero-add}
use native.Mathlib.Numerals.{add-one}
use native.Mathlib.Omega.{arith}
use borrow.Author.Tests.{ltb-true}
use lib.ListN.{length, get_or, replicate, length-replicate}
use Prim.Native.Nat.{ℕ, zero, suc, ◌+◌, ◌≤◌, ◌<◌, min}
use Rattle.laws.specs.Res.{ok}
use Rattle.laws.specs.Lists.{any, joined, tab}
use Rattle.laws.specs.Loops.{stores}
use Rattle.laws.proofs.Arrays.{get_or-laid}
use Rattle.laws.proofs.Lists.{joined-append, joined_snoc, map-append, tab_more}
use Rattle.laws.proofs.Loops.{stores_at}
use Rattle.rules.specs.Limits.{most_nodes, most_frames}
use Rattle.rules.specs.Records.{Rec, records, table_follows}
use Rattle.rules.specs.Plan.{Plan, the_task}
use Rattle.rules.specs.Traffic.{read_in, traffic}
use Rattle.rules.specs.Frames.{Pair, layout, layout_of, no_control_row, on_bus, pairs, payload}
use Rattle.rules.specs.Checker.{Passed, TableRead, control_at, first_row, is_for_consumers, is_pair_of, named_in, no_row, row_at, shaped, table_of}
use Rattle.rules.proofs.Located.{LocatedAs, plan-kept, few-control, few-rows, holds-one, opens-named, opens-pair}
use Rattle.rules.proofs.Payload.{payload-one}
use Rattle.laws.proofs.Tests.{by_and, by_eq, by_some}
use Rattle.line.specs.Line.{line_of}
use Rattle.line.proofs.Drawn.{Drawn, drawn, frame_of, frames_drawn}
use Rattle.naming.specs.Places.{look_in, number_at, number_of}
use Rattle.judging.specs.Judged.{frame_in, frames_in}
use Rattle.judging.proofs.Held.{look_within}
use Rattle.judging.proofs.NamedFrames.{any_frame, named_frame}
use Rattle.table.specs.Memory.{control_node_of, control_start_of, control_stop_of, deadline_of, lay_out, start_of, stop_of, task_of}
use Rattle.table.specs.Rows.{control_in}
use Rattle.text.specs.Text.{ended, texts}
use Rattle.sheet.specs.Sheet.{control_line, cycle_line, data_cells, data_line, data_sent, head_line, held_by, release_of, sheet_lines, sheet_of}
use Rattle.sheetwriter.specs.Memory.{control_text_in, data_cells_in, data_text_in, sheet_in}

-- ---- texts one behind the other

texts-same : (f g : ℕ → List ℕ) (n : ℕ) → ((k : ℕ) → k < n → f k ≡ g k) → texts f n ≡ texts g n
unfolding texts
texts-same f g zero h = refl
texts-same f g (suc n) h = ap₂ ◌++◌ (texts-same f g n (λ k w. h k (omega arith))) (h n (omega arith))

abbrev ended_by : (ℕ → List ℕ) → ℕ → List ℕ
ended_by line k = ended (line k)

texts-joined : (line : ℕ → List ℕ) (n : ℕ) → texts (ended_by line) n ≡ joined (map ended (tab line 0 n))
unfolding texts
texts-joined line zero = refl
texts-joined line (suc n) =
    ap (λ (l : List ℕ). l ++ ended (line n)) (texts-joined line n)
    ∙ sym (joined_snoc (map ended (tab line 0 n)) (ended (line n)))
    ∙ ap joined (sym (map-append ended (tab line 0 n) (line n ∷ [])))
    ∙ ap (λ (ls : List (List ℕ)). joined (map ended ls)) (sym (snoc n))
  where
    snoc : (n : ℕ) → tab line 0 (suc n) ≡ tab line 0 n ++ (line n ∷ [])
    snoc n = ap (tab line 0) (sym (add-one n)) ∙ tab_more line 0 n ∙ ap (λ (k : ℕ). tab line 0 n ++ (line k ∷ [])) (zero-add n)

-- the lines of a sheet, part by part
sheet_parts : (c : Passed)
    → ended (cycle_line c.plan.consumers c.table.period) ++ (ended head_line
    ++ (texts (ended_by (control_line c)) (length c.table.control) ++ texts (ended_by (data_line c)) (length c.table.rows)))
    ≡ sheet_of c
unfolding sheet_of sheet_lines
sheet_parts c =
    let controls = tab (control_line c) 0 (length c.table.control) in
    let datas = tab (data_line c) 0 (length c.table.rows) in
    ap (λ (l : List ℕ). ended (cycle_line c.plan.consumers c.table.period) ++ (ended head_line ++ l))
    (ap₂ ◌++◌ (texts-joined (control_line c) (length c.table.control)) (texts-joined (data_line c) (length c.table.rows))
    ∙ sym (joined-append (map ended controls) (map ended datas)) ∙ ap joined (sym (map-append ended controls datas)))

-- ---- the rows

-- the numbers of the pairs that the rows name
abbrev pub numbers_of : Plan → TableRead → List ℕ
numbers_of p t =
    stores (replicate most_frames 0) (number_at (line_of p).tasks (line_of p).deadlines (line_of p).frames (lay_out t).tasks (lay_out t).deadlines) (min (length t.rows) most_frames)

-- a plan that was read in a table's edition and laid out, and a table of the right shape
module _ (file table : List ℕ) (p : Plan) (is_read : read_in (is_for_consumers table) file ≡ ok p) (is_laid : layout p ≡ ok (layout_of p)) (rs : List Rec)
    (are_rows : records table_follows 20 table ≡ ok rs) (shape : shaped (layout_of p) (table_of rs) ≡ ok tt) where
  abbrev t : TableRead
  t = table_of rs

  abbrev c : Passed
  c = record { plan = p; traffic = traffic p; layout = layout_of p; table = t }

  here : LocatedAs file table c
  here = record { is_read = is_read; is_laid = is_laid; traffic = refl; rs = rs; are_records = are_rows; is_table = refl; is_shaped = shape }

  is_drawn : Drawn p
  is_drawn = drawn (is_for_consumers table) file p (layout_of p) is_read is_laid

  control-same : (k : ℕ) → k < length t.control
      → control_text_in p (lay_out t).control_nodes (lay_out t).control_starts (lay_out t).control_stops k ≡ ended_by (control_line c) k
  unfolding control_text_in control_line control_in control_at lay_out
  control-same k w =
      let room : k < most_nodes = omega (arith, few-control here) in
      rw (
        get_or-laid control_node_of t.control no_control_row most_nodes k refl room,
        get_or-laid control_start_of t.control no_control_row most_nodes k refl room,
        get_or-laid control_stop_of t.control no_control_row most_nodes k refl room,
      )

  module _ (k : ℕ) (w : k < length t.rows) where
    room : k < most_frames
    room = omega (arith, few-rows here)

    task-at : get_or (lay_out t).tasks k 0 ≡ (row_at t k).opens.task
    unfolding lay_out row_at
    task-at = get_or-laid task_of t.rows no_row most_frames k refl room

    deadline-at : get_or (lay_out t).deadlines k 0 ≡ (row_at t k).opens.deadline
    unfolding lay_out row_at
    deadline-at = get_or-laid deadline_of t.rows no_row most_frames k refl room

    start-at : get_or (lay_out t).starts k 0 ≡ (row_at t k).start
    unfolding lay_out row_at
    start-at = get_or-laid start_of t.rows no_row most_frames k refl room

    stop-at : get_or (lay_out t).stops k 0 ≡ (row_at t k).stop
    unfolding lay_out row_at
    stop-at = get_or-laid stop_of t.rows no_row most_frames k refl room

    -- the number of the row's pair
    abbrev number : ℕ
    number = number_of (line_of p).tasks (line_of p).deadlines (line_of p).frames (row_at t k).opens.task (row_at t k).opens.deadline

    number_is : get_or (numbers_of p t) k 0 ≡ number
    unfolding number_at
    number_is =
        stores_at (replicate most_frames 0) (number_at (line_of p).tasks (line_of p).deadlines (line_of p).frames (lay_out t).tasks (lay_out t).deadlines)
        (min (length t.rows) most_frames) k 0 (omega (arith, room)) (rw (length-replicate {A = ℕ} most_frames 0) (omega arith))
        ∙ rw (task-at, deadline-at)

    frames-few : (line_of p).frames ≤ most_frames
    unfolding line_of layout_of pairs
    frames-few = is_drawn.few

    frames_are : frames_in (line_of p).tasks (line_of p).releases (line_of p).deadlines (line_of p).frames ≡ (layout_of p).pairs
    unfolding frames_in frame_in line_of frame_of layout_of pairs
    frames_are = frames_drawn p is_drawn

    named-there : any (is_pair_of (row_at t k).opens) (layout_of p).pairs ≡ true
    unfolding is_pair_of
    named-there =
        let n = (row_at t k).opens in
        let found = opens-named here k w in
        (by_some (is_pair_of n) (layout_of p).pairs (λ f. by_and (by_eq n.task f.task) (by_eq n.deadline f.deadline))).passes
        (named_in (layout_of p).pairs n, found.among, (found.task, found.deadline))

    known : number < (line_of p).frames
    known =
        ltb-true number (line_of p).frames
        (sym (any_frame (line_of p).tasks (line_of p).releases (line_of p).deadlines (line_of p).frames (row_at t k).opens)
        ∙ ap (any (is_pair_of (row_at t k).opens)) frames_are ∙ named-there)

    release-is : look_in most_frames (line_of p).releases (get_or (numbers_of p t) k 0) ≡ release_of c (row_at t k)
    unfolding release_of frame_in
    release-is =
        let n = (row_at t k).opens in
        ap (look_in most_frames (line_of p).releases) number_is
        ∙ look_within most_frames (line_of p).releases number (omega (arith, known, frames-few))
        ∙ sym (ap (λ (f : Pair). f.release)
        (ap (λ (fs : List Pair). named_in fs n) (sym frames_are)
        ∙ named_frame (line_of p).tasks (line_of p).releases (line_of p).deadlines (line_of p).frames n known))

    sent_is : data_sent c (row_at t k) ≡ on_bus p.bus (the_task p (row_at t k).opens.task).size
    unfolding data_sent held_by
    sent_is =
        let n = (row_at t k).opens in
        let f = named_in (layout_of p).pairs n in
        ap (λ (fs : List Pair). on_bus p.bus (payload p (traffic p).messages fs)) (ap (map (named_in (layout_of p).pairs)) (holds-one here k w))
        ∙ ap (on_bus p.bus) (payload-one p (plan-kept here) f (opens-pair here k w))
        ∙ ap (λ (task : ℕ). on_bus p.bus (the_task p task).size) (sym (opens-named here k w).task)

    cells_same : data_cells_in p (row_at t k).opens.task (release_of c (row_at t k)) (row_at t k).opens.deadline (row_at t k).start (row_at t k).stop
        ≡ data_cells c (row_at t k)
    unfolding data_cells_in data_cells
    cells_same = rw sent_is

    data_same : (first : ℕ) → first ≡ first_row t
        → data_text_in p first (lay_out t).tasks (lay_out t).deadlines (lay_out t).starts (lay_out t).stops (line_of p).releases (numbers_of p t) k ≡ ended_by (data_line c) k
    unfolding data_text_in data_line
    data_same first e = rw (e, task-at, deadline-at, start-at, stop-at, release-is, cells_same)

  -- The sheet of the arrays is the sheet.
  pub sheet-laid : sheet_in p (lay_out t) (line_of p).releases (numbers_of p t) ≡ sheet_of c
  unfolding sheet_in lay_out first_row
  sheet-laid =
      let controls : min (length t.control) most_nodes ≡ length t.control = omega (arith, few-control here) in
      let rows : min (length t.rows) most_frames ≡ length t.rows = omega (arith, few-rows here) in
      ap₂ (λ (m n : List ℕ). ended (cycle_line p.consumers t.period) ++ (ended head_line ++ (m ++ n)))
      (ap (texts (control_text_in p (lay_out t).control_nodes (lay_out t).control_starts (lay_out t).control_stops)) controls
      ∙ texts-same _ (ended_by (control_line c)) (length t.control) control-same)
      (ap₂ (λ (first n : ℕ). texts (data_text_in p (1 + first) (lay_out t).tasks (lay_out t).deadlines (lay_out t).starts (lay_out t).stops (line_of p).releases (numbers_of p t)) n) controls rows
      ∙ texts-same _ (ended_by (data_line c)) (length t.rows) (λ k w. data_same k w (1 + length t.control) first-is))
      ∙ sheet_parts c
    where
      first-is : 1 + length t.control ≡ first_row t
      first-is = refl

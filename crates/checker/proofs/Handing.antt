-- The ways of a check that hands on what it read: what each answers is what the rules say there.
use mathlib.Core.Path.{◌≡◌, refl, sym, ap, ap₂, ◌∙◌}
use mathlib.Core.Bool.{true}
use mathlib.Core.List.{List}
use mathlib.Core.Logic.{inl}
use lib.ListN.{replicate}
use Prim.Native.Nat.{ℕ, ◌≤◌}
use Rattle.laws.specs.Res.{Res, ok, refuse}
use Rattle.laws.proofs.Res.{refuse≢ok, refuse-number, refuse-place}
use Rattle.rules.specs.Limits.{most_frames}
use Rattle.rules.specs.Records.{Rec, records, table_follows}
use Rattle.rules.specs.Plan as rules
use Rattle.rules.specs.Frames.{layout_of}
use Rattle.rules.specs.Checker.{Passed, judged, table_of, check_files, is_for_consumers}
use Rattle.rules.proofs.RecordsExact.{records-refused}
use Rattle.answers.specs.declared.Refusal.{Refusal}
use Rattle.answers.specs.Refusals.{number_of, place_of, said}
use Rattle.answers.specs.Answered.{judged as heard}
use Rattle.std.specs.Prelude.{Result, Ok, Err}
use Rattle.plan.specs.declared.Plan.{Plan}
use Rattle.plan.specs.Memory.{seen, lay_out}
use Rattle.planrules.specs.Reading as plans
use Rattle.planrules.specs.Reading.{Reads}
use Rattle.line.specs.declared.Line.{Line}
use Rattle.line.specs.Line.{Drawing, drawing, line_in, line_of, no_line}
use Rattle.line.specs.Laying.{Lays, laid, file_laid, heard_line, line_beside}
use Rattle.line.proofs.Drawn.{Drawn}
use Rattle.line.proofs.Reading.{sound-laid, read_in_seen}
use Rattle.naming.specs.Places.{Numbered}
use Rattle.checker.specs.declared.Passing.{Passing}
use Rattle.checker.specs.declared.CheckedRows.{CheckedRows}
use Rattle.checker.specs.Unscanned.{ByTable}
use Rattle.checker.specs.Passing.{Passes, no_passing, starts_of, table_passed}
use Rattle.checker.proofs.Ways.{right_by, drawn_ready, laid-refused, laid-sound, file-laid, file_drawn, plan-refused}
use Rattle.rules.specs.Traffic.{read_in}

-- the three arrays of a plan's pairs are zeros
abbrev NoPairs : List ℕ → List ℕ → List ℕ → Type 0
NoPairs tasks deadlines starts =
    (tasks ≡ replicate most_frames 0) × (deadlines ≡ replicate most_frames 0) × (starts ≡ replicate most_frames 0)

passes-refused : (why : Refusal) (r : Result Passing Refusal) {tasks deadlines starts : List ℕ} (rule : Res Passed) → r ≡ Err why → NoPairs tasks deadlines starts
    → rule ≡ said why → Passes r tasks deadlines starts rule
unfolding no_passing no_line
passes-refused why r rule e z q =
    rw (e, q) (record { answered = refl; plan = refl; line = refl; tasks = z.0; deadlines = z.1; starts = z.2 })

-- ---- by a plan with its line

module _ (p : Plan) (line : Line) (pair_tasks releases pair_deadlines : List ℕ)
    (ready : (p ≡ lay_out (seen p)) × (drawing line pair_tasks releases pair_deadlines ≡ line_of (seen p)) × Drawn (seen p)) where
  -- the line and its frames
  abbrev l : Drawing
  l = drawing line pair_tasks releases pair_deadlines

  pub judge_ready : Numbered pair_tasks pair_deadlines line.frames × (line.controls ≤ 8)
  judge_ready = drawn_ready (seen p) ready.2 ready.1

  module _ (table : List ℕ) (r : Result Passing Refusal) (tasks deadlines starts : List ℕ) (j : CheckedRows) (given : List ℕ)
      (by : ByTable true l (records table_follows 20 table) j given) where
    -- what is promised of the result and the lent arrays
    abbrev Promised : Type 0
    Promised = Passes r tasks deadlines starts (table_passed (seen p) table)

    -- 20 to 28
    pub on_refused : (why : Refusal) → j.answer ≡ Err why → r ≡ Err why → NoPairs tasks deadlines starts → Promised
    unfolding table_passed
    on_refused why q e z = passes-refused why r (table_passed (seen p) table) e z (go (records table_follows 20 table) refl by)
      where
        go : (m : Res (List Rec)) → records table_follows 20 table ≡ m → ByTable true l m j given → table_passed (seen p) table ≡ said why
        go (refuse n at) broken is =
            let same : ◌≡◌ {A = Res (Unit {0})} (refuse 20 at) (said why) = sym (ap (λ (c : CheckedRows). heard c.answer) is) ∙ ap heard q in
            rw (broken, ((records-refused table_follows 20 table n at).0 broken).0) (ap₂ refuse (refuse-number same) (refuse-place same))
        go (ok rs) are_rows is =
            let says = right_by (seen p) ready.2 rs ready.1 is.1 in
            let refuses : judged (layout_of (seen p)) (table_of rs) ≡ said why = sym (says.verdict (inl refl)) ∙ ap heard q in
            rw (are_rows, refuses)

    -- it passes
    pub on_passed : j.answer ≡ Ok tt → r ≡ Ok (record { plan = p; line = line }) → tasks ≡ pair_tasks → deadlines ≡ pair_deadlines → starts ≡ given
        → Promised
    unfolding table_passed starts_of
    on_passed q e t d s = go (records table_follows 20 table) refl by
      where
        go : (m : Res (List Rec)) → records table_follows 20 table ≡ m → ByTable true l m j given → Promised
        go (refuse n at) broken is =
            let z : refuse 20 at ≡ ok tt = sym (ap (λ (c : CheckedRows). heard c.answer) is) ∙ ap heard q in refuse≢ok z
        go (ok rs) are_rows is =
            let says = right_by (seen p) ready.2 rs ready.1 is.1 in
            let passes : judged (layout_of (seen p)) (table_of rs) ≡ ok tt = sym (says.verdict (inl refl)) ∙ ap heard q in
            rw (are_rows, passes, e)
            (record {
              answered = refl;
              plan = ready.0;
              line = ap line_in ready.1;
              tasks = t ∙ ap (λ (z : Drawing). z.tasks) ready.1;
              deadlines = d ∙ ap (λ (z : Drawing). z.deadlines) ready.1;
              starts = s ∙ says.starts passes;
            })

-- ---- by a plan file

-- what the reading refuses
pub read-refused : (n at : ℕ) (rule : Res rules.Plan) → plans.verdict rule ≡ refuse n at → rule ≡ refuse n at
read-refused n at (ok p) e = refuse≢ok (sym e)
read-refused n at (refuse m k) e = rw (refuse-number e, refuse-place e)

module _ (plan table : List ℕ) (reading : Result Plan Refusal) (reads : Reads reading (read_in (is_for_consumers table) plan)) where
  pub way_unread : (r : Result Passing Refusal) {tasks deadlines starts : List ℕ} (why : Refusal) → reading ≡ Err why → r ≡ Err why
      → NoPairs tasks deadlines starts → Passes r tasks deadlines starts (check_files plan table)
  unfolding check_files
  way_unread r why q e z =
      let n : read_in (is_for_consumers table) plan ≡ said why = read-refused (number_of why) (place_of why) (read_in (is_for_consumers table) plan) (sym reads.answered ∙ ap plans.heard_reading q) in
      passes-refused why r (check_files plan table) e z (rw n)

  module _ {p : Plan} (sound : reading ≡ Ok p) (x : Result Line Refusal) {tasks releases deadlines : List ℕ} (lays : Lays x tasks releases deadlines (laid (seen p))) where
    lays_file : Lays x tasks releases deadlines (file_laid (is_for_consumers table) plan)
    lays_file = sound-laid (is_for_consumers table) plan reading reads x sound lays

    -- what a plan that is not laid out leaves of its frames
    none-laid : (n at : ℕ) → file_laid (is_for_consumers table) plan ≡ refuse n at → drawing (line_beside x) tasks releases deadlines ≡ no_line
    none-laid n at e = rw e at lays_file.left

    pub way_unlaid : (r : Result Passing Refusal) {starts : List ℕ} (why : Refusal) → x ≡ Err why → r ≡ Err why → starts ≡ replicate most_frames 0
        → Passes r tasks deadlines starts (check_files plan table)
    unfolding no_line
    way_unlaid r why q e s =
        let n : file_laid (is_for_consumers table) plan ≡ said why = laid-refused (number_of why) (place_of why) (file_laid (is_for_consumers table) plan) (sym lays_file.answered ∙ ap heard_line q) in
        let none = none-laid (number_of why) (place_of why) n in
        passes-refused why r (check_files plan table) e (ap (λ (z : Drawing). z.tasks) none, ap (λ (z : Drawing). z.deadlines) none, s)
        (plan-refused plan table (number_of why) (place_of why) n)

    module _ {line : Line} (fine : x ≡ Ok line) where
      -- the plan that was read is the one that is laid out
      read_is : {C : Type 0} → ((q : rules.Plan) → file_laid (is_for_consumers table) plan ≡ ok q → drawing line tasks releases deadlines ≡ line_of q → p ≡ lay_out q → seen p ≡ q → C) → C
      read_is go =
          laid-sound (file_laid (is_for_consumers table) plan) x lays_file fine λ q is_laid same.
          file-laid (is_for_consumers table) plan q is_laid λ is_read _.
          let held : p ≡ lay_out q = rw (sound, is_read) at reads.left in
          go q is_laid same held (rw held (read_in_seen (is_for_consumers table) plan q is_read))

      pub way_ready : (p ≡ lay_out (seen p)) × (drawing line tasks releases deadlines ≡ line_of (seen p)) × Drawn (seen p)
      way_ready = read_is λ q is_laid same held is. rw is (held, same, file_drawn (is_for_consumers table) plan q is_laid)

      pub way_on : {r : Result Passing Refusal} {pair_tasks pair_deadlines starts : List ℕ} → Passes r pair_tasks pair_deadlines starts (table_passed (seen p) table)
          → Passes r pair_tasks pair_deadlines starts (check_files plan table)
      unfolding check_files table_passed
      way_on {r} h =
          read_is λ q is_laid same held is.
          file-laid (is_for_consumers table) plan q is_laid λ is_read drawn.
          rw (is_read, drawn) (rw is at h)

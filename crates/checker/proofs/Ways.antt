-- The ways out of a check: what each answers is what the rules say there.
use mathlib.Core.Path.{◌≡◌, refl, sym, ap, ◌∙◌}
use mathlib.Core.Bool.{Bool, true, false}
use mathlib.Core.List.{List, [], ◌∷◌, map}
use mathlib.Core.Logic.{◌⊎◌, inl, inr}
use native.Mathlib.Omega.{arith}
use lib.Dec.{lit≤}
use lib.ListN.{length-map}
use Prim.Native.Nat.{ℕ, ◌≤◌, ◌<◌}
use Rattle.rules.specs.Limits.{most_frames}
use Rattle.laws.specs.Res.{Res, ok, refuse, ◌>>◌}
use Rattle.laws.specs.Loops.{pad_to}
use Rattle.laws.proofs.Lists.{true-false}
use Rattle.laws.proofs.Res.{refuse≢ok, ok_injective, refuse-number, refuse-place, bind_case, bind_refused, then_case, then_refused}
use Rattle.units.specs.declared.Offset.{Offset}
use Rattle.rules.specs.Records.{Rec, records, table_follows}
use Rattle.rules.specs.Plan.{Plan}
use Rattle.rules.specs.Traffic.{read_in, traffic}
use Rattle.rules.specs.Frames.{layout, layout_of}
use Rattle.rules.specs.Checker as rules
use Rattle.rules.specs.Checker.{TableRead, table_of, judged, check_files, checked_row, is_for_consumers}
use Rattle.rules.proofs.RecordsExact.{records-refused}
use Rattle.rules.proofs.LaidOut.{laid_out}
use Rattle.rules.proofs.SingleRows.{table_single}
use Rattle.answers.specs.declared.Refusal.{Refusal}
use Rattle.answers.specs.declared.Refusal.TheVariants.{TooFewRows, BadTableRecords}
use Rattle.answers.specs.Refusals.{number_of, place_of, said}
use Rattle.answers.specs.Answered.{judged as heard}
use Rattle.line.specs.declared.Line.{Line}
use Rattle.line.specs.Line.{Drawing, drawing, line_of, task_of, release_of, deadline_of}
use Rattle.line.specs.Laying as laying
use Rattle.line.specs.Laying.{Lays, laid, file_laid, heard_line, line_beside}
use Rattle.table.specs.declared.read.Outcome.TheVariants.{Whole, Broken}
use Rattle.naming.specs.Places.{Numbered}
use Rattle.table.specs.Memory.{ReadTable, lay_out, seen, reading_of}
use Rattle.judging.specs.Judged.{Judgement, judgement, frames_on, line_judged, start_in, NoneEarly, Right}
use Rattle.line.proofs.Drawn.{Drawn, drawn}
use Rattle.judging.proofs.Layouts.{line_numbered, line-controls, line_right}
use Rattle.rows.specs.Frames.{rows_with, NoRows}
use Rattle.rows.specs.Rows.{Rows, row_task, row_release, row_deadline, row_start, rows_laid}
use Rattle.std.specs.Prelude.{Result, Ok, Err}
use Rattle.checker.specs.Unscanned.{ByTable, Judged, checking, refuses, Settles}
use Rattle.checker.specs.declared.CheckedRows.{CheckedRows}
use Rattle.checker.specs.declared.Ruling.{Ruling}
use Rattle.checked.specs.Checking.{Checked, Checks, verdict, lent_passed, PassesExactly, RefusesExactly}
use Rattle.checked.proofs.Rules.{enough-is, short-is}
use Rattle.checked.proofs.Exact.{passes-exactly, refuses-exactly}

-- ---- the contracts

abbrev refused_by : Refusal → CheckedRows
refused_by x = record { answer = Err x; frames = 0 }

-- whatever the lent arrays hold
judged-refused : (early : Bool) (lent : ℕ) (x : Refusal) (r : CheckedRows) (tasks releases deadlines starts : List ℕ) (rule : Res rules.Passed)
    → r ≡ refused_by x → rule ≡ said x → Judged early lent (checking r tasks releases deadlines starts) rule
judged-refused early lent x r tasks releases deadlines starts rule e q =
    record { answered = λ _. rw (e, q); left = λ c p. refuse≢ok (sym q ∙ p); few = rw e (lit≤ tt) }

-- what `check` says of its result
abbrev Says : Checked → List ℕ → List ℕ → ℕ → Type 0
Says r plan table lent =
    Checks r (lent_passed plan table lent)
    × (PassesExactly r.answer plan table lent × RefusesExactly r.answer plan table lent)

says : (r : Checked) (plan table : List ℕ) (lent : ℕ) → Checks r (lent_passed plan table lent) → Says r plan table lent
says r plan table lent h =
    (h, (passes-exactly r.answer plan table lent h.answered, refuses-exactly r.answer plan table lent h.answered))

-- with every rule looked at: no rows where it refuses
checks_refused : (x : Refusal) (r : CheckedRows) {tasks releases deadlines starts : List ℕ} (rule : Res rules.Passed) → r ≡ refused_by x
    → NoRows tasks releases deadlines starts → said x ≡ verdict rule → Checks (checking r tasks releases deadlines starts) rule
unfolding rows_laid
checks_refused x r (ok c) e z q = refuse≢ok q
checks_refused x r (refuse n p) e z q = record { answered = rw e q; left = rw (e, z.0, z.1.0, z.1.1.0, z.1.1.1) }

checks_fine : (r : Checked) (rule : Res rules.Passed) {lent : ℕ} → Judged true lent r rule → r.answer ≡ Ok tt → Checks r rule
checks_fine r (ok c) h e = record { answered = h.answered (inl refl); left = h.left c refl }
checks_fine r (refuse n p) h e =
    let z : ok tt ≡ refuse n p = sym (ap heard e) ∙ h.answered (inl refl) in refuse≢ok (sym z)

module _ (plan table : List ℕ) (lent : ℕ) (all : Checked) (h : Judged true lent all (lent_passed plan table lent)) where
  pub way_refused : (why : Refusal) (r : CheckedRows) {tasks releases deadlines starts : List ℕ} → all.answer ≡ Err why → r ≡ refused_by why
      → NoRows tasks releases deadlines starts → Says (checking r tasks releases deadlines starts) plan table lent
  way_refused why r {tasks} {releases} {deadlines} {starts} q e z =
      says (checking r tasks releases deadlines starts) plan table lent
      (checks_refused why r (lent_passed plan table lent) e z (sym (ap heard q) ∙ h.answered (inl refl)))

  pub way_fine : all.answer ≡ Ok tt → Says all plan table lent
  way_fine q = says all plan table lent (checks_fine all (lent_passed plan table lent) h q)

-- ---- a plan that was laid out

pub laid-refused : (n at : ℕ) (rule : Res Plan) → laying.verdict rule ≡ refuse n at → rule ≡ refuse n at
laid-refused n at (ok p) e = refuse≢ok (sym e)
laid-refused n at (refuse m q) e = rw (refuse-number e, refuse-place e)

pub laid-sound : {C : Type 0} (rule : Res Plan) (x : Result Line Refusal) {l : Line} {tasks releases deadlines : List ℕ} → Lays x tasks releases deadlines rule → x ≡ Ok l
    → ((p : Plan) → rule ≡ ok p → drawing l tasks releases deadlines ≡ line_of p → C) → C
laid-sound (ok p) x h e go = go p refl (rw e at h.left)
laid-sound (refuse n at) x h e go =
    let z : ok tt ≡ refuse n at = sym (ap heard_line e) ∙ h.answered in refuse≢ok (sym z)

-- what `judge` requires of a line and its frames
pub drawn_ready : (p : Plan) → Drawn p → {l : Drawing} → l ≡ line_of p → Numbered l.tasks l.deadlines l.frames × (l.controls ≤ 8)
drawn_ready p d same = rw same (line_numbered p d, line-controls p d)

-- a file that passes 1 to 11
pub file-laid : {C : Type 0} (consumers : Bool) (file : List ℕ) (p : Plan) → file_laid consumers file ≡ ok p → (read_in consumers file ≡ ok p → layout p ≡ ok (layout_of p) → C) → C
unfolding laid file_laid
file-laid {C} consumers file p e go =
    bind_case (read_in consumers file) _ e λ q is_read e₁.
    then_case (layout q) (ok q) e₁ λ l is_laid same.
    let is : q ≡ p = ok_injective same in
    go (is_read ∙ ap ok is) (ap layout (sym is) ∙ is_laid ∙ ap ok (sym (laid_out q l is_laid).is ∙ ap layout_of is))

pub file_drawn : (consumers : Bool) (file : List ℕ) (p : Plan) → file_laid consumers file ≡ ok p → Drawn p
file_drawn consumers file p e = file-laid consumers file p e λ is_read is_laid. drawn consumers file p (layout_of p) is_read is_laid

pub judge_ready : (consumers : Bool) (plan : List ℕ) (x : Result Line Refusal) {l : Line} {tasks releases deadlines : List ℕ} → Lays x tasks releases deadlines (file_laid consumers plan) → x ≡ Ok l
    → Numbered tasks deadlines l.frames × (l.controls ≤ 8)
judge_ready consumers plan x h e = laid-sound (file_laid consumers plan) x h e λ p q same. drawn_ready p (file_drawn consumers plan p q) same

-- a plan that 1 to 11 refuse
pub plan-refused : (plan table : List ℕ) (n at : ℕ) → file_laid (is_for_consumers table) plan ≡ refuse n at → check_files plan table ≡ refuse n at
unfolding check_files laid file_laid
plan-refused plan table n at e =
    bind_refused (read_in (is_for_consumers table) plan) _ e (λ a. rw a)
    (λ q a b. then_refused (layout q) (ok q) b (λ c. rw (a, c)) (λ l c f. refuse≢ok (sym f)))

-- ---- a table that was read

pub reading-broken : {C : Type 0} (m : Res (List Rec)) (r : ReadTable) (at : Offset) → r ≡ reading_of m → r.outcome ≡ Broken at
    → ((n : ℕ) → m ≡ refuse n at.0 → C) → C
reading-broken (ok rs) r at e q go =
    let z : Whole ≡ Broken at = sym (ap (λ (x : ReadTable). x.outcome) e) ∙ q in
    let y : ◌≡◌ {A = ℕ} 0 1 = cc in absurd (omega arith)
reading-broken (refuse n p) r at e q go =
    let z : Broken (record { 0 = p }) ≡ Broken at = sym (ap (λ (x : ReadTable). x.outcome) e) ∙ q in
    let same : record { 0 = p } ≡ at = cc in go n (ap (λ (x : Offset). refuse n x.0) same)

pub reading-whole : {C : Type 0} (m : Res (List Rec)) (r : ReadTable) → r ≡ reading_of m → r.outcome ≡ Whole
    → ((rs : List Rec) → m ≡ ok rs → r.table ≡ lay_out (table_of rs) → C) → C
reading-whole (ok rs) r e q go = go rs refl (ap (λ (x : ReadTable). x.table) e)
reading-whole (refuse n p) r e q go =
    let z : Broken (record { 0 = p }) ≡ Whole = sym (ap (λ (x : ReadTable). x.outcome) e) ∙ q in
    let y : ◌≡◌ {A = ℕ} 0 1 = cc in absurd (omega arith)

module _ (m : Res (List Rec)) (reading : ReadTable) (is : reading ≡ reading_of m) (early : Bool) (l : Drawing) (r : CheckedRows) (starts : List ℕ) where
  pub by_broken : (at : Offset) → reading.outcome ≡ Broken at → r ≡ refused_by (BadTableRecords at) → ByTable early l m r starts
  by_broken at q e = reading-broken m reading at is q λ n broken. rw (broken, e)

  pub by_whole : reading.outcome ≡ Whole → {v : Result (Unit {0}) Refusal}
      → Right early l.releases l.frames (line_judged l (seen reading.table)) (frames_on l) (seen reading.table) (judgement v starts)
      → r ≡ record { answer = v; frames = l.frames } → ByTable early l m r starts
  by_whole whole right e = reading-whole m reading is whole λ rs are_rows held. rw (are_rows, e) (refl, rw held at right)

-- ---- the rows of a table that passes

map_twice : {A B : Type 0} (f : A → B) (g : B → ℕ) (h : A → ℕ) (l : List A) → ((a : A) → g (f a) ≡ h a) → map g (map f l) ≡ map h l
map_twice f g h [] e = refl
map_twice f g h (a ∷ l) e = rw (e a, map_twice f g h l e)

-- the frames of a line in arrays, with a start for each
abbrev rows_on : Drawing → List ℕ → Rows
rows_on l starts = rows_with l.frames l.tasks l.releases l.deadlines starts

rows-laid : (p : Plan) (t : TableRead)
    → rows_on (line_of p) (pad_to most_frames 0 (map (start_in t.rows) (layout_of p).pairs)) ≡ rows_laid (map (checked_row t) (layout_of p).pairs)
unfolding line_of rows_laid checked_row start_in
rows-laid p t =
    let pairs = (layout_of p).pairs in
    sym (rw (
      length-map pairs (checked_row t),
      map_twice (checked_row t) row_task task_of pairs (λ f. refl),
      map_twice (checked_row t) row_release release_of pairs (λ f. refl),
      map_twice (checked_row t) row_deadline deadline_of pairs (λ f. refl),
      map_twice (checked_row t) row_start (start_in t.rows) pairs (λ f. refl),
    ))

-- what the rules hand on of a table that passes
abbrev pub passed_of : Plan → TableRead → rules.Passed
passed_of p t = record { plan = p; traffic = traffic p; layout = layout_of p; table = t }

module _ (p : Plan) (d : Drawn p) (t : TableRead) (early : Bool) (j : Judgement)
    (right : Right early (line_of p).releases (line_of p).frames (judged (layout_of p) t) (layout_of p).pairs t j) where
  -- the rules' answer to the judgement
  passing : (m : Res (Unit {0})) → m ≡ verdict (◌>>◌ m (ok (passed_of p t)))
  passing (ok u) = refl
  passing (refuse n at) = refl

  judged-by : (lent : ℕ) (r : Checked) (rule : Res rules.Passed) → most_frames ≤ lent → rule ≡ ◌>>◌ (judged (layout_of p) t) (ok (passed_of p t))
      → r ≡ record { answer = j.verdict; rows = rows_on (line_of p) j.starts } → Judged early lent r rule
  judged-by lent r rule enough q e =
      record {
        answered = λ h. rw (e, q) (right.verdict (looked (rw e at h)) ∙ passing (judged (layout_of p) t));
        left = λ c h. then_case (judged (layout_of p) t) (ok (passed_of p t)) (sym q ∙ h) λ _ passed is.
            rw (e, sym (ok_injective is), right.starts passed) (rows-laid p t);
        few = rw e (line_numbered p d).room;
      }
    where
      looked : (early ≡ true) ⊎ (most_frames ≤ lent → NoneEarly (line_of p).releases j.starts (line_of p).frames) → (early ≡ true) ⊎ NoneEarly (line_of p).releases j.starts (line_of p).frames
      looked (inl h) = inl h
      looked (inr h) = inr (h enough)

-- what is judged right by a line and a table in memory is judged right by the plan and the rows that they stand for
pub right_by : (p : Plan) → Drawn p → (rs : List Rec) {l : Drawing} → l ≡ line_of p → {early : Bool} {j : Judgement}
    → Right early l.releases l.frames (line_judged l (seen (lay_out (table_of rs)))) (frames_on l) (seen (lay_out (table_of rs))) j
    → Right early (line_of p).releases (line_of p).frames (judged (layout_of p) (table_of rs)) (layout_of p).pairs (table_of rs) j
right_by p d rs same right = line_right p d (table_of rs) (table_single rs) (rw same at right)

-- ---- the ways out

module _ (plan table : List ℕ) (lent : ℕ) (early : Bool) (r : CheckedRows) (tasks releases deadlines starts : List ℕ) where
  -- what is promised of the result and the lent arrays
  abbrev Promised : Type 0
  Promised = Judged early lent (checking r tasks releases deadlines starts) (lent_passed plan table lent)

  refused_as : (why : Refusal) → r ≡ refused_by why → lent_passed plan table lent ≡ said why → Promised
  refused_as why = judged-refused early lent why r tasks releases deadlines starts (lent_passed plan table lent)

  -- 19
  pub way_few : lent < most_frames → r ≡ refused_by TooFewRows → Promised
  way_few h e = refused_as TooFewRows e (short-is plan table lent h)

  module _ (enough : most_frames ≤ lent) (x : Result Line Refusal) (h : Lays x tasks releases deadlines (file_laid (is_for_consumers table) plan)) where
    -- 1 to 11
    pub way_plan : (why : Refusal) → x ≡ Err why → r ≡ refused_by why → Promised
    way_plan why q e =
        let n : file_laid (is_for_consumers table) plan ≡ said why = laid-refused (number_of why) (place_of why) (file_laid (is_for_consumers table) plan) (sym h.answered ∙ ap heard_line q) in
        refused_as why e (enough-is plan table lent enough ∙ plan-refused plan table (number_of why) (place_of why) n)

    module _ {line : Line} (sound : x ≡ Ok line) where
      -- 20
      broken-refused : (p : Plan) → file_laid (is_for_consumers table) plan ≡ ok p → (n at : ℕ) → records table_follows 20 table ≡ refuse n at → check_files plan table ≡ refuse 20 at
      unfolding check_files
      broken-refused p laid n at e =
          file-laid (is_for_consumers table) plan p laid λ is_read is_laid. rw (is_read, is_laid, e, ((records-refused table_follows 20 table n at).0 e).0)

      -- 21 to 28
      judged-is : (p : Plan) (rs : List Rec) → file_laid (is_for_consumers table) plan ≡ ok p → records table_follows 20 table ≡ ok rs
          → lent_passed plan table lent ≡ ◌>>◌ (judged (layout_of p) (table_of rs)) (ok (passed_of p (table_of rs)))
      unfolding check_files
      judged-is p rs laid are_rows = enough-is plan table lent enough ∙ file-laid (is_for_consumers table) plan p laid λ is_read is_laid. rw (is_read, is_laid, are_rows)

      -- the line and its frames
      abbrev l : Drawing
      l = drawing line tasks releases deadlines

      pub way_table : ByTable early l (records table_follows 20 table) r starts → Promised
      way_table by = laid-sound (file_laid (is_for_consumers table) plan) x h sound λ p laid same. go p laid same (records table_follows 20 table) refl by
        where
          go : (p : Plan) → file_laid (is_for_consumers table) plan ≡ ok p → l ≡ line_of p → (m : Res (List Rec)) → records table_follows 20 table ≡ m → ByTable early l m r starts
              → Promised
          go p laid same (refuse n at) broken by =
              refused_as (BadTableRecords (record { 0 = at })) by (enough-is plan table lent enough ∙ broken-refused p laid n at broken)
          go p laid same (ok rs) are_rows by =
              let d = file_drawn (is_for_consumers table) plan p laid in
              judged-by p d (table_of rs) early (judgement r.answer starts) (right_by p d rs same by.1) lent (checking r tasks releases deadlines starts)
              (lent_passed plan table lent) enough (judged-is p rs laid are_rows)
              (ap {B = Checked} (λ (n : ℕ). record { answer = r.answer; rows = rows_with n tasks releases deadlines starts }) by.0
              ∙ ap {B = Checked} (λ (z : Drawing). record { answer = r.answer; rows = rows_on z starts }) same)

-- ---- after the scan

module _ (before : Result (Unit {0}) Refusal) (rule : Res rules.Passed) (r : Ruling) where
  pub settles_whole : (lent : ℕ) (all : Checked) → Judged true lent all rule → (r.answer ≡ all.answer) × (r.refused ≡ refuses all.answer) → Settles true before rule r
  settles_whole lent all h e = record { whole = λ _. rw e.0 (h.answered (inl refl)); kept = λ q. true-false q; refused = e.1 ∙ ap refuses (sym e.0) }

  pub settles_kept : (r.answer ≡ before) × (r.refused ≡ refuses before) → Settles false before rule r
  settles_kept e = record { whole = λ q. true-false (sym q); kept = λ _. e.0; refused = e.1 ∙ ap refuses (sym e.0) }

-- The ways out of writing a sheet: what each leaves is what the rules say there.
use mathlib.Core.Path.{◌≡◌, refl, sym, ap, ◌∙◌}
use mathlib.Core.Bool.{true}
use mathlib.Core.List.{List, ◌++◌, append-nil}
use mathlib.Core.Logic.{inl}
use native.Mathlib.Nat.{zero-add}
use native.Mathlib.Omega.{arith}
use borrow.Author.Tests.{le-leb, lt-leb}
use lib.ListN.{length, replicate}
use lib.Seq.{sets}
use Prim.Native.Nat.{ℕ, ◌+◌, ◌≤◌, ◌<◌, min}
use Rattle.laws.specs.Res.{Res, ok, refuse, ◌>>◌}
use Rattle.laws.specs.Loops.{stores}
use Rattle.laws.proofs.Res.{refuse≢ok, bind_refused, then_refused}
use Rattle.rules.specs.Limits.{most_nodes, most_frames}
use Rattle.rules.specs.Records.{Rec, records, table_follows}
use Rattle.rules.specs.Plan as rules
use Rattle.rules.specs.Traffic.{read_in}
use Rattle.rules.specs.Frames.{layout, layout_of}
use Rattle.rules.specs.Checker.{check_files, is_for_consumers, judged, located, shaped, table_of, timed}
use Rattle.rules.proofs.RecordsExact.{records-refused}
use Rattle.rules.proofs.RefusalNumbers.{shaped-gives, timed-gives}
use Rattle.answers.specs.declared.Refusal.{Refusal}
use Rattle.answers.specs.declared.Refusal.TheVariants.{BadTableRecords}
use Rattle.units.specs.declared.Offset.{Offset}
use Rattle.answers.specs.Refusals.{number_of, place_of, said}
use Rattle.plan.specs.Memory as planned
use Rattle.plan.specs.Memory.{seen}
use Rattle.planrules.specs.Reading.{Reads, heard_reading}
use Rattle.plan.specs.declared.Plan.{Plan}
use Rattle.answers.specs.Answered as answered
use Rattle.std.specs.Prelude.{Result, Ok, Err}
use Rattle.line.specs.declared.Line.{Line}
use Rattle.line.specs.Line.{Drawing, drawing, line_of}
use Rattle.line.proofs.Drawn.{Drawn, drawn}
use Rattle.naming.specs.Places.{Numbered, number_at}
use Rattle.judging.specs.Judged.{Right, frames_on, judgement, line_judged}
use Rattle.line.specs.Laying.{Lays, file_laid, heard_line, laid}
use Rattle.line.proofs.Reading.{read_in_seen, sound-laid}
use Rattle.table.specs.declared.read.Outcome.TheVariants.{Broken, Whole}
use Rattle.table.specs.Memory as tabled
use Rattle.table.specs.Memory.{ReadTable, Table, lay_out, reading_of}
use Rattle.checked.specs.Checking.{verdict}
use Rattle.checker.specs.Passing.{table_passed}
use Rattle.checker.proofs.Ways.{drawn_ready, file-laid, laid-refused, laid-sound, passed_of, plan-refused, reading-broken, reading-whole, right_by}
use Rattle.checker.proofs.Handing.{read-refused}
use Rattle.text.specs.Text.{ended, refused_line, texts}
use Rattle.text.proofs.Decimals.{refused-line-most}
use Rattle.text.proofs.Putting.{Put, both_put, at_front}
use Rattle.sheet.specs.Sheet.{cycle_line, head_line, on_top, sheet_of, sheet_text, text_for}
use Rattle.sheetwriter.specs.declared.Written.{Written}
use Rattle.sheetwriter.specs.Memory.{control_text_in, data_text_in, printed_text, sheet_in}
use Rattle.sheetwriter.specs.Writing.{FromFile, Prints, Writes, table_located}
use Rattle.sheetwriter.proofs.Laid.{numbers_of, sheet-laid}

-- ---- a sheet put part by part

pub sheet-put : (p : rules.Plan) (t : Table) (releases frames : List ℕ) (b b₁ b₂ b₃ b₄ : List ℕ) (at k₁ k₂ k₃ k₄ : ℕ) {controls rows : ℕ}
    → controls ≡ min t.controls most_nodes → rows ≡ min t.rows most_frames
    → Put b at (ended (cycle_line p.consumers t.header.period.0)) b₁ k₁ → Put b₁ k₁ (ended head_line) b₂ k₂
    → Put b₂ k₂ (texts (control_text_in p t.control_nodes t.control_starts t.control_stops) controls) b₃ k₃
    → Put b₃ k₃ (texts (data_text_in p (1 + controls) t.tasks t.deadlines t.starts t.stops releases frames) rows) b₄ k₄
    → Put b at (sheet_in p t releases frames) b₄ k₄
unfolding sheet_in
sheet-put p t releases frames b b₁ b₂ b₃ b₄ at k₁ k₂ k₃ k₄ c r q₁ q₂ q₃ q₄ =
    let controls = texts (control_text_in p t.control_nodes t.control_starts t.control_stops) (min t.controls most_nodes) in
    let rows = texts (data_text_in p (1 + min t.controls most_nodes) t.tasks t.deadlines t.starts t.stops releases frames) (min t.rows most_frames) in
    let cycle = ended (cycle_line p.consumers t.header.period.0) in
    both_put b b₁ b₄ cycle (ended head_line ++ (controls ++ rows)) at k₁ k₄ q₁
    (both_put b₁ b₂ b₄ (ended head_line) (controls ++ rows) k₁ k₂ k₄ q₂ (both_put b₂ b₃ b₄ controls rows k₂ k₃ k₄ (rw c at q₃) (rw (c, r) at q₄)))

-- ---- printed by a judgement

module _ (old left : List ℕ) (r : Written) where
  pub printed-fine : (sheet : List ℕ) {n : ℕ} → Put old 0 sheet left n → r ≡ record { answer = Ok tt; length = n } → Prints r old left (ok tt) sheet
  printed-fine sheet {n} p e = let q = at_front old sheet left n p in rw e (record { answered = refl; put = q.0; long = q.1 })

  -- the line alone
  pub printed-line : (why : Refusal) {n : ℕ} → (left ≡ sets old 0 (refused_line (number_of why) (place_of why))) × (n ≡ length (refused_line (number_of why) (place_of why)))
      → r ≡ record { answer = Err why; length = n } → Prints r old left (said why) (refused_line (number_of why) (place_of why))
  printed-line why q e = rw e (record { answered = refl; put = q.0; long = q.1 })

  pub line-alone : (why : Refusal) {number place n : ℕ} → number ≡ number_of why → place ≡ place_of why → number < 18446744073709551616 → place < 18446744073709551616
      → (left ≡ sets old 0 (refused_line number place)) × (n ≡ length (refused_line number place)) → r ≡ record { answer = Err why; length = n }
      → Prints r old left (said why) (refused_line (number_of why) (place_of why)) × (r.length ≤ 53)
  line-alone why {number} {place} a b h k q e =
      let few : length (refused_line number place) ≤ 53 = refused-line-most number place h k in
      let long = q.1 in
      (printed-line why (rw (a, b) at q) e, rw e (omega arith))

  module _ (why : Refusal) (sheet : List ℕ) where
    pub printed-early : number_of why < 25 → {n : ℕ} → (left ≡ sets old 0 (refused_line (number_of why) (place_of why))) × (n ≡ length (refused_line (number_of why) (place_of why)))
        → r ≡ record { answer = Err why; length = n } → Prints r old left (said why) (printed_text (said why) sheet)
    printed-early h q e =
        rw (lt-leb 25 (number_of why) h, append-nil (refused_line (number_of why) (place_of why))) (printed-line why q e)

    -- the same, with the numbers as they were found
    pub early-printed : {number place again n : ℕ} → number ≡ number_of why → place ≡ place_of why → number < 18446744073709551616 → place < 18446744073709551616
        → again ≡ number_of why → again < 25 → (left ≡ sets old 0 (refused_line number place)) × (n ≡ length (refused_line number place))
        → r ≡ record { answer = Err why; length = n } → Prints r old left (said why) (printed_text (said why) sheet) × (r.length ≤ 262144)
    early-printed {number} {place} a b h k c w q e =
        let few : length (refused_line number place) ≤ 53 = refused-line-most number place h k in
        let long = q.1 in
        (printed-early (rw c at w) (rw (a, b) at q) e, rw e (omega arith))

    pub printed-late : 25 ≤ number_of why → (mid : List ℕ) {k n : ℕ}
        → (mid ≡ sets old 0 (refused_line (number_of why) (place_of why))) × (k ≡ length (refused_line (number_of why) (place_of why))) → Put mid k sheet left n
        → r ≡ record { answer = Err why; length = n } → Prints r old left (said why) (printed_text (said why) sheet)
    printed-late h mid {k} {n} top rest e =
        let line = refused_line (number_of why) (place_of why) in
        let q = at_front old (line ++ sheet) left n (both_put old mid left line sheet 0 k n (top.0, top.1 ∙ sym (zero-add (length line))) rest) in
        rw (le-leb 25 (number_of why) h, e) (record { answered = refl; put = q.0; long = q.1 })

module _ (old left : List ℕ) (r : Written) (why : Refusal) (sheet : List ℕ) where
  pub late-printed : {number place again k n : ℕ} (mid : List ℕ) → number ≡ number_of why → place ≡ place_of why → number < 18446744073709551616 → place < 18446744073709551616
      → again ≡ number_of why → 25 ≤ again → (mid ≡ sets old 0 (refused_line number place)) × (k ≡ length (refused_line number place)) → Put mid k sheet left n
      → n ≤ k + 254062 → r ≡ record { answer = Err why; length = n } → Prints r old left (said why) (printed_text (said why) sheet) × (r.length ≤ 262144)
  late-printed {number} {place} mid a b h k c w q rest end e =
      let few : length (refused_line number place) ≤ 53 = refused-line-most number place h k in
      let long = q.1 in
      (printed-late old left r why sheet (rw c at w) mid (rw (a, b) at q) rest e, rw e (omega arith))

-- ---- by a plan that is laid out

-- what is printed by the judgement of a table is the text that the rules ask for
module _ (p : rules.Plan) (table : List ℕ) (from : FromFile (is_for_consumers table) p) (rs : List Rec) (are_rows : records table_follows 20 table ≡ ok rs) where
  abbrev sheet : List ℕ
  sheet = sheet_in p (lay_out (table_of rs)) (line_of p).releases (numbers_of p (table_of rs))

  below : (n q : ℕ) → n ≤ 24 → printed_text (refuse n q) sheet ≡ refused_line n q
  below n q h = rw (lt-leb 25 n (omega arith)) (append-nil (refused_line n q))

  above : shaped (layout_of p) (table_of rs) ≡ ok tt → (m : Res (Unit {0})) → timed (layout_of p) (table_of rs) ≡ m
      → printed_text m sheet ≡ on_top m ++ sheet_of (passed_of p (table_of rs))
  above shape (ok u) e = sheet-laid from.file table p from.is_read from.is_laid rs are_rows shape
  above shape (refuse n q) e =
      let late : 25 ≤ n = ((timed-gives (layout_of p) (table_of rs)).number n q e).0 in
      rw (le-leb 25 n late) (ap (λ (l : List ℕ). refused_line n q ++ l) (sheet-laid from.file table p from.is_read from.is_laid rs are_rows shape))

  printed-is : (m : Res (Unit {0})) → shaped (layout_of p) (table_of rs) ≡ m
      → printed_text (◌>>◌ m (timed (layout_of p) (table_of rs))) sheet ≡ text_for (◌>>◌ m (ok (passed_of p (table_of rs))))
  printed-is (ok u) e = above e (timed (layout_of p) (table_of rs)) refl
  printed-is (refuse n q) e = below n q ((shaped-gives (layout_of p) (table_of rs)).number n q e).1

  passing : (m : Res (Unit {0})) → verdict (◌>>◌ m (ok (passed_of p (table_of rs)))) ≡ m
  passing (ok u) = refl
  passing (refuse n q) = refl

  -- 21 to 28
  pub by_rows : {r : Written} {old left : List ℕ} (v : Result (Unit {0}) Refusal) → answered.judged v ≡ judged (layout_of p) (table_of rs)
      → Prints r old left (answered.judged v) (printed_text (answered.judged v) sheet) → Prints r old left (verdict (table_passed p table)) (text_for (table_located p table))
  unfolding table_passed table_located judged
  by_rows v e h =
      rw (are_rows, passing (judged (layout_of p) (table_of rs)), ← printed-is (shaped (layout_of p) (table_of rs)) refl) (rw e at h)

module _ (p : rules.Plan) (table : List ℕ) where
  -- 20
  pub by_broken : (n : ℕ) (at : Offset) → records table_follows 20 table ≡ refuse n at.0 → {r : Written} {old left : List ℕ}
      → Prints r old left (said (BadTableRecords at)) (refused_line 20 at.0) → Prints r old left (verdict (table_passed p table)) (text_for (table_located p table))
  unfolding table_passed table_located
  by_broken n at e h =
      let is : records table_follows 20 table ≡ refuse 20 at.0 = e ∙ ap (λ (k : ℕ). refuse k at.0) ((records-refused table_follows 20 table n at.0).0 e).0 in
      rw is h

-- a plan in memory with its line and its pairs, and what was read of a table file
module _ (p : Plan) (line : Line) (tasks releases deadlines table : List ℕ)
    (ready : (p ≡ planned.lay_out (seen p)) × (drawing line tasks releases deadlines ≡ line_of (seen p)) × FromFile (is_for_consumers table) (seen p)) where
  is_drawn : Drawn (seen p)
  is_drawn = drawn (is_for_consumers table) ready.2.file (seen p) (layout_of (seen p)) ready.2.is_read ready.2.is_laid

  pub judge_ready : Numbered tasks deadlines line.frames × (line.controls ≤ 8)
  judge_ready = drawn_ready (seen p) is_drawn ready.1

  module _ (reading : ReadTable) (is : reading ≡ reading_of (records table_follows 20 table)) (r : Written) (old left : List ℕ) where
    -- what is promised
    abbrev Promised : Type 0
    Promised = Prints r old left (verdict (table_passed (seen p) table)) (text_for (table_located (seen p) table)) × (r.length ≤ 262144)

    pub on_broken : (at : Offset) → reading.outcome ≡ Broken at
        → Prints r old left (said (BadTableRecords at)) (refused_line 20 at.0) × (r.length ≤ 53) → Promised
    on_broken at q h =
        reading-broken (records table_follows 20 table) reading at is q λ n broken. (by_broken (seen p) table n at broken h.0, omega (arith, h.1))

    pub on_rows : reading.outcome ≡ Whole → (v : Result (Unit {0}) Refusal) {starts frames : List ℕ} {rows : ℕ}
        → Right true releases line.frames (line_judged (drawing line tasks releases deadlines) (tabled.seen reading.table))
        (frames_on (drawing line tasks releases deadlines)) (tabled.seen reading.table) (judgement v starts)
        → rows ≡ min reading.table.rows most_frames
        → frames ≡ stores (replicate most_frames 0) (number_at tasks deadlines line.frames reading.table.tasks reading.table.deadlines) rows
        → Prints r old left (answered.judged v) (printed_text (answered.judged v) (sheet_in (seen p) reading.table releases frames)) × (r.length ≤ 262144) → Promised
    unfolding lay_out
    on_rows whole v right n e h =
        reading-whole (records table_follows 20 table) reading is whole λ rs are_rows held.
        let says = right_by (seen p) is_drawn rs ready.1 (rw held at right) in
        let judged-is : answered.judged v ≡ judged (layout_of (seen p)) (table_of rs) = says.verdict (inl refl) in
        let same = ready.1 in
        let printed = rw (e, n, held, ap (λ (d : Drawing). d.tasks) same, ap (λ (d : Drawing). d.deadlines) same, ap (λ (d : Drawing). d.releases) same, ap (λ (d : Drawing). d.frames) same) at h.0 in
        (by_rows (seen p) table ready.2 rs are_rows v judged-is printed, h.1)

-- ---- by a plan file

-- a plan file that 1 to 11 refuse
located-refused : (plan table : List ℕ) (n at : ℕ) → file_laid (is_for_consumers table) plan ≡ refuse n at → located plan table ≡ refuse n at
unfolding located laid file_laid
located-refused plan table n at e =
    bind_refused (read_in (is_for_consumers table) plan) _ e (λ a. rw a)
    (λ q a b. then_refused (layout q) (ok q) b (λ c. rw (a, c)) (λ l c f. refuse≢ok (sym f)))

refused_writes : (plan table : List ℕ) (why : Refusal) → check_files plan table ≡ said why → located plan table ≡ said why → {r : Written} {old left : List ℕ}
    → Prints r old left (said why) (refused_line (number_of why) (place_of why)) → Writes r old left plan table
unfolding sheet_text
refused_writes plan table why e q h = rw (e, q) h

module _ (plan table : List ℕ) (reading : Result Plan Refusal) (reads : Reads reading (read_in (is_for_consumers table) plan)) where
  pub way_unread : {r : Written} {old left : List ℕ} (why : Refusal) → reading ≡ Err why → Prints r old left (said why) (refused_line (number_of why) (place_of why))
      → Writes r old left plan table
  unfolding check_files located
  way_unread why q h =
      let n : read_in (is_for_consumers table) plan ≡ said why = read-refused (number_of why) (place_of why) (read_in (is_for_consumers table) plan) (sym reads.answered ∙ ap heard_reading q) in
      refused_writes plan table why (rw n) (rw n) h

  module _ {p : Plan} (sound : reading ≡ Ok p) (x : Result Line Refusal) {tasks releases deadlines : List ℕ} (lays : Lays x tasks releases deadlines (laid (seen p))) where
    lays_file : Lays x tasks releases deadlines (file_laid (is_for_consumers table) plan)
    lays_file = sound-laid (is_for_consumers table) plan reading reads x sound lays

    pub way_unlaid : {r : Written} {old left : List ℕ} (why : Refusal) → x ≡ Err why → Prints r old left (said why) (refused_line (number_of why) (place_of why))
        → Writes r old left plan table
    way_unlaid why q h =
        let n : file_laid (is_for_consumers table) plan ≡ said why = laid-refused (number_of why) (place_of why) (file_laid (is_for_consumers table) plan) (sym lays_file.answered ∙ ap heard_line q) in
        refused_writes plan table why (plan-refused plan table (number_of why) (place_of why) n) (located-refused plan table (number_of why) (place_of why) n) h

    module _ {l : Line} (fine : x ≡ Ok l) where
      -- the plan that was read is the one that is laid out
      read_is : {C : Type 0} → ((q : rules.Plan) → drawing l tasks releases deadlines ≡ line_of q → p ≡ planned.lay_out q → seen p ≡ q
          → read_in (is_for_consumers table) plan ≡ ok q → layout q ≡ ok (layout_of q) → C) → C
      read_is go =
          laid-sound (file_laid (is_for_consumers table) plan) x lays_file fine λ q is_laid same.
          file-laid (is_for_consumers table) plan q is_laid λ is_read drawn.
          let held : p ≡ planned.lay_out q = rw (sound, is_read) at reads.left in
          go q same held (rw held (read_in_seen (is_for_consumers table) plan q is_read)) is_read drawn

      pub way_ready : (p ≡ planned.lay_out (seen p)) × (drawing l tasks releases deadlines ≡ line_of (seen p)) × FromFile (is_for_consumers table) (seen p)
      way_ready = read_is λ q same held is is_read drawn. rw is (held, same, record { file = plan; is_read = is_read; is_laid = drawn })

      pub way_on : {r : Written} {old left : List ℕ} → Prints r old left (verdict (table_passed (seen p) table)) (text_for (table_located (seen p) table))
          → Writes r old left plan table
      unfolding check_files located table_passed table_located sheet_text
      way_on h = read_is λ q same held is is_read drawn. rw (is_read, drawn) (rw is at h)

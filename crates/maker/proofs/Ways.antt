-- The ways out of making a table from a plan file, one law each.
use mathlib.Core.Path.{◌≡◌, refl, sym, ap, ap₂, ◌∙◌}
use mathlib.Core.List.{List}
use borrow.Author.Tests.{le-leb, lt-leb, le-ltb, lt-ltb}
use lib.Dec.{leb}
use lib.ListN.{length, take, drop, replicate}
use lib.Seq.{take_at}
use Prim.Native.Nat.{ℕ, ◌≤◌, ◌<◌}
use Rattle.laws.specs.Res.{Res, ok, refuse, unless}
use Rattle.laws.proofs.Res.{refuse≢ok, ok_injective, refuse-number, refuse-place, bind_case, bind_refused, then_case, then_refused}
use Rattle.rules.specs.Plan.{Plan}
use Rattle.rules.specs.Limits.{most_frames}
use Rattle.rules.specs.Frames.{Layout, layout, layout_of}
use Rattle.rules.specs.Table.{MadeTable, table_for}
use Rattle.rules.specs.Checker.{check}
use Rattle.rules.proofs.LaidOut.{laid_out}
use Rattle.rules.proofs.MadePasses.{table-made, made_checked}
use Rattle.answers.specs.declared.Refusal.{Refusal}
use Rattle.answers.specs.Refusals.{said}
use Rattle.std.specs.Prelude.{Result, Ok, Err}
use Rattle.line.specs.declared.Line.{Line}
use Rattle.line.specs.Line.{Drawing, drawing, no_line, line_of, line_for}
use Rattle.line.specs.Laying.{Lays, laid, file_laid, verdict, heard_line, line_beside}
use Rattle.rows.specs.Rows.{Rows}
use Rattle.rows.specs.Frames.{NoRows}
use Rattle.linetable.specs.Making.{Making, Makes, heard_made, length_of, buffer_left}
use Rattle.linetable.specs.Steps.{Stands, laid_table}
use Rattle.linetable.proofs.Ways.{makes_refused, no_rows}
use Rattle.maker.specs.declared.MadeRows.{MadeRows}
use Rattle.maker.specs.Making.{PassesCheck, lent_for, making, is_edition, for_consumers}
use Rattle.rules.specs.Traffic.{read_in}
use native.Mathlib.Omega.{arith}

-- ---- 19, and refusals 1 to 11

module _ (edition : ℕ) (plan : List ℕ) (lent room : ℕ) where
  pub too_few-rows : lent < most_frames → lent_for edition plan lent room ≡ refuse 19 most_frames
  unfolding lent_for
  too_few-rows h = rw (lt-leb most_frames lent h)

  pub no-edition : most_frames ≤ lent → 1 < edition → lent_for edition plan lent room ≡ refuse 62 edition
  unfolding lent_for is_edition
  no-edition h e = rw (le-leb most_frames lent h, le-ltb edition 2 e)

  rows-enough : most_frames ≤ lent → edition ≤ 1 → lent_for edition plan lent room ≡ table_for (for_consumers edition) plan room
  unfolding lent_for is_edition
  rows-enough h e = rw (le-leb most_frames lent h, lt-ltb edition 2 (omega (arith, e)))

  -- the plan's refusal is the table's
  file-refused : (n p : ℕ) → file_laid (for_consumers edition) plan ≡ refuse n p → table_for (for_consumers edition) plan room ≡ refuse n p
  unfolding file_laid laid table_for
  file-refused n p e =
      bind_refused (read_in (for_consumers edition) plan) laid e (λ q. rw q) λ a q r.
      then_refused (layout a) (ok a) r (λ z. rw (q, z)) (λ _ _ z. refuse≢ok (sym z))

  file-laid : (p : Plan) (l : Layout) → read_in (for_consumers edition) plan ≡ ok p → layout p ≡ ok l → table_for (for_consumers edition) plan room ≡ laid_table l room
  unfolding table_for laid_table
  file-laid p l q r = rw (q, r)

  module _ (enough : most_frames ≤ lent) (known : edition ≤ 1) (r : Result Line Refusal) {tasks releases deadlines : List ℕ} (h : Lays r tasks releases deadlines (file_laid (for_consumers edition) plan)) where
    -- the rules refuse the plan for the same reason, and no frames were left
    pub record RefusedFor (why : Refusal) : Type 0 where
      pub rule : lent_for edition plan lent room ≡ said why
      pub frames : drawing (line_beside r) tasks releases deadlines ≡ no_line

    pub plan-refused : (why : Refusal) → r ≡ Err why → RefusedFor why
    plan-refused why e = go (file_laid (for_consumers edition) plan) refl (sym (ap heard_line e) ∙ h.answered) h.left
      where
        go : (rule : Res Plan) → file_laid (for_consumers edition) plan ≡ rule → said why ≡ verdict rule → drawing (line_beside r) tasks releases deadlines ≡ line_for rule → RefusedFor why
        go (ok a) q v w = refuse≢ok v
        go (refuse n p) q v w =
            record {
              rule = rows-enough enough known ∙ file-refused n p q ∙ ap₂ refuse (sym (refuse-number v)) (sym (refuse-place v));
              frames = w;
            }

    pub record StandsFor (l : Line) : Type 0 where
      pub stands : Stands (drawing l tasks releases deadlines)
      pub rule : lent_for edition plan lent room ≡ laid_table (layout_of stands.plan) room

    pub plan-sound : {l : Line} → r ≡ Ok l → StandsFor l
    unfolding file_laid laid
    plan-sound {l} e = go (file_laid (for_consumers edition) plan) refl (sym (ap heard_line e) ∙ h.answered) (rw e at h.left)
      where
        go : (rule : Res Plan) → file_laid (for_consumers edition) plan ≡ rule → ok tt ≡ verdict rule → drawing l tasks releases deadlines ≡ line_for rule → StandsFor l
        go (ok a) q v w =
            bind_case (read_in (for_consumers edition) plan) laid q λ p is_read x.
            then_case (layout p) (ok p) x λ l y same.
            let is_laid : layout p ≡ ok (layout_of p) = rw (laid_out p l y).is y in
            record {
              stands = record { consumers = for_consumers edition; file = plan; plan = p; is_read = is_read; is_laid = is_laid; is = w ∙ ap line_of (sym (ok_injective same)) };
              rule = rows-enough enough known ∙ file-laid p (layout_of p) is_read is_laid;
            }
        go (refuse n p) q v w = refuse≢ok (sym v)

-- ---- a made table passes the checker

pub made-table-passes : (edition : ℕ) (plan : List ℕ) (lent : ℕ) (r : Making) (before after : List ℕ) → Makes r before after (lent_for edition plan lent (length before))
    → PassesCheck plan r.answer after
unfolding PassesCheck lent_for
made-table-passes edition plan lent r before after m n e rows w =
    go (lent_for edition plan lent (length before)) refl (sym (ap heard_made e) ∙ m.answered) m.written
  where
    go : (rule : Res MadeTable) → lent_for edition plan lent (length before) ≡ rule → ok n ≡ length_of rule → after ≡ buffer_left rule before
        → (check plan (take n after) rows).answer ≡ ok tt
    go (refuse k p) q v u = refuse≢ok (sym v)
    go (ok t) q v u =
        then_case (unless 19 most_frames (leb most_frames lent)) _ q λ _ _ q₁.
        then_case (unless 62 edition (is_edition edition)) (table_for (for_consumers edition) plan (length before)) q₁ λ _ _ made.
        let long : length t.table ≡ n = sym (ok_injective v) in
        rw (u, take_at t.table (drop (length t.table) before) n long, made_checked (table-made (for_consumers edition) plan (length before) t made) rows w)

-- ---- what `made` says of its result

module _ (edition : ℕ) (plan : List ℕ) (lent : ℕ) where
  made-says : (r : Making) (before after : List ℕ) → Makes r before after (lent_for edition plan lent (length before))
      → Makes r before after (lent_for edition plan lent (length before)) × PassesCheck plan r.answer after
  made-says r before after m = (m, made-table-passes edition plan lent r before after m)

  -- a refusal leaves zeros in the arrays
  pub refused-made : (why : Refusal) (r : MadeRows) (buffer : List ℕ) {tasks releases deadlines starts : List ℕ} → r ≡ record { answer = Err why; frames = 0 }
      → NoRows tasks releases deadlines starts → lent_for edition plan lent (length buffer) ≡ said why
      → Makes (making r tasks releases deadlines starts) buffer buffer (lent_for edition plan lent (length buffer)) × PassesCheck plan r.answer buffer
  refused-made why r buffer e z q =
      made-says _ buffer buffer
      (makes_refused why _ buffer buffer _ (rw e (ap (λ (rows : Rows). record { answer = Err why; rows = rows }) (no_rows z))) refl q)

  module _ {enough : most_frames ≤ lent} {known : edition ≤ 1} (laid : Result Line Refusal) {tasks releases deadlines : List ℕ} {h : Lays laid tasks releases deadlines (file_laid (for_consumers edition) plan)} where
    -- where the plan is refused, the frames are none, so that the arrays are zeros as the starts are
    pub none_left : {room : ℕ} {why : Refusal} {starts : List ℕ} → RefusedFor edition plan lent room enough known laid h why → starts ≡ replicate most_frames 0
        → NoRows tasks releases deadlines starts
    unfolding no_line
    none_left f z =
        (ap (λ (d : Drawing). d.tasks) f.frames, (ap (λ (d : Drawing). d.releases) f.frames, (ap (λ (d : Drawing). d.deadlines) f.frames, z)))

    pub placed-made : (r : Making) (before after : List ℕ) {l : Line} (f : StandsFor edition plan lent (length before) enough known laid h l)
        → ((s : Stands (drawing l tasks releases deadlines)) → Makes r before after (laid_table (layout_of s.plan) (length before)))
        → Makes r before after (lent_for edition plan lent (length before)) × PassesCheck plan r.answer after
    placed-made r before after f m = made-says r before after (rw f.rule (m f.stands))

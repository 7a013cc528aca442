-- The ways of a beginning over plain variables: what is kept of a passed plan and table is what the rules keep, the starting places are
-- tested by the rules' own test, and the state at the start is laid over it.
use mathlib.Core.Path.{◌≡◌, refl, sym, ap, ◌∙◌, subst}
use mathlib.Core.Bool.{Bool, true, false, ◌&&◌}
use mathlib.Core.List.{List}
use mathlib.Core.Option.{Option, none, some}
use native.Mathlib.Nat.{zero-add}
use native.Mathlib.Omega.{arith}
use borrow.Author.Tests.{ltb-true}
use lib.Dec.{eqb, ltb}
use lib.ListN.{get_or}
use Prim.Native.Nat.{ℕ, ◌≤◌, ◌<◌}
use Rattle.rules.specs.Limits.{most_frames}
use Rattle.laws.specs.Lists.{first_bad, tab, up_to}
use Rattle.laws.specs.Res.{Res, ok, refuse, ◌>>◌, at}
use Rattle.laws.proofs.Bus.{table_at}
use Rattle.laws.proofs.Res.{refuse≢ok, refuse-number, refuse-place}
use Rattle.laws.proofs.Turns.{same_bad}
use Rattle.rules.specs.Plan.{Plan}
use Rattle.rules.specs.Traffic.{traffic, read_in}
use Rattle.rules.specs.Frames.{Layout, layout_of, pairs}
use Rattle.rules.specs.Checker.{TableRead, Passed, check_files, table_of, is_for_consumers}
use Rattle.rules.specs.Obeys.{ObeysTable}
use Rattle.rules.specs.Station as rules
use Rattle.rules.specs.Station.{Kept, holds_mode_of, is_mode_of, starts_well, state_at_start}
use Rattle.rules.proofs.CheckerExact.{passed_says, passed_passes}
use Rattle.rules.proofs.LaidOut.{laid_out}
use Rattle.rules.proofs.PlanKept.{PlanKept}
use Rattle.rules.proofs.StationStays.{kept-begins}
use Rattle.answers.specs.Refusals.{number_of, place_of, said}
use Rattle.answers.specs.declared.Refusal.{Refusal}
use Rattle.std.specs.Prelude.{Ok, Err}
use Rattle.plan.specs.Memory.{seen}
use Rattle.line.specs.Line.{line_in, line_of}
use Rattle.line.proofs.Drawn.{Drawn, drawn}
use Rattle.line.proofs.Reading.{read_in_seen}
use Rattle.checked.specs.Checking.{verdict}
use Rattle.checker.specs.Passing.{Passes, line_for, plan_for, starts_of}
use Rattle.checker.specs.declared.Passing.{Passing}
use Rattle.stationruns.specs.Inputs.{starting_at}
use Rattle.stationruns.specs.declared.Starting.{Starting}
use Rattle.station.specs.Memory.{held_laid, laid, node_laid, not_begun, play_laid}
use Rattle.station.specs.declared.Station.{Station}
use Rattle.keeping.specs.Keeping.{StopsFit, kept_from}
use Rattle.starting.specs.declared.Begun.{Begun}
use Rattle.starting.specs.Starting.{begun_at, begun_by, holds_own, start_test, started_by, wrong_start}
use Rattle.beginning.specs.Begins.{Begins, kept_laid, station_laid}
use Rattle.beginning.proofs.Keeping.{kept_whole, stop-at}

-- ---- the starting places

-- a mode is looked for among the 32 that have a place
own_same : (k : Kept) → k.modes ≤ 32 → (m : ℕ) (o : Option ℕ) → holds_own k.modules k.modes (tab k.mode_home 0 32) m o ≡ holds_mode_of k m o
unfolding is_mode_of
own_same k few m none = refl
own_same k few m (some μ) = ap (◌&&◌ (ltb m k.modules)) (there (ltb μ k.modes) refl)
  where
    there : (b : Bool) → ltb μ k.modes ≡ b → (b && eqb (get_or (tab k.mode_home 0 32) μ 0) m) ≡ (b && eqb (k.mode_home μ) m)
    there true e =
        let w : μ < k.modes = ltb-true μ k.modes e in
        ap (λ x. eqb x m) (table_at 32 k.mode_home μ 0 (omega arith))
    there false e = refl

start-same : (k : Kept) (starting : Starting) → k.modes ≤ 32
    → wrong_start (kept_laid k) starting ≡ first_bad (starts_well k (starting_at starting)) (up_to 16)
unfolding wrong_start kept_laid start_test starts_well
start-same k starting few =
    same_bad (start_test starting k.modules k.modes (tab k.mode_home 0 32)) (starts_well k (starting_at starting)) 16
    (λ m w. own_same k few m (starting_at starting m))

-- ---- the state at the start

started-laid : (k : Kept) (starting : Starting) → started_by (kept_laid k) starting ≡ laid (kept_laid k) (state_at_start (starting_at starting))
unfolding started_by kept_laid laid play_laid node_laid held_laid state_at_start not_begun
started-laid k starting = refl

begins_by : (k : Kept) (starting : Starting) (o : Option ℕ)
    → Begins (begun_at (kept_laid k) starting o) (◌>>◌ (at 40 0 o) (ok (record { kept = k; state = state_at_start (starting_at starting) })))
unfolding station_laid
begins_by k starting none = record { answered = refl; left = started-laid k starting }
begins_by k starting (some m) = record { answered = ap (refuse 40) (sym (zero-add m)); left = refl }

-- ---- the ways

-- what the checker answers
verdict-ok : (rule : Res Passed) → verdict rule ≡ ok tt → (c : Passed) × (rule ≡ ok c)
verdict-ok (ok c) e = (c, refl)
verdict-ok (refuse n p) e = refuse≢ok e

verdict-refused : (n p : ℕ) (rule : Res Passed) → verdict rule ≡ refuse n p → rule ≡ refuse n p
verdict-refused n p (ok c) e = refuse≢ok (sym e)
verdict-refused n p (refuse m q) e = rw (refuse-number e, refuse-place e)

-- what the rules hand on of a table that passes
abbrev passed_of : Plan → TableRead → Passed
passed_of p t = record { plan = p; traffic = traffic p; layout = layout_of p; table = t }

module _ (plan table : List ℕ) {tasks deadlines starts : List ℕ} where
  -- the checker's number
  pub refused-begins : (starting : Starting) (why : Refusal) {r : Begun} → Passes (Err why) tasks deadlines starts (check_files plan table)
      → r ≡ record { answer = Err why; station = not_begun } → Begins r (rules.begin plan table (starting_at starting))
  unfolding rules.begin
  refused-begins starting why says q =
      let refuses : check_files plan table ≡ said why = verdict-refused (number_of why) (place_of why) (check_files plan table) (sym says.answered) in
      rw (q, refuses) (record { answered = refl; left = refl })

  module _ (x : Passing) (says : Passes (Ok x) tasks deadlines starts (check_files plan table)) where
    plan-is : x.plan ≡ plan_for (check_files plan table)
    plan-is = says.plan

    line-is : x.line ≡ line_in (line_for (check_files plan table))
    line-is = says.line

    passed_is : {C : Type 0}
        → ((p : Plan) (t : TableRead) → Drawn p → ObeysTable (layout_of p) t → read_in (is_for_consumers table) plan ≡ ok p → check_files plan table ≡ ok (passed_of p t) → C)
        → C
    passed_is go =
        let c = verdict-ok (check_files plan table) (sym says.answered) in
        let h = passed_says plan table c.0 c.1 in
        let p = h.read in
        let t = table_of h.rows in
        let is = (laid_out p h.laid h.is_laid).is in
        go p t (drawn (is_for_consumers table) plan p h.laid h.is_read h.is_laid) (subst (λ (l : Layout). ObeysTable l t) (sym is) h.obeys) h.is_read
        (passed_passes plan table h ∙ ap (λ (l : Layout). ok (record { plan = p; traffic = traffic p; layout = l; table = t })) (sym is))

    -- the stops lie within P
    fits : (p : Plan) (t : TableRead) (d : Drawn p) (obeys : ObeysTable (layout_of p) t) → check_files plan table ≡ ok (passed_of p t)
        → StopsFit (line_of p).frames (starts_of (passed_of p t)) (line_of p).tasks (line_of p).times
    unfolding StopsFit line_of layout_of pairs rules.kept_of
    fits p t d obeys is q w =
        let kept = kept-begins plan table (passed_of p t) is in
        rw (stop-at p d t obeys q w) (omega (arith, (kept.pairs q w).stop, kept.period.most))

    -- what `kept` asks of what is handed on
    pub kept_ready : PlanKept (seen x.plan)
        × (((x.line.controls ≤ 8) × (x.line.frames ≤ most_frames)) × StopsFit x.line.frames starts tasks x.line.times)
    unfolding line_of layout_of pairs
    kept_ready =
        passed_is λ p t d obeys is_read is.
        rw (plan-is, line-is, says.tasks, says.starts, is, read_in_seen (is_for_consumers table) plan p is_read)
        (d.kept, ((d.controls, d.few), fits p t d obeys is))

    -- the station begins as the rules say
    pub passed_begins : (starting : Starting) {st : Station} {r : Begun} → st ≡ kept_from (seen x.plan) x.line tasks deadlines starts
        → r ≡ begun_by st starting → Begins r (rules.begin plan table (starting_at starting))
    unfolding rules.begin begun_by
    passed_begins starting {st} h q =
        passed_is λ p t d obeys is_read is.
        let c = passed_of p t in
        let kept : st ≡ kept_laid (rules.kept_of c) =
        rw (h, plan-is, line-is, says.tasks, says.deadlines, says.starts, is, read_in_seen (is_for_consumers table) plan p is_read) (kept_whole p d t obeys) in
        let few : (rules.kept_of c).modes ≤ 32 = (kept-begins plan table c is).mode_count.most in
        rw (q, kept, start-same (rules.kept_of c) starting few, is)
        (begins_by (rules.kept_of c) starting (first_bad (starts_well (rules.kept_of c) (starting_at starting)) (up_to 16)))

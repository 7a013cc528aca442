-- Which refusals each part can give: reading a plan 1 to 5, laying it out 6 to 11, the latest-release rule 12, reading a table 20, judging
-- it 21 to 28: its shape 21 to 24, its times 25 to 28.
use mathlib.Core.Bool.{Bool}
use mathlib.Core.List.{List}
use native.Mathlib.Omega.{arith}
use lib.Dec.{T, leb, lit≤}
use lib.ListN.{length}
use Prim.Native.Nat.{ℕ}
use Rattle.laws.specs.Res.{Res, ok, ◌>>=◌, ◌>>◌}
use Rattle.laws.specs.Lists.{first_bad, up_to}
use Rattle.laws.specs.Numbers.{divides}
use Rattle.laws.proofs.Refusals.{Gives, gives-ok, gives-unless, gives_at, gives_then, gives_bind, gives-within}
use Rattle.rules.specs.Records.{Rec, records, plan_follows, table_follows}
use Rattle.rules.specs.Plan.{
  Plan,
  count,
  count_fits,
  names_are_there,
  numbers_are_within,
  has_mode,
  switch_divides,
  invocation_keeps,
  connection_keeps,
  first_mode,
  first_invocation,
  first_connection,
  plan_of,
  rule5,
  plan_from,
  read_plan,
}
use Rattle.rules.specs.Limits.{most_frames}
use Rattle.rules.specs.Traffic.{traffic, plan_in, read_in}
use Rattle.rules.specs.Frames.{some_bus_task, pairs, payloads_fit, control_end, Layout, layout, layout_of}
use Rattle.rules.specs.LatestRelease.{latest_release}
use Rattle.rules.specs.Checker.{TableRead, header_right, control_kept, names_new, time_kept, release_kept, deadline_kept, gap_kept, last_kept, first_row, last_row, shaped, timed, judged, table_of, Passed, check_files, rows_keep, is_for_consumers}
use Rattle.rules.proofs.RecordsExact.{records-refused}
use Rattle.rules.proofs.RuleSteps.{rule_twelve}

pub records_give : (follows : ℕ → ℕ → Bool) (refusal : ℕ) (file : List ℕ) → Gives refusal refusal (records follows refusal file)
records_give follows refusal file =
    record { number = λ n p e. let same = ((records-refused follows refusal file n p).0 e).0 in (omega (arith, same), omega (arith, same)) }

five_gives : (p : Plan) → Gives 2 5 (rule5 p)
unfolding rule5
five_gives p =
    gives_then (gives_at 5 2 (first_bad (has_mode p) (up_to (length p.modules))) (lit≤ tt) (lit≤ tt))
    (gives_then (gives_at 5 (first_mode p) (first_bad switch_divides p.modes) (lit≤ tt) (lit≤ tt))
    (gives_then (gives_at 5 (first_invocation p) (first_bad (invocation_keeps p) (up_to (length p.invocations))) (lit≤ tt) (lit≤ tt))
    (gives_at 5 (first_connection p) (first_bad (connection_keeps p.connections) (up_to (length p.connections))) (lit≤ tt) (lit≤ tt))))

pub from_gives : (rs : List Rec) → Gives 2 5 (plan_from rs)
from_gives rs =
    gives_then (gives_at 2 2 (first_bad (count_fits rs) (up_to 6)) (lit≤ tt) (lit≤ tt))
    (gives_then (gives_at 3 0 (first_bad (names_are_there (count rs)) rs) (lit≤ tt) (lit≤ tt))
    (gives_then (gives_at 4 0 (first_bad numbers_are_within rs) (lit≤ tt) (lit≤ tt))
    (gives_then (five_gives (plan_of rs)) (gives-ok (plan_of rs)))))

pub plan-gives : (file : List ℕ) → Gives 1 5 (read_plan file)
unfolding read_plan
plan-gives file =
    gives_bind (gives-within (lit≤ tt) (lit≤ tt) (records_give plan_follows 1 file)) λ rs.
    gives-within (lit≤ tt) (lit≤ tt) (from_gives rs)

pub read-gives : (consumers : Bool) (file : List ℕ) → Gives 1 5 (read_in consumers file)
unfolding read_in
read-gives consumers file = gives_bind (plan-gives file) λ p. gives-ok (plan_in consumers p)

pub layout-gives : (p : Plan) → Gives 6 11 (layout p)
unfolding layout
layout-gives p =
    gives_then (gives-unless 6 0 (some_bus_task p) (lit≤ tt) (lit≤ tt))
    (gives_then (gives-unless 7 0 (divides (traffic p).period (traffic p).grid) (lit≤ tt) (lit≤ tt))
    (gives_then (gives-unless 8 0 (divides p.bus.resolution (traffic p).period) (lit≤ tt) (lit≤ tt))
    (gives_then (gives-unless 9 0 (leb (length (pairs p)) most_frames) (lit≤ tt) (lit≤ tt))
    (gives_then (gives-unless 10 0 (payloads_fit p) (lit≤ tt) (lit≤ tt))
    (gives_then (gives-unless 11 0 (leb (control_end p) (traffic p).period) (lit≤ tt) (lit≤ tt)) (gives-ok (layout_of p)))))))

pub rule-gives : (l : Layout) → Gives 12 12 (latest_release l)
rule-gives l = record { number = λ n p e. let same = rule_twelve l n p e in (omega (arith, same), omega (arith, same)) }

rows_give : {low high : ℕ} (n : ℕ) (t : TableRead) (test : ℕ → Bool) → T (leb low n) → T (leb n high) → Gives low high (rows_keep n t test)
unfolding rows_keep
rows_give n t test a b = gives_at n (first_row t) (first_bad test (up_to (length t.rows))) (lit≤ a) (lit≤ b)

pub shaped-gives : (l : Layout) (t : TableRead) → Gives 21 24 (shaped l t)
unfolding shaped
shaped-gives l t =
    gives_then (gives-unless 21 0 (header_right l t) (lit≤ tt) (lit≤ tt))
    (gives_then (gives_at 22 1 (first_bad (control_kept l t) (up_to (length t.control))) (lit≤ tt) (lit≤ tt))
    (gives_then (rows_give 23 t (names_new l t) tt tt) (rows_give 24 t (time_kept l t) tt tt)))

pub timed-gives : (l : Layout) (t : TableRead) → Gives 25 28 (timed l t)
unfolding timed
timed-gives l t =
    gives_then (rows_give 25 t (release_kept l t) tt tt)
    (gives_then (rows_give 26 t (deadline_kept t) tt tt)
    (gives_then (rows_give 27 t (gap_kept l t) tt tt) (gives-unless 28 (last_row t) (last_kept l t) (lit≤ tt) (lit≤ tt))))

pub judged-gives : (l : Layout) (t : TableRead) → Gives 21 28 (judged l t)
unfolding judged
judged-gives l t =
    gives_then (gives-within (lit≤ tt) (lit≤ tt) (shaped-gives l t)) (gives-within (lit≤ tt) (lit≤ tt) (timed-gives l t))

-- behind a plan that is read
abbrev passing : Plan → Layout → TableRead → Res Passed
passing p l t = ◌>>◌ (judged l t) (ok (record { plan = p; traffic = traffic p; layout = l; table = t }))

pub check-gives : (p : Plan) (table : List ℕ)
    → Gives 6 28 (◌>>=◌ (layout p) (λ l. ◌>>=◌ (records table_follows 20 table) (λ rs. passing p l (table_of rs))))
check-gives p table =
    gives_bind (gives-within (lit≤ tt) (lit≤ tt) (layout-gives p)) λ l.
    gives_bind (gives-within (lit≤ tt) (lit≤ tt) (records_give table_follows 20 table)) λ rs.
    gives_then (gives-within (lit≤ tt) (lit≤ tt) (judged-gives l (table_of rs))) (gives-ok _)

pub passed_gives : (plan table : List ℕ) → Gives 1 28 (check_files plan table)
unfolding check_files
passed_gives plan table =
    gives_bind (gives-within (lit≤ tt) (lit≤ tt) (read-gives (is_for_consumers table) plan)) λ p.
    gives-within (lit≤ tt) (lit≤ tt) (check-gives p table)

-- What is promised, restated: the theorems that a reader needs, in the order of the demands (docs/PROMISES.md begins here). Each is
-- proved in the file that it is taken from, and nothing is proved here. What the code does is what these definitions say: its
-- contracts are equations with them; the last theorem of all, of the exported functions, is `olbiothar/Shown`.
use mathlib.Core.Path.{◌≡◌}
use mathlib.Core.Bool.{true, Bool, false}
use mathlib.Core.List.{List, map, Memᴰ}
use mathlib.Core.Logic.{◌↔◌}
use mathlib.Core.Option.{Option}
use lib.ListN.{length, take}
use Prim.Native.Nat.{ℕ, ◌+◌, ◌≤◌, ◌<◌}
use Rattle.laws.specs.Res.{Res, ok, refuse}
use Rattle.laws.specs.Faults.{AllKept}
use Rattle.rules.specs.Limits.{most_frames}
use Rattle.rules.specs.Records.{Rec, records, table_follows}
use Rattle.rules.specs.Plan.{Bus, Connection, Plan, read_plan}
use Rattle.rules.specs.Traffic.{task_node, bus_runs, bus_period, switch_grid, traffic, can_be_thinned, read_in}
use Rattle.rules.specs.Frames.{pair_of, pairs, on_bus, gap_time, Layout, layout_of, layout}
use Rattle.rules.specs.LatestRelease.{Placed, latest_release}
use Rattle.rules.specs.RuleSteps.{RuleGives}
use Rattle.rules.specs.Table.{FrameRow, longest_table, make}
use Rattle.rules.specs.Checker.{table_of, check, is_for_consumers}
use Rattle.rules.specs.Gaps.{GapsKept}
use Rattle.rules.specs.Obeys.{MayPass, BrokenAt, MakesTable, RuleRefuses}
use Rattle.rules.specs.ObeysPlan.{ConnectionFits, ReadsAs, layout_rules}
use Rattle.rules.specs.Doubtful.{without_doubtful}
use Rattle.rules.specs.Twin.{plain_plan, twin_plan, a_byte_later}
use Rattle.rules.specs.Playing.{Input}
use Rattle.rules.specs.Station.{Begun, State, begin}
use Rattle.rules.specs.History.{played, consumes}
use Rattle.rules.specs.Told.{Tells, ShowsRead}
use Rattle.rules.specs.Allowed.{Allowed}
use Rattle.rules.proofs.Period.{IsBusPeriod, IsSwitchGrid, period, switch-grid}
use Rattle.rules.proofs.PairsOf.{IsPairsOf, plan-pairs}
use Rattle.rules.proofs.Direct.{FoundDirectly, found_directly}
use Rattle.rules.proofs.PlanExact.{read_exact, layout_exact}
use Rattle.rules.proofs.Doubtful.{none_in_read, none_left, same_layout, same-consumers}
use Rattle.rules.proofs.Twin.{MadeAlike, CheckedAlike, twin_read, twin_made, twin_checked, twin_begun}
use Rattle.rules.proofs.Sending.{NoLonger, monotone}
use Rattle.rules.proofs.RuleSteps as steps
use Rattle.rules.proofs.CheckerExact.{checker_exact, rule_exact}
use Rattle.rules.proofs.MadePasses.{made_checks}
use Rattle.rules.proofs.Room.{make_exact, twelve_exact, made-most, thirteen_most}
use Rattle.rules.proofs.Gaps.{frames-apart}
use Rattle.rules.proofs.AllowedExact.{history-told}
use Rattle.rules.proofs.TransparentTold.{shown-told, shown-told-own}
use Rattle.rules.specs.Readers.{is_thinned, readers_of, read_messages}
use Rattle.rules.proofs.Editions.{readable_kept_in}
use Rattle.rules.proofs.Needed.{needed_exact}
use Rattle.rules.proofs.TransparentReads.{shows-read, transparent_full}

-- ---- Demand 2: plan, period, frames, rule, checker, maker

-- A plan is read exactly when the file is records that keep refusals 2 to 5, sentence by sentence.
pub it_reads_exactly : (file : List ℕ) (p : Plan) → (read_plan file ≡ ok p) ↔ ReadsAs file p
it_reads_exactly = read_exact

-- It is laid out exactly when it keeps 6 to 11.
pub it_lays_out_exactly : (p : Plan) (l : Layout) → (layout p ≡ ok l) ↔ (AllKept (layout_rules p) × (layout_of p ≡ l))
it_lays_out_exactly = layout_exact

-- Of a plan with kind 9 and the bits that kind 1 means: it is read as its twin with kind 1 is, but that refusal 1 lies a byte later ..
pub twins_are_read_alike : (body rest : List ℕ) → length body ≡ 16 → (consumers : Bool)
    → read_in consumers (twin_plan body rest) ≡ a_byte_later (read_in consumers (plain_plan body rest))
twins_are_read_alike = twin_read

-- .. and so a table is made of it, a table is checked against it, and a station begins with it.
pub twins_are_made_alike : (body rest : List ℕ) → length body ≡ 16 → (consumers : Bool) (rows : List FrameRow) (buffer : List ℕ)
    → MadeAlike (make consumers (plain_plan body rest) rows buffer) (make consumers (twin_plan body rest) rows buffer)
twins_are_made_alike = twin_made

pub twins_are_checked_alike : (body rest : List ℕ) → length body ≡ 16 → (table : List ℕ) (rows : List FrameRow)
    → CheckedAlike (check (plain_plan body rest) table rows) (check (twin_plan body rest) table rows)
twins_are_checked_alike = twin_checked

pub twins_begin_alike : (body rest : List ℕ) → length body ≡ 16 → (table : List ℕ) (starting : ℕ → Option ℕ)
    → begin (twin_plan body rest) table starting ≡ a_byte_later (begin (plain_plan body rest) table starting)
twins_begin_alike = twin_begun

-- A larger payload never takes fewer bits nor fewer ticks, however many bits a byte takes and whatever the bus.
pub more_takes_no_less : (b : Bus) (s t : ℕ) → s ≤ t → NoLonger (on_bus b s) (on_bus b t)
more_takes_no_less = monotone

-- A plan that is read is one without doubtful connections.
pub what_is-read-has-none : (file : List ℕ) (p : Plan) → read_plan file ≡ ok p → without_doubtful p ≡ p
what_is-read-has-none = none_in_read

-- Of any plan: without them it has none left ..
pub none-is-left : (p : Plan) (k : ℕ) → k < length (without_doubtful p).connections → ConnectionFits (without_doubtful p) k
none-is-left = none_left

-- .. and in the basic edition is laid out as with them: the same refusal, or the same period, control rows, frames, windows and times.
pub frames_stay : (p : Plan) → p.consumers ≡ false → layout (without_doubtful p) ≡ layout p
frames_stay = same_layout

-- P is a common multiple of the periods of all invocations of bus tasks, and divides every other.
pub the_bus-period : (p : Plan) → IsBusPeriod p (bus_period p)
the_bus-period = period

-- G is a common divisor of the mode and switch periods of all modes of sending modules, and every other divides it.
pub the_grid : (p : Plan) → IsSwitchGrid p (switch_grid p)
the_grid = switch-grid

-- In either edition the messages that some connection needs, read by read, are those in whose deadline, or less than a run behind it, lies a
-- multiple of the period of some reader.
pub what_is-read-is-sent : (consumers : Bool) (file : List ℕ) (p : Plan) → read_in consumers file ≡ ok p
    → (traffic p).messages ≡ read_messages (readers_of p) (traffic p).period (bus_runs p)
what_is-read-is-sent consumers file p e = needed_exact p (readable_kept_in consumers file p e)

-- The pairs, which the base sends in a frame each, are the distinct pairs of task and deadline among the messages, by deadline and then
-- by task, each with the greatest release of its messages.
pub the_pairs : (p : Plan) → IsPairsOf (map pair_of (traffic p).messages) (pairs p)
the_pairs = plan-pairs

-- The walk from pair to pair finds these pairs: all of them where there are not too many, and one too many settles refusal 9. It makes no more
-- steps than there are runs, times one frame more than there may be, whatever P.
pub they_are_found_directly : (consumers : Bool) (file : List ℕ) (p : Plan) → read_in consumers file ≡ ok p → FoundDirectly p
they_are_found_directly = found_directly

-- The latest-release rule comes to an outcome, the frames placed or a refusal at a frame, exactly when a run of its steps does; each
-- step is the one that the rule's sentences describe.
pub the_rule-step_by_step : (l : Layout) (outcome : Res (List Placed)) → (latest_release l ≡ outcome) ↔ RuleGives l outcome
the_rule-step_by_step = steps.rule_exact

-- The checker passes a table exactly when enough rows are lent and plan and table keep every rule.
pub it_passes_exactly : (plan table : List ℕ) (rows : List FrameRow)
    → ((check plan table rows).answer ≡ ok tt) ↔ ((most_frames ≤ length rows) × MayPass plan table)
it_passes_exactly = checker_exact

-- It gives one of 21 to 28 exactly when all before it are kept and this one is broken, at its lowest record.
pub it_refuses_exactly : (plan table : List ℕ) (rows : List FrameRow) (i p : ℕ) → i < 8
    → ((check plan table rows).answer ≡ refuse (21 + i) p) ↔ ((most_frames ≤ length rows) × BrokenAt plan table i p)
it_refuses_exactly = rule_exact

-- A table is made exactly when enough rows are lent, the plan passes 1 to 11, the rule places every frame and the room suffices.
pub it_makes_exactly : (consumers : Bool) (plan : List ℕ) (rows : List FrameRow) (buffer : List ℕ) (n : ℕ)
    → ((make consumers plan rows buffer).answer ≡ ok n) ↔ ((most_frames ≤ length rows) × MakesTable consumers plan (length buffer) n)
it_makes_exactly = make_exact

-- It is refused for want of room exactly when the latest-release rule finds none.
pub no_room_exactly : (consumers : Bool) (plan : List ℕ) (rows : List FrameRow) (buffer : List ℕ) (pair : ℕ)
    → ((make consumers plan rows buffer).answer ≡ refuse 12 pair) ↔ ((most_frames ≤ length rows) × RuleRefuses consumers plan pair)
no_room_exactly = twelve_exact

-- No table that is made is longer than the longest, of 8 control rows and 1,024 data rows ..
pub none-is_longer : (consumers : Bool) (plan : List ℕ) (rows : List FrameRow) (buffer : List ℕ) (n : ℕ) → (make consumers plan rows buffer).answer ≡ ok n → n ≤ longest_table
none-is_longer = made-most

-- .. so that with as much room 13 is never given: it says how many bytes the table needs, and these are more than were lent.
pub more_is_never_needed : (consumers : Bool) (plan : List ℕ) (rows : List FrameRow) (buffer : List ℕ) (n : ℕ) → (make consumers plan rows buffer).answer ≡ refuse 13 n
    → (length buffer < n) × (n ≤ longest_table)
more_is_never_needed = thirteen_most

-- All that is made passes the checker.
pub what_is-made-passes : (consumers : Bool) (plan : List ℕ) (rows : List FrameRow) (buffer : List ℕ) (n : ℕ) → (make consumers plan rows buffer).answer ≡ ok n
    → (lent : List FrameRow) → most_frames ≤ length lent → (check plan (take n (make consumers plan rows buffer).buffer) lent).answer ≡ ok tt
what_is-made-passes = made_checks

-- In a table that passes no two frames, of one cycle or of different ones, stand closer than the gap time.
pub frames_stand_apart : (plan table : List ℕ) (rows : List FrameRow) → (check plan table rows).answer ≡ ok tt
    → (p : Plan) → read_in (is_for_consumers table) plan ≡ ok p → (rs : List Rec) → records table_follows 20 table ≡ ok rs → GapsKept (gap_time p.bus) (table_of rs)
frames_stand_apart = frames-apart

-- ---- Demand 3: what boards show

-- Of a station that begins with plan and table: a history of ticks is accepted exactly when, in the words of the history alone, each
-- result comes while its run waits for it and in its worst time, none is missing, and modes change at their instants.
pub it_accepts_exactly : (plan table : List ℕ) (starting : ℕ → Option ℕ) (b : Begun) → begin plan table starting ≡ ok b
    → (p : Plan) → read_in (is_for_consumers table) plan ≡ ok p
    → (history : List Input) → ((s : State) × (played b.kept b.state history ≡ ok s)) ↔ Allowed p starting history
it_accepts_exactly = history-told

-- Whether a node consumes a task does not depend on doubtful connections either.
pub consumers_stay : (p : Plan) (n t : ℕ) → consumes (without_doubtful p) n t ≡ consumes p n t
consumers_stay = same-consumers

-- Behind every history of accepted ticks, on every node that consumes a task of another node, if it is not thinned (in the basic edition no
-- task is), the value shown is the one result of the last run of the task that has ended, or zero.
pub boards_show : (plan table : List ℕ) (starting : ℕ → Option ℕ) (b : Begun) → begin plan table starting ≡ ok b
    → (p : Plan) → read_in (is_for_consumers table) plan ≡ ok p → (history : List Input) (s : State) → played b.kept b.state history ≡ ok s
    → (n t : ℕ) → consumes p n t ≡ true → is_thinned p t ≡ false → Tells p starting t history (s.shown n t)
boards_show = shown-told

-- And on the task's own node.
pub own_boards_show : (plan table : List ℕ) (starting : ℕ → Option ℕ) (b : Begun) → begin plan table starting ≡ ok b
    → (p : Plan) → read_in (is_for_consumers table) plan ≡ ok p → (history : List Input) (s : State) → played b.kept b.state history ≡ ok s
    → (t : ℕ) → t < length p.tasks → Tells p starting t history (s.shown (task_node p t) t)
own_boards_show = shown-told-own

-- So where only what is read is sent: of every connection between two nodes, wherever the consumer is released at the newest tick its node
-- shows this of the producer. (In the basic edition it does so at every tick, as above.)
pub boards_show_at-reads : (plan table : List ℕ) (starting : ℕ → Option ℕ) (b : Begun) → begin plan table starting ≡ ok b
    → (q : Plan) → read_plan plan ≡ ok q → (history : List Input) (s : State) → played b.kept b.state history ≡ ok s
    → ShowsRead q starting history s.shown
boards_show_at-reads = shows-read

-- A task with a connection that can't be thinned is right on every node at every tick.
pub boards_show_in_full : (plan table : List ℕ) (starting : ℕ → Option ℕ) (b : Begun) → begin plan table starting ≡ ok b
    → (p : Plan) → read_in (is_for_consumers table) plan ≡ ok p → (history : List Input) (s : State) → played b.kept b.state history ≡ ok s
    → (c : Connection) → Memᴰ c p.connections → p.consumers ≡ true → can_be_thinned p c ≡ false
    → (n : ℕ) → Tells p starting c.producer history (s.shown n c.producer)
boards_show_in_full = transparent_full

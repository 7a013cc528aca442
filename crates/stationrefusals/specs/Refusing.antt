-- Refusals 40 to 44 of a tick, on the station's structs and arrays. That they are the rules' is a law of the crate `station`.
use Rattle.std.specs.Prelude.{Bool, ◌&&◌, List, leb, ℕ}
use Rattle.laws.specs.Lists.{all, up_to}
use Rattle.laws.specs.Res.{Res, ◌>>◌, unless}
use Rattle.rules.specs.Limits.{most_nodes, most_modules, most_modes, most_tasks}
use Rattle.stationrange.specs.Ranges.{counts_test, module_test, mode_test, task_test, runs_test, control_test, pairs_test, play_test, box_test, byte_test}
use Rattle.stationjudge.specs.Judging.{results_judged, changes_judged}
use Rattle.stationruns.specs.declared.Input.{Input}
use Rattle.stationrefusals.specs.declared.Fixed.{Fixed}
use Rattle.stationrefusals.specs.declared.Play.{Play}

-- 40: what is kept
unfoldable pub kept_test : Fixed → List ℕ → List ℕ → List ℕ → List ℕ → List ℕ → Bool
kept_test fixed runs pair_tasks pair_deadlines pair_starts pair_stops =
    let modules = fixed.modules in
    let modes = fixed.modes in
    let tasks = fixed.tasks in
    let controls = fixed.controls in
    let period = fixed.period.0 in
    (counts_test modules.count modes.count tasks.count period controls.count
    && (all (module_test modules.sites) (up_to most_modules)
    && all (mode_test modules.count modes.count modes.homes modes.periods modes.switches) (up_to most_modes)))
    && ((all (task_test modules.count tasks.count tasks.homes tasks.sizes tasks.worsts) (up_to most_tasks)
    && all (runs_test runs modes.periods) (up_to most_modes))
    && (all (control_test period controls.nodes controls.starts controls.stops) (up_to most_nodes)
    && pairs_test fixed.pairs tasks.count period pair_tasks pair_deadlines pair_starts pair_stops))

-- 40: the state, but for the places of the nodes
abbrev pub held_test : List ℕ → ℕ → ℕ → Bool
held_test held modes n = all (byte_test held modes n) (up_to most_modules)

unfoldable pub state_test : Fixed → Play → Bool
state_test fixed play =
    let modes = fixed.modes in
    leb play.clock.0 fixed.period.0
    && (all (play_test fixed.modules.count modes.count modes.homes modes.periods play.running play.ages play.bytes) (up_to most_modules)
    && (all (box_test play.out play.loads) (up_to most_tasks) && all (held_test play.held modes.count) (up_to most_nodes)))

-- 41 to 44
unfoldable pub judged_by : Input → Fixed → Play → List ℕ → Res (Unit {0})
judged_by input fixed play runs =
    let modes = fixed.modes in
    let tasks = fixed.tasks in
    changes_judged
    (results_judged input.results input.given tasks.count runs play.running play.ages tasks.homes play.givens tasks.sizes
    tasks.worsts)
    input.modes input.changed fixed.modules.count modes.count modes.homes modes.switches play.running play.ages

-- 40 to 44
unfoldable pub refused_by : Input → Fixed → Play → List ℕ → List ℕ → List ℕ → List ℕ → List ℕ → Res (Unit {0})
refused_by input fixed play runs pair_tasks pair_deadlines pair_starts pair_stops = do
  unless 40 0 (kept_test fixed runs pair_tasks pair_deadlines pair_starts pair_stops && state_test fixed play)
  judged_by input fixed play runs

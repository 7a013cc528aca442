-- Refusal 40 of a tick, on arrays: the tests of the rules' `inRange`, each at a place of the arrays that it reads. That they are the
-- rules' own tests is a law of the crate `station`.
use Rattle.std.specs.Prelude.{Bool, not, ◌&&◌, ◌||◌, List, eqb, leb, ltb, get_or, ℕ, ◌+◌, ◌*◌}
use Rattle.laws.specs.Lists.{all, up_to}
use Rattle.rules.specs.Limits.{most_nodes, most_modules, most_modes, most_tasks, most_frames, longest_time, largest_message}
use Rattle.rules.specs.StationRange.{is_between, is_value}

-- how many modules, modes and tasks there are, the bus period, and how many control rows
abbrev pub counts_test : ℕ → ℕ → ℕ → ℕ → ℕ → Bool
counts_test modules modes tasks period controls =
    (is_between 1 most_modules modules && (is_between 1 most_modes modes && is_between 1 most_tasks tasks))
    && (is_between 1 longest_time period && leb controls most_nodes)

abbrev pub module_test : List ℕ → ℕ → Bool
module_test nodes m = ltb (get_or nodes m 0) most_nodes

-- a mode or a task: the module that it is of, and two numbers, at least 1 where it is there
abbrev pub thing_test : ℕ → ℕ → Bool → ℕ → ℕ → ℕ → Bool
thing_test modules most there home a b =
    ltb home modules && ((leb a most && leb b longest_time) && (not there || (ltb 0 a && ltb 0 b)))

abbrev pub mode_test : ℕ → ℕ → List ℕ → List ℕ → List ℕ → ℕ → Bool
mode_test modules modes homes periods switches μ =
    thing_test modules longest_time (ltb μ modes) (get_or homes μ 0) (get_or periods μ 0) (get_or switches μ 0)

abbrev pub task_test : ℕ → ℕ → List ℕ → List ℕ → List ℕ → ℕ → Bool
task_test modules tasks homes sizes worsts t =
    thing_test modules largest_message (ltb t tasks) (get_or homes t 0) (get_or sizes t 0) (get_or worsts t 0)

-- the runs stand in one array, a place for each task, mode after mode
abbrev pub run_test : List ℕ → ℕ → ℕ → ℕ → Bool
run_test runs μ period t = leb (get_or runs (μ * most_tasks + t) 0) period

unfoldable pub runs_test : List ℕ → List ℕ → ℕ → Bool
runs_test runs periods μ = all (run_test runs μ (get_or periods μ 0)) (up_to most_tasks)

abbrev pub control_test : ℕ → List ℕ → List ℕ → List ℕ → ℕ → Bool
control_test period nodes starts stops r =
    ltb (get_or nodes r 0) most_nodes && (leb (get_or starts r 0) period && leb (get_or stops r 0) period)

abbrev pub pair_test : ℕ → ℕ → List ℕ → List ℕ → List ℕ → List ℕ → ℕ → Bool
pair_test tasks period pair_tasks pair_deadlines pair_starts pair_stops q =
    (ltb (get_or pair_tasks q 0) tasks && leb (get_or pair_deadlines q 0) period)
    && (leb (get_or pair_starts q 0) period && leb (get_or pair_stops q 0) period)

-- how many pairs there are, and each of them
abbrev pub pairs_test : ℕ → ℕ → ℕ → List ℕ → List ℕ → List ℕ → List ℕ → Bool
pairs_test pairs tasks period pair_tasks pair_deadlines pair_starts pair_stops =
    leb pairs most_frames && all (pair_test tasks period pair_tasks pair_deadlines pair_starts pair_stops) (up_to pairs)

-- the mode that runs, its age and its mode byte
abbrev pub play_test : ℕ → ℕ → List ℕ → List ℕ → List ℕ → List ℕ → List ℕ → ℕ → Bool
play_test modules modes homes periods running_modes ages mode_bytes m =
    (ltb (get_or running_modes m 0) modes && (not (ltb m modules) || eqb (get_or homes (get_or running_modes m 0) 0) m))
    && (leb (get_or ages m 0) (get_or periods (get_or running_modes m 0) 0) && ltb (get_or mode_bytes m 0) modes)

abbrev pub box_test : List ℕ → List ℕ → ℕ → Bool
box_test out loads t = is_value (get_or out t 0) && is_value (get_or loads t 0)

abbrev pub place_test : List ℕ → List ℕ → ℕ → Bool
place_test landed shown t = is_value (get_or landed t 0) && is_value (get_or shown t 0)

-- the mode bytes that the nodes hold stand in one array, a place for each module, node after node
abbrev pub byte_test : List ℕ → ℕ → ℕ → ℕ → Bool
byte_test held modes n m = ltb (get_or held (n * most_modules + m) 0) modes

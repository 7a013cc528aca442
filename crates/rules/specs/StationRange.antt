-- docs/RULES.md, rule 8.19: refusal 40 of a tick on any station value (reading 35).
use Rattle.std.specs.Prelude.{Bool, not, ◌&&◌, ◌||◌, eqb, leb, ltb, ℕ, ◌^◌}
use Rattle.laws.specs.Res.{Res, ◌>>◌, unless}
use Rattle.laws.specs.Lists.{all, up_to}
use Rattle.rules.specs.Limits.{most_frames, longest_time, largest_message}
use Rattle.rules.specs.Playing.{node_places, module_places, mode_places, task_places, Input}
use Rattle.rules.specs.Station.{Kept, State, Ticked, step}

-- Every number that a station holds has its range, at every place; what the places behind a count hold from the beginning on, zero,
-- is within. Only of the pairs it holds no more than their number says: what lies in the places behind them is none of its numbers.
unfoldable pub is_between : ℕ → ℕ → ℕ → Bool
is_between low high x = leb low x && leb x high

-- counts as in a plan (rule 3.1); P as any period; a control row for each node at most
unfoldable pub counts_in_range : Kept → Bool
counts_in_range k =
    (is_between 1 module_places k.modules && (is_between 1 mode_places k.modes && is_between 1 task_places k.tasks))
    && (is_between 1 longest_time k.period && leb k.controls node_places)

unfoldable pub module_in_range : Kept → ℕ → Bool
module_in_range k m = ltb (k.module_node m) node_places

-- periods are at least 1 below the count; behind it none is there
unfoldable pub mode_in_range : Kept → ℕ → Bool
mode_in_range k μ =
    ltb (k.mode_home μ) k.modules
    && ((leb (k.mode_period μ) longest_time && leb (k.mode_switch μ) longest_time)
    && (not (ltb μ k.modes) || (ltb 0 (k.mode_period μ) && ltb 0 (k.mode_switch μ))))

unfoldable pub task_in_range : Kept → ℕ → Bool
task_in_range k t =
    ltb (k.task_home t) k.modules
    && ((leb (k.task_size t) largest_message && leb (k.task_worst t) longest_time)
    && (not (ltb t k.tasks) || (ltb 0 (k.task_size t) && ltb 0 (k.task_worst t))))

unfoldable pub run_in_range : Kept → ℕ → ℕ → Bool
run_in_range k μ t = leb (k.run μ t) (k.mode_period μ)

unfoldable pub runs_in_range : Kept → ℕ → Bool
runs_in_range k μ = all (run_in_range k μ) (up_to task_places)

unfoldable pub control_in_range : Kept → ℕ → Bool
control_in_range k r =
    ltb (k.control_node r) node_places && (leb (k.control_start r) k.period && leb (k.control_stop r) k.period)

unfoldable pub pair_in_range : Kept → ℕ → Bool
pair_in_range k q =
    (ltb (k.pair_task q) k.tasks && leb (k.pair_deadline q) k.period)
    && (leb (k.pair_start q) k.period && leb (k.pair_stop q) k.period)

-- as many pairs as frames at most
unfoldable pub pairs_in_range : Kept → Bool
pairs_in_range k = leb k.pairs most_frames && all (pair_in_range k) (up_to k.pairs)

unfoldable pub kept_in_range : Kept → Bool
kept_in_range k =
    (counts_in_range k && (all (module_in_range k) (up_to module_places) && all (mode_in_range k) (up_to mode_places)))
    && ((all (task_in_range k) (up_to task_places) && all (runs_in_range k) (up_to mode_places))
    && (all (control_in_range k) (up_to node_places) && pairs_in_range k))

-- the mode that runs is one of the module's own, and its age at most its period; a mode byte is a mode's
unfoldable pub play_in_range : Kept → State → ℕ → Bool
play_in_range k s m =
    (ltb (s.mode m) k.modes && (not (ltb m k.modules) || eqb (k.mode_home (s.mode m)) m))
    && (leb (s.age m) (k.mode_period (s.mode m)) && ltb (s.mode_byte m) k.modes)

-- a value has 64 bits
unfoldable pub is_value : ℕ → Bool
is_value v = ltb v (2 ^ 64)

unfoldable pub box_in_range : State → ℕ → Bool
box_in_range s t = is_value (s.out t) && is_value (s.load t)

unfoldable pub place_in_range : State → ℕ → ℕ → Bool
place_in_range s n t = is_value (s.landed n t) && is_value (s.shown n t)

unfoldable pub byte_in_range : Kept → State → ℕ → ℕ → Bool
byte_in_range k s n m = ltb (s.held n m) k.modes

unfoldable pub node_in_range : Kept → State → ℕ → Bool
node_in_range k s n = all (place_in_range s n) (up_to task_places) && all (byte_in_range k s n) (up_to module_places)

unfoldable pub state_in_range : Kept → State → Bool
state_in_range k s =
    leb s.clock k.period
    && (all (play_in_range k s) (up_to module_places)
    && (all (box_in_range s) (up_to task_places) && all (node_in_range k s) (up_to node_places)))

unfoldable pub in_range : Kept → State → Bool
in_range k s = kept_in_range k && state_in_range k s

-- A tick on any station value: 40 at 0 where a number is outside its range, otherwise the tick of section 8.
unfoldable pub ticked : Kept → State → Input → Res Ticked
ticked k s i = do
  unless 40 0 (in_range k s)
  step k s i

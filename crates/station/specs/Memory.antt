-- How a station stands in memory: what its structs and arrays hold at each place (`kept_of`, `state_of`), and a state laid into them
-- (`laid`): each array as it was, with the state's values stored at its places.
use Rattle.std.specs.Prelude.{List, get_or, replicate, ℕ, ◌+◌, ◌*◌, ◌/◌, ◌%◌}
use Rattle.laws.specs.Loops.{stores}
use Rattle.laws.specs.Res.{Res}
use Rattle.places.specs.Bits.{bit_at}
use Rattle.places.specs.Flags.{flag_at, flag_bytes}
use Rattle.rules.specs.Limits.{most_nodes, most_modules, most_modes, most_tasks, most_frames}
use Rattle.rules.specs.Station.{Kept, State, Ticked}
use Rattle.rules.specs.StationRange.{ticked}
use Rattle.stationruns.specs.Inputs.{input_of}
use Rattle.stationruns.specs.Runs.{period_at}
use Rattle.stationruns.specs.declared.Input.{Input}
use Rattle.stationbus.specs.Bus.{number_at}
use Rattle.stationnodes.specs.Nodes.{no_node, zero_node}
use Rattle.stationnodes.specs.declared.Node.{Node}
use Rattle.stationrefusals.specs.declared.Play.{Play}
use Rattle.station.specs.declared.Station.{Station}

-- Rule 8.2: what a station keeps; bit μ of a pair's word says that mode μ has its message.
unfoldable pub kept_of : Station → Kept
kept_of st =
    let modules = st.fixed.modules in
    let modes = st.fixed.modes in
    let tasks = st.fixed.tasks in
    let controls = st.fixed.controls in
    record {
      modules = modules.count;
      modes = modes.count;
      tasks = tasks.count;
      period = st.fixed.period.0;
      module_node = number_at modules.sites;
      sends = flag_at modules.sending;
      mode_home = number_at modes.homes;
      mode_period = number_at modes.periods;
      mode_switch = number_at modes.switches;
      task_home = number_at tasks.homes;
      task_size = number_at tasks.sizes;
      task_worst = number_at tasks.worsts;
      run = period_at st.runs;
      controls = controls.count;
      control_node = number_at controls.nodes;
      control_start = number_at controls.starts;
      control_stop = number_at controls.stops;
      pairs = st.fixed.pairs;
      pair_task = number_at st.pair_tasks;
      pair_deadline = number_at st.pair_deadlines;
      pair_start = number_at st.pair_starts;
      pair_stop = number_at st.pair_stops;
      pair_has = λ q μ. bit_at (get_or st.pair_modes q 0) μ;
    }

-- the state before a tick; the mode byte that node n holds of module m stands at n * most_modules + m
unfoldable pub state_of : Station → State
state_of st =
    let play = st.play in
    record {
      clock = play.clock.0;
      mode = number_at play.running;
      age = number_at play.ages;
      given = flag_at play.givens;
      out = number_at play.out;
      landed = λ n t. get_or (get_or st.nodes n no_node).landed t 0;
      shown = λ n t. get_or (get_or st.nodes n no_node).shown t 0;
      held = λ n m. get_or play.held (n * most_modules + m) 0;
      full = flag_at play.full;
      load = number_at play.loads;
      mode_byte = number_at play.bytes;
    }

-- what the rules say of a tick of this station
abbrev pub ruled : Station → Input → Res Ticked
ruled st input = ticked (kept_of st) (state_of st) (input_of input)

-- a state's places in the arrays
unfoldable pub held_laid : State → ℕ → ℕ
held_laid s j = s.held (j / most_modules) (j % most_modules)

unfoldable pub play_laid : Play → State → Play
play_laid old s =
    record {
      clock = record { 0 = s.clock };
      running = stores old.running s.mode most_modules;
      ages = stores old.ages s.age most_modules;
      bytes = stores old.bytes s.mode_byte most_modules;
      givens = stores old.givens (flag_bytes s.given) most_tasks;
      out = stores old.out s.out most_tasks;
      held = stores old.held (held_laid s) (most_nodes * most_modules);
      full = stores old.full (flag_bytes s.full) most_tasks;
      loads = stores old.loads s.load most_tasks;
    }

unfoldable pub node_laid : List Node → State → ℕ → Node
node_laid old s n =
    record {
      landed = stores (get_or old n no_node).landed (s.landed n) most_tasks;
      shown = stores (get_or old n no_node).shown (s.shown n) most_tasks;
    }

unfoldable pub laid : Station → State → Station
laid st s =
    record {
      fixed = st.fixed;
      runs = st.runs;
      pair_tasks = st.pair_tasks;
      pair_deadlines = st.pair_deadlines;
      pair_starts = st.pair_starts;
      pair_stops = st.pair_stops;
      pair_modes = st.pair_modes;
      play = play_laid st.play s;
      nodes = stores st.nodes (node_laid st.nodes s) most_nodes;
    }

-- Rule 8.3: a station not begun.
unfoldable pub not_begun : Station
not_begun =
    record {
      fixed =
          record {
            modules = record { count = 0; sites = replicate most_modules 0; sending = replicate most_modules 0 };
            modes = record { count = 0; homes = replicate most_modes 0; periods = replicate most_modes 0; switches = replicate most_modes 0 };
            tasks =
                record {
                  count = 0;
                  homes = replicate most_tasks 0;
                  sizes = replicate most_tasks 0;
                  worsts = replicate most_tasks 0;
                };
            controls = record { count = 0; nodes = replicate most_nodes 0; starts = replicate most_nodes 0; stops = replicate most_nodes 0 };
            period = record { 0 = 0 };
            pairs = 0;
          };
      runs = replicate (most_modes * most_tasks) 0;
      pair_tasks = replicate most_frames 0;
      pair_deadlines = replicate most_frames 0;
      pair_starts = replicate most_frames 0;
      pair_stops = replicate most_frames 0;
      pair_modes = replicate most_frames 0;
      play =
          record {
            clock = record { 0 = 0 };
            running = replicate most_modules 0;
            ages = replicate most_modules 0;
            bytes = replicate most_modules 0;
            givens = replicate most_tasks 0;
            out = replicate most_tasks 0;
            held = replicate (most_nodes * most_modules) 0;
            full = replicate most_tasks 0;
            loads = replicate most_tasks 0;
          };
      nodes = replicate most_nodes zero_node;
    }

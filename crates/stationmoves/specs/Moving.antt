-- What a tick makes of a station but for its nodes, on its structs and arrays. That it is the rules' is a law of the crate `station`.
use Rattle.std.specs.Prelude.{Bool, ◌≡◌, List, get_or, ℕ, ◌*◌, ◌%◌, ◌<◌, None, Some}
use Rattle.std.specs.Prelude as code
use Rattle.std.proofs.Math.Option.{Option, none, some}
use Rattle.laws.specs.Loops.{stores}
use Rattle.rules.specs.Limits.{most_nodes, most_modules, most_tasks}
use Rattle.rules.specs.Station.{one_on, row_with}
use Rattle.stationruns.specs.declared.Input.{Input}
use Rattle.stationsteps.specs.Steps.{out_rule, mode_rule, age_rule, had_rule}
use Rattle.stationbus.specs.Bus.{number_at, held_rule, mode_byte_rule, full_rule, load_rule}
use Rattle.stationrefusals.specs.declared.Controls.{Controls}
use Rattle.stationrefusals.specs.declared.Fixed.{Fixed}
use Rattle.stationrefusals.specs.declared.Play.{Play}
use Rattle.stationmoves.specs.declared.Advanced.{Advanced}
use Rattle.stationmoves.specs.declared.ControlRow.{ControlRow}
use Rattle.stationmoves.specs.declared.DataRow.{DataRow}
use Rattle.stationmoves.specs.declared.StartedRow.{StartedRow}
use Rattle.stationmoves.specs.declared.StartedRow.TheVariants.{Control, Data}

-- the row that starts: of a data row, as the pair has it
abbrev pub control_at : Controls → ℕ → ControlRow
control_at controls r =
    record {
      node = record { 0 = get_or controls.nodes r 0 };
      start = record { 0 = get_or controls.starts r 0 };
      stop = record { 0 = get_or controls.stops r 0 };
    }

abbrev pub data_at : List ℕ → List ℕ → List ℕ → List ℕ → ℕ → DataRow
data_at pair_tasks pair_deadlines pair_starts pair_stops q =
    record {
      task = record { 0 = get_or pair_tasks q 0 };
      deadline = record { 0 = get_or pair_deadlines q 0 };
      start = record { 0 = get_or pair_starts q 0 };
      stop = record { 0 = get_or pair_stops q 0 };
    }

abbrev pub said_by : Controls → List ℕ → List ℕ → List ℕ → List ℕ → Option ℕ → Option ℕ → code.Option StartedRow
said_by controls pair_tasks pair_deadlines pair_starts pair_stops (some r) o = Some (Control (control_at controls r))
said_by controls pair_tasks pair_deadlines pair_starts pair_stops none (some q) = Some (Data (data_at pair_tasks pair_deadlines pair_starts pair_stops q))
said_by controls pair_tasks pair_deadlines pair_starts pair_stops none none = None

-- (b) of a control frame, at each place of the mode bytes held
abbrev pub held_now : Fixed → Play → ℕ → ℕ
held_now fixed play =
    let controls = fixed.controls in
    held_rule fixed.modules.sending fixed.modules.sites play.bytes controls.nodes play.held
    (row_with (number_at controls.stops) controls.count play.clock.0)

-- (a), (b) of the mode bytes, (d) and (f)
unfoldable pub play_after : Input → Fixed → Play → ℕ → Option ℕ → Option ℕ → List Bool → List ℕ → List ℕ → List ℕ → Play
play_after input fixed play time control first ends pair_tasks pair_starts pair_modes =
    let modules = fixed.modules in
    let tasks = fixed.tasks in
    let nodes = fixed.controls.nodes in
    let out = out_rule input.results input.given play.out in
    let running = mode_rule input.modes input.changed play.running in
    record {
      clock = record { 0 = one_on play.clock.0 fixed.period.0 };
      running = stores play.running running most_modules;
      ages = stores play.ages (age_rule input.changed play.running fixed.modes.periods play.ages) most_modules;
      bytes = stores play.bytes (mode_byte_rule modules.sending modules.sites running nodes play.bytes control) most_modules;
      givens = stores play.givens (had_rule input.given input.changed ends tasks.homes play.givens) most_tasks;
      out = stores play.out out most_tasks;
      held = stores play.held (held_now fixed play) (most_nodes * most_modules);
      full = stores play.full (full_rule pair_tasks pair_starts pair_modes fixed.pairs time tasks.homes running play.full first) most_tasks;
      loads = stores play.loads (load_rule pair_tasks pair_starts fixed.pairs time out play.loads first) most_tasks;
    }

-- the time of the rows that start: P is time 0 of the next cycle
abbrev pub starts_now : Fixed → Play → ℕ
starts_now fixed play = play.clock.0 % fixed.period.0

unfoldable pub advanced_by : Input → Fixed → Play → List Bool → List ℕ → List ℕ → List ℕ → List ℕ → List ℕ → Advanced
advanced_by input fixed play ends pair_tasks pair_deadlines pair_starts pair_stops pair_modes =
    let time = starts_now fixed play in
    let control = row_with (number_at fixed.controls.starts) fixed.controls.count time in
    let first = row_with (number_at pair_starts) fixed.pairs time in
    record {
      row = said_by fixed.controls pair_tasks pair_deadlines pair_starts pair_stops control first;
      play = play_after input fixed play time control first ends pair_tasks pair_starts pair_modes;
    }

-- what is read from the arrays just filled
pub record Reads (input : Input) (fixed : Fixed) (play next : Play) : Type 0 where
  pub out : (t : ℕ) → get_or next.out t 0 ≡ out_rule input.results input.given play.out t
  pub held : (j : ℕ) → j < most_nodes * most_modules
      → get_or next.held j 0 ≡ held_now fixed play j

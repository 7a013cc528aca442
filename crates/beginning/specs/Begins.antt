-- What a beginning answers, and the station that it leaves.
use Rattle.std.specs.Prelude.{◌≡◌, ℕ, ◌*◌, ◌/◌, ◌%◌}
use Rattle.laws.specs.Lists.{tab}
use Rattle.laws.specs.Res.{Res, ok, refuse}
use Rattle.places.specs.Bits.{bits_of}
use Rattle.places.specs.Flags.{flag_bytes}
use Rattle.rules.specs.Limits.{most_nodes, most_modules, most_modes, most_tasks, most_frames}
use Rattle.rules.specs.Station as rules
use Rattle.rules.specs.Station.{Kept}
use Rattle.station.specs.Memory.{laid, not_begun}
use Rattle.station.specs.declared.Station.{Station}
use Rattle.starting.specs.declared.Begun.{Begun}
use Rattle.answers.specs.Answered.{judged}

-- the period of mode j / most_tasks and task j % most_tasks
unfoldable pub run_laid : Kept → ℕ → ℕ
run_laid k j = k.run (j / most_tasks) (j % most_tasks)

-- the modes that have the message of a pair, as bits
unfoldable pub modes_laid : Kept → ℕ → ℕ
modes_laid k q = bits_of (k.pair_has q) most_modes

-- Rule 8.2, what is kept: each thing at the place of its number, and nothing played.
unfoldable pub kept_laid : Kept → Station
kept_laid k =
    record {
      fixed =
          record {
            modules = record { count = k.modules; sites = tab k.module_node 0 most_modules; sending = tab (flag_bytes k.sends) 0 most_modules };
            modes =
                record {
                  count = k.modes;
                  homes = tab k.mode_home 0 most_modes;
                  periods = tab k.mode_period 0 most_modes;
                  switches = tab k.mode_switch 0 most_modes;
                };
            tasks =
                record {
                  count = k.tasks;
                  homes = tab k.task_home 0 most_tasks;
                  sizes = tab k.task_size 0 most_tasks;
                  worsts = tab k.task_worst 0 most_tasks;
                };
            controls =
                record {
                  count = k.controls;
                  nodes = tab k.control_node 0 most_nodes;
                  starts = tab k.control_start 0 most_nodes;
                  stops = tab k.control_stop 0 most_nodes;
                };
            period = record { 0 = k.period };
            pairs = k.pairs;
          };
      runs = tab (run_laid k) 0 (most_modes * most_tasks);
      pair_tasks = tab k.pair_task 0 most_frames;
      pair_deadlines = tab k.pair_deadline 0 most_frames;
      pair_starts = tab k.pair_start 0 most_frames;
      pair_stops = tab k.pair_stop 0 most_frames;
      pair_modes = tab (modes_laid k) 0 most_frames;
      play = not_begun.play;
      nodes = not_begun.nodes;
    }

-- a beginning: what is kept, and the state at the start laid over it
unfoldable pub station_laid : rules.Begun → Station
station_laid b = laid (kept_laid b.kept) b.state

-- the rules' answer without what begins
abbrev pub verdict : Res rules.Begun → Res (Unit {0})
verdict (ok b) = ok tt
verdict (refuse n p) = refuse n p

-- Rule 8.3: a refused beginning returns a station not begun.
abbrev pub station_for : Res rules.Begun → Station
station_for (ok b) = station_laid b
station_for (refuse n p) = not_begun

-- A beginning says what the rules say: the same number and place, or that the station begins; and it leaves that station.
pub record Begins (r : Begun) (rule : Res rules.Begun) : Type 0 where
  pub answered : judged r.answer ≡ verdict rule
  pub left : r.station ≡ station_for rule

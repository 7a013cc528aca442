-- Refusal 40 of a beginning, on the station's arrays, and the station in its starting modes.
use Rattle.std.specs.Prelude.{Bool, Ok, Err, not, ◌&&◌, List, eqb, ltb, get_or, ℕ}
use Rattle.std.proofs.Math.Option.{Option, none, some}
use Rattle.laws.specs.Lists.{first_bad, up_to}
use Rattle.laws.specs.Loops.{stores}
use Rattle.rules.specs.Limits.{most_modules}
use Rattle.answers.specs.declared.Refusal.TheVariants.{NotBegun}
use Rattle.stationruns.specs.Inputs.{starting_at}
use Rattle.stationruns.specs.declared.Starting.{Starting}
use Rattle.stationsteps.specs.Steps.{mode_rule}
use Rattle.station.specs.Memory.{not_begun}
use Rattle.stationrefusals.specs.declared.Play.{Play}
use Rattle.station.specs.declared.Station.{Station}
use Rattle.starting.specs.declared.Begun.{Begun}

-- Rule 8.40: a module's place holds a mode of its own, a place behind the modules nothing.
abbrev pub holds_own : ℕ → ℕ → List ℕ → ℕ → Option ℕ → Bool
holds_own module_count mode_count homes m none = not (ltb m module_count)
holds_own module_count mode_count homes m (some μ) = ltb m module_count && (ltb μ mode_count && eqb (get_or homes μ 0) m)

unfoldable pub start_test : Starting → ℕ → ℕ → List ℕ → ℕ → Bool
start_test starting module_count mode_count homes m = holds_own module_count mode_count homes m (starting_at starting m)

-- the lowest starting place at fault
unfoldable pub wrong_start : Station → Starting → Option ℕ
wrong_start kept starting =
    first_bad (start_test starting kept.fixed.modules.count kept.fixed.modes.count kept.fixed.modes.homes) (up_to most_modules)

-- the starting modes run
abbrev pub play_in : Play → List ℕ → Play
play_in play running =
    record {
      clock = play.clock;
      running = running;
      ages = play.ages;
      bytes = play.bytes;
      givens = play.givens;
      out = play.out;
      held = play.held;
      full = play.full;
      loads = play.loads;
    }

abbrev pub with_play : Station → Play → Station
with_play st play =
    record {
      fixed = st.fixed;
      runs = st.runs;
      pair_tasks = st.pair_tasks;
      pair_deadlines = st.pair_deadlines;
      pair_starts = st.pair_starts;
      pair_stops = st.pair_stops;
      pair_modes = st.pair_modes;
      play = play;
      nodes = st.nodes;
    }

unfoldable pub started_by : Station → Starting → Station
started_by kept starting =
    with_play kept (play_in kept.play (stores kept.play.running (mode_rule starting.modes starting.given kept.play.running) most_modules))

-- what a station that keeps a passed plan and table begins as
abbrev pub begun_at : Station → Starting → Option ℕ → Begun
begun_at kept starting none = record { answer = Ok tt; station = started_by kept starting }
begun_at kept starting (some m) = record { answer = Err (NotBegun (record { 0 = m })); station = not_begun }

unfoldable pub begun_by : Station → Starting → Begun
begun_by kept starting = begun_at kept starting (wrong_start kept starting)

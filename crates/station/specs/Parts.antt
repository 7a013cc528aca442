-- A tick in two parts: all but the nodes, then the nodes. What each gives, on the station's structs and arrays; that together they are
-- the rules' tick is `Completes`, which holds whatever the nodes are.
use Rattle.std.specs.Prelude.{true, false, ◌≡◌, List, get_or, replicate, ℕ}
use Rattle.laws.specs.Loops.{stores}
use Rattle.rules.specs.Limits.{most_nodes, most_tasks}
use Rattle.stationrange.specs.Ranges.{place_test}
use Rattle.stationruns.specs.declared.Input.{Input}
use Rattle.stationbus.specs.Bus.{modes_at}
use Rattle.stationnodes.specs.Nodes.{no_node, node_rule}
use Rattle.stationnodes.specs.declared.Node.{Node}
use Rattle.stationrefusals.specs.declared.Fixed.{Fixed}
use Rattle.stationrefusals.specs.declared.Play.{Play}
use Rattle.station.specs.declared.Station.{Station}
use Rattle.station.specs.declared.BeforeNodes.{BeforeNodes}
use Rattle.station.specs.Memory.{ruled}
use Rattle.station.specs.Answers.{Answers, Said}

-- the first part of a tick that is refused
abbrev pub left_alone : Play → BeforeNodes
left_alone play =
    record {
      play = play;
      idle = true;
      lands = replicate most_tasks false;
      loads = play.loads;
      due = replicate most_tasks 0;
      ends = replicate most_tasks false;
    }

-- by task, the modes that have a message with this deadline
abbrev pub due_by : List ℕ → List ℕ → List ℕ → ℕ → ℕ → List ℕ
due_by pair_tasks pair_deadlines pair_modes pairs deadline =
    stores (replicate most_tasks 0) (modes_at pair_tasks pair_deadlines pair_modes pairs deadline) most_tasks

-- (b) and (c) on the nodes, by the out-boxes and the mode bytes held after (a) and (b)
abbrev pub nodes_by : Fixed → BeforeNodes → List Node → List Node
nodes_by fixed part nodes =
    stores nodes
    (node_rule part.lands part.loads part.ends fixed.tasks.homes fixed.modules.sites part.play.out part.play.held
    part.due nodes)
    most_nodes

abbrev pub station_by : Fixed → List ℕ → List ℕ → List ℕ → List ℕ → List ℕ → List ℕ → Play → List Node → Station
station_by fixed runs pair_tasks pair_deadlines pair_starts pair_stops pair_modes play nodes =
    record {
      fixed = fixed;
      runs = runs;
      pair_tasks = pair_tasks;
      pair_deadlines = pair_deadlines;
      pair_starts = pair_starts;
      pair_stops = pair_stops;
      pair_modes = pair_modes;
      play = play;
      nodes = nodes;
    }

-- a station with what a tick changes
abbrev pub with_play_and_nodes : Station → Play → List Node → Station
with_play_and_nodes st play nodes =
    station_by st.fixed st.runs st.pair_tasks st.pair_deadlines st.pair_starts st.pair_stops st.pair_modes play nodes

-- each number that the nodes hold landed and shown is below 2 ^ 64
abbrev pub Valued : List Node → Type 0
Valued nodes = (n t : ℕ) → place_test (get_or nodes n no_node).landed (get_or nodes n no_node).shown t ≡ true

-- With the nodes as they were, where the first part is idle, or as the second part makes them, the answer is the rules'.
pub record Completes (st : Station) (input : Input) (said : Said) (part : BeforeNodes) : Type 0 where
  pub idle : part.idle ≡ true
      → Answers st (ruled st input)
      (record { said = said; station = with_play_and_nodes st part.play st.nodes })
  pub busy : part.idle ≡ false
      → Answers st (ruled st input)
      (record { said = said; station = with_play_and_nodes st part.play (nodes_by st.fixed part st.nodes) })

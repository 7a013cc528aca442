-- What a tick answers and leaves of the station, in the numbers that C has, by the rules' tick.
use Rattle.std.specs.Prelude.{true, false, None, Some, Ok, Err, ◌≡◌, List, ℕ}
use Rattle.laws.specs.Res.{Res, ok, refuse}
use Rattle.answers.specs.Refusals.{said}
use Rattle.rules.specs.Station as rules
use Rattle.stationruns.specs.declared.Input.{Input}
use Rattle.stationnodes.specs.declared.Node.{Node}
use Rattle.stationmoves.specs.declared.StartedRow.{StartedRow}
use Rattle.stationmoves.specs.declared.StartedRow.TheVariants.{Control, Data}
use Rattle.station.specs.declared.Station.{Station}
use Rattle.station.specs.Memory.{ruled}
use Rattle.station.specs.Answers.{Said, station_after}
use Rattle.station.specs.Parts.{Valued, nodes_by, with_play_and_nodes}
use Rattle.outward.specs.declared.Answer.{Answer}
use Rattle.outward.specs.declared.Row.{Row}
use Rattle.outward.specs.declared.TickAnswer.{TickAnswer}
use Rattle.outward.specs.declared.AnswerBeforeNodes.{AnswerBeforeNodes}
use Rattle.outward.specs.Answers.{answer_of}

abbrev pub row_for : ℕ → ℕ → ℕ → ℕ → ℕ → Row
row_for kind sender deadline start stop =
    record { kind = kind; sender = sender; deadline = deadline; start = start; stop = stop }

-- the row that starts, as the code has it
abbrev pub row_of : StartedRow → Row
row_of (Control w) = row_for 17 w.node.0 0 w.start.0 w.stop.0
row_of (Data w) = row_for 18 w.task.0 w.deadline.0 w.start.0 w.stop.0

abbrev pub row_said : Said → Row
row_said (Ok (Some w)) = row_of w
row_said (Ok None) = row_for 0 0 0 0 0
row_said (Err x) = row_for 0 0 0 0 0

abbrev pub answer_said : Said → Answer
answer_said (Ok row) = answer_of (ok tt)
answer_said (Err x) = answer_of (said x)

abbrev pub tick_said : Said → TickAnswer
tick_said s = record { answer = answer_said s; row = row_said s }

-- the row that starts (reading 34)
abbrev pub row_started : rules.Started → Row
row_started (rules.control w) = row_for 17 w.node 0 w.start w.stop
row_started (rules.message w) = row_for 18 w.task w.deadline w.start w.stop
row_started rules.nothing = row_for 0 0 0 0 0

-- what the rules' tick answers
abbrev pub tick_by : Res rules.Ticked → TickAnswer
tick_by (ok t) = record { answer = answer_of (ok tt); row = row_started t.row }
tick_by (refuse n p) = record { answer = answer_of (refuse n p); row = row_for 0 0 0 0 0 }

-- What the first part of a tick gives: with the nodes as they were, where it is idle, or as the second part makes them, it is the rules' answer.
pub record CompletesFor (st : Station) (rule : Res rules.Ticked) (r : AnswerBeforeNodes) : Type 0 where
  pub idle : r.part.idle ≡ true
      → (r.tick ≡ tick_by rule) × (with_play_and_nodes st r.part.play st.nodes ≡ station_after st rule)
  pub busy : r.part.idle ≡ false
      → (r.tick ≡ tick_by rule)
      × (with_play_and_nodes st r.part.play (nodes_by st.fixed r.part st.nodes) ≡ station_after st rule)

-- the same of every station with those parts, whatever its nodes hold
abbrev pub CompletesWith : (List Node → Station) → Input → AnswerBeforeNodes → Type 0
CompletesWith with-nodes input r =
    (nodes : List Node) → Valued nodes → CompletesFor (with-nodes nodes) (ruled (with-nodes nodes) input) r

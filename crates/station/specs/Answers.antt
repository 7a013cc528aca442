-- Rule 8.18, what a tick answers: a refusal, or the row that starts, and the station beside it.
use Rattle.std.specs.Prelude.{Bool, true, false, Option, None, Some, Result, Ok, Err, ◌≡◌}
use Rattle.laws.specs.Res.{Res, ok, refuse}
use Rattle.answers.specs.Refusals.{said}
use Rattle.answers.specs.declared.Refusal.{Refusal}
use Rattle.rules.specs.Frames as frames
use Rattle.rules.specs.Table as tables
use Rattle.rules.specs.Station as rules
use Rattle.station.specs.Memory.{laid}
use Rattle.stationmoves.specs.declared.ControlRow.{ControlRow}
use Rattle.stationmoves.specs.declared.DataRow.{DataRow}
use Rattle.stationmoves.specs.declared.StartedRow.{StartedRow}
use Rattle.stationmoves.specs.declared.StartedRow.TheVariants.{Control, Data}
use Rattle.station.specs.declared.Station.{Station}
use Rattle.station.specs.declared.Ticked.{Ticked}

-- what a tick says: a refusal, or the row that starts, if one does
abbrev pub Said : Type 0
Said = Result (Option StartedRow) Refusal

-- the row that starts, as its struct (reading 34)
abbrev pub control_laid : frames.ControlRow → ControlRow
control_laid w = record { node = record { 0 = w.node }; start = record { 0 = w.start }; stop = record { 0 = w.stop } }

abbrev pub data_laid : tables.DataRow → DataRow
data_laid w =
    record {
      task = record { 0 = w.task };
      deadline = record { 0 = w.deadline };
      start = record { 0 = w.start };
      stop = record { 0 = w.stop };
    }

abbrev pub row_said : rules.Started → Said
row_said (rules.control w) = Ok (Some (Control (control_laid w)))
row_said (rules.message w) = Ok (Some (Data (data_laid w)))
row_said rules.nothing = Ok None

-- What the rules say of an answer: a refusal has its number and its place.
abbrev pub outcome : Said → Ticked → Res Ticked
outcome (Ok row) r = ok r
outcome (Err x) r = said x

abbrev pub answer_of : Ticked → Res Ticked
answer_of r = outcome r.said r

-- an accepted tick: the row that starts, and the state after it, laid into the station
abbrev pub answer_laid : Station → Res rules.Ticked → Res Ticked
answer_laid st (ok t) = ok (record { said = row_said t.row; station = laid st t.state })
answer_laid st (refuse n p) = refuse n p

-- the station after a tick: the state after it, laid into the station; a refused tick leaves the station as it was (reading 28)
abbrev pub station_after : Station → Res rules.Ticked → Station
station_after st (ok t) = laid st t.state
station_after st (refuse n p) = st

abbrev pub is_refused : Said → Bool
is_refused (Ok row) = false
is_refused (Err x) = true

-- A tick's answer is what the rules say; where it refuses, the station is as it was (reading 28).
pub record Answers (st : Station) (rule : Res rules.Ticked) (r : Ticked) : Type 0 where
  pub says : answer_of r ≡ answer_laid st rule
  pub unchanged : is_refused r.said ≡ true → r.station ≡ st

-- What a beginning answers, and a tick, in the numbers that C has.
use Rattle.std.specs.Prelude.{◌≡◌}
use Rattle.laws.specs.Res.{Res, ok, refuse}
use Rattle.rules.specs.Station as rules
use Rattle.station.specs.Answers.{station_after}
use Rattle.station.specs.declared.Station.{Station}
use Rattle.station.specs.Memory.{ruled}
use Rattle.stationruns.specs.declared.Input.{Input}
use Rattle.beginning.specs.Begins.{verdict, station_laid}
use Rattle.outward.specs.Answers.{answer_of}
use Rattle.outward.specs.Numbers.{tick_by}
use Rattle.outward.specs.declared.Answer.{Answer}
use Rattle.outward.specs.declared.TickAnswer.{TickAnswer}

-- the station behind a beginning: the rules' one; where it is refused, as it stood
abbrev pub station_in : Station → Res rules.Begun → Station
station_in before (ok b) = station_laid b
station_in before (refuse n p) = before

-- a beginning in place: its answer, and the lent station behind it
pub record BeginsIn (rule : Res rules.Begun) (before : Station) (r : Answer) (after : Station) : Type 0 where
  pub answers : r ≡ answer_of (verdict rule)
  pub leaves : after ≡ station_in before rule

-- a tick: its answer, and the lent station behind it
pub record Ticks (before : Station) (input : Input) (r : TickAnswer) (after : Station) : Type 0 where
  pub answers : r ≡ tick_by (ruled before input)
  pub leaves : after ≡ station_after before (ruled before input)

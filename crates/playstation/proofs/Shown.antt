-- Demand 3 of the program, by the contract of `attend` alone: the station after a history file is the one that calls of `tick` lead to,
-- those that the lines behind the first ask for, so what it shows is told by the history of those that are accepted: in the basic edition
-- all of it, in either edition where it is read and on a task's own node.
use mathlib.Core.Path.{◌≡◌, refl, ap, ◌∙◌}
use mathlib.Core.Bool.{true, false}
use mathlib.Core.List.{List, [], ◌∷◌}
use Prim.Native.Nat.{ℕ, suc}
use Rattle.laws.specs.Res.{ok}
use Rattle.rules.specs.Plan.{Plan, read_plan}
use Rattle.rules.specs.Traffic.{read_in}
use Rattle.rules.specs.Checker.{is_for_consumers}
use Rattle.rules.specs.Playing.{Input}
use Rattle.rules.specs.Station as rules
use Rattle.rules.specs.Told.{ShowsTold, ShowsRead}
use Rattle.rules.specs.Allowed.{Allowed}
use Rattle.stationruns.specs.Inputs.{starting_at}
use Rattle.station.specs.Memory.{state_of}
use Rattle.station.proofs.Plays.{Plays, after_calls, start, accepted_of, plays_calls}
use Rattle.beginning.specs.Begins.{station_laid}
use Rattle.beginning.proofs.Shown.{shows-told, shows-read, history-allowed}
use Rattle.history.specs.Reading.{read_line, starting_from}
use Rattle.history.specs.declared.What.{What}
use Rattle.history.specs.declared.What.TheVariants.{Blank, Begin, Tick, Quiet, Unreadable}
use Rattle.text.specs.Lines.{lines_of}
use Rattle.hearing.specs.Heard.{after_lines, heard_line, unheard}
use Rattle.hearing.specs.declared.Heard.{Heard}
use Rattle.hearing.specs.declared.Stage.TheVariants.{Plays as Playing}
use Rattle.hearing.proofs.Calls.{after-lines, all_lines, calls_of}
use Rattle.playstation.specs.Played.{from_first, played, unless_blank}

-- ---- lines without a word in front

-- what was heard by the lines from the first on that has a word, behind so many lines
pub record Behind (plan table : List ℕ) (h : Heard) (lines : List (List ℕ)) : Type 0 where
  pub count : ℕ
  pub same : h ≡ after_lines plan table count lines unheard

module _ (plan table : List ℕ) where
  behind_blanks : (lines : List (List ℕ)) (k : ℕ) → Behind plan table (after_lines plan table k lines unheard) (from_first lines)
  unfolding from_first after_lines heard_line
  behind_blanks [] k = record { count = k; same = refl }
  behind_blanks (s ∷ lines) k = go (read_line s).what refl (behind_blanks lines (suc k))
    where
      go : (w : What) → (read_line s).what ≡ w → Behind plan table (after_lines plan table (suc k) lines unheard) (from_first lines)
          → Behind plan table (after_lines plan table (suc k) lines (heard_line plan table (suc k) unheard s)) (unless_blank w (s ∷ lines) (from_first lines))
      go Blank e more = record { count = more.count; same = rw e more.same }
      go Begin e more = record { count = k; same = refl }
      go Tick e more = record { count = k; same = refl }
      go (Quiet n) e more = record { count = k; same = refl }
      go Unreadable e more = record { count = k; same = refl }

-- A history file whose first line with a word is a `begin` with which a station begins:
module _ (plan table s first : List ℕ) (lines : List (List ℕ)) (is_file : from_first (lines_of s) ≡ first ∷ lines) (is_begin : (read_line first).what ≡ Begin)
    (b : rules.Begun) (begins : rules.begin plan table (starting_at (starting_from (read_line first).modes)) ≡ ok b) where
  -- the ticks of the other lines that are accepted, the newest first
  abbrev pub accepted_in : List Input
  accepted_in = accepted_of [] (station_laid b) (calls_of lines)

  begin-heard : (k : ℕ) → heard_line plan table k unheard first ≡ record { stage = Playing true; station = station_laid b }
  unfolding heard_line
  begin-heard k = rw (is_begin, begins)

  first-heard : (k : ℕ) → (after_lines plan table k (first ∷ lines) unheard).station
      ≡ (after_lines plan table (suc k) lines (record { stage = Playing true; station = station_laid b })).station
  unfolding after_lines
  first-heard k = ap (λ (h : Heard). (after_lines plan table (suc k) lines h).station) (begin-heard (suc k))

  played-is : played plan table s ≡ after_calls (station_laid b) (calls_of lines)
  unfolding played
  played-is =
      let g = behind_blanks plan table (lines_of s) 0 in
      ap (λ (h : Heard). h.station) (all_lines plan table s ∙ g.same)
      ∙ ap (λ (l : List (List ℕ)). (after_lines plan table g.count l unheard).station) is_file
      ∙ first-heard g.count
      ∙ after-lines plan table true lines (suc g.count) (station_laid b)

  played_calls : Plays (station_laid b) accepted_in (played plan table s)
  played_calls = rw played-is (plays_calls (calls_of lines) start)

  -- what the station after the file shows is told by them: in either edition where it is read, and on a task's own node
  pub played-read : (q : Plan) → read_plan plan ≡ ok q
      → ShowsRead q (starting_at (starting_from (read_line first).modes)) accepted_in (state_of (played plan table s)).shown
  played-read q reads =
      shows-read plan table (starting_at (starting_from (read_line first).modes)) b begins q reads accepted_in (played plan table s) played_calls

  module _ (p : Plan) (reads : read_in (is_for_consumers table) plan ≡ ok p) where
    -- in the basic edition on every node that consumes it
    pub played-shown : p.consumers ≡ false
        → ShowsTold p (starting_at (starting_from (read_line first).modes)) accepted_in (state_of (played plan table s)).shown
    played-shown =
        shows-told plan table (starting_at (starting_from (read_line first).modes)) b begins p reads accepted_in (played plan table s) played_calls

    pub played-allowed : Allowed p (starting_at (starting_from (read_line first).modes)) accepted_in
    played-allowed =
        history-allowed plan table (starting_at (starting_from (read_line first).modes)) b begins p reads accepted_in (played plan table s) played_calls

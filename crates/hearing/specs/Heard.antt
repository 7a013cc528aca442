-- The lines of a history, and what comes of each.
use Rattle.std.specs.Prelude.{Bool, true, false, not, List, [], ◌∷◌, ◌++◌, Result, Ok, Err, ℕ, zero, suc}
use Rattle.laws.specs.Lists.{all, up_to}
use Rattle.laws.specs.Res.{Res, ok, refuse}
use Rattle.rules.specs.Limits.{most_nodes}
use Rattle.rules.specs.Station as rules
use Rattle.text.specs.Text.{ascii, numbered_line, refused_line}
use Rattle.answers.specs.declared.Refusal.{Refusal}
use Rattle.answerlines.specs.Writing.{quiet_text, same_on, ticked_text}
use Rattle.stationnodes.specs.declared.Node.{Node}
use Rattle.stationruns.specs.Inputs.{no_input, starting_at}
use Rattle.stationruns.specs.declared.Input.{Input}
use Rattle.station.specs.Memory.{laid, not_begun, ruled}
use Rattle.station.specs.Answers.{row_said, station_after}
use Rattle.station.specs.declared.Station.{Station}
use Rattle.beginning.specs.Begins.{station_for}
use Rattle.history.specs.Reading.{read_line, input_from, starting_from}
use Rattle.history.specs.declared.Line.{Line}
use Rattle.history.specs.declared.What.{What}
use Rattle.history.specs.declared.What.TheVariants.{Blank, Begin, Tick, Quiet, Unreadable}
use Rattle.hearing.specs.declared.Heard.{Heard}
use Rattle.hearing.specs.declared.Stage.{Stage}
use Rattle.hearing.specs.declared.Stage.TheVariants.{Waits, Plays, Stops}

-- ---- ticks

-- the station after a tick
unfoldable pub after_tick : Station → Input → Station
after_tick st input = station_after st (ruled st input)

-- the station after a tick at which nothing is given
unfoldable pub after_nothing : Station → Station
after_nothing st = after_tick st no_input

-- `quiet N`: a refusal ends it, and a tick that was refused is refused again, so that the ticks behind it would change nothing
unfoldable pub after_quiet : Station → ℕ → Station
after_quiet st zero = st
after_quiet st (suc n) = after_quiet (after_nothing st) n

-- what is answered to a tick, by what the rules say of it
abbrev pub tick_text : Bool → Station → Res rules.Ticked → List ℕ
tick_text rows st (ok t) = ticked_text rows (row_said t.row) (laid st t.state).nodes
tick_text rows st (refuse n p) = refused_line n p

abbrev pub is_changed : List Node → List Node → Bool
is_changed before after = not (all (same_on before after) (up_to most_nodes))

-- what is said of the k-th of quiet ticks
abbrev pub quiet_said : ℕ → Bool → Station → Res rules.Ticked → List ℕ
quiet_said k rows st (ok t) =
    quiet_text k rows (row_said t.row) (is_changed st.nodes (laid st t.state).nodes) (laid st t.state).nodes
quiet_said k rows st (refuse n p) = numbered_line (ascii "after ") k ++ refused_line n p

-- ---- lines

-- no line with a word has come
abbrev pub unheard : Heard
unheard = record { stage = Waits; station = not_begun }

abbrev pub is_fine : Result (Unit {0}) Refusal → Bool
is_fine (Ok _) = true
is_fine (Err why) = false

abbrev pub has_begun : Res rules.Begun → Bool
has_begun (ok b) = true
has_begun (refuse n p) = false

abbrev pub begun_by : Res rules.Begun → Heard
begun_by rule = record { stage = Plays (has_begun rule); station = station_for rule }

-- line k cannot be read where it stands, and no other is heard
abbrev pub stopped : ℕ → Station → Heard
stopped k st = record { stage = Stops k; station = st }

-- the first line with a word must be `begin`
abbrev pub first_by : List ℕ → List ℕ → ℕ → Station → Line → What → Heard
first_by plan table k st line Blank = record { stage = Waits; station = st }
first_by plan table k st line Begin = begun_by (rules.begin plan table (starting_at (starting_from line.modes)))
first_by plan table k st line Tick = stopped k st
first_by plan table k st line (Quiet n) = stopped k st
first_by plan table k st line Unreadable = stopped k st

abbrev pub playing : Bool → Station → Heard
playing begun st = record { stage = Plays begun; station = st }

-- a later one must not
abbrev pub later_by : ℕ → Bool → Station → Line → What → Heard
later_by k begun st line Blank = playing begun st
later_by k begun st line Begin = stopped k st
later_by k begun st line Tick = playing begun (after_tick st (input_from line.results line.modes))
later_by k begun st line (Quiet n) = playing begun (after_quiet st n)
later_by k begun st line Unreadable = stopped k st

abbrev pub heard_by : List ℕ → List ℕ → ℕ → Heard → Stage → Line → Heard
heard_by plan table k h Waits line = first_by plan table k h.station line line.what
heard_by plan table k h (Plays begun) line = later_by k begun h.station line line.what
heard_by plan table k h (Stops l) line = h

-- line k
unfoldable pub heard_line : List ℕ → List ℕ → ℕ → Heard → List ℕ → Heard
heard_line plan table k h s = heard_by plan table k h h.stage (read_line s)

-- lines behind the first k
unfoldable pub after_lines : List ℕ → List ℕ → ℕ → List (List ℕ) → Heard → Heard
after_lines plan table k [] h = h
after_lines plan table k (s ∷ lines) h = after_lines plan table (suc k) lines (heard_line plan table (suc k) h s)
